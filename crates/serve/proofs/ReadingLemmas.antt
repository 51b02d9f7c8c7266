-- What was read piece by piece.
use Rattle.std.proofs.Common.{◌≡◌, ◌∙◌, ℕ, ◌-◌, ◌≤◌, List, ap, arith, length, length-append, subst, sym}
use Rattle.std.proofs.lemmas.Bool.Decides.{nat_tests}
use Rattle.std.proofs.lemmas.List.{length-take-le}
use Rattle.std.specs.Prelude.{Bool, Option, nat_le, true, false, if◌then◌else◌}
use Rattle.access_list.specs.Access.{Listing}
use Rattle.http_wire.specs.declared.head.Head.{Head}
use Rattle.http_wire.specs.declared.head.Head.TheVariants as head
use Rattle.http_wire.specs.declared.reply.Code.TheVariants.{TooLarge}
use Rattle.ot_base.specs.declared.address.Endpoint.{Endpoint}
use Rattle.tracker_core.specs.ConnectionPlan.{IsConnectionPlan, head_front, plan_of_head}
use Rattle.tracker_core.specs.declared.connection_plan.ConnectionPlan.{ConnectionPlan}
use Rattle.tracker_core.specs.declared.connection_plan.ConnectionPlan.TheVariants.{More, Rejected}
use Rattle.std.specs.Io.KnownBytes.{Consumes}
use Rattle.std.proofs.KnownBytes.{Consumes-kept, Consumes-trans}
use Rattle.ot_io.specs.Content.{Aside}
use Rattle.ot_io.specs.Counts.{Rose}
use Rattle.ot_io.specs.Pieces.{EndsOnlyCounted}
use Rattle.ot_io.specs.declared.source.Piece.TheVariants.{Got, End}
use Rattle.serve.specs.Reading.{AddsPiece, Left}

-- what is seen of a connection as a source
pub record Seen : Type 0 where
  pub left : Left
  pub faults : ℕ
  pub ends : ℕ
  pub aside : Aside

abbrev pub seen : Left → (faults ends : ℕ) → Aside → Seen
seen left faults ends aside = record { left = left; faults = faults; ends = ends; aside = aside }

-- so many bytes were read so far
pub record IsReading (old now : Seen) (read : List ℕ) : Type 0 where
  pub consumed : Consumes old.left now.left read
  pub within : length read ≤ 8192
  pub counted : old.faults ≤ now.faults
  pub ended : old.ends ≤ now.ends
  pub stays : now.aside ≡ old.aside

module _ (old now new : Seen) (read read' : List ℕ) (it : IsReading old now read) where
  pub read_more : (most n : ℕ) → most ≡ 8192 - length read → AddsPiece most now.left new.left (Got n) read read' → now.faults ≤ new.faults → now.ends ≤ new.ends → new.aside ≡ now.aside → IsReading old new read'
  read_more most n room added counted ended stays =
      let P : List ℕ → Type 0 = λ l. Consumes old.left new.left l in
      record {
        consumed = subst P (sym added.2) (Consumes-trans old.left now.left new.left read added.0 it.consumed added.1);
        within = omega (arith, it.within, room, added.4, ap length added.2, length-append read added.0);
        counted = omega (arith, it.counted, counted);
        ended = omega (arith, it.ended, ended);
        stays = stays ∙ it.stays;
      }

  pub read_all : (most : ℕ) → AddsPiece most now.left new.left End read read' → Consumes old.left new.left read'
  read_all most added =
      let P : List ℕ → Type 0 = λ l. Consumes old.left new.left l in
      subst P (sym added.2) (Consumes-kept old.left now.left new.left read it.consumed added.0)

  pub read_within : (most : ℕ) → AddsPiece most now.left new.left End read read' → length read' ≤ 8192
  read_within most added = omega (arith, it.within, ap length added.2)

  pub end_told : EndsOnlyCounted now.ends new.ends End → Rose old.ends new.ends
  end_told told = omega (arith, it.ended, told.1)

-- 8,192 bytes have a plan that doesn't await more
full_head_plan : (bytes : List ℕ) (access : Option Listing) (from : Endpoint) (full : Bool) (head : Head) → 8192 ≤ length bytes → plan_of_head bytes access from full head ≡ More → ⊥
full_head_plan bytes access from full (head.Whole true start end len) long same = cc
full_head_plan bytes access from full (head.Whole false start end len) long same = cc
full_head_plan bytes access from full head.Bad long same = cc
full_head_plan bytes access from full head.Many long same = cc
full_head_plan bytes access from full head.More long same =
    let test : nat_le 8192 (length bytes) ≡ true = grind (arith, nat_tests) in
    let is : Rejected TooLarge ≡ More = sym (ap (λ b. if b then Rejected TooLarge else More) test) ∙ same in
    cc

pub full_head : (bytes : List ℕ) (access : Option Listing) (from : Endpoint) (full : Bool) (plan : ConnectionPlan) → 8192 ≤ length bytes → IsConnectionPlan bytes access from full plan → plan ≡ More → ⊥
full_head bytes access from full plan long it same =
    full_head_plan (head_front bytes) access from full it.head (omega (arith, length-take-le 8192 bytes long)) (sym it.planned ∙ same)
