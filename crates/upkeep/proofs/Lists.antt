-- Lists.
use Rattle.std.proofs.Common.{◌≡◌, ℕ, List, [], ◌∷◌, ◌++◌, refl}
use Rattle.std.specs.List.{AllByRecursion}
use Rattle.ot_base.specs.declared.address.Addr.TheVariants.{V4}
use Rattle.ot_base.specs.declared.address.Endpoint.{Endpoint}
use Rattle.ot_base.specs.declared.minute.Minute.{Minute}
use Rattle.ot_base.specs.declared.peer.Mark.TheVariants.{Leecher}
use Rattle.ot_base.specs.declared.peer.Note.{Note}
use Rattle.tracker_model.specs.Placed.{moves_of}
use Rattle.tracker_model.specs.declared.call.Call.{Call}

-- what stands where a list has none
abbrev pub no_node : Endpoint
no_node = record { addr = V4 []; port = 0 }

abbrev pub no_note : Note
no_note = record { hash = record { 0 = [] }; who = no_node; mark = Leecher }

pub all_append : {X : Type 0} (P : X → Type 0) (xs ys : List X) → AllByRecursion P xs → AllByRecursion P ys → AllByRecursion P (xs ++ ys)
all_append P [] ys first then = then
all_append P (x ∷ xs) ys first then = (first.0, all_append P xs ys first.1 then)

-- without answers there are no moves
pub no_moves : (caller : ℕ) (minute : Minute) (placed : List (ℕ × Call)) → moves_of caller minute placed [] ≡ []
no_moves caller minute [] = refl
no_moves caller minute (call ∷ placed) = refl
