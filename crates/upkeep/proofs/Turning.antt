-- What was heard, datagram by datagram.
use Rattle.std.proofs.Common.{◌≡◌, ◌∙◌, ◌⊎◌, ℕ, suc, ◌≤◌, true, false, List, [], ◌∷◌, ◌++◌, All, ap, arith, inl, inr, map, refl, subst, sym, take}
use Rattle.std.proofs.lemmas.List.{append-nil, map-append}
use Rattle.std.proofs.lemmas.List.Concat.{flat_map-append}
use Rattle.std.specs.Prelude.{Option, Result, Ok, Err}
use Rattle.std.specs.List.{AllByRecursion, flat_map}
use Rattle.ot_base.specs.declared.address.Endpoint.{Endpoint}
use Rattle.ot_base.specs.declared.minute.Minute.{Minute}
use Rattle.ot_base.specs.declared.peer.Note.{Note}
use Rattle.ot_io.specs.Counts.{Rose}
use Rattle.ot_io.specs.Traffic.{Datagram, Moves, NoneWaits, Traffic, datagram}
use Rattle.ot_io.proofs.Runs.{Moves-refl, Moves-trans}
use Rattle.shards.specs.Shape.{PassShape}
use Rattle.sync_wire.specs.Batches.{Batch}
use Rattle.sync_wire.specs.Notes.{IsHeld, IsTellable}
use Rattle.sync_wire.specs.Reading.{batch_of}
use Rattle.sync_wire.specs.declared.reading.SyncFault.{SyncFault}
use Rattle.tracker_model.specs.Grows.{GrowsAmong, Move, OthersBetween}
use Rattle.tracker_model.specs.Placed.{moves_of}
use Rattle.tracker_model.proofs.GrowsLemmas.{grows-append}
use Rattle.upkeep.specs.Heard.{Heard, Turn, is_received, moves_in}
use Rattle.upkeep.specs.Hearing.{AnswersNotes, Hears, HearsCounted, HearsTurn, TellsOf, heard_of, notes_of_batch, sync_placed}
use Rattle.upkeep.specs.Nodes.{is_among}
use Rattle.upkeep.specs.declared.sync_in.SyncIn.{SyncIn}
use Rattle.upkeep.specs.declared.sync_in.SyncIn.TheVariants.{Idle, RecvFault, Stranger, Refused, Applied, NoMemory}
use Rattle.upkeep.proofs.Lists.{all_append, no_moves}
use Rattle.upkeep.proofs.Syncing.{placed_notes}

-- what a program holds of notes that may be told
pub tellable_held : (notes : List Note) → All IsHeld notes → AllByRecursion IsTellable notes
tellable_held [] held = tt
tellable_held (note ∷ notes) held =
    ((held 0 note (omega arith)).tellable, tellable_held notes (λ k d below. held (suc k) d (omega (arith, below))))

module _ (own : ℕ) (nodes : List Endpoint) (minute : Minute) where
  -- ---- one turn

  module _ (old : PassShape) (wire wire' : Option Traffic) (from : Endpoint) (bytes : List ℕ) (moved : Moves wire wire' (datagram from bytes ∷ []) []) where
    nothing_grew : GrowsAmong old.shards.settings old.caller old.seen [] old.seen
    nothing_grew = refl

    -- a stranger's datagram
    pub hears_stranger : is_among nodes from ≡ false → Hears own nodes minute old old wire wire' (Stranger from)
    hears_stranger stranger =
        let came = datagram from bytes in
        let P : List Move → Type 0 = λ moves. GrowsAmong old.shards.settings old.caller old.seen moves old.seen in record {
          came = came;
          answers = [];
          tells = (stranger, refl, refl);
          grown = subst P (sym (no_moves old.caller minute (sync_placed old.shards.bits own came))) nothing_grew;
          moved = moved;
        }

    -- one that no node sends
    pub hears_refused : (read : List ℕ) (fault : SyncFault) → is_among nodes from ≡ true → read ≡ take 2048 bytes → batch_of own read ≡ Err fault → Hears own nodes minute old old wire wire' (Refused fault)
    hears_refused read fault known is refused =
        let came = datagram from bytes in
        let P : List Move → Type 0 = λ moves. GrowsAmong old.shards.settings old.caller old.seen moves old.seen in record {
          came = came;
          answers = [];
          tells = (known, ap (batch_of own) (sym is) ∙ refused, refl);
          grown = subst P (sym (no_moves old.caller minute (sync_placed old.shards.bits own came))) nothing_grew;
          moved = moved;
        }

    -- one whose calls were made
    pub hears_applied : (new : PassShape) (read : List ℕ) (batch : Batch) (told : SyncIn) → is_among nodes from ≡ true → read ≡ take 2048 bytes → batch_of own read ≡ Ok batch → AnswersNotes minute old new batch.notes told
        → HearsTurn own nodes minute old new wire wire' told
    hears_applied new read batch Idle known is reads done = absurd done.tells
    hears_applied new read batch RecvFault known is reads done = absurd done.tells
    hears_applied new read batch (Stranger who) known is reads done = absurd done.tells
    hears_applied new read batch (Refused fault) known is reads done = absurd done.tells
    hears_applied new read batch (Applied calls full) known is reads done =
        let came = datagram from bytes in
        let heard : heard_of own came ≡ Ok batch = ap (batch_of own) (sym is) ∙ reads in
        let P : Result Batch SyncFault → Type 0 = λ r. GrowsAmong old.shards.settings old.caller old.seen (moves_of old.caller minute (placed_notes old.shards.bits (notes_of_batch r)) done.answers) new.seen in record {
          came = came;
          answers = done.answers;
          tells = (known, batch, heard, done.tells);
          grown = subst P (sym heard) done.grown;
          moved = moved;
        }
    hears_applied new read batch (NoMemory calls) known is reads done =
        let came = datagram from bytes in
        let heard : heard_of own came ≡ Ok batch = ap (batch_of own) (sym is) ∙ reads in
        let P : Result Batch SyncFault → Type 0 = λ r. GrowsAmong old.shards.settings old.caller old.seen (moves_of old.caller minute (placed_notes old.shards.bits (notes_of_batch r)) done.answers) new.seen in record {
          came = came;
          answers = done.answers;
          tells = (known, batch, heard, done.tells);
          grown = subst P (sym heard) done.grown;
          moved = moved;
        }

module _ (own : ℕ) (nodes : List Endpoint) where
  -- ---- turn after turn

  -- nothing was heard yet
  pub heard_none : (pass : PassShape) (wire : Option Traffic) (faults : ℕ) → Heard own nodes pass pass wire wire faults faults
  heard_none pass wire faults = record {
    turns = [];
    each = tt;
    grown = refl;
    pass = refl;
    moved = Moves-refl wire;
    counted = omega arith;
  }

  module _ (old new : PassShape) (wire wire' : Option Traffic) (faults faults' : ℕ) (keeps : new ≡ record old { seen = new.seen }) where
    heard_nothing : new ≡ old → Moves wire wire' [] [] → faults ≤ faults' → Heard own nodes old new wire wire' faults faults'
    heard_nothing same moved counted = record {
      turns = [];
      each = tt;
      grown = ap (λ (p : PassShape). p.seen) same;
      pass = keeps;
      moved = moved;
      counted = counted;
    }

    heard_turn : (minute : Minute) (told : SyncIn) → Hears own nodes minute old new wire wire' told → faults ≤ faults' → Heard own nodes old new wire wire' faults faults'
    heard_turn minute told heard counted =
        let turn : Turn = record { came = heard.came; minute = minute; answers = heard.answers; told = told } in
        let P : List Move → Type 0 = λ moves. GrowsAmong old.shards.settings old.caller old.seen moves new.seen in record {
          turns = turn ∷ [];
          each = (heard.tells, tt);
          grown = subst P (sym (append-nil (moves_in own old turn))) heard.grown;
          pass = keeps;
          moved = heard.moved;
          counted = counted;
        }

    -- what was done for one datagram is one turn at most
    heard_once : (minute : Minute) (told : SyncIn) → HearsTurn own nodes minute old new wire wire' told → HearsCounted faults faults' told → Heard own nodes old new wire wire' faults faults'
    heard_once minute Idle did counted = heard_nothing did.0 did.1 counted
    heard_once minute RecvFault did counted = heard_nothing did.0 did.1 counted.0
    heard_once minute (Stranger from) did counted = heard_turn minute (Stranger from) did counted
    heard_once minute (Refused fault) did counted = heard_turn minute (Refused fault) did counted
    heard_once minute (Applied calls full) did counted = heard_turn minute (Applied calls full) did counted
    heard_once minute (NoMemory calls) did counted = heard_turn minute (NoMemory calls) did counted

  -- where none was received, none waits or the outside failed
  rests_once : (old new : PassShape) (wire wire' : Option Traffic) (faults faults' : ℕ) (minute : Minute) (told : SyncIn) → HearsTurn own nodes minute old new wire wire' told → HearsCounted faults faults' told → is_received told ≡ false → NoneWaits wire' ⊎ Rose faults faults'
  rests_once old new wire wire' faults faults' minute Idle did counted not = inl did.2
  rests_once old new wire wire' faults faults' minute RecvFault did counted not = inr counted.1
  rests_once old new wire wire' faults faults' minute (Stranger from) did counted not = cc
  rests_once old new wire wire' faults faults' minute (Refused fault) did counted not = cc
  rests_once old new wire wire' faults faults' minute (Applied calls full) did counted not = cc
  rests_once old new wire wire' faults faults' minute (NoMemory calls) did counted not = cc

  module _ (old middle new : PassShape) (wire wire1 wire2 : Option Traffic) (faults faults1 faults2 : ℕ) (first : Heard own nodes old middle wire wire1 faults faults1) where
    -- turns after others
    heard_on : Heard own nodes middle new wire1 wire2 faults1 faults2 → Heard own nodes old new wire wire2 faults faults2
    heard_on then =
        let Same : PassShape → Type 0 = λ p. GrowsAmong p.shards.settings p.caller middle.seen (flat_map (moves_in own p) then.turns) new.seen in
        let P : List Move → Type 0 = λ moves. GrowsAmong old.shards.settings old.caller old.seen moves new.seen in
        let came : Turn → Datagram = λ turn. turn.came in
        let Q : List Datagram → Type 0 = λ ins. Moves wire wire2 ins [] in record {
          turns = first.turns ++ then.turns;
          each = all_append (λ (turn : Turn). TellsOf own nodes turn.came turn.answers turn.told) first.turns then.turns first.each then.each;
          grown = subst P (sym (flat_map-append (moves_in own old) first.turns then.turns))
              (grows-append (OthersBetween old.caller) old.shards.settings old.caller old.seen middle.seen new.seen
              (flat_map (moves_in own old) first.turns) (flat_map (moves_in own old) then.turns) first.grown (subst Same first.pass then.grown));
          pass = then.pass ∙ ap (λ (p : PassShape). record p { seen = new.seen }) first.pass;
          moved = subst Q (sym (map-append came first.turns then.turns))
              (Moves-trans wire wire1 wire2 (map came first.turns) [] (map came then.turns) [] first.moved then.moved);
          counted = omega (arith, first.counted, then.counted);
        }

    module _ (minute : Minute) (told : SyncIn) (did : HearsTurn own nodes minute middle new wire1 wire2 told) (counted : HearsCounted faults1 faults2 told) where
      -- what was done for one more datagram
      pub heard_then : new ≡ record middle { seen = new.seen } → Heard own nodes old new wire wire2 faults faults2
      heard_then keeps = heard_on (heard_once middle new wire1 wire2 faults1 faults2 keeps minute told did counted)

      pub rests_then : is_received told ≡ false → NoneWaits wire2 ⊎ Rose faults faults2
      rests_then not =
          elim (rests_once middle new wire1 wire2 faults1 faults2 minute told did counted not)
          [ inl empty ↦ inl empty | inr rose ↦ inr (omega (arith, rose, first.counted)) ]
