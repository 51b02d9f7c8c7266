-- What a drain hands out.
use Rattle.std.proofs.Common.{◌≡◌, ◌∙◌, ℕ, ◌≤◌, true, false, List, [], ◌∷◌, ◌++◌, All, ap, arith, length, reverse, subst, sym, take, get_or-set_same, append_assoc}
use Rattle.std.proofs.lemmas.List.{reverse-append}
use Rattle.std.proofs.lemmas.List.Elements.{All-append, All-cons, All-nil, All-take}
use Rattle.std.specs.Prelude.{None, if◌then◌else◌}
use Rattle.std.specs.Option.{option_to_list}
use Rattle.ot_base.specs.declared.minute.Minute.{Minute}
use Rattle.ot_base.specs.declared.peer.Note.{Note}
use Rattle.shards.specs.Passing.{MadeByPass}
use Rattle.shards.specs.Shape.{PassShape}
use Rattle.sync_wire.specs.Notes.{IsTellable}
use Rattle.tracker_model.specs.Calls.{IsWellFormed}
use Rattle.tracker_model.specs.Entries.{is_effective}
use Rattle.tracker_model.specs.Grows.{history_at}
use Rattle.tracker_model.specs.Legal.{IsLegalPast}
use Rattle.tracker_model.specs.Outbox.{is_drain, note_made, note_of, notes_since, outbox_notes}
use Rattle.tracker_model.specs.Settings.{Settings}
use Rattle.tracker_model.specs.declared.answer.Answer.{Answer}
use Rattle.tracker_model.specs.declared.answer.Answer.TheVariants.{Drained}
use Rattle.tracker_model.specs.declared.call.Call.{Call}
use Rattle.tracker_model.specs.declared.call.Call.TheVariants.{Announce, Stop, Scrape, Scan, Clean, Sync, Drain}
use Rattle.tracker_model.specs.declared.entry.Entry.{Entry}
use Rattle.tracker_model.proofs.OutboxLemmas.{keeps_few}

-- the note of a well-formed call may be told
tellable_one : (note : Note) → IsTellable note → All IsTellable (note ∷ [])
tellable_one note tellable = All-cons IsTellable note [] tellable (All-nil IsTellable)

tellable_call : (call : Call) → IsWellFormed call → All IsTellable (option_to_list (note_of call))
tellable_call (Announce h who seed completed want) formed = tellable_one _ formed.2
tellable_call (Stop h who) formed = tellable_one _ formed
tellable_call (Scrape h) formed = All-nil IsTellable
tellable_call Scan formed = All-nil IsTellable
tellable_call Clean formed = All-nil IsTellable
tellable_call (Sync h who mark) formed = All-nil IsTellable
tellable_call Drain formed = All-nil IsTellable

tellable_entry : (x : Entry) → IsWellFormed x.call → All IsTellable (option_to_list (note_made x))
tellable_entry x formed =
    elim (is_effective x) as (λ b. All IsTellable (option_to_list (if b then note_of x.call else None)))
    [ true ↦ tellable_call x.call formed | false ↦ All-nil IsTellable ]

tellable_since : (g : Settings) (past : List Entry) → IsLegalPast g past → All IsTellable (notes_since past)
tellable_since g [] legal = All-nil IsTellable
tellable_since g (x ∷ past) legal =
    elim (is_drain x.call) as (λ b. All IsTellable (if b then [] else notes_since past ++ option_to_list (note_made x))) [
      | true ↦ All-nil IsTellable
      | false ↦ All-append IsTellable (notes_since past) (option_to_list (note_made x)) (tellable_since g past legal.2) (tellable_entry x legal.0)
    ]

-- all notes of an outbox may be told
tellable_kept : (g : Settings) (past : List Entry) → IsLegalPast g past → All IsTellable (outbox_notes g past)
tellable_kept g past legal =
    elim (g.sync) as (λ b. All IsTellable (if b then take 4096 (notes_since past) else []))
    [ true ↦ All-take IsTellable 4096 (notes_since past) (tellable_since g past legal) | false ↦ All-nil IsTellable ]

abbrev drained_notes : Answer → List Note
drained_notes (Drained notes dropped) = notes
drained_notes other = []

module _ (old new : PassShape) (bucket : ℕ) (minute : Minute) (notes : List Note) (dropped : ℕ) (made : MadeByPass old bucket minute Drain (Drained notes dropped) new) where
  abbrev drain_entry : Entry
  drain_entry = record { caller = old.caller; minute = minute; call = Drain; answer = Drained notes dropped }

  abbrev pasts : List Entry
  pasts = reverse (history_at old.seen bucket ++ made.step.others)

  past_is : reverse (history_at new.seen bucket) ≡ drain_entry ∷ pasts
  past_is =
      ap reverse (ap (λ h. history_at h bucket) made.step.grown ∙ get_or-set_same old.seen bucket _ [] made.step.within
      ∙ sym (append_assoc (history_at old.seen bucket) made.step.others (drain_entry ∷ [])))
      ∙ reverse-append (history_at old.seen bucket ++ made.step.others) (drain_entry ∷ [])

  legal_past : IsLegalPast old.shards.settings (drain_entry ∷ pasts)
  legal_past = let P : List Entry → Type 0 = λ past. IsLegalPast old.shards.settings past in subst P past_is made.step.legal

  notes_are : notes ≡ outbox_notes old.shards.settings pasts
  notes_are = ap drained_notes legal_past.1

  pub drained_tellable : All IsTellable notes
  drained_tellable =
      let P : List Note → Type 0 = λ ns. All IsTellable ns in
      subst P (sym notes_are) (tellable_kept old.shards.settings pasts legal_past.2)

  pub drained_few : length notes ≤ 4096
  drained_few = omega (arith, ap length notes_are, keeps_few old.shards.settings pasts)
