-- The outbox after an entry.
use Rattle.std.proofs.Common.{◌≡◌, ℕ, ◌+◌, ◌-◌, ◌^◌, ◌<◌, ◌≤◌, Bool, true, false, not, min, List, [], ◌∷◌, ◌++◌, Option, Some, None, refl, sym, ◌∙◌, ap, arith, length, length-append, take, nat_lt, if◌then◌else◌}
use Rattle.std.proofs.lemmas.Bool.Decides.{nat_tests}
use Rattle.std.proofs.lemmas.List.{append-nil, take-append-le, take_all, length-take}
use Rattle.std.specs.Option.{option_to_list}
use Rattle.ot_base.specs.declared.peer.Limits.{Limits}
use Rattle.ot_base.specs.declared.peer.Note.{Note}
use Rattle.tracker_model.specs.Outbox.{is_drain, note_made, notes_since, outbox_notes, outbox_dropped}
use Rattle.tracker_model.specs.Settings.{Settings}
use Rattle.tracker_model.specs.Steps.{notes_with, dropped_with}
use Rattle.tracker_model.specs.declared.entry.Entry.{Entry}
use Rattle.tracker_model.specs.declared.limits.TheConstants.{OUTBOX_NOTES}
use Rattle.tracker_model.proofs.Cases.{by_test}

-- a list that is kept up to a room, with one more element
take_one_more : {X : Type 0} (room : ℕ) (xs : List X) (x : X) → take room (xs ++ x ∷ []) ≡ (if nat_lt (length (take room xs)) room then take room xs ++ x ∷ [] else take room xs)
take_one_more room xs x =
    by_test (nat_lt (length xs) room) _
    (λ fits.
    let below : length xs < room = grind (arith, nat_tests) in
    let all : take room xs ≡ xs = take_all room xs (omega arith) in
    let more : take room (xs ++ x ∷ []) ≡ xs ++ x ∷ [] = take_all room (xs ++ x ∷ []) (omega (arith, length-append xs (x ∷ []))) in
    more ∙ ap (λ ys. ys ++ x ∷ []) (sym all)
    ∙ ap (λ b. if b then take room xs ++ x ∷ [] else take room xs) (sym (ap (λ ys. nat_lt (length ys) room) all ∙ fits)))
    (λ full.
    let above : room ≤ length xs = grind (arith, nat_tests) in
    let long : length (take room xs) ≡ room = omega (arith, length-take room xs) in
    let no_room : nat_lt (length (take room xs)) room ≡ false = grind (arith, nat_tests) in
    take-append-le room xs (x ∷ []) above
    ∙ ap (λ b. if b then take room xs ++ x ∷ [] else take room xs) (sym no_room))

-- and what there is no room for is counted
drop_one_more : {X : Type 0} (room : ℕ) (xs : List X) (x : X) →
    min 4294967295 (length (xs ++ x ∷ []) - room) ≡ (if not (nat_lt (length (take room xs)) room) then min 4294967295 (min 4294967295 (length xs - room) + 1) else min 4294967295 (length xs - room))
drop_one_more room xs x =
    by_test (nat_lt (length (take room xs)) room) _
    (λ fits.
    let below : length xs < room = grind (arith, nat_tests, length-take room xs) in
    let same : min 4294967295 (length (xs ++ x ∷ []) - room) ≡ min 4294967295 (length xs - room) = omega (arith, length-append xs (x ∷ [])) in
    same ∙ ap (λ b. if not b then min 4294967295 (min 4294967295 (length xs - room) + 1) else min 4294967295 (length xs - room)) (sym fits))
    (λ full.
    let above : room ≤ length xs = grind (arith, nat_tests, length-take room xs) in
    let more : min 4294967295 (length (xs ++ x ∷ []) - room) ≡ min 4294967295 (min 4294967295 (length xs - room) + 1) = omega (arith, length-append xs (x ∷ [])) in
    more ∙ ap (λ b. if not b then min 4294967295 (min 4294967295 (length xs - room) + 1) else min 4294967295 (length xs - room)) (sym full))

notes_more : (limits : Limits) (sync : Bool) (note : Option Note) (since : List Note) →
    (if sync then take OUTBOX_NOTES (since ++ option_to_list note) else []) ≡ notes_with (record { limits = limits; sync = sync }) note (if sync then take OUTBOX_NOTES since else [])
notes_more limits true None since = ap (λ l. take OUTBOX_NOTES l) (append-nil since)
notes_more limits true (Some note) since = take_one_more OUTBOX_NOTES since note
notes_more limits false None since = refl
notes_more limits false (Some note) since = refl

dropped_more : (limits : Limits) (sync : Bool) (note : Option Note) (since : List Note) →
    (if sync then min 4294967295 (length (since ++ option_to_list note) - OUTBOX_NOTES) else 0)
    ≡ dropped_with (record { limits = limits; sync = sync }) note (if sync then take OUTBOX_NOTES since else []) (if sync then min 4294967295 (length since - OUTBOX_NOTES) else 0)
dropped_more limits true None since = ap (λ l. min 4294967295 (length l - OUTBOX_NOTES)) (append-nil since)
dropped_more limits true (Some note) since = drop_one_more OUTBOX_NOTES since note
dropped_more limits false None since = refl
dropped_more limits false (Some note) since = refl

-- the outbox after an entry that is no drain
pub notes_after : (g : Settings) (x : Entry) (past : List Entry) → is_drain x.call ≡ false → outbox_notes g (x ∷ past) ≡ notes_with g (note_made x) (outbox_notes g past)
notes_after g x past stays =
    ap (λ b. if g.sync then take OUTBOX_NOTES (if b then [] else notes_since past ++ option_to_list (note_made x)) else []) stays
    ∙ notes_more g.limits g.sync (note_made x) (notes_since past)

pub dropped_after : (g : Settings) (x : Entry) (past : List Entry) → is_drain x.call ≡ false → outbox_dropped g (x ∷ past) ≡ dropped_with g (note_made x) (outbox_notes g past) (outbox_dropped g past)
dropped_after g x past stays =
    ap (λ b. if g.sync then min 4294967295 (length (if b then [] else notes_since past ++ option_to_list (note_made x)) - OUTBOX_NOTES) else 0) stays
    ∙ dropped_more g.limits g.sync (note_made x) (notes_since past)

-- a drain empties it
pub drained_notes : (g : Settings) (x : Entry) (past : List Entry) → is_drain x.call ≡ true → outbox_notes g (x ∷ past) ≡ []
drained_notes g x past drains =
    ap (λ b. if g.sync then take OUTBOX_NOTES (if b then [] else notes_since past ++ option_to_list (note_made x)) else []) drains
    ∙ elim g.sync as (λ sync. (if sync then take {A = Note} OUTBOX_NOTES [] else []) ≡ []) [ true ↦ refl | false ↦ refl ]

pub drained_dropped : (g : Settings) (x : Entry) (past : List Entry) → is_drain x.call ≡ true → outbox_dropped g (x ∷ past) ≡ 0
drained_dropped g x past drains =
    ap (λ b. if g.sync then min 4294967295 (length (if b then [] else notes_since past ++ option_to_list (note_made x)) - OUTBOX_NOTES) else 0) drains
    ∙ elim g.sync as (λ sync. (if sync then min 4294967295 (length {A = Note} [] - OUTBOX_NOTES) else 0) ≡ 0) [ true ↦ refl | false ↦ refl ]

pub keeps_all : (g : Settings) (past : List Entry) → g.sync ≡ true → length (notes_since past) ≤ 4096 → (outbox_notes g past ≡ notes_since past) × (outbox_dropped g past ≡ 0)
keeps_all g past on few = (
  ap (λ b. if b then take OUTBOX_NOTES (notes_since past) else []) on ∙ take_all OUTBOX_NOTES (notes_since past) few,
  ap (λ b. if b then min 4294967295 (length (notes_since past) - OUTBOX_NOTES) else 0) on ∙ (let e : min 4294967295 (length (notes_since past) - OUTBOX_NOTES) ≡ 0 = omega arith in e),
)

pub keeps_few : (g : Settings) (past : List Entry) → length (outbox_notes g past) ≤ 4096
keeps_few g past =
    elim g.sync as (λ b. length (if b then take OUTBOX_NOTES (notes_since past) else []) ≤ 4096)
    [ true ↦ omega (arith, length-take OUTBOX_NOTES (notes_since past)) | false ↦ omega arith ]

pub drops_others : (g : Settings) (past : List Entry) (further : ℕ) → g.sync ≡ true → further < 2 ^ 32 → length (notes_since past) ≡ 4096 + further → outbox_dropped g past ≡ further
drops_others g past further on below many =
    ap (λ b. if b then min 4294967295 (length (notes_since past) - OUTBOX_NOTES) else 0) on ∙ (let e : min 4294967295 (length (notes_since past) - OUTBOX_NOTES) ≡ further = omega arith in e)
