-- One more call after others, with its answer.
use Rattle.std.proofs.Common.{◌≡◌, ℕ, List, [], ◌∷◌, ◌++◌, length, map, refl, sym, ◌∙◌, ap, arith, subst}
use Rattle.std.specs.Prelude.{Option, Some, None}
use Rattle.std.specs.Option.{option_and_then, option_map}
use Rattle.ot_base.specs.declared.hash.InfoHash.{InfoHash}
use Rattle.ot_base.specs.declared.minute.Minute.{Minute}
use Rattle.ot_base.specs.declared.peer.Counts.{Counts}
use Rattle.tracker_model.specs.Placed.{bucket_for, moves_of, placed_calls}
use Rattle.tracker_core.specs.UdpText.{all_counts, scraped_counts}
use Rattle.tracker_model.specs.Grows.{Move, GrowsAlone, NoneBetween}
use Rattle.tracker_model.specs.Legal.{IsLegalHistory}
use Rattle.tracker_model.specs.Settings.{Settings}
use Rattle.tracker_model.specs.declared.entry.Entry.{Entry}
use Rattle.tracker_model.specs.declared.answer.Answer.{Answer}
use Rattle.tracker_model.specs.declared.answer.Answer.TheVariants.{Stats}
use Rattle.tracker_model.specs.declared.call.Call.{Call}
use Rattle.std.specs.Prelude.{Bool}
use Rattle.std.proofs.lemmas.List.{map-append, length-map}
use Rattle.tracker_model.proofs.GrowsLemmas.{grows-append}
use Rattle.tracker_model.specs.declared.call.Call.TheVariants.{Scrape}

-- the move of one call in its bucket, with its answer
abbrev pub move_of : ℕ → Minute → (ℕ × Call) → Answer → Move
move_of caller minute placed answer = record {
  bucket = placed.0;
  entry = record { caller = caller; minute = minute; call = placed.1; answer = answer };
}

pub moves_of-push : (caller : ℕ) (minute : Minute) (placed : List (ℕ × Call)) (answers : List Answer) (p : ℕ × Call) (a : Answer) → length answers ≡ length placed
    → moves_of caller minute (placed ++ p ∷ []) (answers ++ a ∷ []) ≡ moves_of caller minute placed answers ++ move_of caller minute p a ∷ []
moves_of-push caller minute [] [] p a same = refl
moves_of-push caller minute [] (x ∷ answers) p a same = absurd (cc)
moves_of-push caller minute (q ∷ placed) [] p a same = absurd (cc)
moves_of-push caller minute (q ∷ placed) (x ∷ answers) p a same =
    ap (λ moves. move_of caller minute q x ∷ moves) (moves_of-push caller minute placed answers p a (omega arith))

-- the calls of a list that is longer by one
pub placed_calls-push : (bucket : InfoHash → ℕ) (calls : List Call) (call : Call) → placed_calls bucket (calls ++ call ∷ []) ≡ placed_calls bucket calls ++ (bucket_for bucket call, call) ∷ []
placed_calls-push bucket calls call = map-append (λ c. (bucket_for bucket c, c)) calls (call ∷ [])

-- the same of a first answer and the others
with_first : (first : Option Counts) (others longer : Option (List Counts)) (counts : List Counts) (c : Counts)
    → ((xs : List Counts) → others ≡ Some xs → longer ≡ Some (xs ++ c ∷ []))
    → option_and_then (λ x. option_map (λ xs. x ∷ xs) others) first ≡ Some counts
    → option_and_then (λ x. option_map (λ xs. x ∷ xs) longer) first ≡ Some (counts ++ c ∷ [])
with_first None others longer counts c push same = absurd (cc)
with_first (Some x) None longer counts c push same = absurd (cc)
with_first (Some x) (Some xs) longer counts c push same =
    let all : x ∷ xs ≡ counts = cc in
    ap (option_map (λ ys. x ∷ ys)) (push xs refl) ∙ ap (λ ys. Some (ys ++ c ∷ [])) all

-- the counts of one more scrape come last
pub all_counts-push : (answers : List Answer) (counts : List Counts) (c : Counts) (known : Bool) → all_counts answers ≡ Some counts → all_counts (answers ++ Stats c known ∷ []) ≡ Some (counts ++ c ∷ [])
all_counts-push [] counts c known same = let none : [] ≡ counts = cc in ap (λ xs. Some (xs ++ c ∷ [])) none
all_counts-push (a ∷ answers) counts c known same =
    with_first (scraped_counts a) (all_counts answers) (all_counts (answers ++ Stats c known ∷ [])) counts c
    (λ xs. all_counts-push answers xs c known) same

-- one call on the one bucket, by a caller that is alone
pub one_move : (g : Settings) (caller : ℕ) (history : List Entry) (x : Entry) → x.caller ≡ caller → IsLegalHistory g (history ++ x ∷ [])
    → GrowsAlone g caller (history ∷ []) ((let m : Move = record { bucket = 0; entry = x } in m) ∷ []) ((history ++ x ∷ []) ∷ [])
one_move g caller history x own legal = (
  (history ++ x ∷ []) ∷ [],
  record { others = []; own = own; between = refl; within = omega arith; grown = refl; legal = legal },
  refl,
)

-- a caller that is alone makes one more scrape on the one bucket
pub one_more_scrape : (g : Settings) (caller : ℕ) (minute : Minute) (history middle : List Entry) (hashes : List InfoHash) (answers : List Answer) (hash : InfoHash) (answer : Answer)
    → length answers ≡ length hashes
    → GrowsAlone g caller (history ∷ []) (moves_of caller minute (placed_calls (λ _. 0) (map Scrape hashes)) answers) (middle ∷ [])
    → IsLegalHistory g (middle ++ (let x : Entry = record { caller = caller; minute = minute; call = Scrape hash; answer = answer } in x) ∷ [])
    → GrowsAlone g caller (history ∷ []) (moves_of caller minute (placed_calls (λ _. 0) (map Scrape (hashes ++ hash ∷ []))) (answers ++ answer ∷ []))
    ((middle ++ (let x : Entry = record { caller = caller; minute = minute; call = Scrape hash; answer = answer } in x) ∷ []) ∷ [])
one_more_scrape g caller minute history middle hashes answers hash answer same grown legal =
    let x : Entry = record { caller = caller; minute = minute; call = Scrape hash; answer = answer } in
    let one_bucket : InfoHash → ℕ = λ _. 0 in
    let calls = map Scrape hashes in
    let more : placed_calls one_bucket (map Scrape (hashes ++ hash ∷ [])) ≡ placed_calls one_bucket calls ++ (0, Scrape hash) ∷ [] =
    ap (placed_calls one_bucket) (map-append Scrape hashes (hash ∷ [])) ∙ placed_calls-push one_bucket calls (Scrape hash) in
    let as_many : length answers ≡ length (placed_calls one_bucket calls) = same ∙ sym (length-map calls (λ call. (bucket_for one_bucket call, call)) ∙ length-map hashes Scrape) in
    let moves = moves_of-push caller minute (placed_calls one_bucket calls) answers (0, Scrape hash) answer as_many in
    let all = grows-append NoneBetween g caller (history ∷ []) (middle ∷ []) ((middle ++ x ∷ []) ∷ []) _ _ grown (one_move g caller middle x refl legal) in
    let Grown : List Move → Type 0 = λ ms. GrowsAlone g caller (history ∷ []) ms ((middle ++ x ∷ []) ∷ []) in
    subst Grown (sym (ap (λ placed. moves_of caller minute placed (answers ++ answer ∷ [])) more ∙ moves)) all
