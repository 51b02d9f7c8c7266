-- Calls that are made on one bucket after another, from bucket 0 on.
use Rattle.std.proofs.Common.{◌≡◌, ℕ, ◌+◌, ◌^◌, ◌≤◌, List, [], ◌∷◌, ◌++◌, map, refl, sym, ◌∙◌, ap, subst, arith}
use Rattle.std.specs.Prelude.{Option, Some, None}
use Rattle.std.specs.List.{range_with_len}
use Rattle.std.specs.Option.{option_and_then, option_map}
use Rattle.std.proofs.lemmas.List.FromFn.{map-range_with_len_more, take-map-range_with_len}
use Rattle.ot_base.specs.declared.minute.Minute.{Minute}
use Rattle.ot_base.specs.declared.peer.Row.{Row}
use Rattle.tracker_model.specs.Making.{Makes, MakingRelation}
use Rattle.tracker_model.specs.Placed.{on_each_bucket}
use Rattle.tracker_model.specs.declared.answer.Answer.{Answer}
use Rattle.tracker_model.specs.declared.call.Call.{Call}
use Rattle.request_handler.specs.Cleaning.{held_left, held_sum}
use Rattle.request_handler.specs.Connection.{full_rows, scan_rows}
use Rattle.request_handler.specs.Making.{MakesFront}
use Rattle.request_handler.proofs.Made.{Makes-push}

-- the call on each of the first buckets
abbrev pub on_first_buckets : (many : ℕ) → Call → List (ℕ × Call)
on_first_buckets many call = map (λ bucket. (bucket, call)) (range_with_len 0 many)

-- after some buckets the call was made on the next one
pub makes_next : {T : Type 0} (made : MakingRelation T) (minute : Minute) (old middle new : T) (many : ℕ) (call : Call) (answers : List Answer) (answer : Answer)
    → Makes made minute old (on_first_buckets many call) answers middle → made middle many minute call answer new
    → Makes made minute old (on_first_buckets (many + 1) call) (answers ++ answer ∷ []) new
makes_next made minute old middle new many call answers answer makes one =
    let Made : List (ℕ × Call) → Type 0 = λ placed. Makes made minute old placed (answers ++ answer ∷ []) new in
    subst Made (sym (map-range_with_len_more (λ bucket. (bucket, call)) 0 many many (omega arith)))
    (Makes-push made minute old middle new (on_first_buckets many call) many call answers answer makes one)

-- of the calls on each bucket those on the first ones are the first
pub first_buckets-front : {T : Type 0} (made : MakingRelation T) (minute : Minute) (old new : T) (bits many : ℕ) (call : Call) (answers : List Answer) → many ≤ 2 ^ bits
    → Makes made minute old (on_first_buckets many call) answers new → MakesFront made minute old (on_each_bucket bits call) new
first_buckets-front made minute old new bits many call answers within makes =
    let Made : List (ℕ × Call) → Type 0 = λ placed. Makes made minute old placed answers new in record {
      count = many;
      answers = answers;
      makes = subst Made (sym (take-map-range_with_len (λ bucket. (bucket, call)) 0 (2 ^ bits) many within)) makes;
    }

-- the rows of one more scan come last
with_first : (first : Option (List Row)) (others longer : Option (List (List Row))) (lists : List (List Row)) (rows : List Row)
    → ((xs : List (List Row)) → others ≡ Some xs → longer ≡ Some (xs ++ rows ∷ []))
    → option_and_then (λ x. option_map (λ xs. x ∷ xs) others) first ≡ Some lists
    → option_and_then (λ x. option_map (λ xs. x ∷ xs) longer) first ≡ Some (lists ++ rows ∷ [])
with_first None others longer lists rows push same = absurd (cc)
with_first (Some x) None longer lists rows push same = absurd (cc)
with_first (Some x) (Some xs) longer lists rows push same =
    let all : x ∷ xs ≡ lists = cc in
    ap (option_map (λ ys. x ∷ ys)) (push xs refl) ∙ ap (λ ys. Some (ys ++ rows ∷ [])) all

pub full_rows-push : (answers : List Answer) (lists : List (List Row)) (answer : Answer) (rows : List Row) → full_rows answers ≡ Some lists → scan_rows answer ≡ Some rows
    → full_rows (answers ++ answer ∷ []) ≡ Some (lists ++ rows ∷ [])
full_rows-push [] lists answer rows same row =
    let none : [] ≡ lists = cc in
    ap (λ (first : Option (List Row)). option_and_then (λ x. option_map (λ xs. x ∷ xs) (Some [])) first) row ∙ ap (λ xs. Some (xs ++ rows ∷ [])) none
full_rows-push (a ∷ answers) lists answer rows same row =
    with_first (scan_rows a) (full_rows answers) (full_rows (answers ++ answer ∷ [])) lists rows
    (λ xs is. full_rows-push answers xs answer rows is row) same

-- what one more bucket holds is added
with_held : (first : Option ℕ) (others longer : Option ℕ) (sum held : ℕ) → ((n : ℕ) → others ≡ Some n → longer ≡ Some (n + held))
    → option_and_then (λ x. option_map (λ n. x + n) others) first ≡ Some sum
    → option_and_then (λ x. option_map (λ n. x + n) longer) first ≡ Some (sum + held)
with_held None others longer sum held push same = absurd (cc)
with_held (Some x) None longer sum held push same = absurd (cc)
with_held (Some x) (Some n) longer sum held push same =
    let all : x + n ≡ sum = cc in
    ap (option_map (λ m. x + m)) (push n refl) ∙ ap Some (omega arith)

pub held_sum-push : (answers : List Answer) (sum : ℕ) (answer : Answer) (held : ℕ) → held_sum answers ≡ Some sum → held_left answer ≡ Some held
    → held_sum (answers ++ answer ∷ []) ≡ Some (sum + held)
held_sum-push [] sum answer held same left =
    let none : 0 ≡ sum = cc in
    ap (λ (first : Option ℕ). option_and_then (λ x. option_map (λ n. x + n) (Some 0)) first) left ∙ ap Some (omega arith)
held_sum-push (a ∷ answers) sum answer held same left =
    with_held (held_left a) (held_sum answers) (held_sum (answers ++ answer ∷ [])) sum held
    (λ n is. held_sum-push answers n answer held is left) same
