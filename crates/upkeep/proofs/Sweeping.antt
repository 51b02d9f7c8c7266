-- Calls on one bucket after another, again and again.
use Rattle.std.proofs.Common.{◌≡◌, ◌∙◌, ℕ, ◌+◌, ◌<◌, ◌≤◌, ◌^◌, true, false, List, [], ◌∷◌, ◌++◌, ap, arith, cond, length, length-append, map, refl, subst, sym}
use Rattle.std.proofs.lemmas.Bool.Decides.{nat_tests}
use Rattle.std.proofs.lemmas.List.{map-append}
use Rattle.std.proofs.lemmas.List.Elements.{filter-append}
use Rattle.std.specs.Bool.{◌==◌}
use Rattle.std.specs.List.{AllByRecursion}
use Rattle.ot_base.specs.declared.minute.Minute.{Minute}
use Rattle.shards.specs.Passing.{MadeByPass}
use Rattle.shards.specs.Shape.{PassShape}
use Rattle.shards.proofs.PassingLemmas.{others_alone}
use Rattle.tracker_model.specs.Grows.{GrowsAmong, Move, OthersBetween, entries_in}
use Rattle.tracker_model.specs.declared.answer.Answer.{Answer}
use Rattle.tracker_model.specs.declared.call.Call.{Call}
use Rattle.tracker_model.proofs.Cases.{by_test}
use Rattle.tracker_model.proofs.GrowsLemmas.{grows-append}
use Rattle.upkeep.specs.Sweeps.{Sweeps}
use Rattle.upkeep.proofs.Lists.{all_append}

-- the entries on a bucket are those of the first moves and those of the others
entries_more : (bucket : ℕ) (xs ys : List Move) → entries_in bucket (xs ++ ys) ≡ entries_in bucket xs ++ entries_in bucket ys
entries_more bucket xs ys =
    ap (map (λ (move : Move). move.entry)) (filter-append (λ (move : Move). move.bucket == bucket) xs ys)
    ∙ map-append (λ (move : Move). move.entry) _ _

entries_count : (bucket : ℕ) (xs ys : List Move) → length (entries_in bucket (xs ++ ys)) ≡ length (entries_in bucket xs) + length (entries_in bucket ys)
entries_count bucket xs ys = ap length (entries_more bucket xs ys) ∙ length-append (entries_in bucket xs) (entries_in bucket ys)

same_number : (a b : ℕ) → (a == b) ≡ true → a ≡ b
same_number a b same = grind (arith, nat_tests)

below_next : (a b : ℕ) → a < b + 1 → (b == a) ≡ false → a < b
below_next a b below other = grind (arith, nat_tests)

-- one move on a bucket is one entry there
entry_here : (bucket : ℕ) (move : Move) → move.bucket ≡ bucket → 1 ≤ length (entries_in bucket (move ∷ []))
entry_here bucket move same =
    let here : (move.bucket == bucket) ≡ true = grind (arith, nat_tests) in
    let P : ℕ → Type 0 = λ n. 1 ≤ n in
    subst P (ap (λ b. length (map (λ (m : Move). m.entry) (cond b (move ∷ []) []))) (sym here)) (omega arith)

module _ (call : Call) where
  -- Through a pass this call was made on the first buckets, on each at least once, perhaps on
  -- others, and no other call.
  pub record SweepsFirst (many : ℕ) (old new : PassShape) : Type 0 where
    pub moves : List Move
    pub calls : AllByRecursion (λ move. move.entry.call ≡ call) moves
    pub grown : GrowsAmong old.shards.settings old.caller old.seen moves new.seen
    pub pass : new ≡ record old { seen = new.seen }
    pub each : (bucket : ℕ) → bucket < many → 1 ≤ length (entries_in bucket moves)

  pub first_none : (pass : PassShape) → SweepsFirst 0 pass pass
  first_none pass = record {
    moves = [];
    calls = tt;
    grown = refl;
    pass = refl;
    each = λ bucket below. absurd (omega arith);
  }

  module _ (many : ℕ) (old middle new : PassShape) (before : SweepsFirst many old middle) where
    -- what was done after that
    first_then : (moves : List Move) → AllByRecursion (λ move. move.entry.call ≡ call) moves
        → GrowsAmong middle.shards.settings middle.caller middle.seen moves new.seen → new ≡ record middle { seen = new.seen }
        → (count : ℕ) → ((bucket : ℕ) → bucket < count → 1 ≤ length (entries_in bucket (before.moves ++ moves))) → SweepsFirst count old new
    first_then moves calls grown pass count each =
        let Then : PassShape → Type 0 = λ p. GrowsAmong p.shards.settings p.caller middle.seen moves new.seen in record {
          moves = before.moves ++ moves;
          calls = all_append (λ (move : Move). move.entry.call ≡ call) before.moves moves before.calls calls;
          grown = grows-append (OthersBetween old.caller) old.shards.settings old.caller old.seen middle.seen new.seen before.moves moves before.grown (subst Then before.pass grown);
          pass = pass ∙ ap (λ (p : PassShape). record p { seen = new.seen }) before.pass;
          each = each;
        }

    -- the call was made on the next bucket
    pub first_next : (minute : Minute) (answer : Answer) → MadeByPass middle many minute call answer new → SweepsFirst (many + 1) old new
    first_next minute answer made =
        let move : Move = record {
          bucket = many;
          entry = record { caller = middle.caller; minute = minute; call = call; answer = answer };
        } in
        first_then (move ∷ []) (refl, tt)
        (new.seen, others_alone middle.shards.settings middle.caller middle.joined middle.seen move new.seen made.step, refl) made.pass
        (many + 1)
        (λ bucket below. by_test (many == bucket) _
        (λ here. omega (arith, entries_count bucket before.moves (move ∷ []), entry_here bucket move (same_number many bucket here)))
        (λ elsewhere. omega (arith, entries_count bucket before.moves (move ∷ []), before.each bucket (below_next bucket many below elsewhere))))

    -- it was made on all buckets
    pub first_all : Sweeps call middle new → SweepsFirst (2 ^ old.shards.bits) old new
    first_all then =
        let same : middle.shards.bits ≡ old.shards.bits = ap (λ (p : PassShape). p.shards.bits) before.pass in
        first_then then.moves then.calls then.grown then.pass (2 ^ old.shards.bits)
        (λ bucket below. omega (arith, entries_count bucket before.moves then.moves, then.each bucket (rw same below)))

  -- on all of the buckets
  pub of_first : (old new : PassShape) → SweepsFirst (2 ^ old.shards.bits) old new → Sweeps call old new
  of_first old new sweeps = record {
    moves = sweeps.moves;
    calls = sweeps.calls;
    grown = sweeps.grown;
    pass = sweeps.pass;
    each = sweeps.each;
  }

  -- what was done in some rounds, of which there may be none yet
  pub some_rounds : (old new : PassShape) → Sweeps call old new → SweepsFirst 0 old new
  some_rounds old new sweeps = record {
    moves = sweeps.moves;
    calls = sweeps.calls;
    grown = sweeps.grown;
    pass = sweeps.pass;
    each = λ bucket below. absurd (omega (arith, below));
  }

  pub one_more_round : (old middle new : PassShape) → SweepsFirst 0 old middle → Sweeps call middle new → Sweeps call old new
  one_more_round old middle new before then = of_first old new (first_all 0 old middle new before then)

  pub sweeps_again : (old middle new : PassShape) → Sweeps call old middle → Sweeps call middle new → Sweeps call old new
  sweeps_again old middle new before then = one_more_round old middle new (some_rounds old middle before) then
