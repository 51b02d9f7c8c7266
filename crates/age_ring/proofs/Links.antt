-- Lists stay linked: a place is taken out, put first, added, dropped or moved.
use Rattle.std.proofs.Common.{◌≡◌, ◌≢◌, ℕ, zero, suc, ◌+◌, ◌<◌, arith, cond, nat_eq}
use Rattle.std.proofs.lemmas.Bool.{cases_eq}
use Rattle.std.proofs.lemmas.Bool.Decides.{nat_tests}
use Rattle.age_ring.specs.Links.{AreLinked}

-- the function `g` is `f` with another value at `i`, where `i` is below `n`
pub record Sets (f g : ℕ → ℕ) (n i v : ℕ) : Type 0 where
  pub at : i < n → g i ≡ v
  pub same : (j : ℕ) → j ≢ i → g j ≡ f j

-- the function `f` with the value `v` at `i`
with_value : (ℕ → ℕ) → ℕ → ℕ → ℕ → ℕ
with_value f i v j = cond (nat_eq j i) v (f j)

with_value_at : (f : ℕ → ℕ) (i v : ℕ) → with_value f i v i ≡ v
unfolding with_value
with_value_at f i v = grind (arith, nat_tests)

with_value_same : (f : ℕ → ℕ) (i v j : ℕ) → j ≢ i → with_value f i v j ≡ f j
unfolding with_value
with_value_same f i v j ne = grind (arith, nat_tests)

module _ {none n slots : ℕ} {slot prev next head : ℕ → ℕ} where
  -- a place is taken out of its list: its neighbours name each other
  pub AreLinked-unlink : (i : ℕ) (prev' next' head' : ℕ → ℕ) → AreLinked none n none slots slot prev next head
      → i < n → Sets next next' n (prev i) (next i) → Sets prev prev' n (next i) (prev i)
      → (prev i ≡ none → Sets head head' slots (slot i) (next i)) → (prev i ≢ none → (a : ℕ) → head' a ≡ head a)
      → AreLinked none n i slots slot prev' next' head'
  AreLinked-unlink i prev' next' head' l inside sn sp first inner = record {
    few = l.few;
    within = l.within;
    rank = l.rank;
    next_back = λ j lt ne some.
        grind (arith, cases_eq j (prev i), cases_eq (next j) (next i), cases_eq (next j) i, cases_eq (prev i) none, l.next_back j, l.next_back i, l.prev_back i, l.prev_back (next i), sn.at, sn.same j, sp.at, sp.same (next j));
    prev_back = λ j lt ne some.
        grind (arith, cases_eq j (next i), cases_eq (prev j) (prev i), cases_eq (prev j) i, cases_eq (next i) none, l.next_back i, l.next_back (prev i), l.prev_back i, l.prev_back j, sn.at, sn.same (prev j), sp.at, sp.same j);
    first = λ j lt ne e.
        grind (arith, cases_eq j (next i), cases_eq (prev i) none, cases_eq (slot j) (slot i), cases_eq (next i) none, l.next_back i, l.prev_back j, l.prev_back (next i), l.first j, l.first i, sp.at, sp.same j, l.within i, first, inner);
    heads = λ a lt some.
        grind (arith, cases_eq a (slot i), cases_eq (prev i) none, cases_eq (next i) none, cases_eq (head a) (next i), cases_eq (head a) i, l.next_back i, l.prev_back (next i), l.heads a, l.first i, sp.at, sp.same (head' a), l.within i, first, inner);
  }

  -- a place that isn't linked is put first in the list of a slot
  pub AreLinked-link_first : (i a : ℕ) (slot' prev₁ prev' next' head' : ℕ → ℕ) → AreLinked none n i slots slot prev next head
      → i < n → a < slots → Sets slot slot' n i a
      → Sets prev prev₁ n (head a) i → Sets prev₁ prev' n i none → Sets next next' n i (head a) → Sets head head' slots a i
      → AreLinked none n none slots slot' prev' next' head'
  AreLinked-link_first i a slot' prev₁ prev' next' head' l inside slot_in ss sp sp' sn sh = record {
    few = l.few;
    within = λ j. grind (arith, cases_eq j i, ss.at, ss.same j, l.within j);
    rank = with_value (λ j. suc (l.rank j)) i 0;
    next_back = λ j lt ne some.
        grind (arith, cases_eq j i, cases_eq (head a) (next j), cases_eq (head a) none, l.next_back j, l.heads a, ss.at, sp.at, sp.same (next j), sp'.same (next' j), sn.at, sn.same j);
    prev_back = λ j lt ne some.
        grind (
          arith,
          cases_eq j i,
          cases_eq j (head a),
          cases_eq (head a) none,
          l.prev_back j,
          l.heads a,
          ss.at,
          ss.same j,
          ss.same (prev j),
          sp.at,
          sp.same j,
          sp'.at,
          sp'.same j,
          sn.at,
          sn.same (prev j),
          with_value_same (λ j. suc (l.rank j)) i 0 j,
          with_value_same (λ j. suc (l.rank j)) i 0 (prev j),
          with_value_at (λ j. suc (l.rank j)) i 0,
        );
    first = λ j lt ne e.
        grind (arith, cases_eq j i, cases_eq j (head a), cases_eq (slot j) a, l.first j, l.heads a, ss.at, ss.same j, sp.at, sp.same j, sp'.same j, sh.at, sh.same (slot j));
    heads = λ b lt some.
        grind (arith, cases_eq b a, cases_eq (head b) (head a), l.heads a, l.heads b, ss.at, ss.same (head b), sp.at, sp.same (head b), sp'.at, sp'.same (head b), sh.at, sh.same b);
  }

  -- a new last place, which isn't linked yet
  pub AreLinked-push : (slot' prev' next' : ℕ → ℕ) → n < none → AreLinked none n none slots slot prev next head
      → ((j : ℕ) → slot' j < slots) → ((j : ℕ) → j < n → slot' j ≡ slot j) → ((j : ℕ) → j < n → prev' j ≡ prev j) → ((j : ℕ) → j < n → next' j ≡ next j)
      → AreLinked none (n + 1) n slots slot' prev' next' head
  AreLinked-push slot' prev' next' room l inside ss sp sn = record {
    few = omega arith;
    within = inside;
    rank = l.rank;
    next_back = λ j lt ne some. grind (arith, l.next_back j, sn j, sp (next j));
    prev_back = λ j lt ne some. grind (arith, l.prev_back j, sp j, sn (prev j), ss j, ss (prev j));
    first = λ j lt ne e. grind (arith, l.first j, sp j, ss j);
    heads = λ a lt some. grind (arith, l.heads a, sp (head a), ss (head a));
  }

  -- the last place isn't linked, and goes
  pub AreLinked-pop : (slot' prev' next' : ℕ → ℕ) (m : ℕ) → n ≡ m + 1 → AreLinked none n m slots slot prev next head
      → ((j : ℕ) → slot' j < slots) → ((j : ℕ) → j < m → slot' j ≡ slot j) → ((j : ℕ) → j < m → prev' j ≡ prev j) → ((j : ℕ) → j < m → next' j ≡ next j)
      → AreLinked none m none slots slot' prev' next' head
  AreLinked-pop slot' prev' next' m more l inside ss sp sn = record {
    few = omega (arith, l.few);
    within = inside;
    rank = l.rank;
    next_back = λ j lt ne some. grind (arith, l.next_back j, sn j, sp (next j));
    prev_back = λ j lt ne some. grind (arith, l.prev_back j, sp j, sn (prev j), ss j, ss (prev j));
    first = λ j lt ne e. grind (arith, l.first j, sp j, ss j);
    heads = λ a lt some. grind (arith, l.heads a, sp (head a), ss (head a));
  }

  -- the last place moves to that which isn't linked, and its neighbours name it there
  pub AreLinked-move : (i m : ℕ) (slot' prev₁ next₁ prev' next' head' : ℕ → ℕ) → n ≡ m + 1 → i < m → AreLinked none n i slots slot prev next head
      → ((j : ℕ) → slot' j < slots)
      → (slot' i ≡ slot m) → ((j : ℕ) → j < m → j ≢ i → slot' j ≡ slot j)
      → (prev₁ i ≡ prev m) → ((j : ℕ) → j < m → j ≢ i → prev₁ j ≡ prev j)
      → (next₁ i ≡ next m) → ((j : ℕ) → j < m → j ≢ i → next₁ j ≡ next j)
      → Sets next₁ next' m (prev m) i → Sets prev₁ prev' m (next m) i
      → (prev m ≡ none → Sets head head' slots (slot m) i) → (prev m ≢ none → (a : ℕ) → head' a ≡ head a)
      → AreLinked none m none slots slot' prev' next' head'
  AreLinked-move i m slot' prev₁ next₁ prev' next' head' more below l inside s_at s_same p_at p_same n_at n_same sn sp first inner =
      record {
        few = omega (arith, l.few);
        within = inside;
        rank = with_value l.rank i (l.rank m);
        next_back = λ j lt ne some.
            grind (arith, cases_eq j (prev m), cases_eq j i, cases_eq (next j) (next m), cases_eq (next j) m, cases_eq (next m) none, cases_eq (prev m) none, l.next_back j, l.next_back m, l.prev_back m, l.prev_back (next m), n_at, n_same j, p_at, p_same (next j), p_same (next m), sn.at, sn.same j, sp.at, sp.same i, sp.same (next j));
        prev_back = λ j lt ne some.
            grind (arith, cases_eq j (next m), cases_eq j i, cases_eq (prev j) (prev m), cases_eq (prev j) m, cases_eq (next m) none, cases_eq (prev m) none, l.next_back m, l.next_back (prev m), l.prev_back j, l.prev_back m, l.prev_back (next m), n_at, n_same (prev j), n_same (prev m), p_at, p_same j, sn.at, sn.same i, sn.same (prev j), sp.at, sp.same j, s_at, s_same j, s_same (prev j), with_value_at l.rank i (l.rank m), with_value_same l.rank i (l.rank m) j, with_value_same l.rank i (l.rank m) (prev j), with_value_same l.rank i (l.rank m) (prev m));
        first = λ j lt ne e.
            grind (arith, cases_eq j (next m), cases_eq j i, cases_eq (slot j) (slot m), cases_eq (next m) none, cases_eq (prev m) none, l.next_back m, l.prev_back (next m), l.first j, l.first m, p_at, p_same j, sp.at, sp.same j, s_at, s_same j, l.within m, first, inner);
        heads = λ a lt some.
            grind (arith, cases_eq a (slot m), cases_eq (head a) m, cases_eq (head a) (next m), cases_eq (next m) none, cases_eq (prev m) none, l.next_back m, l.prev_back (next m), l.heads a, l.first m, p_at, p_same (head a), sp.at, sp.same i, sp.same (head a), s_at, s_same (head a), l.within m, first, inner);
      }

  no_head-no_place_below : (a : ℕ) → (l : AreLinked none n none slots slot prev next head) → head a ≡ none
      → (k i : ℕ) → i < n → l.rank i < k → slot i ≢ a
  no_head-no_place_below a l empty zero i within small = absurd (omega arith)
  no_head-no_place_below a l empty (suc k) i within small =
      grind (arith, cases_eq (prev i) none, l.first i, l.prev_back i, no_head-no_place_below a l empty k (prev i))

  -- a list with no head has no place
  pub no_head-no_place : (a : ℕ) → AreLinked none n none slots slot prev next head → head a ≡ none
      → (i : ℕ) → i < n → slot i ≢ a
  no_head-no_place a l empty i within = no_head-no_place_below a l empty (l.rank i + 1) i within (omega arith)
