-- Passes that are split from one, one after another.
use Rattle.std.proofs.Common.{◌≡◌, ◌≢◌, ℕ, ◌+◌, ◌<◌, ◌≤◌, List, [], ◌∷◌, ◌++◌, All, length, refl, sym, ap, subst, ◌∙◌, ⊎_elim, arith}
use Rattle.std.specs.List.{range_with_len}
use Rattle.std.proofs.Math.Nat.{add_assoc}
use Rattle.std.proofs.lemmas.Bool.{cases_lt}
use Rattle.std.proofs.lemmas.List.Elements.{All-map}
use Rattle.std.proofs.lemmas.List.FromFn.{get_or-range_with_len, length-map-range_with_len, length-range_with_len, map-range_with_len_more}
use Rattle.tracker_model.specs.Grows.{OthersBetween}
use Rattle.shards.specs.Shape.{PassShape, ShardsShape, new_pass, new_passes}

-- a pass once as many were split from it
abbrev pub kept_pass : ℕ → PassShape → PassShape
kept_pass n pass = record pass { free = pass.free + n; out = pass.out + n }

-- no entry of a number stands in what a pass has seen
abbrev pub HasNone : PassShape → ℕ → Type 0
HasNone pass number = All (OthersBetween number) pass.seen

module _ (pass now : PassShape) (n : ℕ) (was : now ≡ kept_pass n pass) where
  pub pass_more : (after : PassShape) → after ≡ kept_pass 1 now → after ≡ kept_pass (n + 1) pass
  pass_more after is =
      is
      ∙ ap (kept_pass 1) was
      ∙ (λ k. record pass { free = add_assoc pass.free n 1 k; out = add_assoc pass.out n 1 k })

  pub passes_more : (shards : ShardsShape) (passes : List PassShape) (new : PassShape) → pass.shards ≡ shards → passes ≡ new_passes pass n → new ≡ new_pass shards now.free now.seen → passes ++ new ∷ [] ≡ new_passes pass (n + 1)
  passes_more shards passes new of so_far is =
      let made : new ≡ new_pass pass.shards (pass.free + n) pass.seen = is ∙ (λ k. new_pass (sym of k) (was k).free (was k).seen) in
      (λ k. so_far k ++ made k ∷ [])
      ∙ sym (map-range_with_len_more (λ caller. new_pass pass.shards caller pass.seen) pass.free n (pass.free + n) refl)

  pub none_more : ((number : ℕ) → pass.free ≤ number → number < pass.free + n → HasNone pass number) → HasNone now now.free → (number : ℕ) → pass.free ≤ number → number < pass.free + (n + 1) → HasNone pass number
  none_more so_far here number from below =
      ⊎_elim
      (λ before. so_far number from before)
      (λ after.
      let same : pass.free + n ≡ number = omega arith in
      subst (HasNone pass) same (subst (λ (p : PassShape). All (OthersBetween p.free) p.seen) was here))
      (cases_lt number (pass.free + n))

-- ---- the new passes

pub count_of : (pass : PassShape) (n : ℕ) (passes : List PassShape) → passes ≡ new_passes pass n → length passes ≡ n
count_of pass n passes is = ap length is ∙ length-map-range_with_len (λ caller. new_pass pass.shards caller pass.seen) pass.free n

pub passes_of : (pass : PassShape) (n : ℕ) (shards : ShardsShape) (passes : List PassShape) → passes ≡ new_passes pass n → pass.shards ≡ shards → 1 ≤ pass.free → All (λ one. (one.shards ≡ shards) × (one.caller ≢ 0)) passes
passes_of pass n shards passes is of some =
    let P : PassShape → Type 0 = λ one. (one.shards ≡ shards) × (one.caller ≢ 0) in
    let all : All (λ caller. P (new_pass pass.shards caller pass.seen)) (range_with_len pass.free n) = λ k d within.
    let there = get_or-range_with_len pass.free n k d (subst (λ m. k < m) (length-range_with_len pass.free n) within) in
    (of, λ none. absurd (omega arith)) in
    subst (All P) (sym is) (All-map P (λ caller. new_pass pass.shards caller pass.seen) (range_with_len pass.free n) all)
