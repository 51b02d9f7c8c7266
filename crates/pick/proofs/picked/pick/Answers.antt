-- Each turn puts two picks before those of the later words.
use Rattle.std.proofs.Common.{◌≡◌, ◌+◌, ◌-◌, ◌*◌, ◌%◌, [], ◌∷◌, ◌++◌, length, reverse, get_or, refl, ap, ◌∙◌, arith}
use Rattle.std.specs.List.{length_refill, refill}
use Rattle.std.proofs.lemmas.List.{length_push}
use Rattle.std.proofs.lemmas.Bool.{false≢true}
use Rattle.pick.specs.Picks.{AreApart}
use Rattle.pick.proofs.PickLemmas.{IsLate, picks_from, late_none, late_count, late_below, late_two, late_first, late_all, turned_count, turned_apart}
use Rattle.pick.proofs.picked.pick.Goals as goal
use Rattle.pick.proofs.picked.pick.Goals.{then-k-eq1, else-k-eq1}

pub loop-pair-init : goal.loop-pair-init
loop-pair-init c =
    rw c.new-later.ensures (late_none c.args.words.now c.args.n c.args.k)

pub pass_over-requires : goal.pass_over-requires
pass_over-requires c =
    let l = c.loop-pair in
    rw c.as_mut_slice.ensures.value (late_below c.args.words.now c.args.n c.args.k (2 * l.pair) 4294967296 l.later.items l.invariant (omega arith) (omega arith) (omega arith) (omega arith))

pub push-requires : goal.push-requires
push-requires c =
    let l = c.loop-pair in
    omega (arith, length_refill (length l.later.items) l.later.items c.pass_over.new.positions refl, late_count c.args.words.now c.args.n c.args.k (2 * l.pair) l.later.items l.invariant (omega arith) (omega arith) (omega arith))

pub push-requires-in-loop-pair : goal.push-requires-in-loop-pair
push-requires-in-loop-pair c =
    let l = c.loop-pair in
    omega (arith, c.push.ensures.len, length_refill (length l.later.items) l.later.items c.pass_over.new.positions refl, late_count c.args.words.now c.args.n c.args.k (2 * l.pair) l.later.items l.invariant (omega arith) (omega arith) (omega arith))

pub loop-pair-preserved : goal.loop-pair-preserved
loop-pair-preserved c =
    let l = c.loop-pair in
    let words = c.args.words.now in
    let n = c.args.n in
    let k = c.args.k in
    let j = k - 2 - 2 * l.pair in
    let first = get_or words j 0 % (n - j) in
    let second = get_or words (j + 1) 0 % (n - j - 1) in
    let count : 2 * l.pair + 2 ≡ 2 * (l.pair + 1) = omega arith in
    c.push-in-loop-pair.ensures.items
    ∙ ap (λ items. items ++ first ∷ []) (c.push.ensures.items ∙ ap (λ x. refill (length l.later.items) l.later.items c.pass_over.new.positions ++ x ∷ []) c.passing.ensures)
    ∙ late_two words n k (2 * l.pair) j l.later.items c.as_mut_slice.result.now c.pass_over.new.positions first second l.invariant (omega arith) (omega arith) (omega arith) c.as_mut_slice.ensures.value refl refl c.pass_over.ensures
    ∙ ap (λ done. reverse (picks_from words n (k - done) done)) count

pub pass_over-requires-then-k-eq1 : goal.pass_over-requires-then-k-eq1
pass_over-requires-then-k-eq1 c =
    let l = c.loop-pair in
    rw c.as_mut_slice-then-k-eq1.ensures.value (late_below c.args.words.now c.args.n c.args.k (2 * l.pair) 4294967296 l.later.items l.invariant (omega arith) (omega arith) (omega arith) (omega arith))

pub push-requires-then-k-eq1 : goal.push-requires-then-k-eq1
push-requires-then-k-eq1 c =
    let l = c.loop-pair in
    omega (arith, length_refill (length l.later.items) l.later.items c.pass_over-then-k-eq1.new.positions refl, late_count c.args.words.now c.args.n c.args.k (2 * l.pair) l.later.items l.invariant (omega arith) (omega arith) (omega arith))

-- all picks are late once the first one has been made too, where their number is odd
all_late : (c : goal.After-new-picked) → IsLate c.args.words.now c.args.n c.args.k c.args.k c.if-k-eq1.later.items
all_late c =
    let l = c.loop-pair in
    let words = c.args.words.now in
    let n = c.args.n in
    let k = c.args.k in
    elim c.if-k-eq1.branch [
      | then-k-eq1 w ↦
          ap (λ later. later.items) w.later-is
          ∙ w.push-then-k-eq1.ensures.items
          ∙ late_first words n k (2 * l.pair) 4294967295 l.later.items w.as_mut_slice-then-k-eq1.result.now w.pass_over-then-k-eq1.new.positions (get_or words 0 0 % n) l.invariant (omega arith) (omega arith) (omega arith) (omega arith) w.as_mut_slice-then-k-eq1.ensures.value refl w.pass_over-then-k-eq1.ensures
      | else-k-eq1 w ↦
          let count : 2 * l.pair ≡ k = omega arith in
          ap (λ later. later.items) w.later-is ∙ l.invariant ∙ ap (λ done. reverse (picks_from words n (k - done) done)) count
    ]

pub loop-position-init : goal.loop-position-init
loop-position-init c =
    ap (λ picked. picked ++ reverse c.if-k-eq1.later.items) c.new-picked.ensures ∙ late_all c.args.words.now c.args.n c.args.k c.if-k-eq1.later.items (all_late c)

pub push-requires-in-Some : goal.push-requires-in-Some
push-requires-in-Some c =
    let l = c.loop-position in
    let some : length l.later.items ≡ length c.pop.new.self.items + 1 = ap length c.in-Some.ensures.items ∙ length_push c.pop.new.self.items c.in-Some.position in
    omega (arith, some, turned_count c.args.words.now c.args.n c.args.k l.picked l.later.items l.invariant (omega arith) (omega arith))

-- all are turned round in the end
turned : (c : goal.In_default) → AreApart c.args.n c.args.k c.loop-position.picked
turned c =
    let l = c.loop-position in
    turned_apart c.args.words.now c.args.n c.args.k l.picked l.later.items l.invariant (λ some. false≢true (c.in_default.ensures.variant.1 some)) (omega arith) (omega arith)

pub returns-clause-count : goal.returns-clause-count
returns-clause-count c = (turned c).count

pub returns-clause-below : goal.returns-clause-below
returns-clause-below c = (turned c).below

pub returns-clause-distinct : goal.returns-clause-distinct
returns-clause-distinct c = (turned c).distinct
