use Rattle.std.proofs.Common.{◌≡◌, ◌∷◌, ◌+◌, ◌-◌, ◌*◌, ◌/◌, ℕ, suc, refl, sym, ap, ◌∙◌, arith}
use Rattle.rand_pcg.specs.Lcg.{Lcg}
use Rattle.rand_pcg.specs.Pcg.{pcg32}
use Rattle.load_model.specs.Load.{drawn, phased}
use Rattle.load_model.proofs.load.Load.next_in.Goals as goal

pub returns-clause-some : goal.returns-clause-some
returns-clause-some c =
    let l = c.self.inside in
    let left : l.count - l.next ≡ suc (l.count - (l.next + 1)) = (let fits = c.self.invariant.0 in let more = c.if-self.false in omega arith) in
    let phase : l.next * 8 / l.count ≡ c.args.phase = (let same = c.if-self-phase.false in omega arith) in
    let first = ap (λ (p : ℕ × Lcg). p.0) c.next_word.ensures in
    let middle = ap (λ (p : ℕ × Lcg). p.1) c.next_word.ensures in
    let second = ap (λ (p : ℕ × Lcg). p.0) c.next_word-2.ensures ∙ ap (λ g. (pcg32 g).0) middle in
    let last = ap (λ (p : ℕ × Lcg). p.1) c.next_word-2.ensures ∙ ap (λ g. (pcg32 g).1) middle in
    sym c.self.view_is ∙ ap (λ n. phased l.count l.next (drawn l.generator n)) left
    ∙ (λ k. (phase k, record { first = sym first k; second = sym second k }) ∷ phased l.count (l.next + 1) (drawn (sym last k) (l.count - (l.next + 1))))
