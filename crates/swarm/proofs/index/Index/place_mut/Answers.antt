-- What is written is a change of one map, in the words of the index.
use Rattle.std.proofs.Common.{Some, refl, sym, ap, ◌∙◌}
use Rattle.swarm.specs.Index.{place_in}
use Rattle.swarm.proofs.IndexLemmas.{on_lent, place_four, place_six, puts_four, puts_six}
use Rattle.swarm.proofs.index.Index.place_mut.Goals as goal

pub returns-in-Some : goal.returns-in-Some
returns-in-Some c =
    let m = c.args.self.now in
    let who = c.args.who.now in
    let is = sym c.in-Some.ensures in
    let lent = c.get_mut.follows in
    let found = c.get_mut.ensures.value in (
      (
        refl,
        λ w. on_lent c.get_mut.result _ _ found (λ some. puts_four _ c.shorts_in_order.ensures m who c.in-Some.short is (lent.lender w) (Some w) ((lent.holds w).3 some).0),
        λ e. ap (λ t. place_in (record { fours = t; sixes = m.sixes }) e) lent.holds-at-none,
      ),
      record { puts = _; value = found ∙ sym (place_four _ c.shorts_in_order.ensures m who c.in-Some.short is) },
    )

pub returns-in-None : goal.returns-in-None
returns-in-None c =
    let m = c.args.self.now in
    let who = c.args.who.now in
    let is = sym c.in-None.ensures in
    let lent = c.get_mut-in-None.follows in
    let found = c.get_mut-in-None.ensures.value in (
      (
        refl,
        λ w. on_lent c.get_mut-in-None.result _ _ found (λ some. puts_six _ c.endpoints_in_order.ensures m who is (lent.lender w) (Some w) ((lent.holds w).3 some).0),
        λ e. ap (λ t. place_in (record { fours = m.fours; sixes = t }) e) lent.holds-at-none,
      ),
      record { puts = _; value = found ∙ sym (place_six _ c.endpoints_in_order.ensures m who is) },
    )
