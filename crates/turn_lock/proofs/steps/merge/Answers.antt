use Rattle.std.proofs.Common.{rules, ap, ◌∙◌, subst}
use Rattle.turn_lock.specs.Plays.{IsSettled}
use Rattle.turn_lock.proofs.SplitLemmas.{joins}
use Rattle.turn_lock.proofs.StepLemmas.{settles}
use Rattle.turn_lock.proofs.steps.merge.Goals as goal

pub join_seat-requires : goal.join_seat-requires
join_seat-requires g c = (
  search rules,
  search rules,
  search rules,
  search rules,
  joins g.T.Stands.settings g.T.Stands.stands _ _ _ _ _ _ c.requires.free c.requires.first c.requires.other_free.0 c.requires.second,
)

pub load-requires : goal.load-requires
load-requires g c =
    let now = c.join_seat.ensures.2 in (
      c.join_seat.ensures.0 ∙ c.requires.table.0,
      search rules,
      settles g.T.Stands.settings g.T.Stands.stands _ _ _ _ _ c.args.other.me.0.caller c.args.other.me.0.seen
          (ap (λ m. m.0.stage) now) (ap (λ m. m.0.caller) now ∙ c.requires.first),
    )

pub returns-clause-settled : goal.returns-clause-settled
returns-clause-settled g c =
    let now = c.join_seat.ensures.2 in
    let number = c.args.other.me.0.caller in
    let heard = c.args.other.me.0.seen in
    let told = subst (λ m. IsSettled number heard m c.load.new.seat.me) now (c.load.ensures.2 number heard (ap (λ m. m.0.stage) now)) in
    record {
      know_is = told.know_is;
      slots_are = told.slots_are;
      out_is = told.out_is;
      longer = told.longer;
      goes_on = told.goes_on;
      heard_goes_on = told.heard_goes_on;
      known = told.known;
    }
