-- What is written is the changed place.
use Rattle.std.proofs.Common.{Option, MutBor, OnSome, Some, sym, ap, subst}
use Rattle.swarm.specs.Index.{Puts, place_in, with_seed}
use Rattle.swarm.specs.declared.index.Place.{Place}
use Rattle.swarm.proofs.IndexLemmas.{puts_as}
use Rattle.swarm.proofs.index.Index.set_seed.Goals as goal

pub returns-in-Some : goal.returns-in-Some
returns-in-Some c =
    let who = c.args.who.now in
    let old = place_in c.args.self.now in
    let w : Place = record { at = c.in-Some.place.now.at; seed = c.args.seed } in
    let new = place_in (c.place_mut.follows.lender w) in
    let P : Option (MutBor Place) → Type 0 = λ r. OnSome r (Puts old new who (Some w)) in
    puts_as old new who (with_seed c.args.seed (old who)) (Some w) (sym (ap (λ o. with_seed c.args.seed o) c.in-Some.ensures.value)) (subst P c.in-Some.is (c.place_mut.follows.holds w))
