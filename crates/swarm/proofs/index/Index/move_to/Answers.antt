-- What is written is the changed place.
use Rattle.std.proofs.Common.{Option, MutBor, OnSome, Some, sym, ap, subst}
use Rattle.swarm.specs.Index.{Puts, place_in, at_place}
use Rattle.swarm.specs.declared.index.Place.{Place}
use Rattle.swarm.proofs.IndexLemmas.{puts_as}
use Rattle.swarm.proofs.index.Index.move_to.Goals as goal

pub returns-in-Some : goal.returns-in-Some
returns-in-Some c =
    let who = c.args.who.now in
    let old = place_in c.args.self.now in
    let w : Place = record { at = c.args.at; seed = c.in-Some.place.now.seed } in
    let new = place_in (c.place_mut.follows.lender w) in
    let P : Option (MutBor Place) → Type 0 = λ r. OnSome r (Puts old new who (Some w)) in
    puts_as old new who (at_place c.args.at (old who)) (Some w) (sym (ap (λ o. at_place c.args.at o) c.in-Some.ensures.value)) (subst P c.in-Some.is (c.place_mut.follows.holds w))
