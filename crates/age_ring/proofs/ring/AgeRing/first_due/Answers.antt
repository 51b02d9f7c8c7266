-- In the window a slot tells the stamp.
use Rattle.std.proofs.Common.{◌<◌, ◌≤◌, ◌+◌, ap, arith, length}
use Rattle.age_ring.specs.Links.{pairs_of}
use Rattle.age_ring.proofs.Rings.{due_at_first, none_due}
use Rattle.age_ring.proofs.ring.AgeRing.first_due.Goals as goal

pub returns-clause-due : goal.returns-clause-due
returns-clause-due g c =
    let nodes = c.self.inside.lists.nodes.nodes in
    let heads = c.self.inside.lists.heads.items in
    let later : c.self.inside.time < c.args.due = omega (arith, c.requires.later, ap (λ r. r.time) c.self.view_is) in
    let soon : c.args.due ≤ c.self.inside.time + length heads = omega (arith, c.requires.soon, ap (λ r. r.time) c.self.view_is, ap (λ r. r.ages) c.self.view_is) in
    rw (← c.self.view_is) (due_at_first nodes heads c.self.inside.time c.self.inside.lists.nodes.spare c.args.due c.first.result c.self.invariant later soon c.first.ensures.within c.first.ensures.slot)

pub returns-clause-none : goal.returns-clause-none
returns-clause-none g c = rw (← c.self.view_is) (none_due (length c.self.inside.lists.heads.items) c.args.due (pairs_of c.self.inside.lists.nodes.nodes) c.first.result c.first.ensures.none)
