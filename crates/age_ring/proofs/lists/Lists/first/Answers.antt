-- At the slot of the stamp stands a linked place, or none.
use Rattle.std.proofs.Common.{◌<◌, ◌%◌, ◌∙◌, sym, length, arith}
use Rattle.age_ring.proofs.Nodes.{head_of}
use Rattle.age_ring.proofs.Rings.{none_in_slot}
use Rattle.age_ring.proofs.lists.Lists.first.Goals as goal

pub returns-then-head-clause-none : goal.returns-then-head-clause-none
returns-then-head-clause-none g c =
    let heads = c.args.self.now.heads.items in
    let slot = c.args.stamp % length heads in
    let is = head_of heads c.args.stamp c.len.result c.index-head.result.now (omega (arith, c.len.ensures, c.args.self.now.heads.ok.0)) (omega (arith, c.requires.within 0)) c.index-head.ensures in
    none_in_slot c.args.self.now.nodes.nodes heads slot c.requires (is ∙ c.if-head.true)

pub returns-else-head-clause-within : goal.returns-else-head-clause-within
returns-else-head-clause-within g c =
    let heads = c.args.self.now.heads.items in
    let slot = c.args.stamp % length heads in
    let inside : slot < length heads = omega (arith, c.requires.within 0) in
    let is = head_of heads c.args.stamp c.len.result c.index-head.result.now (omega (arith, c.len.ensures, c.args.self.now.heads.ok.0)) (omega (arith, c.requires.within 0)) c.index-head.ensures in
    let first = c.requires.heads slot inside (λ e. c.if-head.false (sym is ∙ e)) in
    omega (arith, first.0, is)

pub returns-else-head-clause-slot : goal.returns-else-head-clause-slot
returns-else-head-clause-slot g c =
    let heads = c.args.self.now.heads.items in
    let slot = c.args.stamp % length heads in
    let inside : slot < length heads = omega (arith, c.requires.within 0) in
    let is = head_of heads c.args.stamp c.len.result c.index-head.result.now (omega (arith, c.len.ensures, c.args.self.now.heads.ok.0)) (omega (arith, c.requires.within 0)) c.index-head.ensures in
    let first = c.requires.heads slot inside (λ e. c.if-head.false (sym is ∙ e)) in
    rw (← is) first.3
