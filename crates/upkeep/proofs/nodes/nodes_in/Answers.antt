use Rattle.std.proofs.Common.{◌∙◌, ◌<◌, ◌∷◌, ◌++◌, [], ap, arith, length, length-append, sym}
use Rattle.std.specs.Prelude.{None}
use Rattle.upkeep.proofs.Places.{nodes_none, nodes_some}
use Rattle.upkeep.proofs.nodes.nodes_in.Goals.{in-Some, in_default}
use Rattle.upkeep.proofs.nodes.nodes_in.Goals as goal

pub loop-place-preserved : goal.loop-place-preserved
loop-place-preserved c =
    let i = c.loop-place.place-index in
    let before = c.loop-place.invariant in
    let below : i < length c.args.settings.now = omega arith in
    elim c.match-place.branch [
      | in-Some w ↦ record {
        nodes = w.nodes-is ∙ w.push.ensures ∙ ap (λ ns. ns ++ w.in-Some.node ∷ []) before.nodes ∙ sym (nodes_some c.args.settings.now i None w.in-Some.node below w.in-Some.is);
        few = omega (arith, before.few, ap length w.nodes-is, ap length w.push.ensures, length-append c.loop-place.nodes (w.in-Some.node ∷ []));
      }
      | in_default w ↦ record {
        nodes = w.nodes-is ∙ before.nodes ∙ sym (nodes_none c.args.settings.now i None below w.in_default.is);
        few = omega (arith, before.few, ap length w.nodes-is);
      }
    ]
