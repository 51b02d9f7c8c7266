use Rattle.std.proofs.Common.{◌≡◌, [], ◌∷◌, ◌++◌, List, map, sym, ap, ◌∙◌, append-nil, append_assoc, arith}
use Rattle.std.proofs.lemmas.Grind.{elements}
use Rattle.shards.specs.Shape.{PassShape}
use Rattle.drill.specs.declared.worker.Worker.{Worker}
use Rattle.shards.proofs.JoiningLemmas.{none_joined, one_more_joined}
use Rattle.drill.proofs.phase.join_all.Goals as goal

pub loop-worker-init : goal.loop-worker-init
loop-worker-init c = record {
  of_shards = c.requires.pass;
  first = c.requires.first;
  known = c.requires.known;
  joining = record { done = []; cut = sym (append-nil c.args.team.items); joined = none_joined c.args.pass.now };
  passes = c.requires.passes;
}

pub loop-worker-preserved : goal.loop-worker-preserved
loop-worker-preserved c =
    let was = c.loop-worker.invariant in
    let worker = c.in-Some.worker in
    let rest = c.pop.new.self.items in
    let done = was.joining.done in
    let joins = c.join.ensures in
    record {
      of_shards = ap (λ (p : PassShape). p.shards) joins.pass ∙ was.of_shards;
      first = ap (λ (p : PassShape). p.caller) joins.pass ∙ was.first;
      known = joins.known;
      joining = record {
        done = worker ∷ done;
        cut = was.joining.cut ∙ ap (λ (l : List Worker). l ++ done) c.in-Some.ensures.items ∙ append_assoc rest (worker ∷ []) done;
        joined = one_more_joined (map (λ (w : Worker). w.pass) done) worker.pass c.args.pass.now c.loop-worker.pass c.join.new.pass was.joining.joined joins.pass joins.out joins.buckets joins.seen;
      };
      passes = grind (arith, elements);
    }
