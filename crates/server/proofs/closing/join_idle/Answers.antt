-- One pass more was joined, the last of those that were left.
use Rattle.std.proofs.Common.{[], ◌∷◌, ◌++◌, List, sym, ap, ◌∙◌, append-nil, append_assoc, arith}
use Rattle.std.proofs.lemmas.Grind.{elements}
use Rattle.shards.specs.Shape.{PassShape}
use Rattle.shards.proofs.JoiningLemmas.{joined_further, none_joined}
use Rattle.server.proofs.closing.join_idle.Goals as goal

pub loop-other-init : goal.loop-other-init
loop-other-init c = record {
  of_shards = c.requires.pass;
  first = c.requires.first;
  known = c.requires.known;
  joining = ([], sym (append-nil c.args.idle.items), none_joined c.args.pass.now);
  idle = c.requires.idle;
}

pub loop-other-preserved : goal.loop-other-preserved
loop-other-preserved c =
    let was = c.loop-other.invariant in
    let other = c.in-Some.other in
    let rest = c.pop.new.self.items in
    let done = was.joining.0 in
    let joins = c.join_one.ensures.joined in
    record {
      of_shards = ap (λ (p : PassShape). p.shards) joins.pass ∙ was.of_shards;
      first = ap (λ (p : PassShape). p.caller) joins.pass ∙ was.first;
      known = c.join_one.ensures.known;
      joining = (
        other ∷ done,
        was.joining.1 ∙ ap (λ (l : List PassShape). l ++ done) c.in-Some.ensures.items ∙ append_assoc rest (other ∷ []) done,
        joined_further done (other ∷ []) c.args.pass.now c.loop-other.pass c.join_one.new.pass was.joining.2 joins,
      );
      idle = grind (arith, elements);
    }
