-- What caller 0 has after two splits.
use Rattle.std.proofs.Common.{rules, ◌≡◌, ◌∙◌, ◌+◌, sym, ap, subst, arith}
use Rattle.shards.specs.Shape.{KnowsNumbers, PassShape, first_pass, new_passes}
use Rattle.server.proofs.ServedLemmas.{none_known}
use Rattle.server.proofs.opening.open_shards.Goals as goal

pub returns : goal.returns
returns g c =
    let shards = c.in_ok-shards.shards in
    let jobs = c.args.jobs in
    let zero : c.in_ok-shards.pass ≡ first_pass shards = c.in_ok-shards.ensures.pass in
    let one : c.split.new.pass ≡ record (first_pass shards) { free = 2; out = 1 } =
    c.in_ok-idle.ensures.pass ∙ ap (λ (p : PassShape). record p { free = p.free + 1; out = p.out + 1 }) zero in
    let two : c.split-2.new.pass ≡ record (first_pass shards) { free = 2 + jobs; out = 1 + jobs } =
    c.in_ok-passes.ensures.pass ∙ ap (λ (p : PassShape). record p { free = p.free + jobs; out = p.out + jobs }) one in
    record {
      settings_are = search rules;
      bits = search rules;
      pass = two;
      known = subst KnowsNumbers (sym two) (none_known shards (2 + jobs) (1 + jobs) (let e : shards.callers ≡ 2 + jobs = c.in_ok-shards.ensures.callers in omega arith));
      idle = c.in_ok-idle.ensures.passes ∙ ap (λ (p : PassShape). new_passes p 1) zero;
      passes = c.in_ok-passes.ensures.passes ∙ ap (λ (p : PassShape). new_passes p jobs) one;
      empty = c.in_ok-room.ensures.items;
      room = search rules;
    }
