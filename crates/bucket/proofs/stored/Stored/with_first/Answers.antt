-- One peer, and the limit is one at least.
use Rattle.std.proofs.Common.{◌≡◌, inr, ap, arith, ◌∙◌}
use Rattle.swarm.specs.Shape.{peer_count}
use Rattle.bucket.specs.Stored.{empty_stored, put_stored}
use Rattle.bucket.specs.declared.stored.Stored.{Stored}
use Rattle.bucket.proofs.JoinLemmas.{put_few, put_time}
use Rattle.bucket.proofs.stored.Stored.with_first.Goals as goal

pub returns-clause-fit : goal.returns-clause-fit
returns-clause-fit g c = λ limit some.
    let first = empty_stored c.args.now.0 in
    let is : c.put.new.self ≡ put_stored c.args.joining.now first = c.in_ok-put.ensures.ok ∙ ap (λ s. put_stored c.args.joining.now s) c.in_ok-stored.ensures in
    let few = put_few limit c.args.joining.now first (inr (omega arith)) (omega arith) in
    record {
      past = omega (arith, put_time c.args.joining.now first, ap (λ (s : Stored). s.swarm.time) is);
      few = omega (arith, few, ap (λ (s : Stored). peer_count s.swarm) is);
      tidy = c.put.ensures.tidy;
    }
