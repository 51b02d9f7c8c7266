-- The sum over those so far, and each has a million peers at most.
use Rattle.std.proofs.Common.{◌≡◌, ◌*◌, ◌≤◌, take}
use Rattle.std.specs.List.{sum_by}
use Rattle.swarm.specs.Shape.{peer_count}
use Rattle.swarm.specs.declared.members.TheConstants.{MOST_PEERS}
use Rattle.bucket.specs.declared.stored.Stored.{Stored}
use Rattle.bucket.proofs.stored.peers_held.Given as goal

abbrev pub invariant-loop-stored : goal.invariant-loop-stored
invariant-loop-stored l = record {
  so_far : l.total ≡ sum_by (λ (stored : Stored). peer_count stored.swarm) (take l.stored-index l.list);
  few : l.total ≤ l.stored-index * MOST_PEERS;
}
