-- Told are the items at the picks that the loop has passed.
use Rattle.std.proofs.Common.{◌≡◌, map, take, get_or}
use Rattle.age_ring.specs.Ring.{items_of}
use Rattle.ot_base.specs.Address.{no_endpoint}
use Rattle.swarm.specs.Peers.{without}
use Rattle.swarm.proofs.choice.choose_others.Given as goal

abbrev pub invariant-loop-position : goal.invariant-loop-position
invariant-loop-position l = l.peers ≡ map (λ p. get_or (without l.place (items_of l.order.pairs)) p no_endpoint) (take l.position-index l.position-items)
