-- A swarm, as contracts see it.
use Rattle.std.specs.Prelude.{◌≡◌, ℕ, ◌+◌, ◌≤◌, All, List, length}
use Rattle.ot_base.specs.Address.{family_of}
use Rattle.ot_base.specs.declared.address.Family.{Family}
use Rattle.ot_base.specs.declared.address.Family.TheVariants.{Four, Six}
use Rattle.ot_base.specs.declared.peer.Held.{Held}
use Rattle.swarm.specs.Members.{HeldAt}
use Rattle.swarm.specs.declared.members.TheConstants.{MOST_PEERS}

pub record Shape : Type 0 where
  -- the peers of each family, in their order
  pub fours : List Held
  pub sixes : List Held
  pub time : ℕ

abbrev pub of_family : Family → Shape → List Held
of_family Four swarm = swarm.fours
of_family Six swarm = swarm.sixes

-- with other peers of a family
abbrev pub with_family : Family → Shape → List Held → Shape
with_family Four swarm peers = record swarm { fours = peers }
with_family Six swarm peers = record swarm { sixes = peers }

-- how many peers of both families there are
abbrev pub peer_count : Shape → ℕ
peer_count swarm = length swarm.fours + length swarm.sixes

abbrev pub AreOf : Family → List Held → Type 0
AreOf family peers = All (λ peer. family_of peer.who.addr ≡ family) peers

-- what keeps the two families together
pub record AreTogether (fours sixes : HeldAt) : Type 0 where
  pub same_time : sixes.time ≡ fours.time
  pub four : AreOf Four fours.peers
  pub six : AreOf Six sixes.peers
  pub few : length fours.peers + length sixes.peers ≤ MOST_PEERS
