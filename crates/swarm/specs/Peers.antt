-- Peers of one family in their order.
use Rattle.std.specs.Prelude.{ℕ, ◌+◌, Bool, false, not, List, [], ◌∷◌, ◌++◌, Option, Some, None}
use Rattle.std.specs.Prelude.{if◌then◌else◌, length, map, min, nat_le, nat_lt, position}
use Rattle.std.specs.Prelude.{remove, slice_index_or, slice_set, swap_remove, filter}
use Rattle.std.specs.Option.{option_map_or}
use Rattle.ot_base.specs.Address.{no_endpoint}
use Rattle.ot_base.specs.Same.{same_endpoint}
use Rattle.ot_base.specs.declared.address.Endpoint.{Endpoint}
use Rattle.ot_base.specs.declared.peer.Held.{Held}
use Rattle.pick.specs.Picks.{picks}
use Rattle.swarm.specs.declared.members.Put.{Put}
use Rattle.swarm.specs.declared.members.Put.TheVariants.{Fresh, Again}
use Rattle.swarm.specs.declared.members.TheConstants.{PEER_AGES}

abbrev pub is_of : Endpoint → Held → Bool
is_of who peer = same_endpoint who peer.who

-- where an endpoint stands
abbrev pub place_of : Endpoint → List Held → Option ℕ
place_of who peers = position (is_of who) peers

-- the peers with one in the place of the one of its endpoint, or else at the end
abbrev pub put_peer : Held → List Held → List Held
put_peer peer peers =
    option_map_or (λ i. slice_set peers i peer) (place_of peer.who peers) (peers ++ peer ∷ [])

-- a peer that no list has
abbrev pub no_peer : Held
no_peer = record { who = no_endpoint; seed = false; stamp = record { 0 = 0 } }

-- the peers without the one of an endpoint: the last one moves into its place
abbrev pub without_peer : Endpoint → List Held → List Held
without_peer who peers = option_map_or (λ i. swap_remove peers i no_peer) (place_of who peers) peers

-- what putting a peer answers, by the one that its endpoint had
abbrev pub put_answer : Option Held → Put
put_answer None = Fresh
put_answer (Some peer) = Again peer.seed

-- whether a peer was heard of less than so many minutes ago
abbrev pub is_young : ℕ → Held → Bool
is_young time peer = nat_lt time (peer.stamp.0 + PEER_AGES)

-- a peer, if it is young
abbrev pub if_young : ℕ → Option Held → Option Held
if_young time None = None
if_young time (Some peer) = if is_young time peer then Some peer else None

abbrev pub one_if : Bool → ℕ
one_if b = if b then 1 else 0

-- 1 for a seed, and for another peer
abbrev pub seed_one : Held → ℕ
seed_one peer = one_if peer.seed

abbrev pub other_one : Held → ℕ
other_one peer = one_if (not peer.seed)

abbrev pub endpoints_of : List Held → List Endpoint
endpoints_of peers = map (λ peer. peer.who) peers

-- the endpoints in their order, without the asker
abbrev pub others : Endpoint → List Held → List Endpoint
others asker peers = filter (λ e. not (same_endpoint asker e)) (endpoints_of peers)

-- the elements that don't stand at a place
abbrev pub without : {X : Type 0} → Option ℕ → List X → List X
without place xs = option_map_or (λ i. remove xs i) place xs

-- where the element stands that stands at a position among those
abbrev pub place_past : Option ℕ → ℕ → ℕ
place_past place position =
    option_map_or (λ i. if nat_le i position then position + 1 else position) place position

-- the others that the words choose
abbrev pub choice_of : List ℕ → Endpoint → ℕ → List Held → List Endpoint
choice_of words asker want peers =
    let rest = others asker peers in
    let picked = picks words (length rest) (min want (length rest)) in
    map (λ p. slice_index_or rest p no_endpoint) picked
