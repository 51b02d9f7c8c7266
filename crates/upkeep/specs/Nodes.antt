-- The other nodes.
use Rattle.std.specs.Prelude.{Bool, List, Option}
use Rattle.std.specs.List.{filter_map, list_any}
use Rattle.ot_base.specs.Same.{same_endpoint}
use Rattle.ot_base.specs.declared.address.Endpoint.{Endpoint}

-- the nodes of the settings, in order
abbrev pub nodes_of : List (Option Endpoint) → List Endpoint
nodes_of places = filter_map (λ place. place) places

-- whether an endpoint is a node's
abbrev pub is_among : List Endpoint → Endpoint → Bool
is_among nodes who = list_any (λ node. same_endpoint node who) nodes
