-- The nodes of the first places.
use Rattle.std.proofs.Common.{◌≡◌, ◌∙◌, ℕ, ◌+◌, ◌<◌, List, [], ◌∷◌, ◌++◌, ap, get_or, length, take}
use Rattle.std.proofs.lemmas.List.{append-nil, take_more}
use Rattle.std.proofs.lemmas.List.Elements.{filter_map-append}
use Rattle.std.specs.Prelude.{Option, Some, None}
use Rattle.ot_base.specs.declared.address.Endpoint.{Endpoint}
use Rattle.upkeep.specs.Nodes.{nodes_of}

nodes_more : (places : List (Option Endpoint)) (i : ℕ) (d place : Option Endpoint) → i < length places → get_or places i d ≡ place → nodes_of (take (i + 1) places) ≡ nodes_of (take i places) ++ nodes_of (place ∷ [])
nodes_more places i d place below is =
    ap nodes_of (take_more places i d below) ∙ ap (λ p. nodes_of (take i places ++ p ∷ [])) is
    ∙ filter_map-append (λ (p : Option Endpoint). p) (take i places) (place ∷ [])

pub nodes_some : (places : List (Option Endpoint)) (i : ℕ) (d : Option Endpoint) (node : Endpoint) → i < length places → get_or places i d ≡ Some node → nodes_of (take (i + 1) places) ≡ nodes_of (take i places) ++ node ∷ []
nodes_some places i d node below is = nodes_more places i d (Some node) below is

pub nodes_none : (places : List (Option Endpoint)) (i : ℕ) (d : Option Endpoint) → i < length places → get_or places i d ≡ None → nodes_of (take (i + 1) places) ≡ nodes_of (take i places)
nodes_none places i d below is = nodes_more places i d None below is ∙ append-nil (nodes_of (take i places))
