-- The index of one family's peers, as a function from endpoints.
use Rattle.std.specs.Prelude.{◌≡◌, ◌≢◌, ℕ, Bool, false, List, Option, Some, None, OnSome, slice_get}
use Rattle.std.specs.Borrow.{Fml, LendsSo, MutBor}
use Rattle.std.specs.Option.{option_map, option_map_or}
use Rattle.std.specs.BTreeMap as tree
use Rattle.ot_base.specs.Order.{endpoint_cmp}
use Rattle.ot_base.specs.declared.address.Endpoint.{Endpoint}
use Rattle.swarm.specs.contracts.index.Index.{the_row as index_row}
use Rattle.swarm.specs.contracts.index.Place.{the_row as place_row}
use Rattle.swarm.specs.declared.index.Index.{Index}
use Rattle.swarm.specs.declared.index.Place.{Place}
use Rattle.swarm.specs.declared.short.Short.{Short}
use Rattle.swarm.specs.Short.{short_cmp, short_of}

-- the place of an endpoint, whose short form is given if it has one
abbrev pub place_by : Index → Endpoint → Option Short → Option Place
place_by index who (Some short) = tree.get short_cmp index.fours short
place_by index who None = tree.get endpoint_cmp index.sixes who

-- the place of an endpoint
abbrev pub place_in : Index → Endpoint → Option Place
place_in index who = place_by index who (short_of who)

-- an endpoint has another place, or none, and the others keep theirs
pub record Puts (old new : Endpoint → Option Place) (who : Endpoint) (place : Option Place)
    : Type 0 where
  pub here : new who ≡ place
  pub others : (e : Endpoint) → e ≢ who → new e ≡ old e

-- the place of an endpoint is lent: what is written is its place, and the others keep theirs;
-- where it has none, all do
abbrev pub LendsPlace : MutBor Index → Endpoint → Option (MutBor Place) → Fml
LendsPlace index who lent =
    LendsSo index_row place_row index lent (λ n w. OnSome lent (Puts (place_in index.now) (place_in n) who (Some w))) (λ n. (e : Endpoint) → place_in n e ≡ place_in index.now e)

abbrev pub at_place : ℕ → Option Place → Option Place
at_place at place = option_map (λ p. record { at = at; seed = p.seed }) place

abbrev pub with_seed : Bool → Option Place → Option Place
with_seed seed place = option_map (λ p. record { at = p.at; seed = seed }) place

abbrev pub at_of : Option Place → Option ℕ
at_of place = option_map (λ p. p.at) place

abbrev pub seed_of : Option Place → Bool
seed_of place = option_map_or (λ p. p.seed) place false

-- the index tells where each endpoint stands: so each stands at one place alone
pub record IsIndexed (names : List Endpoint) (look : Endpoint → Option Place) : Type 0 where
  pub found : (e : Endpoint) (i : ℕ) → slice_get names i ≡ Some e → at_of (look e) ≡ Some i
  pub there : (e : Endpoint) (i : ℕ) → at_of (look e) ≡ Some i → slice_get names i ≡ Some e
