-- Peers and torrents, counted from scratch.
use Rattle.std.specs.Prelude.{ℕ, Bool, false, not, ◌&&◌, List, [], ◌∷◌, Option, Some, None, map, is_some, if◌then◌else◌}
use Rattle.std.specs.List.{filter, filter_map}
use Rattle.std.specs.Ordering.{match_ordering}
use Rattle.std.specs.declared.cmp.Ordering.{Ordering}
use Rattle.std.specs.Set.{distinct_count}
use Rattle.ot_base.specs.Address.{family_of}
use Rattle.ot_base.specs.Order.{hash_cmp}
use Rattle.ot_base.specs.Same.{same_hash, same_endpoint, same_family}
use Rattle.ot_base.specs.declared.hash.InfoHash.{InfoHash}
use Rattle.ot_base.specs.declared.address.Endpoint.{Endpoint}
use Rattle.ot_base.specs.declared.peer.Counts.{Counts}
use Rattle.ot_base.specs.declared.peer.Held.{Held}
use Rattle.ot_base.specs.declared.peer.Row.{Row}
use Rattle.tracker_model.specs.Calls.{subject}
use Rattle.tracker_model.specs.Entries.{time_of}
use Rattle.tracker_model.specs.Known.{is_known, is_seed, downloaded_of}
use Rattle.tracker_model.specs.Live.{live, is_live}
use Rattle.tracker_model.specs.declared.entry.Entry.{Entry}

-- the pairs of torrent and endpoint that the entries report on
abbrev pub subjects : List Entry → List (InfoHash × Endpoint)
subjects past = filter_map (λ x. subject x.call) past

-- the endpoint of a pair, if the pair is of this torrent
abbrev pub endpoint_in : InfoHash → (InfoHash × Endpoint) → Option Endpoint
endpoint_in h s = if same_hash s.0 h then Some s.1 else None

-- the endpoints that were named for a torrent
abbrev pub named_endpoints : List Entry → InfoHash → List Endpoint
named_endpoints past h = filter_map (endpoint_in h) (subjects past)

-- how many endpoints of a torrent pass a test of what is live of them at a minute, each counted
-- once
abbrev pub how_many : (Option Held → Bool) → List Entry → InfoHash → ℕ → ℕ
how_many test past h minute =
    distinct_count same_endpoint
    (filter (λ e. test (live past h e minute)) (named_endpoints past h))

-- a live peer that is no seed
abbrev pub is_leecher : Option Held → Bool
is_leecher None = false
is_leecher (Some held) = not held.seed

-- a torrent's counts now: its live seeds, its downloads, and its other live peers
abbrev pub counts_of : List Entry → InfoHash → Counts
counts_of past h = record {
  complete = how_many is_seed past h (time_of past);
  downloaded = downloaded_of past h;
  incomplete = how_many is_leecher past h (time_of past);
}

-- all live peers of a torrent, of both families
abbrev pub swarm_size : List Entry → InfoHash → ℕ → ℕ
swarm_size past h minute = how_many is_some past h minute

-- whether a live peer may be told to an asker: another one, of its family
abbrev pub may_be_told : Endpoint → Option Held → Bool
may_be_told asker None = false
may_be_told asker (Some held) =
    same_family (family_of held.who.addr) (family_of asker.addr) &&
    not (same_endpoint held.who asker)

-- whether two pairs of torrent and endpoint are the same
abbrev pub same_subject : InfoHash × Endpoint → InfoHash × Endpoint → Bool
same_subject s u = same_hash s.0 u.0 && same_endpoint s.1 u.1

-- the live peers of all torrents now: the pairs of torrent and endpoint, each counted once
abbrev pub live_count : List Entry → ℕ
live_count past =
    distinct_count same_subject (filter (λ s. is_live past s.0 s.1 (time_of past)) (subjects past))

-- the torrents that are known at a minute, as often as they were named
abbrev pub known_hashes : List Entry → ℕ → List InfoHash
known_hashes past minute = filter (λ h. is_known past h minute) (map (λ s. s.0) (subjects past))

-- how many torrents are known at a minute
abbrev pub known_count : List Entry → ℕ → ℕ
known_count past minute = distinct_count same_hash (known_hashes past minute)

-- an element put into its place in an ascending list, if it isn't there
abbrev pub put_in_order : {X : Type 0} → (X → X → Ordering) → X → List X → List X
put_in_order cmp x [] = x ∷ []
put_in_order cmp x (y ∷ ys) =
    match_ordering (cmp x y) (x ∷ y ∷ ys) (y ∷ ys) (y ∷ put_in_order cmp x ys)

-- the elements of a list in ascending order, each once
abbrev pub ascending : {X : Type 0} → (X → X → Ordering) → List X → List X
ascending cmp [] = []
ascending cmp (x ∷ xs) = put_in_order cmp x (ascending cmp xs)

-- the known torrents with their counts now, ascending by hash
abbrev pub rows_of : List Entry → List Row
rows_of past =
    map (λ h. record { hash = h; counts = counts_of past h })
    (ascending hash_cmp (known_hashes past (time_of past)))
