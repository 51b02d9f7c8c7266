-- Nothing of the stale bucket is live or known.
use Rattle.std.proofs.Common.{◌≡◌, true, false, [], ◌∷◌, Some, None, refl, cond}
use Rattle.std.specs.List.{IsDistinct}
use Rattle.std.specs.Option.{option_map, option_map_or}
use Rattle.ot_base.specs.Same.{same_hash, same_endpoint}
use Rattle.ot_base.specs.declared.hash.InfoHash.{InfoHash}
use Rattle.ot_base.specs.declared.address.Endpoint.{Endpoint}
use Rattle.ot_base.specs.declared.peer.Held.{Held}
use Rattle.tracker_model.specs.Examples.{hash_a, peer_p, peer_six, counts, scrape, limited, empty_bucket, stale_bucket, stale_torrent}
use Rattle.tracker_model.specs.Known.{Standing, if_known}
use Rattle.tracker_model.specs.Live.{if_live}
use Rattle.tracker_model.specs.Shape.{Torrent, peers_of, held_of, live_in, known_in}
use Rattle.tracker_model.specs.Stands.{IsTidy, AreTidy}
use Rattle.tracker_model.specs.Steps.{StepsTo}
use Rattle.tracker_model.proofs.JudgedLemmas.{stands_judged}
use Rattle.tracker_model.proofs.StandsLemmas.{stands_first}
use Rattle.tracker_model.proofs.examples.bucket_with_stale_peers.Goals as goal

none_live : (h : InfoHash) (e : Endpoint) → live_in 1440 stale_bucket.torrents h e ≡ None
none_live h e =
    let p : Held = record { who = peer_p; seed = true; stamp = record { 0 = 0 } } in
    let six : Held = record { who = peer_six; seed = false; stamp = record { 0 = 0 } } in
    elim (same_hash h hash_a) as (λ b. if_live 1440 (held_of (option_map_or peers_of (cond b (Some stale_torrent) None) []) e) ≡ None) [
      | true ↦ elim (same_endpoint e peer_p) as (λ b. if_live 1440 (cond b (Some p) (held_of (six ∷ []) e)) ≡ None) [
        | true ↦ refl
        | false ↦ elim (same_endpoint e peer_six) as (λ b. if_live 1440 (cond b (Some six) None) ≡ None) [ true ↦ refl | false ↦ refl ]
      ]
      | false ↦ refl
    ]

none_known : (h : InfoHash) → known_in 1440 stale_bucket.torrents h ≡ None
none_known h =
    elim (same_hash h hash_a) as (λ b. if_known 1440 (option_map (λ (t : Torrent). (let s : Standing = record { touch = t.touch; downloaded = t.downloaded } in s)) (cond b (Some stale_torrent) None)) ≡ None) [
      | true ↦ refl
      | false ↦ refl
    ]

tidy : IsTidy stale_torrent
unfolding IsDistinct
tidy = record { distinct = ((refl, tt), (tt, tt)); in_fours = refl; in_sixes = refl }

all_tidy : AreTidy stale_bucket.torrents
unfolding IsDistinct
all_tidy = record { distinct = (tt, tt); each = (tidy, tt) }

pub returns-clause-in_its_list : goal.returns-clause-in_its_list
returns-clause-in_its_list c = tidy

pub returns-clause-stands : goal.returns-clause-stands
returns-clause-stands c =
    let step : StepsTo (scrape 1440 hash_a (counts 0 0 0) false) empty_bucket stale_bucket = record {
      settings = refl;
      time = refl;
      torrents = record { tidy = all_tidy; peers = none_live; torrents = none_known };
      notes = refl;
      dropped = refl;
    } in
    stands_judged [] (scrape 1440 hash_a (counts 0 0 0) false) empty_bucket stale_bucket (stands_first (limited 9 9)) tt refl step
