use Rattle.std.proofs.Common.{◌≡◌, Bool, true, false, ◌&&◌, [], ◌∷◌, Some, None, refl, sym, ◌∙◌, ap, arith, cond}
use Rattle.std.specs.List.{IsDistinct}
use Rattle.std.specs.Option.{option_map, option_map_or}
use Rattle.ot_base.specs.Same.{same_hash, same_endpoint}
use Rattle.ot_base.proofs.SameLemmas.{same_hash_laws, same_endpoint_laws}
use Rattle.ot_base.specs.declared.hash.InfoHash.{InfoHash}
use Rattle.ot_base.specs.declared.address.Endpoint.{Endpoint}
use Rattle.ot_base.specs.declared.peer.Held.{Held}
use Rattle.tracker_model.specs.Counted.{same_subject}
use Rattle.tracker_model.specs.Examples.{hash_a, peer_p, counts, seed, limited, empty_bucket, seeded_bucket}
use Rattle.tracker_model.specs.Known.{Standing, if_known}
use Rattle.tracker_model.specs.Live.{if_live}
use Rattle.tracker_model.specs.Shape.{Torrent, peers_of, held_of, live_in, known_in}
use Rattle.tracker_model.specs.Stands.{AreTidy}
use Rattle.tracker_model.specs.Steps.{StepsTo}
use Rattle.tracker_model.proofs.Cases.{by_test}
use Rattle.tracker_model.proofs.JudgedLemmas.{stands_judged}
use Rattle.tracker_model.proofs.StandsLemmas.{stands_first}
use Rattle.tracker_model.proofs.examples.bucket_after_announce.Goals as goal

-- nothing is live but P in A
others : (k : InfoHash) (d : Endpoint) → same_subject (hash_a, peer_p) (k, d) ≡ false → live_in 3 seeded_bucket.torrents k d ≡ None
others k d apart =
    let p : Held = record { who = peer_p; seed = true; stamp = record { 0 = 3 } } in
    let torrent : Torrent = record { hash = hash_a; touch = 3; downloaded = 0; fours = p ∷ []; sixes = [] } in
    let found = λ (b : Bool). if_live 3 (held_of (option_map_or peers_of (cond b (Some torrent) None) []) d) in
    by_test (same_hash hash_a k) (live_in 3 seeded_bucket.torrents k d ≡ None)
    (λ same.
    let other : same_endpoint peer_p d ≡ false = sym (ap (λ b. b && same_endpoint peer_p d) same) ∙ apart in
    ap found (same_hash_laws.symm k hash_a ∙ same) ∙ ap (λ b. if_live 3 (cond b (Some p) None)) (same_endpoint_laws.symm d peer_p ∙ other))
    (λ differ. ap found (same_hash_laws.symm k hash_a ∙ differ))

-- nothing is known but A
unknown : (k : InfoHash) → same_hash hash_a k ≡ false → known_in 3 seeded_bucket.torrents k ≡ None
unknown k apart =
    let p : Held = record { who = peer_p; seed = true; stamp = record { 0 = 3 } } in
    let torrent : Torrent = record { hash = hash_a; touch = 3; downloaded = 0; fours = p ∷ []; sixes = [] } in
    ap (λ b. if_known 3 (option_map (λ (t : Torrent). (let s : Standing = record { touch = t.touch; downloaded = t.downloaded } in s)) (cond b (Some torrent) None))) (same_hash_laws.symm k hash_a ∙ apart)

tidy : AreTidy seeded_bucket.torrents
unfolding IsDistinct
tidy = record { distinct = (tt, tt); each = (record { distinct = (tt, tt); in_fours = refl; in_sixes = refl }, tt) }

announced : StepsTo (seed 3 hash_a peer_p (counts 1 0 0) []) empty_bucket seeded_bucket
announced = record {
  settings = refl;
  time = refl;
  torrents = record { tidy = tidy; peer = refl; other_peers = others; torrent = refl; other_torrents = unknown };
  notes = refl;
  dropped = refl;
}

pub returns-clause-before : goal.returns-clause-before
returns-clause-before c = stands_first (limited 9 9)

pub returns-clause-step : goal.returns-clause-step
returns-clause-step c = announced

pub returns-clause-after : goal.returns-clause-after
returns-clause-after c =
    stands_judged [] (seed 3 hash_a peer_p (counts 1 0 0) []) empty_bucket seeded_bucket (stands_first (limited 9 9))
    ((λ completed. refl), (omega arith), ((λ e. absurd (let p : ⊥ = omega arith in p)), refl))
    (refl, record { distinct = refl; drawn = refl; as_many = refl })
    announced
