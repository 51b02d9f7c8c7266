use Rattle.std.proofs.Common.{◌≡◌, ◌*◌, ◌≤◌, ◌++◌, List, ℕ, length, sym, subst, ap}
use Rattle.std.specs.Prelude.{codes, flat_map}
use Rattle.std.proofs.lemmas.List.{append_assoc}
use Rattle.ot_base.specs.declared.address.Endpoint.{Endpoint}
use Rattle.udp_wire.specs.Packets.{peer_bytes}
use Rattle.bencode_text.specs.Bencode.{IsCanonical}
use Rattle.tracker_core.specs.HttpText.{counts_text, peer_len_of, peers_text, told_body}
use Rattle.tracker_core.proofs.BodyLemmas.{short_peers, told_canonical}
use Rattle.tracker_core.proofs.http_text.told_body.Goals as goal

regroup : (a b c d : List ℕ) → ((a ++ b) ++ c) ++ d ≡ a ++ (b ++ (c ++ d))
regroup a b c d = simp append_assoc

pub returns-clause-text : goal.returns-clause-text
unfolding told_body
returns-clause-text c =
    rw (
      c.from.ensures,
      c.in_ok-push-2.ensures.items,
      c.in_ok-append_peers.ensures.text,
      c.in_ok-extend_from_slice.ensures.items,
      c.in_ok-append_counts.ensures.text,
      c.in_ok-push.ensures.items,
      c.in_ok-body.ensures.items,
      c.as_slice-peers.ensures.value,
    )
    (ap (λ t. codes "d" ++ t)
    (regroup (counts_text c.args.counts) (codes "8:intervali1800e12:min intervali900e") (peers_text c.args.family c.args.peers.now) (codes "e")))

pub returns-clause-canonical : goal.returns-clause-canonical
returns-clause-canonical c =
    let Few : List Endpoint → Type 0 = λ peers. length peers ≤ 200 in
    let Long : List Endpoint → Type 0 = λ peers. length (flat_map peer_bytes peers) ≡ peer_len_of c.args.family * length peers in
    let few = subst Few c.as_slice-peers.ensures.value c.as_slice-peers.ensures.fits in
    let long = subst Long c.as_slice-peers.ensures.value c.in_ok-append_peers.ensures.long in
    subst IsCanonical (sym (returns-clause-text c))
    (told_canonical c.args.family c.args.counts c.args.peers.now c.append_counts.ensures.small (short_peers c.args.family c.args.peers.now few long))
