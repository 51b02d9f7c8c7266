use Rattle.std.proofs.Common.{◌≡◌, ◌*◌, ◌++◌, ◌∷◌, List, length, take, sym, ◌∙◌, ap, arith}
use Rattle.std.specs.Prelude.{decimal, flat_map}
use Rattle.std.proofs.Math.Seq.{take-length}
use Rattle.std.proofs.lemmas.Grind.{common_steps}
use Rattle.std.proofs.lemmas.List.{append_assoc}
use Rattle.ot_base.specs.declared.address.Endpoint.{Endpoint}
use Rattle.udp_wire.specs.Packets.{peer_bytes}
use Rattle.tracker_core.specs.HttpText.{peer_len_of, peers_key, peers_text}
use Rattle.tracker_core.proofs.PeerLemmas.{longer}
use Rattle.tracker_core.proofs.http_text.append_peers.Goals as goal

pub peers-init : goal.peers-init
peers-init c = record {
  text = rw (
    c.in_ok-push.ensures.items,
    c.in_ok-append_number.ensures,
    c.in_ok-extend_from_slice.ensures.items,
    c.peers_key.ensures,
    c.peer_len.ensures,
  )
      (simp append_assoc);
  long = omega arith;
}

pub peers-preserved : goal.peers-preserved
peers-preserved c = record {
  text = grind (arith, common_steps);
  long = longer c.args.family c.args.peers.now c.peers.peer-index _ (omega arith) c.requires.same c.append_peer.ensures.long c.peers.invariant.long;
}

pub returns : goal.returns
unfolding peers_text
returns c =
    let peers = c.args.peers.now in
    let len = peer_len_of c.args.family in
    let all : c.peers.peer-index ≡ length peers = omega arith in
    let whole : take c.peers.peer-index peers ≡ peers = ap (λ n. take n peers) all ∙ take-length peers in
    let long : length (flat_map peer_bytes peers) ≡ len * length peers =
    sym (ap (λ (ps : List Endpoint). length (flat_map peer_bytes ps)) whole) ∙ c.peers.invariant.long ∙ ap (λ n. len * n) all in
    record {
      text =
          c.peers.invariant.text
          ∙ ap (λ (ps : List Endpoint). c.args.body.now.items ++ (peers_key c.args.family ++ (decimal (len * length peers) ++ 58 ∷ flat_map peer_bytes ps))) whole
          ∙ ap (λ n. c.args.body.now.items ++ (peers_key c.args.family ++ (decimal n ++ 58 ∷ flat_map peer_bytes peers))) (sym long);
      long = long;
    }
