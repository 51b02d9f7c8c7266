-- The bytes of peers of one family.
use Rattle.std.proofs.Common.{◌≡◌, ℕ, ◌+◌, ◌*◌, ◌<◌, List, [], ◌∷◌, ◌++◌, All, length, get_or, take, refl, ◌∙◌, ap, arith, length-append}
use Rattle.std.specs.Prelude.{flat_map}
use Rattle.std.proofs.lemmas.Grind.{flat_map-append}
use Rattle.std.proofs.lemmas.List.{append-nil, take_more}
use Rattle.std.proofs.lemmas.List.Elements.{All-get_or}
use Rattle.ot_base.specs.Address.{family_of}
use Rattle.ot_base.specs.declared.address.Addr.{Addr}
use Rattle.ot_base.specs.declared.address.Addr.TheVariants.{V4, V6}
use Rattle.ot_base.specs.declared.address.Endpoint.{Endpoint}
use Rattle.ot_base.specs.declared.address.Family.{Family}
use Rattle.udp_wire.specs.Packets.{peer_bytes, peer_len}
use Rattle.tracker_core.specs.HttpText.{peer_len_of}

peer_len-of : (addr : Addr) → peer_len addr ≡ peer_len_of (family_of addr)
peer_len-of (V4 bytes) = refl
peer_len-of (V6 bytes) = refl

-- one more peer
pub longer : (family : Family) (peers : List Endpoint) (i : ℕ) (d : Endpoint) → i < length peers → All (λ peer. family_of peer.addr ≡ family) peers
    → length (peer_bytes (get_or peers i d)) ≡ peer_len (get_or peers i d).addr
    → length (flat_map peer_bytes (take i peers)) ≡ peer_len_of family * i
    → length (flat_map peer_bytes (take (i + 1) peers)) ≡ peer_len_of family * (i + 1)
longer family peers i d inside same long before =
    let peer = get_or peers i d in
    let as_long : length (peer_bytes peer) ≡ peer_len_of family =
    long ∙ peer_len-of peer.addr ∙ ap peer_len_of (All-get_or (λ p. family_of p.addr ≡ family) peers i d inside same) in
    let split : flat_map peer_bytes (take (i + 1) peers) ≡ flat_map peer_bytes (take i peers) ++ (peer_bytes peer ++ []) =
    ap (flat_map peer_bytes) (take_more peers i d inside) ∙ flat_map-append peer_bytes (take i peers) (peer ∷ []) in
    omega (
      arith,
      ap length split,
      length-append (flat_map peer_bytes (take i peers)) (peer_bytes peer ++ []),
      ap length (append-nil (peer_bytes peer)),
      as_long,
      before,
    )
