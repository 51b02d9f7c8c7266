-- Tests of being the same, which compute.
use Rattle.std.specs.Prelude.{Bool, true, false, ◌&&◌, ◌==◌}
use Rattle.std.specs.Str.{bytes_eq}
use Rattle.ot_base.specs.declared.hash.InfoHash.{InfoHash}
use Rattle.ot_base.specs.declared.address.Addr.{Addr}
use Rattle.ot_base.specs.declared.address.Addr.TheVariants.{V4, V6}
use Rattle.ot_base.specs.declared.address.Endpoint.{Endpoint}
use Rattle.ot_base.specs.declared.address.Family.{Family}
use Rattle.ot_base.specs.declared.address.Family.TheVariants.{Four, Six}

abbrev pub same_hash : InfoHash → InfoHash → Bool
same_hash a b = bytes_eq a.0 b.0

abbrev pub same_address : Addr → Addr → Bool
same_address (V4 a) (V4 b) = bytes_eq a b
same_address (V4 a) (V6 b) = false
same_address (V6 a) (V4 b) = false
same_address (V6 a) (V6 b) = bytes_eq a b

abbrev pub same_endpoint : Endpoint → Endpoint → Bool
same_endpoint a b = same_address a.addr b.addr && (a.port == b.port)

abbrev pub same_family : Family → Family → Bool
same_family Four Four = true
same_family Four Six = false
same_family Six Four = false
same_family Six Six = true
