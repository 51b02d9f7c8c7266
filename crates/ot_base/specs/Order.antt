-- The orders of hashes and endpoints, which compute.
use Rattle.std.specs.declared.cmp.Ordering.{Ordering}
use Rattle.std.specs.declared.cmp.Ordering.TheVariants.{Less, Greater}
use Rattle.std.specs.Ordering.{nat_cmp, ordering_then}
use Rattle.std.specs.Cmp.Lexicographic.{slice_cmp}
use Rattle.ot_base.specs.declared.hash.InfoHash.{InfoHash}
use Rattle.ot_base.specs.declared.address.Addr.{Addr}
use Rattle.ot_base.specs.declared.address.Addr.TheVariants.{V4, V6}
use Rattle.ot_base.specs.declared.address.Endpoint.{Endpoint}

-- by bytes
abbrev pub hash_cmp : InfoHash → InfoHash → Ordering
hash_cmp a b = slice_cmp nat_cmp a.0 b.0

-- all of IPv4 first, then by bytes
abbrev pub address_cmp : Addr → Addr → Ordering
address_cmp (V4 a) (V4 b) = slice_cmp nat_cmp a b
address_cmp (V4 a) (V6 b) = Less
address_cmp (V6 a) (V4 b) = Greater
address_cmp (V6 a) (V6 b) = slice_cmp nat_cmp a b

-- by address, and then by port
abbrev pub endpoint_cmp : Endpoint → Endpoint → Ordering
endpoint_cmp a b = ordering_then (address_cmp a.addr b.addr) (nat_cmp a.port b.port)
