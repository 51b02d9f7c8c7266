-- Short forms of endpoints.
use Rattle.std.specs.Prelude.{ℕ, [], ◌∷◌, Option, Some, None}
use Rattle.std.specs.Cmp.Lexicographic.{slice_cmp}
use Rattle.std.specs.Ordering.{nat_cmp, ordering_then}
use Rattle.std.specs.declared.cmp.Ordering.{Ordering}
use Rattle.ot_base.specs.declared.address.Addr.TheVariants.{V4, V6}
use Rattle.ot_base.specs.declared.address.Addr.{Addr}
use Rattle.ot_base.specs.declared.address.Endpoint.{Endpoint}
use Rattle.swarm.specs.declared.short.Short.{Short}

-- the short form of an endpoint by its address and its port
abbrev pub short_at : Addr → ℕ → Option Short
short_at (V4 addr) port = Some (record { addr = addr; port = port })
short_at (V6 addr) port = None

abbrev pub short_of : Endpoint → Option Short
short_of who = short_at who.addr who.port

abbrev pub endpoint_of : Short → Endpoint
endpoint_of short = record { addr = V4 short.addr; port = short.port }

-- what stands in the place of a short form where there is none
abbrev pub no_short : Short
no_short = record { addr = 0 ∷ 0 ∷ 0 ∷ 0 ∷ []; port = 0 }

abbrev pub short_or_none : Option Short → Short
short_or_none (Some short) = short
short_or_none None = no_short

-- what stands beside an endpoint in its order
abbrev pub beside : Endpoint → Short
beside who = short_or_none (short_of who)

-- by address, and then by port
abbrev pub short_cmp : Short → Short → Ordering
short_cmp a b = ordering_then (slice_cmp nat_cmp a.addr b.addr) (nat_cmp a.port b.port)
