-- Addresses as the host has them.
use Rattle.std.specs.Prelude.{◌≡◌, Bool, true, false}
use Rattle.std.specs.Net.Addr.{ipv4_octets, ipv6_octets, ipv6_segments, segments_of}
use Rattle.std.specs.Net.Socket.{socket_ip, socket_port}
use Rattle.std.specs.declared.net.ip_addr.IpAddr.{IpAddr}
use Rattle.std.specs.declared.net.ip_addr.IpAddr.TheVariants.{V4, V6}
use Rattle.std.specs.declared.net.socket_addr.SocketAddr.{SocketAddr}
use Rattle.ot_base.specs.Address.{address_of_six, wide_bytes}
use Rattle.ot_base.specs.declared.address.Addr.{Addr}
use Rattle.ot_base.specs.declared.address.Addr.TheVariants as ours
use Rattle.ot_base.specs.declared.address.Endpoint.{Endpoint}

-- an address of the host; an IPv4-mapped IPv6 address is the IPv4 address that it holds
abbrev pub address_of : IpAddr → Addr
address_of (V4 ip) = ours.V4 (ipv4_octets ip)
address_of (V6 ip) = address_of_six (ipv6_octets ip)

abbrev pub endpoint_of : SocketAddr → Endpoint
endpoint_of peer = record { addr = address_of (socket_ip peer); port = socket_port peer }

-- what a socket of IPv6, or of IPv4, calls an address: one of IPv6 calls an IPv4 address by its
-- mapped form
abbrev pub Calls : Bool → Addr → IpAddr → Type 0
Calls true addr (V4 ip) = ⊥
Calls true addr (V6 ip) = ipv6_segments ip ≡ segments_of (wide_bytes addr)
Calls false (ours.V4 bytes) (V4 ip) = ipv4_octets ip ≡ bytes
Calls false (ours.V4 bytes) (V6 ip) = ⊥
Calls false (ours.V6 bytes) (V4 ip) = ⊥
Calls false (ours.V6 bytes) (V6 ip) = ipv6_segments ip ≡ segments_of bytes
