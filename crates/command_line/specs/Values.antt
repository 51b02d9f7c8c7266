-- The values of settings, as words write them.
use Rattle.std.specs.Prelude.{ℕ, ◌==◌, ◌&&◌, nat_le, Bool, true, false, if◌then◌else◌}
use Rattle.std.specs.Prelude.{◌-◌, ◌++◌, List, length, map, codes, replicate}
use Rattle.std.specs.Prelude.{Option, Some, None, Result, Ok, Err}
use Rattle.std.specs.List.{after_first, before_first, list_all, list_any, slice_split}
use Rattle.std.specs.Option.{is_some, option_and_then}
use Rattle.std.specs.Str.{bytes_eq}
use Rattle.hex.specs.Hex.{decode_of}
use Rattle.hex.specs.declared.error.FromHexError.{FromHexError}
use Rattle.ot_base.specs.declared.access.Mode.{Mode}
use Rattle.ot_base.specs.declared.access.Mode.TheVariants.{Allow, Deny}
use Rattle.ot_base.specs.declared.address.Addr.{Addr}
use Rattle.ot_base.specs.declared.address.Endpoint.{Endpoint}
use Rattle.ot_base.specs.declared.fault.TraceFault.{TraceFault}
use Rattle.ot_base.specs.declared.hash.Secret.{Secret}
use Rattle.query_read.specs.Query.{number_of}
use Rattle.trace_text.specs.Trace.{address_of}

-- a number that is one of these
abbrev pub number_among : ℕ → ℕ → ℕ → Option ℕ
number_among least greatest number =
    if nat_le least number && nat_le number greatest then Some number else None

-- the number that 1 to 20 decimal digits write, where it is one of these
abbrev pub number_value : ℕ → ℕ → List ℕ → Option ℕ
number_value least greatest text =
    if nat_le (length text) 20 then option_and_then (number_among least greatest) (number_of text)
    else None

abbrev pub switch_value : List ℕ → Option Bool
switch_value text =
    if bytes_eq text (codes "on") then Some true
    else if bytes_eq text (codes "off") then Some false
    else None

abbrev pub mode_value : List ℕ → Option Mode
mode_value text =
    if bytes_eq text (codes "deny") then Some Deny
    else if bytes_eq text (codes "allow") then Some Allow
    else None

abbrev pub secret_of_bytes : Result (List ℕ) FromHexError → Option Secret
secret_of_bytes (Ok bytes) = Some (record { 0 = bytes })
secret_of_bytes (Err e) = None

-- a secret as 40 hex digits
abbrev pub secret_value : List ℕ → Option Secret
secret_value text = if length text == 40 then secret_of_bytes (decode_of text) else None

-- an address and a port, where both could be read
abbrev pub endpoint_parts : Result Addr TraceFault → Option ℕ → Option Endpoint
endpoint_parts (Ok addr) (Some port) = Some (record { addr = addr; port = port })
endpoint_parts (Ok addr) None = None
endpoint_parts (Err fault) port = None

abbrev pub endpoint_from : (address port : List ℕ) → Option Endpoint
endpoint_from address port = endpoint_parts (address_of address) (number_value 1 65535 port)

-- an endpoint as an address, `:` (58) and a port
abbrev pub endpoint_value : List ℕ → Option Endpoint
endpoint_value text =
    if list_any (λ b. b == 58) text
    then endpoint_from (before_first (λ b. b == 58) text) (after_first (λ b. b == 58) text)
    else None

-- 1 to 16 endpoints, each of which could be read, in 16 places: the others are empty
abbrev pub nodes_of : List (Option Endpoint) → Option (List (Option Endpoint))
nodes_of endpoints =
    if nat_le (length endpoints) 16 && list_all is_some endpoints
    then Some (endpoints ++ replicate (16 - length endpoints) None)
    else None

-- the endpoints of other nodes, with `,` (44) between; an empty text is one that can't be read
abbrev pub nodes_value : List ℕ → Option (List (Option Endpoint))
nodes_value text = nodes_of (map endpoint_value (slice_split (λ b. b == 44) text))
