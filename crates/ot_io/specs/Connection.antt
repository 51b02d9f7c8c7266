-- What is seen of a connection in memory.
use Rattle.std.specs.Prelude.{ℕ, Bool, List, drop}
use Rattle.ot_base.specs.declared.address.Endpoint.{Endpoint}
use Rattle.ot_io.specs.Demand.{is_demanded}
use Rattle.ot_io.specs.declared.mem_conn.ConnScript.{ConnScript}
use Rattle.ot_io.specs.declared.mem_conn.MemConn.{MemConn}

-- what it does, which no call changes
abbrev pub script_of : MemConn → ConnScript
script_of conn = conn.script

-- who is at its other end
abbrev pub client_of : MemConn → Endpoint
client_of conn = conn.client

-- the bytes that the client sent and that weren't read yet
abbrev pub conn_left : MemConn → List ℕ
conn_left conn = drop conn.taken conn.script.sent.items

-- the lengths of the pieces that are still to be given
abbrev pub conn_lengths : MemConn → List ℕ
conn_lengths conn = drop conn.pieces conn.script.lengths.items

-- the bytes that were written to the client
abbrev pub conn_written : MemConn → List ℕ
conn_written conn = conn.written.items

-- how many calls were made, reads and writes together: the number of the next one
abbrev pub calls_made : MemConn → ℕ
calls_made conn = conn.faults.calls

-- the next call is to fail
abbrev pub is_call_failing : MemConn → Bool
is_call_failing conn = is_demanded conn.script.failing.items conn.faults.calls

-- how many calls have failed, reads and writes together
abbrev pub conn_faults : MemConn → ℕ
conn_faults conn = conn.faults.count

-- how many reads have answered that there are no more bytes
abbrev pub conn_ends : MemConn → ℕ
conn_ends conn = conn.ends
