-- What is seen of a listener in memory.
use Rattle.std.specs.Prelude.{ℕ, Bool, List, Some, map}
use Rattle.ot_io.specs.Connection.{client_of, conn_ends, conn_faults, conn_left, conn_written}
use Rattle.ot_io.specs.Demand.{is_demanded}
use Rattle.ot_io.specs.Tales.{Links, Tale, tale}
use Rattle.ot_io.specs.declared.mem_conn.MemConn.{MemConn}
use Rattle.ot_io.specs.declared.mem_listener.MemListener.{MemListener}

-- all that is told of a connection in memory
abbrev pub conn_tale : MemConn → Tale
conn_tale conn = tale (client_of conn) (Some (conn_left conn)) (Some (conn_written conn))
    (conn_faults conn) (conn_ends conn)

-- what waits, was accepted and was taken back
abbrev pub links_of : MemListener → Links
links_of listener = record {
  waiting = map conn_tale listener.waiting.items;
  accepted = map (λ conn. conn_tale conn.value) listener.accepted.items;
  finished = map conn_tale listener.finished.items;
}

-- the numbers of the calls that are to fail
abbrev pub failing_accepts : MemListener → List ℕ
failing_accepts listener = listener.failing.items

-- how many calls were made: the number of the next one
abbrev pub accepts_made : MemListener → ℕ
accepts_made listener = listener.faults.calls

-- the next call is to fail
abbrev pub is_accept_failing : MemListener → Bool
is_accept_failing listener = is_demanded listener.failing.items listener.faults.calls

-- how many calls have failed
abbrev pub listener_faults : MemListener → ℕ
listener_faults listener = listener.faults.count

-- how many calls have answered that none waits
abbrev pub listener_idles : MemListener → ℕ
listener_idles listener = listener.idles
