-- Objects in memory of which nothing was asked yet.
use Rattle.std.specs.Prelude.{◌≡◌, []}
use Rattle.ot_io.specs.Connection.{conn_ends, conn_faults, conn_written}
use Rattle.ot_io.specs.declared.mem_conn.MemConn.{MemConn}

-- nothing was written to a connection, and nothing is counted
abbrev pub IsFreshConn : MemConn → Type 0
IsFreshConn conn = (conn_written conn ≡ []) × (conn_faults conn ≡ 0) × (conn_ends conn ≡ 0)
