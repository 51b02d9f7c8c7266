use Rattle.std.proofs.Common.{sym}
use Rattle.trace_text.proofs.TraceFamily.{address_four}
use Rattle.trace_text.proofs.records.read_fields.Goals as goal

pub returns-clause-four : goal.returns-clause-four
returns-clause-four c = address_four c.args.address.now c.in_ok-addr.addr (sym c.in_ok-addr.ensures)
