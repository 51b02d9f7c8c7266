use Rattle.std.proofs.Common.{rules, ◌≡◌, Ok, sym, arith}
use Rattle.sync_wire.specs.Reading.{fault_of, batch_of}
use Rattle.sync_wire.proofs.Exact.{batch_exact}
use Rattle.sync_wire.proofs.reading.read.Goals as goal

pub returns-clause-written : goal.returns-clause-written
unfolding fault_of batch_of
returns-clause-written c =
    let value : Ok c.of.result ≡ batch_of c.args.own c.args.bytes.now = search rules in
    batch_exact c.args.own c.args.bytes.now c.of.result (record { small = λ i. let h = c.type_inv.bytes i in omega arith }) (sym value)
