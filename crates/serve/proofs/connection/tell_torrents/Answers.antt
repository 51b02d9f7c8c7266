-- The scans of a seat are calls through its pass.
use Rattle.std.proofs.Common.{◌≡◌, ap, rules, subst, sym}
use Rattle.shards.specs.Shape.{PassShape}
use Rattle.tracker_core.specs.declared.connection_plan.ConnectionPlan.TheVariants.{Planned}
use Rattle.tracker_core.specs.declared.http_plan.HttpPlan.TheVariants.{Full}
use Rattle.serve.specs.Connection.{AreFaultsCounted, EndsConnection, end_of}
use Rattle.serve.specs.declared.connection.ConnEnd.{ConnEnd}
use Rattle.serve.proofs.ConnectionLemmas.{told_alike, told_all, told_counted}
use Rattle.serve.proofs.connection.tell_torrents.Goals as goal

pub returns-clause-ended : goal.returns-clause-ended
returns-clause-ended g c =
    let k = g.N.Sink in
    let alike = told_alike _ (λ seat. seat.pass.now) (λ seat. seat.pass.ghost_name) c.seat_follows.ensures c.args.minute c.args.shards.now.bits _ c.tell_all.new.tracker
    (k.written c.args.conn.now) (k.written c.tell_all.new.sink) c.tell_all.result c.tell_all.ensures.told in
    let same : c.tell_all.new.tracker.pass.now ≡ c.pass-1.given.0 = search (alike.0, rules) in
    let Pass : PassShape → Type 0 = λ pass.
    EndsConnection c.args.minute c.args.pass.now pass (Planned Full) (k.written c.args.conn.now) (k.written c.tell_all.new.sink) (end_of c.tell_all.result) in
    let End : ConnEnd → Type 0 = λ ended.
    EndsConnection c.args.minute c.args.pass.now c.pass-1.given.0 (Planned Full) (k.written c.args.conn.now) (k.written c.tell_all.new.sink) ended in
    subst End (sym c.end_of.ensures)
    (subst Pass same (told_all _ (λ seat. seat.pass.now) (λ seat. seat.pass.ghost_name) c.seat_follows.ensures c.args.minute c.args.shards.now.bits _ c.tell_all.new.tracker
    (k.written c.args.conn.now) (k.written c.tell_all.new.sink) c.tell_all.result (sym (ap (λ shards. shards.bits) c.requires.pass)) c.tell_all.ensures.told))

pub returns-clause-pass : goal.returns-clause-pass
returns-clause-pass g c =
    let k = g.N.Sink in
    let alike = told_alike _ (λ seat. seat.pass.now) (λ seat. seat.pass.ghost_name) c.seat_follows.ensures c.args.minute c.args.shards.now.bits _ c.tell_all.new.tracker
    (k.written c.args.conn.now) (k.written c.tell_all.new.sink) c.tell_all.result c.tell_all.ensures.told in
    let same : c.tell_all.new.tracker.pass.now ≡ c.pass-1.given.0 = search (alike.0, rules) in
    let Pass : PassShape → Type 0 = λ pass. pass ≡ record c.args.pass.now { seen = pass.seen } in
    subst Pass same alike.1

pub returns-clause-faults : goal.returns-clause-faults
returns-clause-faults g c =
    let k = g.N.Sink in
    let Counted : ConnEnd → Type 0 = λ ended. AreFaultsCounted (k.faults c.args.conn.now) (k.faults c.tell_all.new.sink) ended in
    subst Counted (sym c.end_of.ensures) (told_counted (k.faults c.args.conn.now) (k.faults c.tell_all.new.sink) c.tell_all.result c.tell_all.ensures.faults)
