-- A connection was accepted, served and given back, and so one was owed in between.
use Rattle.std.proofs.Common.{option_copied}
use Rattle.ot_base.specs.Minute.{minute_at}
use Rattle.ot_io.specs.Tales.{Tale, tale}
use Rattle.serve.specs.ServedLinks.{LinkTurn}
use Rattle.serve.proofs.Linking.{linked_once, owes_one}
use Rattle.serve.proofs.http_worker.serve_next.Goals as goal

pub returns-clause-worked : goal.returns-clause-worked
returns-clause-worked g c =
    let at = g.L.Listener in
    let link = g.L.Link in
    let of = link.Source in
    let to = link.Sink in
    let old = c.in-Got.link in
    let new = c.serve_connection.new.conn in
    let did = c.serve_connection.ensures in
    let came : Tale = tale (link.Conn.client old) (of.left old) (to.written old) (of.faults old) (of.ends old) in
    let went : Tale = tale (link.Conn.client new) (of.left new) (to.written new) (of.faults new) (of.ends new) in
    let turn : LinkTurn = record {
      came = came;
      went = went;
      minute = minute_at (g.C.Clock.told c.serve_connection.new.clock);
      ended = c.serve_connection.result;
    } in
    let accepted = c.in-Got.ensures.accepted in
    linked_once (option_copied c.args.access) c.args.full c.args.pass.now c.serve_connection.new.pass
    (at.links c.args.listener.now) (at.links c.accept.new.self) (at.links c.done.new.self)
    (at.faults c.args.listener.now) (at.faults c.accept.new.self) (at.faults c.done.new.self) turn
    (record { fresh = accepted.0; served = did.served; client = did.client; faults = did.faults; cut = did.cut })
    did.pass accepted.1
    (c.done.ensures.back (owes_one (at.links c.args.listener.now) (at.links c.accept.new.self) came (g.met.L.Listener.even c.args.listener.now) accepted.1))
    c.in-Got.ensures.failed c.done.ensures.faults
