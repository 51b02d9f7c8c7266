-- The reading leaves what was written, and the reply what is left to read.
use Rattle.std.proofs.Common.{◌∙◌, ap, option_copied, subst}
use Rattle.std.specs.Prelude.{Ok, Some}
use Rattle.ot_base.specs.Minute.{minute_at}
use Rattle.ot_base.specs.declared.address.Endpoint.{Endpoint}
use Rattle.ot_base.specs.declared.minute.Minute.{Minute}
use Rattle.ot_io.specs.Tales.{tale}
use Rattle.serve.specs.Connection.{EndsConnection}
use Rattle.serve.specs.Reading.{ReadsPlan}
use Rattle.serve.proofs.ConnectionLemmas.{connection_served, kept_by_read, kept_by_write}
use Rattle.serve.proofs.connection.serve_connection.Goals as goal

pub returns-clause-served : goal.returns-clause-served
returns-clause-served g c =
    let of = g.N.Source in
    let to = g.N.Sink in
    let plan = c.in-Ok-Some.plan in
    let old = c.args.conn.now in
    let middle = c.read_plan.new.conn in
    let new = c.answer.new.conn in
    let From : Endpoint → Type 0 = λ from. ReadsPlan (option_copied c.args.access) from c.args.full (of.left old) (of.left middle) (Some plan) in
    let At : Minute → Type 0 = λ minute. EndsConnection minute c.args.pass.now c.answer.new.pass plan (to.written middle) (to.written new) c.answer.result in
    connection_served (record { access = option_copied c.args.access; full = c.args.full; minute = minute_at (g.C.Clock.told c.now.new.self) }) c.args.pass.now c.answer.new.pass
    (tale (g.N.Conn.client old) (of.left old) (to.written old) (of.faults old) (of.ends old))
    (tale (g.N.Conn.client middle) (of.left middle) (to.written middle) (of.faults middle) (of.ends middle))
    (tale (g.N.Conn.client new) (of.left new) (to.written new) (of.faults new) (of.ends new)) plan c.answer.result
    (subst From c.from-from.ensures (rw c.in-Ok-Some.field-0-is at c.in-Ok-Some.ensures.read))
    (λ more. c.read_plan.ensures.all (c.in-Ok-Some.is ∙ ap (λ p. Ok p) (c.in-Ok-Some.field-0-is ∙ ap (λ p. Some p) more)))
    (kept_by_read to.written g.N.Conn.client of.aside g.met.N.Conn.read_keeps old middle c.read_plan.ensures.aside).0
    (kept_by_write of.left of.ends g.N.Conn.client to.aside g.met.N.Conn.write_keeps middle new c.answer.ensures.aside).0
    (subst At (c.of_seconds-minute.ensures ∙ ap minute_at c.now.ensures) c.answer.ensures.ended)
