-- The jobs have what was opened for them, and what they did makes what a server does.
use Rattle.std.proofs.Common.{All, ◌≡◌, ◌∙◌, length, sym, ap, subst, vec_len, length-append, arith}
use Rattle.std.specs.Option.{option_copied}
use Rattle.ot_io.specs.Lending.{AreOut}
use Rattle.shards.specs.Shape.{PassShape}
use Rattle.server.proofs.RunLemmas.{none_or_two, serves_to}
use Rattle.server.proofs.ServedLemmas.{are_others, opened_jobs, passes_count, serves_so, take_back}
use Rattle.server.proofs.TeamLemmas.{IsOther}
use Rattle.server.proofs.run.serve_opened.Goals as goal

pub new_jobs-jobs-requires-clause-passes : goal.new_jobs-jobs-requires-clause-passes
new_jobs-jobs-requires-clause-passes g c =
    c.args.opened.passes.ok.0 ∙ ap length c.requires.opened.passes ∙ passes_count c.args.opened.shards 2 (vec_len c.args.devices.clocks)

pub new_jobs-jobs-requires-clause-sync_wires : goal.new_jobs-jobs-requires-clause-sync_wires
new_jobs-jobs-requires-clause-sync_wires g c = none_or_two c.args.settings.now.sync (vec_len c.args.devices.sync_wires) c.requires.devices.sync_wire_count

pub run_jobs-requires-clause-pass : goal.run_jobs-requires-clause-pass
run_jobs-requires-clause-pass g c κs lives = ap (λ (p : PassShape). p.shards) c.requires.opened.pass

pub run_jobs-requires-clause-first : goal.run_jobs-requires-clause-first
run_jobs-requires-clause-first g c κs lives = ap (λ (p : PassShape). p.caller) c.requires.opened.pass

pub run_jobs-requires-clause-out : goal.run_jobs-requires-clause-out
run_jobs-requires-clause-out g c κs lives =
    let devices = c.args.devices in
    let has = opened_jobs _ _ c.args.opened _ _ _ c.new_jobs-jobs.result.items c.requires.opened c.new_jobs-jobs.ensures (sym devices.sync_wires.ok.0 ∙ c.requires.devices.sync_wire_count) in
    let one : length c.args.opened.idle.items ≡ 1 = ap length c.requires.opened.idle ∙ passes_count c.args.opened.shards 1 1 in
    let out = ap (λ (p : PassShape). p.out) c.requires.opened.pass in
    omega (arith, out, one, c.args.opened.idle.ok.0, has.count, c.new_jobs-jobs.result.ok.0, c.requires.devices.clock_count, devices.wires.ok.0, devices.listeners.ok.0, devices.sync_wires.ok.0)

pub run_jobs-requires-clause-idle : goal.run_jobs-requires-clause-idle
run_jobs-requires-clause-idle g c κs lives =
    subst (All (IsOther c.args.opened.shards)) (sym c.requires.opened.idle) (are_others c.args.opened.shards 1 1 (λ e. absurd (omega arith)))

pub run_jobs-requires-clause-ready : goal.run_jobs-requires-clause-ready
run_jobs-requires-clause-ready g c κs lives =
    (opened_jobs _ _ c.args.opened _ _ _ c.new_jobs-jobs.result.items c.requires.opened c.new_jobs-jobs.ensures (sym c.args.devices.sync_wires.ok.0 ∙ c.requires.devices.sync_wire_count)).ready

pub run_jobs-requires-clause-workers : goal.run_jobs-requires-clause-workers
run_jobs-requires-clause-workers g c κs lives =
    (opened_jobs _ _ c.args.opened _ _ _ c.new_jobs-jobs.result.items c.requires.opened c.new_jobs-jobs.ensures (sym c.args.devices.sync_wires.ok.0 ∙ c.requires.devices.sync_wire_count)).workers

pub run_jobs-requires-clause-wires_out : goal.run_jobs-requires-clause-wires_out
run_jobs-requires-clause-wires_out g c κs lives =
    let devices = c.args.devices in
    let has = opened_jobs _ _ c.args.opened _ _ _ c.new_jobs-jobs.result.items c.requires.opened c.new_jobs-jobs.ensures (sym devices.sync_wires.ok.0 ∙ c.requires.devices.sync_wire_count) in
    subst (AreOut (g.N.Outside.wires_lent c.args.outside.now))
    (omega (arith, ap length has.wires_are, length-append devices.wires.items devices.sync_wires.items, devices.wires.ok.0, devices.sync_wires.ok.0)) c.requires.wires_out

pub run_jobs-requires-clause-listeners_out : goal.run_jobs-requires-clause-listeners_out
run_jobs-requires-clause-listeners_out g c κs lives =
    let listeners = c.args.devices.listeners in
    let has = opened_jobs _ _ c.args.opened _ _ _ c.new_jobs-jobs.result.items c.requires.opened c.new_jobs-jobs.ensures (sym c.args.devices.sync_wires.ok.0 ∙ c.requires.devices.sync_wire_count) in
    subst (AreOut (g.N.Outside.listeners_lent c.args.outside.now)) (listeners.ok.0 ∙ sym (ap length has.listeners_are)) c.requires.listeners_out

pub returns-clause-served : goal.returns-clause-served
returns-clause-served g c =
    let end = c.run_jobs.ensures.concluded in
    serves_to c.args.settings.now (option_copied c.args.access) 0 0 _ _ _ _ _ _ end.last.seen c.run_jobs.result end.told
    (serves_so g.W.Wire.traffic g.W.Wire.faults g.W.Wire.idles g.L.Listener.links g.L.Listener.faults g.L.Listener.idles c.args.settings.now (option_copied c.args.access) c.args.devices c.args.opened c.new_jobs-jobs.result.items _ _ _ _ end.last
    (record { devices_are = c.requires.devices; is_opened = c.requires.opened; jobs_are = c.new_jobs-jobs.ensures; run = end.have_run; known = end.known; buckets = end.buckets; legal = end.legal }))

pub returns-clause-wires : goal.returns-clause-wires
returns-clause-wires g c =
    let end = c.run_jobs.ensures.concluded in
    (take_back g.W.Wire.traffic g.W.Wire.faults g.W.Wire.idles g.L.Listener.links g.L.Listener.faults g.L.Listener.idles c.args.settings.now (option_copied c.args.access) c.args.devices c.args.opened c.new_jobs-jobs.result.items _ _ _ _ end.last
    (record { devices_are = c.requires.devices; is_opened = c.requires.opened; jobs_are = c.new_jobs-jobs.ensures; run = end.have_run; known = end.known; buckets = end.buckets; legal = end.legal })).0

pub returns-clause-listeners : goal.returns-clause-listeners
returns-clause-listeners g c =
    let end = c.run_jobs.ensures.concluded in
    (take_back g.W.Wire.traffic g.W.Wire.faults g.W.Wire.idles g.L.Listener.links g.L.Listener.faults g.L.Listener.idles c.args.settings.now (option_copied c.args.access) c.args.devices c.args.opened c.new_jobs-jobs.result.items _ _ _ _ end.last
    (record { devices_are = c.requires.devices; is_opened = c.requires.opened; jobs_are = c.new_jobs-jobs.ensures; run = end.have_run; known = end.known; buckets = end.buckets; legal = end.legal })).1
