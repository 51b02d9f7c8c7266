-- The jobs are the same workers once they have run, each with what became of it.
use denote.Exit as exit
use denote.Param.Send.{arg_send, param_send, sendable}
use Rattle.std.proofs.Common.{All, drop, length, map, reverse, sym, ap, subst, ◌∙◌}
use Rattle.std.proofs.lemmas.List.{take_at}
use Rattle.ot_io.specs.Lending.{AreOut, Lends}
use Rattle.ot_io.specs.Tales.{listener_tale}
use Rattle.ot_io.specs.Traffic.{wire_tale}
use Rattle.shards.specs.Joining.{AreJoined}
use Rattle.server.specs.Teams.{IsWorker, listeners_of, pass_of, wires_of}
use Rattle.server.proofs.Crossing.{job_send}
use Rattle.server.proofs.TeamLemmas.{keep_all, ran_from}
use Rattle.server.proofs.run.do_jobs.Goals as goal

pub work-end-requires-send-J : goal.work-end-requires-send-J
work-end-requires-send-J g c κs lives =
    param_send 2 _ (arg_send _ exit.no _ (job_send _ _ _ (search sendable depth 20) (search sendable depth 20) (search sendable depth 20)))

pub end_jobs-requires-clause-workers : goal.end_jobs-requires-clause-workers
end_jobs-requires-clause-workers g c =
    let jobs = c.args.jobs.items in
    let worked = c.work-end.new.tasks in
    let lent = c.as_mut_slice.ensures in
    let back = take_at worked (drop (length worked) jobs) c.args.jobs.len (c.work-end.ensures.ran.count ∙ lent.len) in
    let kept = keep_all _ _ _ _ _ _ c.args.shards.now jobs worked (ran_from lent.value c.work-end.ensures.ran) in
    subst (All (IsWorker c.args.shards.now)) (sym back) (kept.workers c.requires.workers)

pub end_jobs-requires-clause-wires_out : goal.end_jobs-requires-clause-wires_out
end_jobs-requires-clause-wires_out g c =
    let jobs = c.args.jobs.items in
    let worked = c.work-end.new.tasks in
    let lent = c.as_mut_slice.ensures in
    let back = take_at worked (drop (length worked) jobs) c.args.jobs.len (c.work-end.ensures.ran.count ∙ lent.len) in
    let kept = keep_all _ _ _ _ _ _ c.args.shards.now jobs worked (ran_from lent.value c.work-end.ensures.ran) in
    subst (AreOut (g.N.Outside.wires_lent c.args.outside.now)) (sym (ap (λ l. length (wires_of l)) back ∙ kept.wires)) c.requires.wires_out

pub end_jobs-requires-clause-listeners_out : goal.end_jobs-requires-clause-listeners_out
end_jobs-requires-clause-listeners_out g c =
    let jobs = c.args.jobs.items in
    let worked = c.work-end.new.tasks in
    let lent = c.as_mut_slice.ensures in
    let back = take_at worked (drop (length worked) jobs) c.args.jobs.len (c.work-end.ensures.ran.count ∙ lent.len) in
    let kept = keep_all _ _ _ _ _ _ c.args.shards.now jobs worked (ran_from lent.value c.work-end.ensures.ran) in
    subst (AreOut (g.N.Outside.listeners_lent c.args.outside.now)) (sym (ap (λ l. length (listeners_of l)) back ∙ kept.listeners)) c.requires.listeners_out

pub returns-clause-ran : goal.returns-clause-ran
returns-clause-ran g c =
    let jobs = c.args.jobs.items in
    let worked = c.work-end.new.tasks in
    let lent = c.as_mut_slice.ensures in
    let back = take_at worked (drop (length worked) jobs) c.args.jobs.len (c.work-end.ensures.ran.count ∙ lent.len) in
    let outside = g.N.Outside in
    let ended = c.end_jobs.ensures in record {
      ended = worked;
      each = ran_from lent.value c.work-end.ensures.ran;
      middle = c.join_idle.new.pass;
      idle_joined = c.join_idle.ensures.joined;
      jobs_joined = subst (λ l. AreJoined (reverse (map pass_of l)) c.join_idle.new.pass c.end_jobs.new.pass) back ended.joined;
      wires_back = subst (λ l. Lends (outside.wires_lent c.args.outside.now) (outside.wires_lent c.end_jobs.new.outside) 0 (map (λ wire. wire_tale (g.W.Wire.traffic wire) (g.W.Wire.faults wire) (g.W.Wire.idles wire)) (wires_of l))) back ended.wires;
      listeners_back = subst (λ l. Lends (outside.listeners_lent c.args.outside.now) (outside.listeners_lent c.end_jobs.new.outside) 0 (map (λ listener. listener_tale (g.L.Listener.links listener) (g.L.Listener.faults listener) (g.L.Listener.idles listener)) (listeners_of l))) back ended.listeners;
    }
