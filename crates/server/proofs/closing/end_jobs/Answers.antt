-- One more job was ended.
use Rattle.std.proofs.Common.{rules, ◌≡◌, ◌∙◌, ◌++◌, [], ◌∷◌, map, reverse, refl, sym, ap, subst, append_assoc}
use Rattle.std.proofs.lemmas.List.{map-append, reverse-append}
use Rattle.ot_io.specs.Tales.{listener_tale}
use Rattle.ot_io.specs.Traffic.{wire_tale}
use Rattle.ot_io.proofs.Runs.{Lends-refl}
use Rattle.shards.specs.Joining.{AreJoined}
use Rattle.shards.specs.Shape.{PassShape}
use Rattle.shards.proofs.JoiningLemmas.{joined_further, none_joined}
use Rattle.server.specs.Teams.{listeners_of, pass_of, wires_of}
use Rattle.server.proofs.DeviceLemmas.{back_more}
use Rattle.server.proofs.TeamLemmas.{listeners_of-append, next_listener_out, next_wire_out, next_worker, wires_of-append}
use Rattle.server.proofs.closing.end_jobs.Goals as goal

pub loop-job-init : goal.loop-job-init
loop-job-init g c = record {
  all = search rules;
  of_shards = refl;
  first = c.requires.first;
  known = c.requires.known;
  joined = none_joined c.args.pass.now;
  wires = Lends-refl (g.N.Outside.wires_lent c.args.outside.now);
  listeners = Lends-refl (g.N.Outside.listeners_lent c.args.outside.now);
  faults = refl;
}

pub end_job-requires-clause-pass : goal.end_job-requires-clause-pass
end_job-requires-clause-pass g c = c.loop-job.invariant.of_shards ∙ c.requires.pass

pub end_job-requires-clause-first : goal.end_job-requires-clause-first
end_job-requires-clause-first g c = c.loop-job.invariant.first

pub end_job-requires-clause-worker : goal.end_job-requires-clause-worker
end_job-requires-clause-worker g c =
    let all : c.args.jobs.items ≡ c.loop-job.yielded ++ c.in-Some.job ∷ c.next.new.self.rest.items = search rules in
    next_worker c.args.shards.now c.args.jobs.items c.loop-job.yielded c.next.new.self.rest.items c.in-Some.job all c.requires.workers

pub end_job-requires-clause-wires_out : goal.end_job-requires-clause-wires_out
end_job-requires-clause-wires_out g c =
    let all : c.args.jobs.items ≡ c.loop-job.yielded ++ c.in-Some.job ∷ c.next.new.self.rest.items = search rules in
    next_wire_out (λ wire. wire_tale (g.W.Wire.traffic wire) (g.W.Wire.faults wire) (g.W.Wire.idles wire)) _ _ c.args.jobs.items c.loop-job.yielded c.next.new.self.rest.items c.in-Some.job all c.requires.wires_out c.loop-job.invariant.wires

pub end_job-requires-clause-listeners_out : goal.end_job-requires-clause-listeners_out
end_job-requires-clause-listeners_out g c =
    let all : c.args.jobs.items ≡ c.loop-job.yielded ++ c.in-Some.job ∷ c.next.new.self.rest.items = search rules in
    next_listener_out (λ listener. listener_tale (g.L.Listener.links listener) (g.L.Listener.faults listener) (g.L.Listener.idles listener)) _ _ c.args.jobs.items c.loop-job.yielded c.next.new.self.rest.items c.in-Some.job all c.requires.listeners_out c.loop-job.invariant.listeners

pub loop-job-preserved : goal.loop-job-preserved
loop-job-preserved g c =
    let was = c.loop-job.invariant in
    let job = c.in-Some.job in
    let done = c.loop-job.yielded in
    let all : c.args.jobs.items ≡ done ++ job ∷ c.next.new.self.rest.items = search rules in
    let ended = c.end_job.ensures in record {
      all = all ∙ sym (append_assoc done (job ∷ []) c.next.new.self.rest.items);
      of_shards = ap (λ (p : PassShape). p.shards) ended.joined.pass ∙ was.of_shards;
      first = ap (λ (p : PassShape). p.caller) ended.joined.pass ∙ was.first;
      known = ended.known;
      joined = subst (λ l. AreJoined l c.args.pass.now c.end_job.new.pass) (sym (ap reverse (map-append pass_of done (job ∷ [])) ∙ reverse-append (map pass_of done) (pass_of job ∷ [])))
          (joined_further (reverse (map pass_of done)) (pass_of job ∷ []) c.args.pass.now c.loop-job.pass c.end_job.new.pass was.joined ended.joined);
      wires = back_more (λ wire. wire_tale (g.W.Wire.traffic wire) (g.W.Wire.faults wire) (g.W.Wire.idles wire)) _ _ _ (wires_of done) (wires_of (job ∷ [])) (wires_of (done ++ job ∷ [])) (wires_of-append done (job ∷ [])) was.wires ended.wires;
      listeners = back_more (λ listener. listener_tale (g.L.Listener.links listener) (g.L.Listener.faults listener) (g.L.Listener.idles listener)) _ _ _ (listeners_of done) (listeners_of (job ∷ [])) (listeners_of (done ++ job ∷ [])) (listeners_of-append done (job ∷ [])) was.listeners ended.listeners;
      faults = ended.faults ∙ was.faults;
    }
