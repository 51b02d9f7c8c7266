use Rattle.std.proofs.Common.{◌≡◌, [], All, map}
use Rattle.drill.specs.declared.worker.Worker.{Worker}
use Rattle.drill.proofs.worker.team_of.Given as goal

-- there is a worker for each pass so far
abbrev pub invariant-loop-pass : goal.invariant-loop-pass
invariant-loop-pass l = record {
  passes : map (λ (worker : Worker). worker.pass) l.team.items ≡ l.yielded;
  empty : All (λ (worker : Worker). worker.requests.items ≡ []) l.team.items;
}
