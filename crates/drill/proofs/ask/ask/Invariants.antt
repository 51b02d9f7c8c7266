use Rattle.std.proofs.Common.{take}
use Rattle.drill.specs.Asking.{Asks}
use Rattle.drill.proofs.ask.ask.Given as goal

-- the requests so far took effect
abbrev pub invariant-loop-request : goal.invariant-loop-request
invariant-loop-request g l = Asks l.minute (take l.request-index l.requests) l.initial.pass l.pass
