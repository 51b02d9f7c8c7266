use Rattle.std.proofs.Common.{◌≡◌, length}
use Rattle.ot_net.specs.Adapters.{waiting_in}
use Rattle.ot_net.proofs.waiting.Room.look_around.Given as goal

-- none was taken yet
abbrev pub invariant-loop : goal.invariant-loop
invariant-loop l = length (waiting_in l.self) ≡ length (waiting_in l.initial.self)
