use Rattle.turn_lock.specs.Shape.{entry_of}
use Rattle.turn_lock.proofs.lock.TurnLock.give.Given as goal

abbrev pub ghosts-advance : goal.ghosts-advance
ghosts-advance g a = record { entry = entry_of a.place.now.me.0.caller a.minute a.call.now (g.A.AsAnswer.answer a.answer.now) }
