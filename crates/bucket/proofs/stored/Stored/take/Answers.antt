-- One peer fewer, or as many.
use Rattle.bucket.proofs.JoinLemmas.{take_fit}
use Rattle.bucket.proofs.stored.Stored.take.Goals as goal

pub returns-clause-fit : goal.returns-clause-fit
returns-clause-fit g c = λ limit time fit. take_fit limit time c.args.who.now c.args.self.now c.take.new.self fit c.take.ensures.peers c.peers_are_tidy.ensures
