use Rattle.server.proofs.AccessLemmas.{list_responds}
use Rattle.server.proofs.access.ReadingResponder.respond.Goals as goal

pub returns-clause-responds : goal.returns-clause-responds
returns-clause-responds g c =
    list_responds c.args.self.now c.self.inside.reader c.read_line.new.reader c.args.line.now _ c.args._replies.now c.read_line.result c.self.view_is c.read_line.ensures
