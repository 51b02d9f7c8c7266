-- What was read is what the run over the lines read.
use Rattle.std.proofs.Common.{sym}
use Rattle.server.proofs.access.read_list.Goals as goal

pub returns-clause-read : goal.returns-clause-read
returns-clause-read g c = (c.run_lines-ending.new.responder, c.run_lines-ending.result, rw (sym c.new.ensures) c.run_lines-ending.ensures.runs, c.finish_list.ensures)
