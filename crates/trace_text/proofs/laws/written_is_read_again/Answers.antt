use Rattle.trace_text.proofs.WrittenLemmas.{line_again}
use Rattle.trace_text.proofs.laws.written_is_read_again.Goals as goal

pub returns : goal.returns
returns c = line_again
