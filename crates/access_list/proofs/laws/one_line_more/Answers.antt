use Rattle.access_list.proofs.LineLemmas.{one_more}
use Rattle.access_list.proofs.laws.one_line_more.Goals as goal

pub returns-clause-more : goal.returns-clause-more
returns-clause-more c = one_more
