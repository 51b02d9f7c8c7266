use Rattle.access_list.proofs.LineLemmas.{hash_digits}
use Rattle.access_list.proofs.laws.hash_of_forty_digits.Goals as goal

pub returns : goal.returns
returns c = hash_digits
