use Rattle.bucket.proofs.FollowLemmas.{shelf_follows}
use Rattle.bucket.proofs.laws.shelf_follows.Goals as goal

pub returns : goal.returns
returns c = shelf_follows
