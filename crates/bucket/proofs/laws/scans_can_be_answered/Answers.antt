use Rattle.bucket.proofs.ScanLemmas.{scans_can_be_answered}
use Rattle.bucket.proofs.laws.scans_can_be_answered.Goals as goal

pub returns : goal.returns
returns c = scans_can_be_answered
