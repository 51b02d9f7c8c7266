use Rattle.std.proofs.Common.{◌*◌, ◌^◌}
use Rattle.shards.specs.Shape.{KnowsNumbers}
use Rattle.load_model.specs.Sums.{IsWithin}
use Rattle.drill.specs.Scanning.{AreScanned}
use Rattle.drill.proofs.scan.scan_all.Given as goal

-- the buckets so far were scanned
abbrev pub invariant-loop-bucket : goal.invariant-loop-bucket
invariant-loop-bucket g l = record {
  scanned : AreScanned l.minute l.bucket l.totals l.initial.pass l.pass;
  within : IsWithin (l.bucket * 2 ^ 96) l.totals;
  known : KnowsNumbers l.pass;
}
