-- Tries that were interrupted took no byte, so what the last one took is all.
use Rattle.std.proofs.KnownBytes.{Keeps-refl, Keeps-trans}
use Rattle.ot_io.proofs.Retries.{Keeps-WriteAppends, Keeps-from_failed_write}
use Rattle.ot_io.proofs.std_streams.write_retrying.Goals as goal

pub loop-init : goal.loop-init
loop-init g c = Keeps-refl _

pub loop-preserved : goal.loop-preserved
loop-preserved g c =
    Keeps-trans _ _ _ c.loop.invariant (Keeps-from_failed_write _ _ _ _ _ (c.is_interrupted.ensures.0 c.if-not-is_interrupted.false) c.write-answer.ensures.bytes)

pub returns-then-not-is_interrupted-clause-bytes : goal.returns-then-not-is_interrupted-clause-bytes
returns-then-not-is_interrupted-clause-bytes g c = Keeps-WriteAppends _ _ _ _ _ c.loop.invariant c.write-answer.ensures.bytes

pub returns-clause-bytes : goal.returns-clause-bytes
returns-clause-bytes g c = Keeps-WriteAppends _ _ _ _ _ c.loop.invariant c.write.ensures.bytes
