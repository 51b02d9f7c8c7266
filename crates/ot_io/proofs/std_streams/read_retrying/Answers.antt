-- Tries that were interrupted took no byte, so what the last one took is all.
use Rattle.std.proofs.KnownBytes.{Keeps-refl, Keeps-trans}
use Rattle.ot_io.proofs.Retries.{Keeps-ReadConsumes, Keeps-from_failed_read}
use Rattle.ot_io.proofs.std_streams.read_retrying.Goals as goal

pub loop-init : goal.loop-init
loop-init g c = Keeps-refl _

pub loop-preserved : goal.loop-preserved
loop-preserved g c =
    Keeps-trans _ _ _ c.loop.invariant (Keeps-from_failed_read _ _ _ _ _ (c.is_interrupted.ensures.0 c.if-not-is_interrupted.false) c.read-answer.ensures.bytes)

pub returns-then-not-is_interrupted-clause-bytes : goal.returns-then-not-is_interrupted-clause-bytes
returns-then-not-is_interrupted-clause-bytes g c = Keeps-ReadConsumes _ _ _ _ _ c.loop.invariant c.read-answer.ensures.bytes

pub returns-clause-bytes : goal.returns-clause-bytes
returns-clause-bytes g c = Keeps-ReadConsumes _ _ _ _ _ c.loop.invariant c.read.ensures.bytes
