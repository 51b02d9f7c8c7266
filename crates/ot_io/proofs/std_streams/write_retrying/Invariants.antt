use Rattle.std.specs.Io.KnownBytes.{Keeps}
use Rattle.ot_io.proofs.std_streams.write_retrying.Given as goal

-- no byte was taken yet
abbrev pub invariant-loop : goal.invariant-loop
invariant-loop g l = Keeps (g.W.Write.contents l.initial.writer) (g.W.Write.contents l.writer)
