use Rattle.std.specs.Io.KnownBytes.{Keeps}
use Rattle.ot_io.proofs.std_streams.read_retrying.Given as goal

-- no byte was taken yet
abbrev pub invariant-loop : goal.invariant-loop
invariant-loop g l = Keeps (g.R.Read.remaining l.initial.reader) (g.R.Read.remaining l.reader)
