use Rattle.std.proofs.Common.{◌≡◌, vec_len}
use Rattle.ot_net.proofs.outside.make_clocks.Given as goal

-- so many clocks are made
abbrev pub invariant-loop-made : goal.invariant-loop-made
invariant-loop-made g l = vec_len l.clocks ≡ l._made
