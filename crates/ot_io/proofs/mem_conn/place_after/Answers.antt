use Rattle.std.proofs.Common.{sym}
use Rattle.std.proofs.Math.Seq.{drop-drop}
use Rattle.ot_io.proofs.mem_conn.place_after.Goals as goal

pub returns-then-place-lengths-clause-rest : goal.returns-then-place-lengths-clause-rest
returns-then-place-lengths-clause-rest c = sym (drop-drop 1 c.args.place c.args.lengths.now)
