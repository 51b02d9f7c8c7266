use Rattle.std.proofs.Common.{arith, sym}
use Rattle.std.proofs.lemmas.List.{length-take-le, take_all}
use Rattle.tracker_core.specs.ConnectionPlan.{head_room}
use Rattle.tracker_core.proofs.connection_plan.head_front.Goals as goal

pub slice_bounds-result-end : goal.slice_bounds-result-end
slice_bounds-result-end c = sym (length-take-le head_room c.args.bytes.now (omega arith))

pub returns-else-bytes-gt-HEAD_ROOM : goal.returns-else-bytes-gt-HEAD_ROOM
returns-else-bytes-gt-HEAD_ROOM c = sym (take_all head_room c.args.bytes.now (omega arith))
