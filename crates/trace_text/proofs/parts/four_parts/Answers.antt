-- A fourth separator makes more than four parts.
use Rattle.trace_text.proofs.TraceFields.{parts_of-many}
use Rattle.trace_text.proofs.parts.four_parts.Goals as goal

pub returns-in-Some : goal.returns-in-Some
returns-in-Some c =
    parts_of-many c.args.separator c.args.text.now _ _ _ _ _ _ _ _ c.in_ok-first.ensures c.in_ok-second.ensures c.in_ok-third.ensures c.in-Some.ensures
