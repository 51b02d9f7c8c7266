-- What a search for the separator says of the parts of the text.
use Rattle.std.proofs.lemmas.List.{take_rest}
use Rattle.trace_text.proofs.TraceFields.{parts_of-none, parts_of-first}
use Rattle.trace_text.proofs.parts.split_once.Goals as goal

pub returns-in_err-place : goal.returns-in_err-place
returns-in_err-place c =
    rw c.from_residual.ensures (parts_of-none c.args.separator c.args.text.now c.in_err-place.ensures)

pub returns : goal.returns
returns c =
    rw (take_rest c.args.text.now) (parts_of-first c.args.separator c.args.text.now c.in_ok-place.place c.in_ok-place.ensures)
