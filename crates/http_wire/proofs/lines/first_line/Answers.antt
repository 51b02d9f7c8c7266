use Rattle.std.proofs.Common.{◌==◌, ap, ◌∙◌}
use Rattle.http_wire.specs.Head.{without_return}
use Rattle.http_wire.proofs.HeadLemmas.{position-none, position-some}
use Rattle.http_wire.proofs.lines.first_line.Goals as goal

pub returns-in_err-place : goal.returns-in_err-place
returns-in_err-place c = rw c.from_residual.ensures (position-none (λ b. b == 10) c.args.lines.now c.in_err-place.ensures)

pub returns : goal.returns
returns c =
    let found = position-some (λ b. b == 10) c.args.lines.now c.in_ok-place.place c.in_ok-place.ensures in
    (found.0, c.trimmed.ensures ∙ ap without_return found.1)
