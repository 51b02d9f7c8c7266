use Rattle.std.proofs.Common.{◌+◌, ◌==◌, take, drop, ap, ◌∙◌, arith}
use Rattle.std.proofs.lemmas.List.{take_all, length-drop}
use Rattle.query_read.proofs.PairLemmas.{position-none, position-some}
use Rattle.query_read.proofs.cut.split_once.Goals as goal

pub returns-in_err-place : goal.returns-in_err-place
returns-in_err-place c =
    rw c.from_residual.ensures (position-none (λ b. b == c.args.separator) c.args.text.now c.in_err-place.ensures)

pub returns : goal.returns
returns c =
    let text = c.args.text.now in
    let after = c.in_ok-place.place + 1 in
    let found = position-some (λ b. b == c.args.separator) text c.in_ok-place.place c.in_ok-place.ensures in (
      found.0,
      ap (λ n. take n text) found.1,
      take_all _ (drop after text) (omega (arith, length-drop after text)) ∙ ap (λ n. drop (n + 1) text) found.1,
    )
