use Rattle.std.proofs.Common.{◌++◌, sym, ap, ◌∙◌}
use Rattle.query_read.specs.Query.{pairs_of}
use Rattle.query_read.proofs.PairLemmas.{pieces-more, pairs_of-last}
use Rattle.query_read.proofs.query.Query.read.Goals as goal

pub pieces-preserved : goal.pieces-preserved
pieces-preserved c =
    let found = c.in-Some.ensures in
    pieces-more c.pieces.pairs c.add.new.self (pairs_of c.args.query.now) c.pieces.left.now c.in-Some.piece.now c.in-Some.rest.now
    c.pieces.invariant found.0 found.1 found.2 c.in_ok-add.ensures

pub returns : goal.returns
returns c =
    c.in_ok-add-2.ensures ∙ ap (λ x. c.pieces.pairs ++ x) (sym (pairs_of-last c.pieces.left.now c.in_default.ensures)) ∙ c.pieces.invariant
