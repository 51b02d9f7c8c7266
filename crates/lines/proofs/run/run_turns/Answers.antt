use Rattle.std.proofs.Common.{refl, arith}
use Rattle.std.specs.Io.KnownBytes.{IsAtEnd}
use Rattle.ot_io.specs.Counts.{Rose}
use Rattle.lines.proofs.RunLemmas.{Progress-none}
use Rattle.lines.proofs.EndLemmas.{Progress-few, EndsByCause-since}
use Rattle.lines.proofs.run.run_turns.Goals as goal

pub turns-init : goal.turns-init
turns-init g c = record {
  progress = Progress-none g.R.Responder.answers c.args.responder.now _ _ c.args.replies.now c.args.lines.now c.requires.replies c.requires.lines;
  input = record { counted = omega arith; ended = omega arith; stays = refl };
  output = record { counted = omega arith; stays = refl };
}

pub returns-in-Some-clause-ends : goal.returns-in-Some-clause-ends
returns-in-Some-clause-ends g c =
    let far = c.turns.invariant in
    EndsByCause-since
    (Rose (g.S.Source.ends c.turns.input) (g.S.Source.ends c.turn.new.input) × IsAtEnd (g.S.Source.left c.turn.new.input))
    (Rose (g.S.Source.faults c.turns.input) (g.S.Source.faults c.turn.new.input))
    (Rose (g.O.Sink.faults c.turns.out) (g.O.Sink.faults c.turn.new.out))
    (Rose (g.S.Source.ends c.args.input.now) (g.S.Source.ends c.turn.new.input) × IsAtEnd (g.S.Source.left c.turn.new.input))
    (Rose (g.S.Source.faults c.args.input.now) (g.S.Source.faults c.turn.new.input))
    (Rose (g.O.Sink.faults c.args.out.now) (g.O.Sink.faults c.turn.new.out))
    (λ (rose, end). (omega (arith, rose, far.input.ended), end))
    (λ rose. omega (arith, rose, far.input.counted))
    (λ rose. omega (arith, rose, far.output.counted))
    g.R.Responder.answers g.R.Responder.refuses g.R.Responder.may_end g.R.Responder.refuses_end _ _ _ _ c.args.responder.now c.turn.new.responder c.in-Some.ending
    (c.in-Some.ensures.turns c.args.responder.now _ _ far.progress)

pub turns-smaller : goal.turns-smaller
turns-smaller g c =
    let after = c.in_default.ensures.turns c.args.responder.now _ _ c.turns.invariant.progress in
    let few = Progress-few g.R.Responder.answers _ _ _ _ _ _ _ _ after in
    omega (arith, few, after.limit, c.in_default.ensures.grows)
