use Rattle.std.proofs.Common.{◌≡◌, length, sym, ◌∙◌, arith}
use Rattle.sync_wire.proofs.Fronts.{front_len-is, front_len-stops}
use Rattle.sync_wire.proofs.batch.front_of.Goals as goal
use Rattle.sync_wire.proofs.batch.front_of.Goals.{then-i-eq-NOTES-via-then-i-eq-NOTES, then-i-eq-NOTES-via-else-i-eq-NOTES+then-not-is_of}

pub returns-then-i-eq-NOTES : goal.returns-then-i-eq-NOTES
returns-then-i-eq-NOTES c =
    elim c.then-i-eq-NOTES.branch [
      | then-i-eq-NOTES-via-then-i-eq-NOTES w ↦
          front_len-is c.args.family c.args.notes.now c.loop-i.i (omega arith) (omega arith) c.loop-i.invariant.of_family
          (λ b h. absurd (omega arith))
      | then-i-eq-NOTES-via-else-i-eq-NOTES+then-not-is_of w ↦
          front_len-stops c.args.family c.args.notes.now c.loop-i.i _ (let b = w.if-i-eq-NOTES.false in omega arith) c.loop-i-test.true
          c.loop-i.invariant.of_family (sym w.is_of.ensures ∙ w.if-not-is_of.true)
    ]

pub returns : goal.returns
returns c =
    let all : c.loop-i.i ≡ length c.args.notes.now = omega arith in
    rw (← all)
    (front_len-is c.args.family c.args.notes.now c.loop-i.i (omega arith) (omega arith) c.loop-i.invariant.of_family
    (λ b h. absurd (omega arith)))
