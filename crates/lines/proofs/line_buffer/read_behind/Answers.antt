use Rattle.std.proofs.Common.{ℕ, length-drop, ◌≤◌, ◌≡◌, ◌-◌, ◌+◌, length, arith}
use Rattle.std.proofs.lemmas.List.{length-take}
use Rattle.lines.proofs.BufferLemmas.{ReadsBehind-read}
use Rattle.lines.proofs.line_buffer.read_behind.Goals as goal

pub returns-clause-read : goal.returns-clause-read
returns-clause-read g c =
    let at = c.args.end - c.args.start in
    let same : at + c.args.room - at ≡ c.args.room = omega arith in
    let within : at ≤ length c.move_to_front.new.buffer = omega (arith, c.move_to_front.auto.buffer) in
    let few : length c.read.new.buf ≤ c.args.room = omega (arith, c.read.auto.buf, length-take {A = ℕ}, length-drop {A = ℕ}) in
    rw same (ReadsBehind-read _ _ _ c.move_to_front.new.buffer c.read.new.buf at c.args.room c.read.result within few c.move_to_front.ensures c.read.ensures.piece)
