use Rattle.std.proofs.Common.{◌≡◌, length}
use Rattle.http_wire.specs.Head.{after_empty_lines}
use Rattle.http_wire.proofs.lines.skip_empty_lines.Given as goal

-- what is left begins as the whole does, without empty lines
abbrev pub invariant-lines : goal.invariant-lines
invariant-lines l = after_empty_lines l.left ≡ after_empty_lines l.bytes

abbrev pub decreases-lines : goal.decreases-lines
decreases-lines l = length l.left
