use Rattle.std.proofs.Common.{◌≡◌, ◌-◌, ◌≤◌, length, take}
use Rattle.std.specs.Io.KnownBytes.{Appends}
use Rattle.ot_io.proofs.sink.send_all.Given as goal

-- the front of the bytes up to `sent` was appended, and no fault came
abbrev pub invariant-loop-sent : goal.invariant-loop-sent
invariant-loop-sent g l = record {
  within : l.sent ≤ length l.bytes;
  appended : Appends (g.K.Sink.written l.initial.sink) (g.K.Sink.written l.sink) (take l.sent l.bytes);
  counted : g.K.Sink.faults l.initial.sink ≤ g.K.Sink.faults l.sink;
  aside : g.K.Sink.aside l.sink ≡ g.K.Sink.aside l.initial.sink;
  nothing : l.sent ≡ 0 → l.sink ≡ l.initial.sink;
}

abbrev pub decreases-loop-sent : goal.decreases-loop-sent
decreases-loop-sent g l = length l.bytes - l.sent
