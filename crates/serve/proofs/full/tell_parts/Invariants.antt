-- The buckets so far were scanned, and the text of their rows was written.
use Rattle.std.proofs.Common.{◌≡◌, ◌≤◌}
use Rattle.serve.specs.Full.{TellsFirst}
use Rattle.serve.proofs.full.tell_parts.Given as goal

abbrev pub invariant-buckets : goal.invariant-buckets
invariant-buckets g l =
    let t = g.T.Tracker in
    let k = g.K.Sink in record {
      settings : t.settings l.tracker ≡ t.settings l.initial.tracker;
      bits : t.bits l.tracker ≡ t.bits l.initial.tracker;
      told : TellsFirst t.made l.minute l.bucket l.initial.tracker l.tracker (k.written l.initial.sink) (k.written l.sink);
      counted : k.faults l.initial.sink ≤ k.faults l.sink;
      aside : k.aside l.sink ≡ k.aside l.initial.sink;
    }
