-- The buckets so far were scanned, and the digits of their rows were added.
use Rattle.std.proofs.Common.{◌≡◌, List, ℕ}
use Rattle.lines.specs.Replies.{Adds}
use Rattle.lines.specs.Streams.{IsLaterSink}
use Rattle.offline.specs.Full.{TellsFirst}
use Rattle.offline.proofs.full.add_parts.Given as goal

abbrev pub invariant-buckets : goal.invariant-buckets
invariant-buckets g l = record {
  settings : l.shelf.settings ≡ l.initial.shelf.settings;
  bits : l.shelf.bits ≡ l.initial.shelf.bits;
  told : (text : List ℕ) × TellsFirst l.minute l.bucket l.initial.shelf text l.shelf
      × Adds (g.O.Sink.written l.initial.out) (g.O.Sink.written l.out) l.initial.replies l.replies text;
  later : IsLaterSink g.O.Sink.faults g.O.Sink.aside l.initial.out l.out;
}
