-- The jobs so far have the first passes, and as many clocks are gone.
use Rattle.std.proofs.Common.{◌≡◌, ◌+◌, ◌++◌, ◌≤◌, List, length, vec_capacity}
use Rattle.std.specs.Vec.Iter.{into_iter_items}
use Rattle.shards.specs.Shape.{PassShape}
use Rattle.server.specs.Opening.{AreWireJobs}
use Rattle.serve.specs.declared.job.Job.{Job}
use Rattle.server.proofs.opening.add_wire_jobs.Given as goal

abbrev pub invariant-loop-wire : goal.invariant-loop-wire
invariant-loop-wire g l = record {
  all : l.fn.wires.items ≡ l.yielded ++ l.wire-iterator.rest.items;
  jobs : (jobs : List (Job g.row.W.Denot g.row.L.Denot g.row.C.Denot)) × (done : List PassShape)
      × (l.room.items ≡ l.fn.room.items ++ jobs) × (into_iter_items l.fn.passes ≡ done ++ into_iter_items l.passes)
      × AreWireJobs l.yielded done jobs;
  clocks : length (into_iter_items l.clocks) + length l.yielded ≡ length (into_iter_items l.fn.clocks);
  capacity : vec_capacity l.fn.room ≤ vec_capacity l.room;
}
