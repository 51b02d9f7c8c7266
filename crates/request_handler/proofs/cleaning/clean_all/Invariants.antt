-- The buckets so far were cleaned, and what each holds is in the sum.
use Rattle.std.proofs.Common.{◌≡◌, ◌*◌, ◌≤◌, ◌^◌}
use Rattle.tracker_model.specs.declared.call.Call.TheVariants.{Clean}
use Rattle.request_handler.specs.Cleaning.{held_sum}
use Rattle.request_handler.specs.Making.{Gives}
use Rattle.request_handler.proofs.EachBucket.{on_first_buckets}
use Rattle.request_handler.proofs.cleaning.clean_all.Given as goal

abbrev pub invariant-buckets : goal.invariant-buckets
invariant-buckets g l =
    let t = g.T.Tracker in record {
      settings : t.settings l.tracker ≡ t.settings l.initial.tracker;
      bits : t.bits l.tracker ≡ t.bits l.initial.tracker;
      cleaned : Gives t.made l.minute l.initial.tracker (on_first_buckets l.bucket Clean) held_sum l.tracker l.left;
      bounded : l.left ≤ l.bucket * 2 ^ 64;
    }
