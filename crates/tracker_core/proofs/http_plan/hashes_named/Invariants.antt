use Rattle.std.proofs.Common.{◌≡◌, true, drop, map}
use Rattle.std.specs.Prelude.{codes}
use Rattle.std.specs.List.{list_all}
use Rattle.ot_base.specs.Order.{hash_cmp}
use Rattle.query_read.specs.Query.{values_of}
use Rattle.tracker_model.specs.Counted.{ascending}
use Rattle.tracker_core.specs.HttpPlan.{hash_of, is_hash}
use Rattle.tracker_core.proofs.http_plan.hashes_named.Given as goal

-- from the last value down
abbrev pub invariant-values : goal.invariant-values
invariant-values l =
    let done = drop l.i (values_of l.query (codes "info_hash")) in record {
      valid : list_all is_hash done ≡ true;
      ordered : l.hashes.items ≡ ascending hash_cmp (map hash_of done);
    }
