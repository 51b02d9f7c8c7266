use Rattle.std.proofs.Common.{◌≡◌, ◌++◌, take, drop}
use Rattle.ot_base.specs.Order.{hash_cmp}
use Rattle.tracker_model.specs.Counted.{put_in_order}
use Rattle.tracker_core.proofs.http_plan.put_in_order.Given as goal

-- it comes after all hashes so far
abbrev pub invariant-places : goal.invariant-places
invariant-places l =
    put_in_order hash_cmp l.hash l.fn.hashes.items
    ≡ take l.place l.hashes.items ++ put_in_order hash_cmp l.hash (drop l.place l.hashes.items)
