-- Each new bucket is one more.
use Rattle.std.proofs.Common.{◌≡◌, ◌^◌, arith}
use Rattle.bucket.proofs.ShelfLemmas.{new_more, new_shelf}
use Rattle.bucket.proofs.shelf.Shelf.new.Goals as goal

pub loop-preserved : goal.loop-preserved
loop-preserved c =
    let new = c.in_ok-new in
    rw c.in_ok-push.ensures.items
    (new_more (record { limits = c.args.limits; sync = c.args.sync }) c.loop.counter c.loop.buckets.items new.field-0 c.loop.invariant new.ensures.settings new.ensures.stands new.ensures.empty)

pub returns-clause-stands : goal.returns-clause-stands
returns-clause-stands c =
    let all : c.loop.counter ≡ 2 ^ c.args.bits = omega (arith, c.buckets_of_bits-end.ensures) in
    new_shelf c.args.bits (record { limits = c.args.limits; sync = c.args.sync }) c.loop.counter c.loop.buckets.items c.requires.few all c.loop.invariant
