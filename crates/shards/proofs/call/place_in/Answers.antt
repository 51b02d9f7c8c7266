-- The bytes of a hash are below 256.
use Rattle.std.proofs.Common.{◌<◌, rules, get_or}
use Rattle.shards.proofs.PlaceLemmas.{first_bits_below}
use Rattle.shards.proofs.call.place_in.Goals as goal

pub returns-clause-within : goal.returns-clause-within
returns-clause-within c =
    let first : get_or c.args.hash.0 0 0 < 256 = search rules in
    let second : get_or c.args.hash.0 1 0 < 256 = search rules in
    rw c.bucket_of.ensures (first_bits_below c.args.hash.0 c.args.bits c.requires first second)
