use Rattle.std.proofs.Common.{◌≤◌, ◌^◌, arith}
use Rattle.std.proofs.Math.Pow.{pow_mono}
use Rattle.shards.proofs.shards.Shards.bucket_count.Goals as goal

pub returns-clause-most : goal.returns-clause-most
returns-clause-most c =
    let few : 2 ^ c.self.inside.bits ≤ 1024 = pow_mono {i = c.self.inside.bits} {j = 10} c.self.invariant.0.few_bits in
    omega (arith, few)
