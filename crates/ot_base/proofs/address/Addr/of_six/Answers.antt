use Rattle.std.proofs.Common.{◌≡◌, length, arith, rules}
use Rattle.ot_base.proofs.AddressLemmas.{last_four}
use Rattle.ot_base.proofs.address.Addr.of_six.Goals as goal

pub returns-then-starts_with : goal.returns-then-starts_with
returns-then-starts_with c = let h : length c.args.bytes ≡ 16 = omega (arith, c.well_formed) in let e = last_four c.args.bytes h in search (rules, e)
