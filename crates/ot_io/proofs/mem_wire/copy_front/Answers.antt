-- The bytes that were copied are the first of all.
use Rattle.std.proofs.Common.{◌≡◌, ◌∙◌, ◌≤◌, ℕ, ap, length, take, arith, rules}
use Rattle.std.proofs.lemmas.List.{take-append-le, take_all, take_min, length-take}
use Rattle.ot_io.proofs.mem_wire.copy_front.Goals as goal

pub returns-clause-front : goal.returns-clause-front
returns-clause-front c =
    let given : c.copy_from_slice.new.self ≡ take c.min-len.result c.args.bytes.now = search rules in
    let fits : c.min-len.result ≤ length c.copy_from_slice.new.self = omega (arith, length-take {A = ℕ}, ap length given, c.min-len.ensures) in
    take-append-le c.min-len.result c.copy_from_slice.new.self _ fits
    ∙ take_all c.min-len.result c.copy_from_slice.new.self (omega (arith, length-take {A = ℕ}, ap length given))
    ∙ given
    ∙ ap (λ n. take n c.args.bytes.now) c.min-len.ensures
    ∙ take_min 2048 c.args.bytes.now
