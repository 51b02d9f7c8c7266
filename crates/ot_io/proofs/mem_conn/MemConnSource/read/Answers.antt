-- A piece: its bytes and what is left then are what was left before.
use Rattle.std.proofs.Common.{◌≡◌, ℕ, ◌+◌, ◌<◌, ◌≤◌, List, ◌++◌, ◌∙◌, sym, ap, length, take, drop, arith, rules}
use Rattle.std.proofs.Math.Seq.{drop-drop}
use Rattle.std.proofs.lemmas.List.{take-append-drop, take-append-le, take_rest, take_all, length-take}
use Rattle.ot_io.proofs.mem_conn.MemConnSource.read.Goals as goal

seamed : (xs front others : List ℕ) (taken count : ℕ) → front ≡ take count (drop taken xs) → take count (front ++ others) ≡ front
    → drop taken xs ≡ take count (front ++ others) ++ drop (taken + count) xs
seamed xs front others taken count given fits =
    sym (rw (fits, given, ← drop-drop count taken xs) (take-append-drop count (drop taken xs)))

pub returns-clause-piece : goal.returns-clause-piece
returns-clause-piece c =
    let all = take_rest c.as_slice-2.result.now c.args.self.now.taken in
    let given = rw (all, c.as_slice-2.ensures.value) at c.copy_from_slice.ensures.after in
    let count = rw (all, c.as_slice-2.ensures.value) at c.min-count.ensures in
    let fits : c.min-count.result ≤ length c.copy_from_slice.new.self = omega (arith, length-take {A = ℕ}, ap length given, count) in
    let whole = take-append-le c.min-count.result c.copy_from_slice.new.self (drop c.min-count.result c.args.buf.now) fits
    ∙ take_all c.min-count.result c.copy_from_slice.new.self (omega (arith, length-take {A = ℕ}, ap length given)) in
    let some : 0 < c.min-count.result = search rules in
    let within : c.min-count.result ≤ length (c.copy_from_slice.new.self ++ drop c.min-count.result c.args.buf.now) = search rules in
    (some, within, seamed _ _ _ _ _ given whole)
