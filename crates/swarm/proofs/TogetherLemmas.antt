-- The peers of each family stay of it, and no more than may be held.
use Rattle.std.proofs.Common.{◌≡◌, ℕ, ◌≤◌, List, ◌++◌, refl, sym, length, drop, arith}
use Rattle.std.proofs.lemmas.List.{length-append}
use Rattle.std.proofs.lemmas.List.Elements.{All-drop, All-same}
use Rattle.std.proofs.lemmas.List.{drop_at}
use Rattle.std.proofs.lemmas.List.Sorted.{All-permutation, length_permutation}
use Rattle.ot_base.specs.Address.{family_of}
use Rattle.ot_base.specs.declared.address.Family.{Family}
use Rattle.ot_base.specs.declared.peer.Held.{Held}
use Rattle.swarm.specs.Members.{Expires}
use Rattle.swarm.specs.Shape.{AreOf}

pub of_it-expires : (f : Family) (time : ℕ) (old new : List Held) → Expires time old new → AreOf f old → AreOf f new
of_it-expires f time old new it all =
    let P = λ (h : Held). family_of h.who.addr ≡ f in
    let rest : drop (length it.gone) (it.gone ++ new) ≡ new = drop_at it.gone new (length it.gone) refl in
    All-same P new (drop (length it.gone) (it.gone ++ new)) (sym rest) (All-drop P (length it.gone) (it.gone ++ new) (All-permutation P old (it.gone ++ new) it.moves all))

pub fewer : (time : ℕ) (old new : List Held) → Expires time old new → length new ≤ length old
fewer time old new it = omega (arith, length_permutation old (it.gone ++ new) it.moves, length-append it.gone new)
