-- What wires, listeners and makers did one after another.
use Rattle.std.proofs.Common.{◌≡◌, ◌∙◌, ℕ, ◌+◌, List, [], ◌++◌, sym, ap, length, arith, append_assoc, length-append, rules}
use Rattle.std.specs.Prelude.{Option, Some, None}
use Rattle.ot_io.specs.Traffic.{Datagram, Traffic, Moves}
use Rattle.ot_io.specs.Tales.{Tale, Links, Passes, AreOwed}
use Rattle.ot_io.specs.Lending.{Lent, Lends, AreOut}
use Rattle.std.proofs.lemmas.Grind.{common_steps}

pub Moves-refl : (a : Option Traffic) → Moves a a [] []
Moves-refl None = tt
Moves-refl (Some a) = search rules

pub Moves-trans : (a b c : Option Traffic) (ins outs ins' outs' : List Datagram) → Moves a b ins outs → Moves b c ins' outs' → Moves a c (ins ++ ins') (outs ++ outs')
Moves-trans None None None ins outs ins' outs' p q = tt
Moves-trans None None (Some c) ins outs ins' outs' p q = absurd q
Moves-trans None (Some b) c ins outs ins' outs' p q = absurd p
Moves-trans (Some a) None c ins outs ins' outs' p q = absurd p
Moves-trans (Some a) (Some b) None ins outs ins' outs' p q = absurd q
Moves-trans (Some a) (Some b) (Some c) ins outs ins' outs' p q = (
  p.0 ∙ ap (λ w. ins ++ w) q.0 ∙ sym (append_assoc ins ins' c.waiting),
  q.1 ∙ ap (λ w. w ++ ins') p.1 ∙ append_assoc a.received ins ins',
  q.2 ∙ ap (λ w. w ++ outs') p.2 ∙ append_assoc a.sent outs outs',
)

pub Passes-refl : (a : Option Links) → Passes a a [] []
Passes-refl None = tt
Passes-refl (Some a) = search rules

pub Passes-trans : (a b c : Option Links) (came went came' went' : List Tale) → Passes a b came went → Passes b c came' went' → Passes a c (came ++ came') (went ++ went')
Passes-trans None None None came went came' went' p q = tt
Passes-trans None None (Some c) came went came' went' p q = absurd q
Passes-trans None (Some b) c came went came' went' p q = absurd p
Passes-trans (Some a) None c came went came' went' p q = absurd p
Passes-trans (Some a) (Some b) None came went came' went' p q = absurd q
Passes-trans (Some a) (Some b) (Some c) came went came' went' p q = (
  p.0 ∙ ap (λ w. came ++ w) q.0 ∙ sym (append_assoc came came' c.waiting),
  q.1 ∙ ap (λ w. w ++ came') p.1 ∙ append_assoc a.accepted came came',
  q.2 ∙ ap (λ w. w ++ went') p.2 ∙ append_assoc a.finished went went',
)

-- how many are owed then
pub AreOwed-after : (a b : Option Links) (came went : List Tale) (m n : ℕ) → Passes a b came went → AreOwed a m → n + length went ≡ m + length came → AreOwed b n
AreOwed-after None None came went m n p h e = tt
AreOwed-after None (Some b) came went m n p h e = absurd p
AreOwed-after (Some a) None came went m n p h e = absurd p
AreOwed-after (Some a) (Some b) came went m n p h e =
    omega (arith, h, e, ap length p.1, ap length p.2, length-append a.accepted came, length-append a.finished went)

pub Lends-refl : {T : Type 0} (a : Option (Lent T)) → Lends a a 0 []
Lends-refl None = tt
Lends-refl (Some a) = search (rules, common_steps)

pub Lends-trans : {T : Type 0} (a b c : Option (Lent T)) (m n : ℕ) (xs ys : List T) → Lends a b m xs → Lends b c n ys → Lends a c (m + n) (xs ++ ys)
Lends-trans None None None m n xs ys p q = tt
Lends-trans None None (Some c) m n xs ys p q = absurd q
Lends-trans None (Some b) c m n xs ys p q = absurd p
Lends-trans (Some a) None c m n xs ys p q = absurd p
Lends-trans (Some a) (Some b) None m n xs ys p q = absurd q
Lends-trans (Some a) (Some b) (Some c) m n xs ys p q = (
  omega (arith, p.0, q.0),
  q.1 ∙ ap (λ w. w ++ ys) p.1 ∙ append_assoc a.back xs ys,
)

-- how many are out then
pub AreOut-after : {T : Type 0} (a b : Option (Lent T)) (count : ℕ) (tales : List T) (m n : ℕ) → Lends a b count tales → AreOut a m → n + length tales ≡ m + count → AreOut b n
AreOut-after None None count tales m n p h e = tt
AreOut-after None (Some b) count tales m n p h e = absurd p
AreOut-after (Some a) None count tales m n p h e = absurd p
AreOut-after (Some a) (Some b) count tales m n p h e =
    omega (arith, h, e, p.0, ap length p.1, length-append a.back tales)
