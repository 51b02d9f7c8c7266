-- What came back of an outside, one after another.
use Rattle.std.proofs.Common.{◌≡◌, ℕ, ◌+◌, ◌≤◌, List, [], ◌∷◌, ◌++◌, length, map, sym, ap, subst, ◌∙◌, arith}
use Rattle.std.specs.Prelude.{Option, Some, None}
use Rattle.std.proofs.lemmas.List.{length-append, length-map, map-append}
use Rattle.ot_io.specs.Lending.{AreOut, Lends, Lent}
use Rattle.ot_io.proofs.Runs.{Lends-trans}
use Rattle.server.specs.Devices.{IsShut, TakesBack}

-- some are out still
pub still_out : {T : Type 0} (a b : Option (Lent T)) (tales : List T) (m n : ℕ) → Lends a b 0 tales → AreOut a m → length tales + n ≤ m → AreOut b n
still_out None None tales m n lends out few = tt
still_out None (Some b) tales m n lends out few = absurd lends
still_out (Some a) None tales m n lends out few = absurd lends
still_out (Some a) (Some b) tales m n lends out few =
    let made = lends.0 in let back = ap length lends.1 in let long = length-append a.back tales in omega arith

-- more of them came back
pub back_more : {X T : Type 0} (tale_of : X → T) (a b c : Option (Lent T)) (xs ys zs : List X) → zs ≡ xs ++ ys → Lends a b 0 (map tale_of xs) → Lends b c 0 (map tale_of ys) → Lends a c 0 (map tale_of zs)
back_more tale_of a b c xs ys zs is first then =
    subst (λ l. Lends a c 0 l) (sym (ap (map tale_of) is ∙ map-append tale_of xs ys)) (Lends-trans a b c 0 0 (map tale_of xs) (map tale_of ys) first then)

-- one that is still to come back is out
pub one_out : {X T : Type 0} (tale_of : X → T) (a b : Option (Lent T)) (all done rest : List X) (x : X) (n : ℕ) → n ≡ length all → all ≡ done ++ x ∷ rest → AreOut a n → Lends a b 0 (map tale_of done) → AreOut b 1
one_out tale_of a b all done rest x n many is out lends =
    still_out a b (map tale_of done) n 1 lends out
    (let e = ap length is in let f = length-append done (x ∷ rest) in let g = length-map done tale_of in omega arith)

-- all that were made came back, whatever was done of other kinds between
pub shut_after : {T : Type 0} (a b b' c c' : Option (Lent T)) (count : ℕ) (back : List T) → Lends a b count [] → b' ≡ b → Lends b' c 0 back → c' ≡ c → length back ≡ count → IsShut a c'
shut_after a b b' c c' count back made same came still many =
    let all : Lends a c (count + 0) back = Lends-trans a b c count 0 [] back made (subst (λ x. Lends x c 0 back) same came) in
    let of : count + 0 ≡ length back = omega arith in
    subst (λ x. IsShut a x) (sym still) (record { back = back; lends = subst (λ n. Lends a c n back) of all })

-- so many were made, whatever was done of other kinds then
pub lends_so : {T : Type 0} (a b b' : Option (Lent T)) (m n : ℕ) → Lends a b m [] → b' ≡ b → m ≡ n → Lends a b' n []
lends_so a b b' m n made still many = subst (λ x. Lends a x n []) (sym still) (subst (λ k. Lends a b k []) many made)

-- so many more were made
pub lends_more : {T : Type 0} (a b b' c c' : Option (Lent T)) (m n k : ℕ) → Lends a b m [] → b' ≡ b → Lends b' c n [] → c' ≡ c → m + n ≡ k → Lends a c' k []
lends_more a b b' c c' m n k made same more still many =
    lends_so a c c' (m + n) k (Lends-trans a b c m n [] [] made (subst (λ x. Lends x c n []) same more)) still many

-- so many came back, whatever was done of other kinds before and then
pub took : {T : Type 0} (a a' b b' : Option (Lent T)) (n : ℕ) (back : List T) → a' ≡ a → Lends a' b 0 back → b' ≡ b → length back ≡ n → TakesBack n a b'
took a a' b b' n back before came still many = record { back = back; many = many; lends = subst (λ x. Lends a x 0 back) (sym still) (subst (λ x. Lends x b 0 back) before came) }

-- some came back, and then others
pub took_both : {T : Type 0} (a b b' c : Option (Lent T)) (m n : ℕ) (xs ys : List T) → Lends a b 0 xs → b' ≡ b → Lends b' c 0 ys → length xs ≡ m → length ys ≡ n → TakesBack (m + n) a c
took_both a b b' c m n xs ys first same then many many' = record {
  back = xs ++ ys;
  many = omega (arith, length-append xs ys, many, many');
  lends = Lends-trans a b c 0 0 xs ys first (subst (λ x. Lends x c 0 ys) same then);
}
