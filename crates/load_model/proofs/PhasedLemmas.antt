-- The requests of a load by phases, of which none comes before an earlier one.
use Rattle.std.proofs.Common.{◌≡◌, ◌≢◌, ℕ, zero, suc, ◌+◌, ◌-◌, ◌*◌, ◌/◌, ◌<◌, ◌≤◌, Bool, true, false, List, [], ◌∷◌, ◌++◌, refl, sym, ◌∙◌, ap, subst, cond, arith, length, map, append_assoc}
use Rattle.std.proofs.Math.Nat.{div-lt_iff_lt-mul, div-mul-le_self, le-div_iff_mul-le}
use Rattle.std.proofs.lemmas.Bool.Decides.{nat_tests}
use Rattle.std.proofs.lemmas.List.{append-nil, length-append, length-map}
use Rattle.std.proofs.lemmas.List.Elements.{filter-append}
use Rattle.std.specs.Bool.{◌==◌}
use Rattle.std.specs.List.{filter, AllByRecursion}
use Rattle.rand_core.specs.Pcg32Seed.{pcg32_seed}
use Rattle.rand_pcg.specs.Lcg.{Lcg}
use Rattle.rand_pcg.specs.Pcg.{pcg32, pcg32_of_seed}
use Rattle.load_model.specs.Drawing.{AllBefore, AllFrom, IsLeft, IsNotNext, of_phase}
use Rattle.load_model.specs.Load.{drawn, phased, requests, requests_in}
use Rattle.load_model.specs.declared.request.Request.{Request}
use Rattle.load_model.specs.declared.settings.DrillSettings.{DrillSettings}
use Rattle.load_model.proofs.PartLemmas.{all_weaker}

-- ---- phases ascend

phase_grows : (count i : ℕ) → 0 < count → i * 8 / count ≤ (i + 1) * 8 / count
phase_grows count i some =
    (le-div_iff_mul-le {k = count} {x = i * 8 / count} {y = (i + 1) * 8} some).1 (let e = div-mul-le_self (i * 8) count in omega arith)

from_less : (a b : ℕ) → a ≤ b → (xs : List (ℕ × Request)) → AllFrom b xs → AllFrom a xs
from_less a b le = all_weaker (λ x. b ≤ x.0) (λ x. a ≤ x.0) (λ x from. let e : b ≤ x.0 = from in omega arith)

phased_from : (count i : ℕ) → 0 < count → (rs : List Request) → AllFrom (i * 8 / count) (phased count i rs)
phased_from count i some [] = tt
phased_from count i some (r ∷ rs) =
    ((let e : i * 8 / count ≤ i * 8 / count = omega arith in e), from_less (i * 8 / count) ((i + 1) * 8 / count) (phase_grows count i some) (phased count (i + 1) rs) (phased_from count (i + 1) some rs))

-- each phase is at most the next ones
abbrev pub Ascends : List (ℕ × Request) → Type 0
Ascends [] = Unit {0}
Ascends (x ∷ xs) = AllFrom x.0 xs × Ascends xs

phased_ascends : (count i : ℕ) → 0 < count → (rs : List Request) → Ascends (phased count i rs)
phased_ascends count i some [] = tt
phased_ascends count i some (r ∷ rs) =
    (from_less (i * 8 / count) ((i + 1) * 8 / count) (phase_grows count i some) (phased count (i + 1) rs) (phased_from count (i + 1) some rs), phased_ascends count (i + 1) some rs)

phased_below : (count i : ℕ) (rs : List Request) → i + length rs ≤ count → AllBefore 8 (phased count i rs)
phased_below count i [] fits = tt
phased_below count i (r ∷ rs) fits =
    let some : 0 < count = omega arith in
    ((div-lt_iff_lt-mul {k = count} {x = i * 8} {y = 8} some).1 (omega arith), phased_below count (i + 1) rs (omega arith))

length_phased : (count i : ℕ) (rs : List Request) → length (phased count i rs) ≡ length rs
length_phased count i [] = refl
length_phased count i (r ∷ rs) = ap suc (length_phased count (i + 1) rs)

length_drawn : (g : Lcg) (n : ℕ) → length (drawn g n) ≡ n
length_drawn g zero = refl
length_drawn g (suc n) = ap suc (length_drawn (pcg32 (pcg32 g).1).1 n)

pub requests_count : (s : DrillSettings) → length (requests s) ≡ s.count
requests_count s = length_phased s.count 0 (drawn (pcg32_of_seed (pcg32_seed 16 s.seed)) s.count) ∙ length_drawn (pcg32_of_seed (pcg32_seed 16 s.seed)) s.count

requests_ascend_of : (s : DrillSettings) (n : ℕ) → s.count ≡ n → Ascends (phased s.count 0 (drawn (pcg32_of_seed (pcg32_seed 16 s.seed)) n))
requests_ascend_of s zero same = tt
requests_ascend_of s (suc n) same = phased_ascends s.count 0 (omega arith) (drawn (pcg32_of_seed (pcg32_seed 16 s.seed)) (suc n))

pub requests_ascend : (s : DrillSettings) → Ascends (requests s)
requests_ascend s = requests_ascend_of s s.count refl

pub requests_below : (s : DrillSettings) → AllBefore 8 (requests s)
requests_below s = phased_below s.count 0 (drawn (pcg32_of_seed (pcg32_seed 16 s.seed)) s.count) (let e = length_drawn (pcg32_of_seed (pcg32_seed 16 s.seed)) s.count in omega arith)

-- ---- drawn phase by phase

pub all_left : (s : DrillSettings) → IsLeft s 0 0 (requests s)
all_left s = record { front = []; many = refl; cut = refl; before = tt; from = every (requests s) }
  where
    every : (xs : List (ℕ × Request)) → AllFrom 0 xs
    every [] = tt
    every (x ∷ xs) = (omega arith, every xs)

all_of_phase : (P : ℕ → Type 0) (phase : ℕ) (rs : List Request) → P phase → AllByRecursion (λ x. P x.0) (of_phase phase rs)
all_of_phase P phase [] is = tt
all_of_phase P phase (r ∷ rs) is = (is, all_of_phase P phase rs is)

all_append : {X : Type 0} (P : X → Type 0) (front back : List X) → AllByRecursion P front → AllByRecursion P back → AllByRecursion P (front ++ back)
all_append P [] back first next = next
all_append P (x ∷ front) back first next = (first.0, all_append P front back first.1 next)

all_back : {X : Type 0} (P : X → Type 0) (front back : List X) → AllByRecursion P (front ++ back) → AllByRecursion P back
all_back P [] back all = all
all_back P (x ∷ front) back all = all_back P front back all.1

ascends_back : (front back : List (ℕ × Request)) → Ascends (front ++ back) → Ascends back
ascends_back [] back up = up
ascends_back (x ∷ front) back up = ascends_back front back up.1

-- what isn't of this phase is of later ones
later_phase : (phase : ℕ) (left : List (ℕ × Request)) → Ascends left → AllFrom phase left → IsNotNext phase left → AllFrom (phase + 1) left
later_phase phase [] up from other = tt
later_phase phase (x ∷ left) up from other =
    let first : phase + 1 ≤ x.0 = (let e : phase ≤ x.0 = from.0 in let apart : x.0 ≢ phase = other in omega arith) in
    (first, from_less (phase + 1) x.0 first left up.0)

none_in : (phase : ℕ) (xs : List (ℕ × Request)) → AllByRecursion (λ x. x.0 ≢ phase) xs → requests_in phase xs ≡ []
none_in phase [] apart = refl
none_in phase (x ∷ xs) apart =
    let no_ : (x.0 == phase) ≡ false = (let e : x.0 ≢ phase = apart.0 in grind (arith, nat_tests)) in
    ap (λ b. map (λ (y : ℕ × Request). y.1) (cond b (x ∷ filter (λ (y : ℕ × Request). y.0 == phase) xs) (filter (λ (y : ℕ × Request). y.0 == phase) xs))) no_ ∙ none_in phase xs apart.1

all_in : (phase : ℕ) (rs : List Request) → requests_in phase (of_phase phase rs) ≡ rs
all_in phase [] = refl
all_in phase (r ∷ rs) =
    let yes_ : (phase == phase) ≡ true = grind (arith, nat_tests) in
    let others = of_phase phase rs in
    ap (λ b. map (λ (y : ℕ × Request). y.1) (cond b ((phase, r) ∷ filter (λ (y : ℕ × Request). y.0 == phase) others) (filter (λ (y : ℕ × Request). y.0 == phase) others))) yes_
    ∙ ap (λ l. r ∷ l) (all_in phase rs)

map_append : {X Y : Type 0} (f : X → Y) (xs ys : List X) → map f (xs ++ ys) ≡ map f xs ++ map f ys
map_append f [] ys = refl
map_append f (x ∷ xs) ys = ap (λ l. f x ∷ l) (map_append f xs ys)

requests_in-append : (phase : ℕ) (xs ys : List (ℕ × Request)) → requests_in phase (xs ++ ys) ≡ requests_in phase xs ++ requests_in phase ys
requests_in-append phase xs ys =
    ap (map (λ (y : ℕ × Request). y.1)) (filter-append (λ (y : ℕ × Request). y.0 == phase) xs ys)
    ∙ map_append (λ (y : ℕ × Request). y.1) (filter (λ (y : ℕ × Request). y.0 == phase) xs) (filter (λ (y : ℕ × Request). y.0 == phase) ys)

module _ (s : DrillSettings) (phase before : ℕ) (left rest : List (ℕ × Request)) (dealt : List Request) (is_left : IsLeft s phase before left) (drew : left ≡ of_phase phase dealt ++ rest) (ended : IsNotNext phase rest) where
  up : Ascends left
  up = ascends_back is_left.front left (subst Ascends is_left.cut (requests_ascend s))

  rest_from : AllFrom (phase + 1) rest
  rest_from = later_phase phase rest (ascends_back (of_phase phase dealt) rest (subst Ascends drew up)) (all_back (λ x. phase ≤ x.0) (of_phase phase dealt) rest (subst (AllFrom phase) drew is_left.from)) ended

  pub left_next : IsLeft s (phase + 1) (before + length dealt) rest
  left_next = record {
    front = is_left.front ++ of_phase phase dealt;
    many = length-append is_left.front (of_phase phase dealt) ∙ (λ k. is_left.many k + length-map {B = ℕ × Request} dealt (λ r. (phase, r)) k);
    cut = is_left.cut ∙ ap (λ l. is_left.front ++ l) drew ∙ sym (append_assoc is_left.front (of_phase phase dealt) rest);
    before = all_append (λ x. x.0 < phase + 1) is_left.front (of_phase phase dealt)
        (all_weaker (λ x. x.0 < phase) (λ x. x.0 < phase + 1) (λ x less. let e : x.0 < phase = less in omega arith) is_left.front is_left.before)
        (all_of_phase (λ n. n < phase + 1) phase dealt (omega arith));
    from = rest_from;
  }

  -- these are all requests of the phase
  pub dealt_all : requests_in phase (requests s) ≡ dealt
  dealt_all =
      ap (requests_in phase) (is_left.cut ∙ ap (λ l. is_left.front ++ l) drew)
      ∙ requests_in-append phase is_left.front (of_phase phase dealt ++ rest)
      ∙ (λ k. none_in phase is_left.front (all_weaker (λ x. x.0 < phase) (λ x. x.0 ≢ phase) (λ x less. let e : x.0 < phase = less in let p : x.0 ≢ phase = omega arith in p) is_left.front is_left.before) k
      ++ requests_in-append phase (of_phase phase dealt) rest k)
      ∙ (λ k. all_in phase dealt k
      ++ none_in phase rest (all_weaker (λ x. phase + 1 ≤ x.0) (λ x. x.0 ≢ phase) (λ x from. let e : phase + 1 ≤ x.0 = from in let p : x.0 ≢ phase = omega arith in p) rest rest_from) k)
      ∙ append-nil dealt

-- after eight phases all requests were drawn
pub all_drawn_by : (s : DrillSettings) (drew : ℕ) (left : List (ℕ × Request)) → IsLeft s 8 drew left → drew ≡ s.count
all_drawn_by s drew left is_left =
    let none_left = nothing left is_left.from (all_back (λ x. x.0 < 8) is_left.front left (subst (AllBefore 8) is_left.cut (requests_below s))) in
    sym is_left.many ∙ sym (sym (requests_count s) ∙ ap length is_left.cut ∙ ap (λ l. length (is_left.front ++ l)) none_left ∙ ap length (append-nil is_left.front))
  where
    nothing : (xs : List (ℕ × Request)) → AllFrom 8 xs → AllBefore 8 xs → xs ≡ []
    nothing [] from before = refl
    nothing (x ∷ xs) from before = absurd (let a : 8 ≤ x.0 = from.0 in let b : x.0 < 8 = before.0 in omega arith)
