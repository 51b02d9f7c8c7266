-- The front of a list of notes that is of one family.
use Rattle.std.proofs.Common.{◌≡◌, ◌<◌, ◌≤◌, ℕ, List, [], ◌∷◌, true, false, length, take, get_or, refl, sym, arith}
use Rattle.std.proofs.lemmas.List.{length-take, get_or-take, get_or_default}
use Rattle.std.proofs.lemmas.List.Sums.{prefix_len_is, prefix_len_passes, prefix_len_stops, prefix_len-le-length}
use Rattle.ot_base.specs.Address.{family_of, no_endpoint}
use Rattle.ot_base.specs.Same.{same_family}
use Rattle.ot_base.specs.declared.address.Family.{Family}
use Rattle.ot_base.specs.declared.address.Family.TheVariants.{Four, Six}
use Rattle.ot_base.specs.declared.peer.Mark.TheVariants.{Leecher}
use Rattle.ot_base.specs.declared.peer.Note.{Note}
use Rattle.sync_wire.specs.Batches.{AreOfOneFamily, is_of_family, front_len, batch_len_of}

-- a note that stands where a list has none
abbrev pub no_note : Note
no_note = record { hash = record { 0 = [] }; who = no_endpoint; mark = Leecher }

pub front_len-is : (family : Family) (notes : List Note) (i : ℕ) → i ≤ 50 → i ≤ length notes
    → ((k : ℕ) → k < i → is_of_family family (get_or notes k no_note) ≡ true)
    → (i < 50 → i < length notes → is_of_family family (get_or notes i no_note) ≡ false) → i ≡ front_len family notes
front_len-is family notes i few short all stop =
    let len = length-take 50 notes in
    sym (prefix_len_is (λ note. is_of_family family note) (take 50 notes) i no_note (omega arith)
    (λ k h. let b : k < 50 = omega arith in rw (get_or-take 50 notes k no_note b) (all k h))
    (λ h. let b : i < 50 = omega arith in rw (get_or-take 50 notes i no_note b) (stop b (omega arith))))

pub front_len-stops : (family : Family) (notes : List Note) (i : ℕ) (d : Note) → i < 50 → i < length notes
    → ((k : ℕ) → k < i → is_of_family family (get_or notes k no_note) ≡ true) → is_of_family family (get_or notes i d) ≡ false
    → i ≡ front_len family notes
front_len-stops family notes i d few short all stop =
    front_len-is family notes i (omega arith) (omega arith) all
    (λ b h. rw (get_or_default notes i no_note d short) stop)

same_family-is : (f g : Family) → same_family f g ≡ true → f ≡ g
same_family-is Four Four e = refl
same_family-is Four Six e = cc
same_family-is Six Four e = cc
same_family-is Six Six e = refl

same_itself : (f : Family) → same_family f f ≡ true
same_itself Four = refl
same_itself Six = refl

pub front_len-fits : (family : Family) (notes : List Note) → (front_len family notes ≤ 50) × (front_len family notes ≤ length notes)
front_len-fits family notes =
    let most = prefix_len-le-length (λ note. is_of_family family note) (take 50 notes) in
    let len = length-take 50 notes in
    (omega arith, omega arith)

pub batch_len-fits : (notes : List Note) → (batch_len_of notes ≤ 50) × (batch_len_of notes ≤ length notes)
batch_len-fits [] = (omega arith, omega arith)
batch_len-fits (first ∷ rest) = front_len-fits (family_of first.who.addr) (first ∷ rest)

pub batch_len-some : (notes : List Note) → 1 ≤ length notes → 1 ≤ batch_len_of notes
batch_len-some [] some = absurd (omega arith)
batch_len-some (first ∷ rest) some = rw (same_itself (family_of first.who.addr)) (omega arith)

pub batch_len-family : (notes : List Note) → AreOfOneFamily (take (batch_len_of notes) notes)
batch_len-family [] = (Four, λ k d h. absurd (omega arith))
batch_len-family (first ∷ rest) =
    let family = family_of first.who.addr in
    let notes = first ∷ rest in
    let n = front_len family notes in
    let fits = front_len-fits family notes in (
      family,
      λ k d h.
          let below : k < n = omega (arith, length-take n notes) in
          let few : k < 50 = omega arith in
          let passes = prefix_len_passes (λ note. is_of_family family note) (take 50 notes) k d below in
          rw (get_or-take n notes k d below) (same_family-is _ _ (rw (get_or-take 50 notes k d few) at passes)),
    )

pub batch_len-longest : (notes : List Note) (n : ℕ) → n ≤ 50 → n ≤ length notes → AreOfOneFamily (take n notes)
    → n ≤ batch_len_of notes
batch_len-longest [] n few short one = omega arith
batch_len-longest (first ∷ rest) n few short one =
    let notes = first ∷ rest in
    let family = family_of first.who.addr in
    let m = front_len family notes in
    let len = length-take n notes in
    let len_50 = length-take 50 notes in
    let no : m < n → ⊥ =
    (λ h.
    let in_50 : m < 50 = omega arith in
    let stop = prefix_len_stops (λ note. is_of_family family note) (take 50 notes) no_note (omega arith) in
    let stopped : is_of_family family (get_or notes m no_note) ≡ false = rw (get_or-take 50 notes m no_note in_50) at stop in
    let here : family_of (get_or notes m no_note).who.addr ≡ one.0 = rw (get_or-take n notes m no_note h) at (one.1 m no_note (omega arith)) in
    let some : 0 < n = omega arith in
    let there : family ≡ one.0 = rw (get_or-take n notes 0 no_note some) at (one.1 0 no_note (omega arith)) in
    let same = same_itself one.0 in
    let yes : is_of_family family (get_or notes m no_note) ≡ true = rw (here, there) same in
    cc)
    in omega arith
