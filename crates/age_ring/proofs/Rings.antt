-- What stands in a ring still stands in it.
use Rattle.std.proofs.Common.{◌≡◌, ◌≢◌, ℕ, ◌+◌, ◌-◌, ◌%◌, ◌<◌, ◌≤◌, List, Option, Some, None, arith, ◌∙◌, ap, get_or, length}
use Rattle.std.specs.List.{All, swap_remove}
use Rattle.std.specs.Option.{IfSome, IfNone}
use Rattle.node_table.specs.declared.table.Node.{Node}
use Rattle.node_table.specs.declared.table.TheConstants.{NO_PLACE}
use Rattle.age_ring.specs.Links.{IsRing, AreAllLinked, pairs_of}
use Rattle.age_ring.specs.Ring.{IsYoung, stamps_of}
use Rattle.age_ring.proofs.Links.{no_head-no_place}
use Rattle.age_ring.proofs.Nodes.{length-pairs_of}
use Rattle.age_ring.proofs.Pairs.{All-swap_remove, length-swap_remove, stamp_of, stamp_within, due_by_slot, slot_by_due}

pub is_ring-swap_remove : {T : Type 0} (nodes nodes₁ nodes₂ : List (Node T)) (heads heads' : List ℕ) (i time spare spare' : ℕ) (item : T) → IsRing nodes heads time spare → i < length nodes
    → pairs_of nodes₁ ≡ pairs_of nodes → ((pair : T × ℕ) → pairs_of nodes₂ ≡ swap_remove (pairs_of nodes₁) i pair) → AreAllLinked nodes₂ heads' → length heads' ≡ length heads → spare' ≡ spare + 1
    → IsRing nodes₂ heads' time spare'
is_ring-swap_remove {T} nodes nodes₁ nodes₂ heads heads' i time spare spare' item ring within same left linked ages more =
    let d : T × ℕ = (item, 0) in
    let inside : i < length (pairs_of nodes) = omega (arith, length-pairs_of nodes) in
    let pairs : pairs_of nodes₂ ≡ swap_remove (pairs_of nodes) i d = left d ∙ ap (λ l. swap_remove l i d) same in
    let fewer : length nodes₂ ≡ length nodes - 1 = omega (arith, length-pairs_of nodes, length-pairs_of nodes₂, ap length pairs, length-swap_remove (pairs_of nodes) i d) in
    record {
      linked = linked;
      few = omega (arith, ring.few);
      some_ages = omega (arith, ring.some_ages);
      few_ages = omega (arith, ring.few_ages);
      past = rw pairs (All-swap_remove (λ (p : T × ℕ). p.1 ≤ time) (pairs_of nodes) i d inside ring.past);
      young = rw (pairs, ages) (All-swap_remove (IsYoung (length heads) time) (pairs_of nodes) i d inside ring.young);
    }

-- a slot without a head has no stamp
pub none_in_slot : {T : Type 0} (nodes : List (Node T)) (heads : List ℕ) (slot : ℕ) → AreAllLinked nodes heads → get_or heads slot 0 ≡ NO_PLACE → All (λ pair. pair.1 % length heads ≢ slot) (pairs_of nodes)
none_in_slot {T} nodes heads slot l none = λ k d lt same.
    let within : k < length nodes = omega (arith, length-pairs_of nodes) in
    no_head-no_place slot l none k within (ap (λ s. s % length heads) (stamp_of (pairs_of nodes) k d lt) ∙ same)

-- the first place of the list in whose slot a due time falls, if there is one, has an item that
-- becomes due then
pub due_at_first : {T : Type 0} (nodes : List (Node T)) (heads : List ℕ) (time spare due : ℕ) (first : Option ℕ) → IsRing nodes heads time spare → time < due → due ≤ time + length heads
    → IfSome first (λ i. i < length nodes) → IfSome first (λ i. get_or (stamps_of (pairs_of nodes)) i 0 % length heads ≡ due % length heads)
    → IfSome first (λ i. get_or (stamps_of (pairs_of nodes)) i 0 + length heads ≡ due)
due_at_first {T} nodes heads time spare due None ring later soon within slot = tt
due_at_first {T} nodes heads time spare due (Some i) ring later soon within slot =
    let inside : i < length (pairs_of nodes) = omega (arith, length-pairs_of nodes, within) in
    let ages = length heads in
    due_by_slot (get_or (stamps_of (pairs_of nodes)) i 0) ages time due (omega (arith, ring.some_ages)) (stamp_within (λ s. s ≤ time) (pairs_of nodes) i ring.past inside) (stamp_within (λ s. time < s + ages) (pairs_of nodes) i ring.young inside) later soon slot

pub none_due : {T : Type 0} (ages due : ℕ) (pairs : List (T × ℕ)) (first : Option ℕ) → IfNone first (All (λ pair. pair.1 % ages ≢ due % ages) pairs) → IfNone first (All (λ pair. pair.1 + ages ≢ due) pairs)
none_due {T} ages due pairs None none = λ k d lt is. none k d lt (slot_by_due (get_or pairs k d).1 ages due is)
none_due {T} ages due pairs (Some i) none = tt
