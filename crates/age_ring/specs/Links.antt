-- One doubly linked list for each slot, by the places of the neighbours.
use Rattle.std.specs.Prelude.{◌≡◌, ◌≢◌, ℕ, ◌+◌, ◌%◌, ◌<◌, ◌≤◌, ◌==◌, if◌then◌else◌, List, length, map, slice_index, slice_set, All}
use Rattle.node_table.specs.declared.table.Node.{Node}
use Rattle.node_table.specs.declared.table.TheConstants.{NO_PLACE, MOST_NODES}
use Rattle.age_ring.specs.Ring.{IsYoung, stamps_of}
use Rattle.age_ring.specs.declared.ring.TheConstants.{MOST_AGES}

-- The places below `n`, but for `out`, are linked: neighbours name each other, a list's first place
-- stands at its slot's head, and a rank rises along each list, so that none goes in a circle.
pub record AreLinked (none n out slots : ℕ) (slot prev next head : ℕ → ℕ) : Type 0 where
  pub few : n ≤ none
  pub within : (i : ℕ) → slot i < slots
  pub rank : ℕ → ℕ
  pub next_back : (i : ℕ) → i < n → i ≢ out → next i ≢ none
      → (next i < n) × (next i ≢ out) × (prev (next i) ≡ i)
  pub prev_back : (i : ℕ) → i < n → i ≢ out → prev i ≢ none
      → (prev i < n) × (prev i ≢ out) × (next (prev i) ≡ i)
      × (slot (prev i) ≡ slot i) × (rank (prev i) < rank i)
  pub first : (i : ℕ) → i < n → i ≢ out → prev i ≡ none → head (slot i) ≡ i
  pub heads : (a : ℕ) → a < slots → head a ≢ none
      → (head a < n) × (head a ≢ out) × (prev (head a) ≡ none) × (slot (head a) ≡ a)

-- the same of lists of numbers, where the slot of a stamp is its remainder
abbrev pub ListsAreLinked : (n out ages : ℕ) (stamps prevs nexts heads : List ℕ) → Type 0
ListsAreLinked n out ages stamps prevs nexts heads =
    AreLinked NO_PLACE n out ages (λ i. slice_index stamps i % ages)
    (λ i. slice_index prevs i) (λ i. slice_index nexts i) (λ a. slice_index heads a)

abbrev pub pairs_of : {T : Type 0} → List (Node T) → List (T × ℕ)
pairs_of nodes = map (λ node. (node.item, node.stamp)) nodes

abbrev pub prevs_of : {T : Type 0} → List (Node T) → List ℕ
prevs_of nodes = map (λ node. node.prev) nodes

abbrev pub nexts_of : {T : Type 0} → List (Node T) → List ℕ
nexts_of nodes = map (λ node. node.next) nodes

-- all nodes are linked but for that at the place `out`
abbrev pub AreLinkedBut : {T : Type 0} → ℕ → List (Node T) → List ℕ → Type 0
AreLinkedBut out nodes heads =
    ListsAreLinked (length nodes) out (length heads)
    (stamps_of (pairs_of nodes)) (prevs_of nodes) (nexts_of nodes) heads

abbrev pub AreAllLinked : {T : Type 0} → List (Node T) → List ℕ → Type 0
AreAllLinked nodes heads = AreLinkedBut NO_PLACE nodes heads

-- a place follows another, if there is that other: nothing else changed
pub record SetsNext {T : Type 0} (old new : List (Node T)) (prev next : ℕ) : Type 0 where
  pub pairs : pairs_of new ≡ pairs_of old
  pub prevs : prevs_of new ≡ prevs_of old
  pub nexts : nexts_of new ≡ slice_set (nexts_of old) prev next

-- a place comes before another, if there is that other: nothing else changed
pub record SetsPrev {T : Type 0} (old new : List (Node T)) (next prev : ℕ) : Type 0 where
  pub pairs : pairs_of new ≡ pairs_of old
  pub prevs : prevs_of new ≡ slice_set (prevs_of old) next prev
  pub nexts : nexts_of new ≡ nexts_of old

-- the heads with another first place of a slot, unless it has one before it
abbrev pub heads_after : (prev slot next : ℕ) → List ℕ → List ℕ
heads_after prev slot next heads =
    if prev == NO_PLACE then slice_set heads slot next else heads

-- what stands in a ring
pub record IsRing {T : Type 0} (nodes : List (Node T)) (heads : List ℕ) (time spare : ℕ)
    : Type 0 where
  pub linked : AreAllLinked nodes heads
  pub few : length nodes + spare ≤ MOST_NODES
  pub some_ages : 1 ≤ length heads
  pub few_ages : length heads ≤ MOST_AGES
  pub past : All (λ pair. pair.1 ≤ time) (pairs_of nodes)
  pub young : All (IsYoung (length heads) time) (pairs_of nodes)
