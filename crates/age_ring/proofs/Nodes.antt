-- The nodes of a table, as lists of numbers that stay linked.
use Rattle.std.proofs.Common.{◌≡◌, ◌≢◌, ℕ, ◌+◌, ◌-◌, ◌%◌, ◌<◌, ◌≤◌, Some, List, [], ◌∷◌, ◌++◌, arith, refl, sym, ◌∙◌, ap, subst, get_or, set, length, take, replicate}
use Rattle.std.proofs.lemmas.Bool.{cases_eq}
use Rattle.std.proofs.lemmas.Bool.Decides.{nat_tests}
use Rattle.std.proofs.lemmas.List.{get_or-set_same, get_or-set_other, length-set, length-map, map-set, get_or-map, get_or_default, get_or-take, map-append, length-append, get_or_append_left, length-replicate, get_or-replicate}
use Rattle.std.proofs.lemmas.Option.{get_or_from_slice_get, slice_get_within, slice_get-get_or}
use Rattle.std.proofs.Math.Seq.{map-set_same, set-append_seam}
use Rattle.std.specs.List.{slice_get, swap_remove}
use Rattle.node_table.specs.declared.table.Node.{Node}
use Rattle.node_table.specs.declared.table.TheConstants.{NO_PLACE}
use Rattle.age_ring.specs.Links.{ListsAreLinked, AreLinkedBut, AreAllLinked, SetsNext, SetsPrev, heads_after, pairs_of, prevs_of, nexts_of}
use Rattle.age_ring.specs.Ring.{items_of, stamps_of}
use Rattle.age_ring.proofs.Pairs.{length-swap_remove, map-swap_remove}
use Rattle.age_ring.proofs.Links.{Sets, AreLinked-unlink, AreLinked-link_first, AreLinked-push, AreLinked-pop, AreLinked-move}

pub sets_next : {T : Type 0} (nodes nodes' : List (Node T)) (i v : ℕ) (node : Node T) → slice_get nodes i ≡ Some node
    → nodes' ≡ set nodes i (record node { next = v }) → SetsNext nodes nodes' i v
sets_next {T} nodes nodes' i v node at is =
    let old : get_or nodes i node ≡ node = get_or_from_slice_get nodes i node node at in
    let node' = record node { next = v } in
    record {
      pairs = ap (λ l. pairs_of l) is ∙ map-set_same (λ (n : Node T). (n.item, n.stamp)) nodes i node' node (sym (ap (λ (n : Node T). (n.item, n.stamp)) old));
      prevs = ap (λ l. prevs_of l) is ∙ map-set_same (λ (n : Node T). n.prev) nodes i node' node (sym (ap (λ (n : Node T). n.prev) old));
      nexts = ap (λ l. nexts_of l) is ∙ map-set (λ (n : Node T). n.next) nodes i node';
    }

pub sets_prev : {T : Type 0} (nodes nodes' : List (Node T)) (i v : ℕ) (node : Node T) → slice_get nodes i ≡ Some node
    → nodes' ≡ set nodes i (record node { prev = v }) → SetsPrev nodes nodes' i v
sets_prev {T} nodes nodes' i v node at is =
    let old : get_or nodes i node ≡ node = get_or_from_slice_get nodes i node node at in
    let node' = record node { prev = v } in
    record {
      pairs = ap (λ l. pairs_of l) is ∙ map-set_same (λ (n : Node T). (n.item, n.stamp)) nodes i node' node (sym (ap (λ (n : Node T). (n.item, n.stamp)) old));
      prevs = ap (λ l. prevs_of l) is ∙ map-set (λ (n : Node T). n.prev) nodes i node';
      nexts = ap (λ l. nexts_of l) is ∙ map-set_same (λ (n : Node T). n.next) nodes i node' node (sym (ap (λ (n : Node T). n.next) old));
    }

-- a list with another value at a place, read by place
sets_list : (xs ys : List ℕ) (n i v : ℕ) → ys ≡ set xs i v → length xs ≡ n → Sets (λ j. get_or xs j 0) (λ j. get_or ys j 0) n i v
sets_list xs ys n i v is long = record {
  at = λ lt. let within : i < length xs = omega (arith, long) in ap (λ l. get_or l i 0) is ∙ get_or-set_same xs i v 0 within;
  same = λ j ne. ap (λ l. get_or l j 0) is ∙ get_or-set_other xs i j v 0 ne;
}

heads_first : (p slot q : ℕ) (heads : List ℕ) → p ≡ NO_PLACE → heads_after p slot q heads ≡ set heads slot q
heads_first p slot q heads e = grind (arith, nat_tests)

heads_inner : (p slot q : ℕ) (heads : List ℕ) → p ≢ NO_PLACE → heads_after p slot q heads ≡ heads
heads_inner p slot q heads e = grind (arith, nat_tests)

pub length-heads_after : (p slot q : ℕ) (heads : List ℕ) → length (heads_after p slot q heads) ≡ length heads
length-heads_after p slot q heads = grind (arith, nat_tests, cases_eq p NO_PLACE, length-set heads slot q)

-- equal lists are linked alike
relisted : (out n n' ages ages' : ℕ) (stamps stamps' prevs prevs' nexts nexts' heads heads' : List ℕ) → n' ≡ n → ages' ≡ ages → stamps' ≡ stamps → prevs' ≡ prevs → nexts' ≡ nexts → heads' ≡ heads
    → ListsAreLinked n out ages stamps prevs nexts heads → ListsAreLinked n' out ages' stamps' prevs' nexts' heads'
relisted out n n' ages ages' stamps stamps' prevs prevs' nexts nexts' heads heads' e₁ e₂ e₃ e₄ e₅ e₆ l = rw (e₁, e₂, e₃, e₄, e₅, e₆) l

unlinked_lists : (n i ages p q s : ℕ) (stamps prevs nexts heads prevs' nexts' heads' : List ℕ) → ListsAreLinked n NO_PLACE ages stamps prevs nexts heads → i < n
    → length prevs ≡ n → length nexts ≡ n → length heads ≡ ages → get_or prevs i 0 ≡ p → get_or nexts i 0 ≡ q → get_or stamps i 0 ≡ s
    → nexts' ≡ set nexts p q → prevs' ≡ set prevs q p → heads' ≡ heads_after p (s % ages) q heads
    → ListsAreLinked n i ages stamps prevs' nexts' heads'
unlinked_lists n i ages p q s stamps prevs nexts heads prevs' nexts' heads' l within lp ln lh ip iq is en ep eh =
    AreLinked-unlink i (λ j. get_or prevs' j 0) (λ j. get_or nexts' j 0) (λ j. get_or heads' j 0) l within
    (sets_list nexts nexts' n (get_or prevs i 0) (get_or nexts i 0) (rw (ip, iq) en) ln)
    (sets_list prevs prevs' n (get_or nexts i 0) (get_or prevs i 0) (rw (ip, iq) ep) lp)
    (λ first. sets_list heads heads' ages (get_or stamps i 0 % ages) (get_or nexts i 0) (rw (is, iq) (eh ∙ heads_first p (s % ages) q heads (sym ip ∙ first))) lh)
    (λ some a. ap (λ l. get_or l a 0) (eh ∙ heads_inner p (s % ages) q heads (λ e. some (ip ∙ e))))

linked_lists : (n i ages q s : ℕ) (stamps stamps' prevs prevs₁ prevs' nexts nexts' heads heads' : List ℕ) → ListsAreLinked n i ages stamps prevs nexts heads → i < n
    → length stamps ≡ n → length prevs ≡ n → length nexts ≡ n → length heads ≡ ages → get_or heads (s % ages) 0 ≡ q
    → stamps' ≡ set stamps i s → prevs₁ ≡ set prevs q i → prevs' ≡ set prevs₁ i NO_PLACE → nexts' ≡ set nexts i q → heads' ≡ set heads (s % ages) i
    → ListsAreLinked n NO_PLACE ages stamps' prevs' nexts' heads'
linked_lists n i ages q s stamps stamps' prevs prevs₁ prevs' nexts nexts' heads heads' l within ls lp ln lh iq es ep ep' en eh =
    let some : 1 ≤ ages = omega (arith, l.within 0) in
    let stamps_set = sets_list stamps stamps' n i s es ls in
    AreLinked-link_first i (s % ages) (λ j. get_or stamps' j 0 % ages) (λ j. get_or prevs₁ j 0) (λ j. get_or prevs' j 0) (λ j. get_or nexts' j 0) (λ j. get_or heads' j 0) l within (omega arith)
    (record { at = λ lt. ap (λ x. x % ages) (stamps_set.at lt); same = λ j ne. ap (λ x. x % ages) (stamps_set.same j ne) })
    (sets_list prevs prevs₁ n (get_or heads (s % ages) 0) i (rw iq ep) lp)
    (sets_list prevs₁ prevs' n i NO_PLACE ep' (ap length ep ∙ length-set prevs q i ∙ lp))
    (sets_list nexts nexts' n i (get_or heads (s % ages) 0) (rw iq en) ln)
    (sets_list heads heads' ages (s % ages) i eh lh)

-- a list without a place, to which the last one moved
record Closes (f g : ℕ → ℕ) (i m : ℕ) : Type 0 where
  at : g i ≡ f m
  same : (j : ℕ) → j < m → j ≢ i → g j ≡ f j

closes_list : (xs ys : List ℕ) (m i d : ℕ) → ys ≡ swap_remove xs i d → length xs ≡ m + 1 → i < m → Closes (λ j. get_or xs j 0) (λ j. get_or ys j 0) i m
closes_list xs ys m i d is long below =
    let last : length xs - 1 ≡ m = omega (arith, long) in
    let within : i < length xs = omega (arith, long) in
    let end : m < length xs = omega (arith, long) in
    let is' : ys ≡ take m (set xs i (get_or xs m d)) = rw (last) at is in
    record {
      at = ap (λ l. get_or l i 0) is' ∙ get_or-take m (set xs i (get_or xs m d)) i 0 below ∙ get_or-set_same xs i (get_or xs m d) 0 within ∙ get_or_default xs m d 0 end;
      same = λ j lt ne. ap (λ l. get_or l j 0) is' ∙ get_or-take m (set xs i (get_or xs m d)) j 0 lt ∙ get_or-set_other xs i j (get_or xs m d) 0 ne;
    }

-- what is left without a place doesn't turn on the default
pub swap_remove-default : {X : Type 0} (xs : List X) (i : ℕ) (d e : X) → i < length xs → swap_remove xs i d ≡ swap_remove xs i e
swap_remove-default {X} xs i d e within =
    let last : length xs - 1 < length xs = omega arith in
    ap (λ x. take (length xs - 1) (set xs i x)) (get_or_default xs (length xs - 1) d e last)

moved_lists : (n m i ages p q s : ℕ) (stamps stamps' prevs prevs₁ prevs' nexts nexts₁ nexts' heads heads' : List ℕ) → ListsAreLinked n i ages stamps prevs nexts heads → n ≡ m + 1 → i < m
    → length prevs₁ ≡ m → length nexts₁ ≡ m → length heads ≡ ages
    → Closes (λ j. get_or stamps j 0) (λ j. get_or stamps' j 0) i m → Closes (λ j. get_or prevs j 0) (λ j. get_or prevs₁ j 0) i m → Closes (λ j. get_or nexts j 0) (λ j. get_or nexts₁ j 0) i m
    → get_or prevs m 0 ≡ p → get_or nexts m 0 ≡ q → get_or stamps m 0 ≡ s
    → nexts' ≡ set nexts₁ p i → prevs' ≡ set prevs₁ q i → heads' ≡ heads_after p (s % ages) i heads
    → ListsAreLinked m NO_PLACE ages stamps' prevs' nexts' heads'
moved_lists n m i ages p q s stamps stamps' prevs prevs₁ prevs' nexts nexts₁ nexts' heads heads' l more below lp ln lh cs cp cn ip iq is en ep eh =
    let some : 1 ≤ ages = omega (arith, l.within 0) in
    AreLinked-move i m (λ j. get_or stamps' j 0 % ages) (λ j. get_or prevs₁ j 0) (λ j. get_or nexts₁ j 0) (λ j. get_or prevs' j 0) (λ j. get_or nexts' j 0) (λ j. get_or heads' j 0) more below l (λ j. omega arith)
    (ap (λ x. x % ages) cs.at) (λ j lt ne. ap (λ x. x % ages) (cs.same j lt ne)) cp.at cp.same cn.at cn.same
    (sets_list nexts₁ nexts' m (get_or prevs m 0) i (rw (ip) en) ln)
    (sets_list prevs₁ prevs' m (get_or nexts m 0) i (rw (iq) ep) lp)
    (λ first. sets_list heads heads' ages (get_or stamps m 0 % ages) i (rw (is) (eh ∙ heads_first p (s % ages) i heads (sym ip ∙ first))) lh)
    (λ some a. ap (λ l. get_or l a 0) (eh ∙ heads_inner p (s % ages) i heads (λ e. some (ip ∙ e))))

pub length-pairs_of : {T : Type 0} (nodes : List (Node T)) → length (pairs_of nodes) ≡ length nodes
length-pairs_of {T} nodes = length-map nodes (λ (n : Node T). (n.item, n.stamp))

length-prevs_of : {T : Type 0} (nodes : List (Node T)) → length (prevs_of nodes) ≡ length nodes
length-prevs_of {T} nodes = length-map nodes (λ (n : Node T). n.prev)

length-nexts_of : {T : Type 0} (nodes : List (Node T)) → length (nexts_of nodes) ≡ length nodes
length-nexts_of {T} nodes = length-map nodes (λ (n : Node T). n.next)

length-stamps_of : {T : Type 0} (nodes : List (Node T)) → length (stamps_of (pairs_of nodes)) ≡ length nodes
length-stamps_of {T} nodes = length-map (pairs_of nodes) (λ (p : T × ℕ). p.1) ∙ length-pairs_of nodes

-- the parts of the node at a place
pub prev_at : {T : Type 0} (nodes : List (Node T)) (i : ℕ) (node : Node T) → slice_get nodes i ≡ Some node → get_or (prevs_of nodes) i 0 ≡ node.prev
prev_at {T} nodes i node at =
    get_or-map (λ (n : Node T). n.prev) nodes i node 0 (slice_get_within nodes i node at) ∙ ap (λ (n : Node T). n.prev) (get_or_from_slice_get nodes i node node at)

pub next_at : {T : Type 0} (nodes : List (Node T)) (i : ℕ) (node : Node T) → slice_get nodes i ≡ Some node → get_or (nexts_of nodes) i 0 ≡ node.next
next_at {T} nodes i node at =
    get_or-map (λ (n : Node T). n.next) nodes i node 0 (slice_get_within nodes i node at) ∙ ap (λ (n : Node T). n.next) (get_or_from_slice_get nodes i node node at)

pub pair_at : {T : Type 0} (nodes : List (Node T)) (i : ℕ) (d : T × ℕ) (node : Node T) → slice_get nodes i ≡ Some node → get_or (pairs_of nodes) i d ≡ (node.item, node.stamp)
pair_at {T} nodes i d node at =
    get_or-map (λ (n : Node T). (n.item, n.stamp)) nodes i node d (slice_get_within nodes i node at) ∙ ap (λ (n : Node T). (n.item, n.stamp)) (get_or_from_slice_get nodes i node node at)

pub stamp_at : {T : Type 0} (nodes : List (Node T)) (i : ℕ) (node : Node T) → slice_get nodes i ≡ Some node → get_or (stamps_of (pairs_of nodes)) i 0 ≡ node.stamp
stamp_at {T} nodes i node at =
    let pair : T × ℕ = (node.item, node.stamp) in
    let within : i < length (pairs_of nodes) = omega (arith, length-pairs_of nodes, slice_get_within nodes i node at) in
    get_or-map (λ (p : T × ℕ). p.1) (pairs_of nodes) i pair 0 within ∙ ap (λ (p : T × ℕ). p.1) (pair_at nodes i pair node at)

pub length_as_pairs : {T : Type 0} (nodes nodes' : List (Node T)) → pairs_of nodes' ≡ pairs_of nodes → length nodes' ≡ length nodes
length_as_pairs {T} nodes nodes' same = sym (length-pairs_of nodes') ∙ ap length same ∙ length-pairs_of nodes

pub unlinked_nodes : {T : Type 0} (nodes nodes₁ nodes₂ : List (Node T)) (heads heads' : List ℕ) (i : ℕ) (node : Node T) → AreAllLinked nodes heads → slice_get nodes i ≡ Some node
    → SetsNext nodes nodes₁ node.prev node.next → SetsPrev nodes₁ nodes₂ node.next node.prev → heads' ≡ heads_after node.prev (node.stamp % length heads) node.next heads
    → AreLinkedBut i nodes₂ heads'
unlinked_nodes {T} nodes nodes₁ nodes₂ heads heads' i node l at sn sp eh =
    let pairs : pairs_of nodes₂ ≡ pairs_of nodes = sp.pairs ∙ sn.pairs in
    relisted i (length nodes) (length nodes₂) (length heads) (length heads') (stamps_of (pairs_of nodes)) (stamps_of (pairs_of nodes₂)) (prevs_of nodes₂) (prevs_of nodes₂) (nexts_of nodes₁) (nexts_of nodes₂) heads' heads'
    (length_as_pairs nodes nodes₂ pairs) (ap length eh ∙ length-heads_after node.prev (node.stamp % length heads) node.next heads) (ap (λ l. stamps_of l) pairs) refl sp.nexts refl
    (unlinked_lists (length nodes) i (length heads) node.prev node.next node.stamp (stamps_of (pairs_of nodes)) (prevs_of nodes) (nexts_of nodes) heads (prevs_of nodes₂) (nexts_of nodes₁) heads' l (slice_get_within nodes i node at)
    (length-prevs_of nodes) (length-nexts_of nodes) refl (prev_at nodes i node at) (next_at nodes i node at) (stamp_at nodes i node at)
    sn.nexts (sp.prevs ∙ ap (λ l. set l node.next node.prev) sn.prevs) eh)

-- a node is put in place of another, once links were set
pub pairs_set : {T : Type 0} (nodes nodes₁ nodes₂ : List (Node T)) (i : ℕ) (node : Node T) → pairs_of nodes₁ ≡ pairs_of nodes → nodes₂ ≡ set nodes₁ i node → pairs_of nodes₂ ≡ set (pairs_of nodes) i (node.item, node.stamp)
pairs_set {T} nodes nodes₁ nodes₂ i node same is =
    ap (λ l. pairs_of l) is ∙ map-set (λ (n : Node T). (n.item, n.stamp)) nodes₁ i node ∙ ap (λ l. set l i (node.item, node.stamp)) same

pub linked_nodes_at : {T : Type 0} (nodes nodes₁ nodes₂ : List (Node T)) (heads heads' : List ℕ) (i slot : ℕ) (node : Node T) → AreLinkedBut i nodes heads → i < length nodes
    → slot ≡ node.stamp % length heads → get_or heads slot 0 ≡ node.next → node.prev ≡ NO_PLACE
    → SetsPrev nodes nodes₁ node.next i → nodes₂ ≡ set nodes₁ i node → heads' ≡ set heads slot i
    → AreAllLinked nodes₂ heads'
linked_nodes_at {T} nodes nodes₁ nodes₂ heads heads' i slot node l within slot_is first none sp is eh =
    let pair : T × ℕ = (node.item, node.stamp) in
    let pairs = pairs_set nodes nodes₁ nodes₂ i node sp.pairs is in
    let stamps : stamps_of (pairs_of nodes₂) ≡ set (stamps_of (pairs_of nodes)) i node.stamp = ap (λ l. stamps_of l) pairs ∙ map-set (λ (p : T × ℕ). p.1) (pairs_of nodes) i pair in
    let prevs : prevs_of nodes₂ ≡ set (prevs_of nodes₁) i NO_PLACE = ap (λ l. prevs_of l) is ∙ map-set (λ (n : Node T). n.prev) nodes₁ i node ∙ ap (λ p. set (prevs_of nodes₁) i p) none in
    let nexts : nexts_of nodes₂ ≡ set (nexts_of nodes) i node.next = ap (λ l. nexts_of l) is ∙ map-set (λ (n : Node T). n.next) nodes₁ i node ∙ ap (λ l. set l i node.next) sp.nexts in
    let long : length nodes₂ ≡ length nodes = sym (length-pairs_of nodes₂) ∙ ap length pairs ∙ length-set (pairs_of nodes) i pair ∙ length-pairs_of nodes in
    relisted NO_PLACE (length nodes) (length nodes₂) (length heads) (length heads') (stamps_of (pairs_of nodes₂)) (stamps_of (pairs_of nodes₂)) (prevs_of nodes₂) (prevs_of nodes₂) (nexts_of nodes₂) (nexts_of nodes₂) heads' heads'
    long (ap length eh ∙ length-set heads slot i) refl refl refl refl
    (linked_lists (length nodes) i (length heads) node.next node.stamp (stamps_of (pairs_of nodes)) (stamps_of (pairs_of nodes₂)) (prevs_of nodes) (prevs_of nodes₁) (prevs_of nodes₂) (nexts_of nodes) (nexts_of nodes₂) heads heads' l within
    (length-stamps_of nodes) (length-prevs_of nodes) (length-nexts_of nodes) refl (ap (λ a. get_or heads a 0) (sym slot_is) ∙ first) stamps sp.prevs prevs nexts (eh ∙ ap (λ a. set heads a i) slot_is))

-- a list of numbers with one more at the end, read by place
more_list : (xs ys : List ℕ) (n v j : ℕ) → ys ≡ xs ++ v ∷ [] → length xs ≡ n → j < n → get_or ys j 0 ≡ get_or xs j 0
more_list xs ys n v j is long lt = ap (λ l. get_or l j 0) is ∙ get_or_append_left xs (v ∷ []) 0 j (omega (arith, long))

pub pushed_nodes : {T : Type 0} (nodes nodes' : List (Node T)) (heads : List ℕ) (node : Node T) → AreAllLinked nodes heads → length nodes < NO_PLACE → nodes' ≡ nodes ++ node ∷ [] → AreLinkedBut (length nodes) nodes' heads
pushed_nodes {T} nodes nodes' heads node l few is =
    let some : 1 ≤ length heads = omega (arith, l.within 0) in
    let long : length nodes' ≡ length nodes + 1 = ap length is ∙ length-append nodes (node ∷ []) in
    let pairs : pairs_of nodes' ≡ pairs_of nodes ++ (node.item, node.stamp) ∷ [] = ap (λ l. pairs_of l) is ∙ map-append (λ (n : Node T). (n.item, n.stamp)) nodes (node ∷ []) in
    let stamps : stamps_of (pairs_of nodes') ≡ stamps_of (pairs_of nodes) ++ node.stamp ∷ [] = ap (λ l. stamps_of l) pairs ∙ map-append (λ (p : T × ℕ). p.1) (pairs_of nodes) ((node.item, node.stamp) ∷ []) in
    let prevs : prevs_of nodes' ≡ prevs_of nodes ++ node.prev ∷ [] = ap (λ l. prevs_of l) is ∙ map-append (λ (n : Node T). n.prev) nodes (node ∷ []) in
    let nexts : nexts_of nodes' ≡ nexts_of nodes ++ node.next ∷ [] = ap (λ l. nexts_of l) is ∙ map-append (λ (n : Node T). n.next) nodes (node ∷ []) in
    relisted (length nodes) (length nodes + 1) (length nodes') (length heads) (length heads) (stamps_of (pairs_of nodes')) (stamps_of (pairs_of nodes')) (prevs_of nodes') (prevs_of nodes') (nexts_of nodes') (nexts_of nodes') heads heads long refl refl refl refl refl
    (AreLinked-push (λ j. get_or (stamps_of (pairs_of nodes')) j 0 % length heads) (λ j. get_or (prevs_of nodes') j 0) (λ j. get_or (nexts_of nodes') j 0) few l (λ j. omega arith)
    (λ j lt. ap (λ x. x % length heads) (more_list (stamps_of (pairs_of nodes)) (stamps_of (pairs_of nodes')) (length nodes) node.stamp j stamps (length-stamps_of nodes) lt))
    (λ j lt. more_list (prevs_of nodes) (prevs_of nodes') (length nodes) node.prev j prevs (length-prevs_of nodes) lt)
    (λ j lt. more_list (nexts_of nodes) (nexts_of nodes') (length nodes) node.next j nexts (length-nexts_of nodes) lt))

-- the parts of the nodes that are left without a place
pairs_gone : {T : Type 0} (nodes nodes' : List (Node T)) (i : ℕ) (gone : Node T) → nodes' ≡ swap_remove nodes i gone → pairs_of nodes' ≡ swap_remove (pairs_of nodes) i (gone.item, gone.stamp)
pairs_gone {T} nodes nodes' i gone is = ap (λ l. pairs_of l) is ∙ map-swap_remove (λ (n : Node T). (n.item, n.stamp)) nodes i gone

stamps_gone : {T : Type 0} (nodes nodes' : List (Node T)) (i : ℕ) (gone : Node T) → nodes' ≡ swap_remove nodes i gone → stamps_of (pairs_of nodes') ≡ swap_remove (stamps_of (pairs_of nodes)) i gone.stamp
stamps_gone {T} nodes nodes' i gone is =
    let pair : T × ℕ = (gone.item, gone.stamp) in
    ap (λ l. stamps_of l) (pairs_gone nodes nodes' i gone is) ∙ map-swap_remove (λ (p : T × ℕ). p.1) (pairs_of nodes) i pair

prevs_gone : {T : Type 0} (nodes nodes' : List (Node T)) (i : ℕ) (gone : Node T) → nodes' ≡ swap_remove nodes i gone → prevs_of nodes' ≡ swap_remove (prevs_of nodes) i gone.prev
prevs_gone {T} nodes nodes' i gone is = ap (λ l. prevs_of l) is ∙ map-swap_remove (λ (n : Node T). n.prev) nodes i gone

nexts_gone : {T : Type 0} (nodes nodes' : List (Node T)) (i : ℕ) (gone : Node T) → nodes' ≡ swap_remove nodes i gone → nexts_of nodes' ≡ swap_remove (nexts_of nodes) i gone.next
nexts_gone {T} nodes nodes' i gone is = ap (λ l. nexts_of l) is ∙ map-swap_remove (λ (n : Node T). n.next) nodes i gone

-- once a place is gone, the neighbours of the node that moved there are below the new end
module _ {T : Type 0} (nodes nodes' : List (Node T)) (heads : List ℕ) (i : ℕ) (gone node : Node T) (l : AreLinkedBut i nodes heads) (is : nodes' ≡ swap_remove nodes i gone) (within : i < length nodes) (at : slice_get nodes' i ≡ Some node) where
  end_is : length nodes ≡ length nodes' + 1
  end_is = omega (arith, ap length is, length-swap_remove nodes i gone, within)

  below : i < length nodes'
  below = slice_get_within nodes' i node at

  prevs_close : Closes (λ j. get_or (prevs_of nodes) j 0) (λ j. get_or (prevs_of nodes') j 0) i (length nodes')
  prevs_close = closes_list (prevs_of nodes) (prevs_of nodes') (length nodes') i gone.prev (prevs_gone nodes nodes' i gone is) (length-prevs_of nodes ∙ end_is) below

  nexts_close : Closes (λ j. get_or (nexts_of nodes) j 0) (λ j. get_or (nexts_of nodes') j 0) i (length nodes')
  nexts_close = closes_list (nexts_of nodes) (nexts_of nodes') (length nodes') i gone.next (nexts_gone nodes nodes' i gone is) (length-nexts_of nodes ∙ end_is) below

  stamps_close : Closes (λ j. get_or (stamps_of (pairs_of nodes)) j 0) (λ j. get_or (stamps_of (pairs_of nodes')) j 0) i (length nodes')
  stamps_close =
      closes_list (stamps_of (pairs_of nodes)) (stamps_of (pairs_of nodes')) (length nodes') i gone.stamp
      (stamps_gone nodes nodes' i gone is)
      (length-stamps_of nodes ∙ end_is) below

  last_prev : get_or (prevs_of nodes) (length nodes') 0 ≡ node.prev
  last_prev = sym prevs_close.at ∙ prev_at nodes' i node at

  last_next : get_or (nexts_of nodes) (length nodes') 0 ≡ node.next
  last_next = sym nexts_close.at ∙ next_at nodes' i node at

  last_stamp : get_or (stamps_of (pairs_of nodes)) (length nodes') 0 ≡ node.stamp
  last_stamp = sym stamps_close.at ∙ stamp_at nodes' i node at

  pub prev_below : node.prev ≢ NO_PLACE → node.prev < length nodes'
  prev_below some =
      let m = length nodes' in
      let prev = get_or (prevs_of nodes) m 0 in
      grind (arith, end_is, below, last_prev, some, cases_eq prev m, l.prev_back m)

  pub next_below : node.next ≢ NO_PLACE → node.next < length nodes'
  next_below some =
      let m = length nodes' in
      let next = get_or (nexts_of nodes) m 0 in
      grind (arith, end_is, below, last_next, some, l.few, cases_eq next m, l.next_back m, l.prev_back m)

  pub moved_nodes : (nodes₂ nodes₃ : List (Node T)) (heads' : List ℕ) → SetsNext nodes' nodes₂ node.prev i → SetsPrev nodes₂ nodes₃ node.next i
      → heads' ≡ heads_after node.prev (node.stamp % length heads) i heads → AreAllLinked nodes₃ heads'
  moved_nodes nodes₂ nodes₃ heads' sn sp eh =
      let pairs : pairs_of nodes₃ ≡ pairs_of nodes' = sp.pairs ∙ sn.pairs in
      relisted NO_PLACE (length nodes') (length nodes₃) (length heads) (length heads') (stamps_of (pairs_of nodes')) (stamps_of (pairs_of nodes₃)) (prevs_of nodes₃) (prevs_of nodes₃) (nexts_of nodes₂) (nexts_of nodes₃) heads' heads'
      (length_as_pairs nodes' nodes₃ pairs) (ap length eh ∙ length-heads_after node.prev (node.stamp % length heads) i heads) (ap (λ l. stamps_of l) pairs) refl sp.nexts refl
      (moved_lists (length nodes) (length nodes') i (length heads) node.prev node.next node.stamp (stamps_of (pairs_of nodes)) (stamps_of (pairs_of nodes')) (prevs_of nodes) (prevs_of nodes') (prevs_of nodes₃) (nexts_of nodes) (nexts_of nodes') (nexts_of nodes₂) heads heads' l
      end_is below (length-prevs_of nodes') (length-nexts_of nodes') refl stamps_close prevs_close nexts_close last_prev last_next last_stamp
      sn.nexts (sp.prevs ∙ ap (λ l. set l node.next i) sn.prevs) eh)

-- the last place goes
pub dropped_nodes : {T : Type 0} (nodes nodes' : List (Node T)) (heads : List ℕ) (i : ℕ) (gone : Node T) → AreLinkedBut i nodes heads → nodes' ≡ swap_remove nodes i gone → i < length nodes → length nodes' ≤ i → AreAllLinked nodes' heads
dropped_nodes {T} nodes nodes' heads i gone l is within past =
    let last : length nodes ≡ length nodes' + 1 = omega (arith, ap length is, length-swap_remove nodes i gone) in
    let at : length nodes' ≡ i = omega (arith, last) in
    let some : 1 ≤ length heads = omega (arith, l.within 0) in
    let P : ℕ → Type 0 = λ k. AreLinkedBut k nodes heads in
    AreLinked-pop (λ j. get_or (stamps_of (pairs_of nodes')) j 0 % length heads) (λ j. get_or (prevs_of nodes') j 0) (λ j. get_or (nexts_of nodes') j 0) (length nodes') last (subst P (sym at) l) (λ j. omega arith)
    (λ j lt. ap (λ x. x % length heads) (shorter_list (stamps_of (pairs_of nodes)) (stamps_of (pairs_of nodes')) (length nodes') i gone.stamp j (stamps_gone nodes nodes' i gone is) (length-stamps_of nodes ∙ last) at lt))
    (λ j lt. shorter_list (prevs_of nodes) (prevs_of nodes') (length nodes') i gone.prev j (prevs_gone nodes nodes' i gone is) (length-prevs_of nodes ∙ last) at lt)
    (λ j lt. shorter_list (nexts_of nodes) (nexts_of nodes') (length nodes') i gone.next j (nexts_gone nodes nodes' i gone is) (length-nexts_of nodes ∙ last) at lt)
  where
    shorter_list : (xs ys : List ℕ) (m i d j : ℕ) → ys ≡ swap_remove xs i d → length xs ≡ m + 1 → m ≡ i → j < m → get_or ys j 0 ≡ get_or xs j 0
    shorter_list xs ys m i d j is long last lt =
        let end : length xs - 1 ≡ m = omega (arith, long) in
        let other : j ≢ i = omega arith in
        let is' : ys ≡ take m (set xs i (get_or xs m d)) = rw (end) at is in
        ap (λ l. get_or l j 0) is' ∙ get_or-take m (set xs i (get_or xs m d)) j 0 lt ∙ get_or-set_other xs i j (get_or xs m d) 0 other

-- the pairs that are left without a place
pub pairs_of-swap_remove : {T : Type 0} (nodes nodes' : List (Node T)) (i : ℕ) (gone : Node T) (pair : T × ℕ) → nodes' ≡ swap_remove nodes i gone → i < length nodes → pairs_of nodes' ≡ swap_remove (pairs_of nodes) i pair
pairs_of-swap_remove {T} nodes nodes' i gone pair is within =
    let gone_pair : T × ℕ = (gone.item, gone.stamp) in
    let inside : i < length (pairs_of nodes) = omega (arith, length-pairs_of nodes) in
    pairs_gone nodes nodes' i gone is ∙ swap_remove-default (pairs_of nodes) i gone_pair pair inside

-- at the neighbours of a linked place
pub linked_prev : {T : Type 0} (nodes : List (Node T)) (heads : List ℕ) (i : ℕ) (node : Node T) → AreAllLinked nodes heads → slice_get nodes i ≡ Some node → node.prev ≢ NO_PLACE → node.prev < length nodes
linked_prev {T} nodes heads i node l at some =
    let within : i < length nodes = slice_get_within nodes i node at in
    let is : get_or (prevs_of nodes) i 0 ≡ node.prev = prev_at nodes i node at in
    let out : i ≢ NO_PLACE = omega (arith, l.few) in
    let back = l.prev_back i within out (λ e. some (sym is ∙ e)) in
    omega (arith, back.0, is)

pub linked_next : {T : Type 0} (nodes : List (Node T)) (heads : List ℕ) (i : ℕ) (node : Node T) → AreAllLinked nodes heads → slice_get nodes i ≡ Some node → node.next ≢ NO_PLACE → node.next < length nodes
linked_next {T} nodes heads i node l at some =
    let within : i < length nodes = slice_get_within nodes i node at in
    let is : get_or (nexts_of nodes) i 0 ≡ node.next = next_at nodes i node at in
    let out : i ≢ NO_PLACE = omega (arith, l.few) in
    let back = l.next_back i within out (λ e. some (sym is ∙ e)) in
    omega (arith, back.0, is)

pub item_at : {T : Type 0} (nodes : List (Node T)) (i : ℕ) (node : Node T) → slice_get nodes i ≡ Some node → slice_get (items_of (pairs_of nodes)) i ≡ Some node.item
item_at {T} nodes i node at =
    let within : i < length nodes = slice_get_within nodes i node at in
    let pair : T × ℕ = (node.item, node.stamp) in
    let inside : i < length (pairs_of nodes) = omega (arith, length-pairs_of nodes) in
    let in_items : i < length (items_of (pairs_of nodes)) = omega (arith, length-map (pairs_of nodes) (λ (p : T × ℕ). p.0)) in
    slice_get-get_or (items_of (pairs_of nodes)) i node.item in_items
    ∙ ap (λ x. Some x) (get_or-map (λ (p : T × ℕ). p.0) (pairs_of nodes) i pair node.item inside ∙ ap (λ (p : T × ℕ). p.0) (pair_at nodes i pair node at))

pub pushed_nodes_at : {T : Type 0} (nodes nodes' : List (Node T)) (heads : List ℕ) (node : Node T) (place : ℕ) → AreAllLinked nodes heads → length nodes < NO_PLACE → nodes' ≡ nodes ++ node ∷ [] → place ≡ length nodes → AreLinkedBut place nodes' heads
pushed_nodes_at {T} nodes nodes' heads node place l few is at =
    let P : ℕ → Type 0 = λ k. AreLinkedBut k nodes' heads in
    subst P (sym at) (pushed_nodes nodes nodes' heads node l few is)

pub pairs_of-push : {T : Type 0} (nodes nodes₁ nodes₂ : List (Node T)) (node : Node T) (place : ℕ) → nodes₁ ≡ nodes ++ node ∷ [] → place ≡ length nodes → pairs_of nodes₂ ≡ set (pairs_of nodes₁) place (node.item, node.stamp)
    → pairs_of nodes₂ ≡ pairs_of nodes ++ (node.item, node.stamp) ∷ []
pairs_of-push {T} nodes nodes₁ nodes₂ node place is at pairs =
    let pair : T × ℕ = (node.item, node.stamp) in
    let pushed_pairs : pairs_of nodes₁ ≡ pairs_of nodes ++ pair ∷ [] = ap (λ l. pairs_of l) is ∙ map-append (λ (n : Node T). (n.item, n.stamp)) nodes (node ∷ []) in
    let end : place ≡ length (pairs_of nodes) = at ∙ sym (length-pairs_of nodes) in
    pairs ∙ ap (λ l. set l place pair) pushed_pairs ∙ ap (λ k. set (pairs_of nodes ++ pair ∷ []) k pair) end ∙ set-append_seam (pairs_of nodes) pair [] pair

pub no_nodes : {T : Type 0} (nodes : List (Node T)) (heads : List ℕ) (ages : ℕ) → nodes ≡ [] → heads ≡ replicate ages NO_PLACE → 1 ≤ ages → AreAllLinked nodes heads
no_nodes {T} nodes heads ages none is some =
    let empty : length nodes ≡ 0 = ap length none in
    let long : length heads ≡ ages = ap length is ∙ length-replicate ages NO_PLACE in
    record {
      few = omega arith;
      within = λ i. omega arith;
      rank = λ _. 0;
      next_back = λ i lt _ _. absurd (omega arith);
      prev_back = λ i lt _ _. absurd (omega arith);
      first = λ i lt _ _. absurd (omega arith);
      heads = λ a lt other. let in_ages : a < ages = omega arith in absurd (other (ap (λ l. get_or l a 0) is ∙ get_or-replicate ages a NO_PLACE 0 in_ages));
    }

pub stamp_in : {T : Type 0} (nodes : List (Node T)) (i : ℕ) (node : Node T) → slice_get nodes i ≡ Some node → slice_get (stamps_of (pairs_of nodes)) i ≡ Some node.stamp
stamp_in {T} nodes i node at =
    let within : i < length (stamps_of (pairs_of nodes)) = omega (arith, length-stamps_of nodes, slice_get_within nodes i node at) in
    slice_get-get_or (stamps_of (pairs_of nodes)) i 0 within ∙ ap (λ s. Some s) (stamp_at nodes i node at)

-- what is read at the slot of a stamp, where its list's first place stands
pub head_of : (heads : List ℕ) (stamp ages head : ℕ) → ages ≡ length heads → 0 < length heads → head ≡ get_or heads (stamp % ages) head → get_or heads (stamp % length heads) 0 ≡ head
head_of heads stamp ages head is some at =
    let inside : stamp % length heads < length heads = omega arith in
    get_or_default heads (stamp % length heads) 0 head inside ∙ ap (λ n. get_or heads (stamp % n) head) (sym is) ∙ sym at
