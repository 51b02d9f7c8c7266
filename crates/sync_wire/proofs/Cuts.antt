-- Notes are cut batch by batch.
use Rattle.std.proofs.Common.{◌≡◌, ◌≤◌, ℕ, zero, suc, List, [], ◌∷◌, length, take, drop, map, refl, ap, arith}
use Rattle.std.proofs.lemmas.List.{length-drop}
use Rattle.ot_base.specs.declared.peer.Note.{Note}
use Rattle.sync_wire.specs.Batches.{batch_len_of, cut, batches_of, batch_bytes, datagrams_of}
use Rattle.sync_wire.proofs.Fronts.{batch_len-some}

-- more batches than there are notes change nothing
cut-enough : (m n : ℕ) (notes : List Note) → length notes ≤ m → length notes ≤ n → cut m notes ≡ cut n notes
cut-enough zero zero notes a b = refl
cut-enough zero (suc n) [] a b = refl
cut-enough zero (suc n) (first ∷ rest) a b = absurd (omega arith)
cut-enough (suc m) zero [] a b = refl
cut-enough (suc m) zero (first ∷ rest) a b = absurd (omega arith)
cut-enough (suc m) (suc n) [] a b = refl
cut-enough (suc m) (suc n) (first ∷ rest) a b =
    let len = batch_len_of (first ∷ rest) in
    let some = batch_len-some (first ∷ rest) (omega arith) in
    let left = length-drop len (first ∷ rest) in
    ap (λ l. take len (first ∷ rest) ∷ l) (cut-enough m n (drop len (first ∷ rest)) (omega arith) (omega arith))

pub datagrams-none : (node : ℕ) → datagrams_of node [] ≡ []
unfolding datagrams_of batches_of
datagrams-none node = refl

pub datagrams-next : (node : ℕ) (notes : List Note) → 1 ≤ length notes
    → (let len = batch_len_of notes in
    datagrams_of node notes ≡ batch_bytes node (take len notes) ∷ datagrams_of node (drop len notes))
unfolding datagrams_of batches_of
datagrams-next node [] some = absurd (omega arith)
datagrams-next node (first ∷ rest) some =
    let len = batch_len_of (first ∷ rest) in
    let one = batch_len-some (first ∷ rest) some in
    let left = length-drop len (first ∷ rest) in
    let write : List Note → List ℕ = λ batch. batch_bytes node batch in
    ap (λ l. write (take len (first ∷ rest)) ∷ map write l)
    (cut-enough (length rest) (length (drop len (first ∷ rest))) (drop len (first ∷ rest)) (omega arith) (omega arith))
