-- Each call with what comes before it.
use Rattle.std.proofs.Common.{◌≡◌, List, [], ◌∷◌, true, refl, ap, length, arith, rules}
use Rattle.tracker_model.specs.Examples.{hash_a, hash_b, peer_p, peer_q, counts, leech, limited, on, scrape}
use Rattle.tracker_model.specs.declared.entry.Entry.{Entry}
use Rattle.tracker_model.proofs.GrowsLemmas.{grows-among}
use Rattle.tracker_model.proofs.examples.calls_in_two_buckets.Goals as goal

pub returns-clause-alone : goal.returns-clause-alone
returns-clause-alone c =
    let first = leech 0 hash_a peer_p (counts 0 0 1) [] in
    let second = leech 0 hash_b peer_q (counts 0 0 1) [] in (
      (first ∷ []) ∷ [] ∷ [],
      record { others = []; own = refl; between = refl; within = omega arith; grown = refl; legal = search rules },
      (
        (first ∷ []) ∷ (second ∷ []) ∷ [],
        record { others = []; own = refl; between = refl; within = omega arith; grown = refl; legal = search rules },
        (
          (first ∷ scrape 1 hash_a (counts 0 0 1) true ∷ []) ∷ (second ∷ []) ∷ [],
          record { others = []; own = refl; between = refl; within = omega arith; grown = refl; legal = search rules },
          refl,
        ),
      ),
    )

pub returns-clause-among : goal.returns-clause-among
returns-clause-among c =
    let first = leech 0 hash_a peer_p (counts 0 0 1) [] in
    let other = record (leech 0 hash_a peer_q (counts 0 0 2) (peer_p ∷ [])) { caller = 1 } in (
      (first ∷ other ∷ scrape 1 hash_a (counts 0 0 2) true ∷ []) ∷ [],
      record { others = other ∷ []; own = refl; between = ((λ e. omega arith), tt); within = omega arith; grown = refl; legal = search rules },
      refl,
    )

-- the caller's own entries would be two, and it made one call
pub returns-clause-own_left_out : goal.returns-clause-own_left_out
returns-clause-own_left_out c = λ grows.
    let first = leech 0 hash_a peer_p (counts 0 0 1) [] in
    let second = scrape 0 hash_a (counts 0 0 1) true in
    let own = grows-among (limited 9 9) 0 ([] ∷ []) ((first ∷ second ∷ []) ∷ []) (on 0 second ∷ []) grows 0 in
    let two : 2 ≡ 1 = ap (λ (l : List Entry). length l) own in
    absurd (let p : ⊥ = omega (arith, two) in p)
