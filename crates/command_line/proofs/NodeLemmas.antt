-- Places that are filled with endpoints, one after the other.
use Rattle.std.proofs.Common.{◌≡◌, ℕ, suc, ◌+◌, ◌-◌, ◌<◌, ◌≤◌, true, List, [], ◌∷◌, ◌++◌, length, map, get_or, take, set, replicate, sym, ap, ◌∙◌, append_assoc, arith}
use Rattle.std.specs.Prelude.{◌&&◌, Option, Some, None}
use Rattle.std.specs.List.{enumerate_from, list_all}
use Rattle.std.specs.Option.{is_some}
use Rattle.std.proofs.lemmas.List.{get_or-map, length-map, length-take, set_at, take_all, take_more}
use Rattle.std.proofs.lemmas.List.Folds.{list_all_at, list_all_more}
use Rattle.std.proofs.lemmas.List.FromFn.{get_or-enumerate_from, length-enumerate_from}
use Rattle.ot_base.specs.declared.address.Endpoint.{Endpoint}
use Rattle.command_line.specs.Values.{endpoint_value, nodes_of}

-- the first n of all stand in the first places, each could be read, and the other places are empty
pub record AreFilled (all : List (Option Endpoint)) (n : ℕ) (nodes : List (Option Endpoint)) : Type 0 where
  pub room : n ≤ 16
  pub stand : nodes ≡ take n all ++ replicate (16 - n) None
  pub read : list_all is_some (take n all) ≡ true

place : (xs : List (Option Endpoint)) (n k m : ℕ) (e : Endpoint) → length xs ≡ n → k ≡ suc m → set (xs ++ replicate k None) n (Some e) ≡ (xs ++ Some e ∷ []) ++ replicate m None
place xs n k m e h j =
    ap (λ k. set (xs ++ replicate k None) n (Some e)) j
    ∙ set_at xs None (replicate m None) (Some e) n h
    ∙ sym (append_assoc xs (Some e ∷ []) (replicate m None))

pub AreFilled-more : (all nodes : List (Option Endpoint)) (n : ℕ) (e : Endpoint) → AreFilled all n nodes → n < length all → n < 16 → get_or all n None ≡ Some e → AreFilled all (n + 1) (set nodes n (Some e))
AreFilled-more all nodes n e h i j k = record {
  room = omega arith;
  stand =
      ap (λ xs. set xs n (Some e)) h.stand
      ∙ place (take n all) n (16 - n) (16 - (n + 1)) e (grind (arith, length-take)) (omega arith)
      ∙ ap (λ xs. xs ++ replicate (16 - (n + 1)) None) (ap (λ o. take n all ++ o ∷ []) (sym k) ∙ sym (take_more all n None i));
  read = list_all_more is_some all n None i ∙ ap (λ b. b && is_some (get_or all n None)) h.read ∙ ap is_some k;
}

-- all have their places
pub AreFilled-all : (all nodes : List (Option Endpoint)) (n : ℕ) → AreFilled all n nodes → n ≡ length all → Some nodes ≡ nodes_of all
AreFilled-all all nodes n h e =
    let whole = take_all n all (omega arith) in
    let each : list_all is_some all ≡ true = sym (ap (λ xs. list_all is_some xs) whole) ∙ h.read in
    let few : length all ≤ 16 = omega (arith, h.room) in
    let stand : nodes ≡ all ++ replicate (16 - length all) None =
    h.stand
    ∙ ap (λ xs. xs ++ replicate (16 - n) None) whole
    ∙ ap (λ k. all ++ replicate (16 - k) None) e
    in
    grind arith

-- one has no place
pub crowded : (all : List (Option Endpoint)) → 16 < length all → None ≡ nodes_of all
crowded all h = grind arith

-- one couldn't be read
pub unread : (all : List (Option Endpoint)) (n : ℕ) → n < length all → get_or all n None ≡ None → None ≡ nodes_of all
unread all n h e = let some = list_all_at is_some all n None h (ap is_some e) in grind arith

-- the text of a turn, with its number, is the one at that place
pub at_turn : (texts : List (List ℕ)) (n i : ℕ) (text : List ℕ) → (n < length (enumerate_from 0 texts)) × ((i, text) ≡ get_or (enumerate_from 0 texts) n (i, text)) → (i ≡ n) × (n < length (map endpoint_value texts)) × (get_or (map endpoint_value texts) n None ≡ endpoint_value text)
at_turn texts n i text t =
    let within : n < length texts = omega (arith, t.0, length-enumerate_from 0 texts) in
    let pair = t.1 ∙ get_or-enumerate_from 0 texts n (i, text) within in
    let number : i ≡ 0 + n = ap (λ p. p.0) pair in (
      omega (arith, number),
      omega (arith, within, length-map texts endpoint_value),
      get_or-map endpoint_value texts n text None within ∙ sym (ap (λ p. endpoint_value p.1) pair),
    )
