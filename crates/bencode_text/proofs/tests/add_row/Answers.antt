use Rattle.std.proofs.Common.{◌≡◌, ℕ, Bool, false, List, [], ◌∷◌, ◌++◌, length, Some, ap, arith}
use Rattle.std.specs.Prelude.{IsTrue, codes, decimal}
use Rattle.std.proofs.lemmas.Bool.{false≢true}
use Rattle.std.proofs.lemmas.List.{append_assoc}
use Rattle.bencode_text.specs.Bencode.{string_text}
use Rattle.bencode_text.specs.Draft.{Dict, takes_key, with_key, with_dict, with_value, with_end}
use Rattle.bencode_text.proofs.DraftLemmas.{draft}
use Rattle.bencode_text.proofs.KnownDecimals.{decimal_8}
use Rattle.bencode_text.proofs.tests.add_row.Goals as goal

row_text : (front digits : List ℕ) (n : ℕ) → digits ≡ 56 ∷ []
    → (((front ++ 100 ∷ []) ++ (digits ++ 58 ∷ codes "complete")) ++ (105 ∷ (decimal n ++ 101 ∷ []))) ++ 101 ∷ []
    ≡ front ++ (codes "d8:completei" ++ (decimal n ++ codes "ee"))
row_text front digits n e = grind (arith, append_assoc, e)

-- a dictionary with one integer is the value of a key
row : (text : List ℕ) (dicts : List Dict) (whole : Bool) (hash : List ℕ) (n : ℕ) → IsTrue (takes_key dicts hash)
    → with_end (with_value (with_key (with_dict (with_key (draft text dicts whole) hash)) (codes "complete")) (105 ∷ (decimal n ++ 101 ∷ [])))
    ≡ with_value (with_key (draft text dicts whole) hash) (codes "d8:completei" ++ (decimal n ++ codes "ee"))
row text [] whole hash n due = absurd (false≢true due)
row text (dict ∷ outer) whole hash n due =
    ap (λ t. draft t (record { last = Some hash; value_due = false } ∷ outer) false) (row_text (text ++ string_text (decimal (length hash)) hash) (decimal 8) n decimal_8)

pub returns : goal.returns
returns c =
    let w = c.args.writer.now in
    rw (c.in_ok-end.ensures.ok, c.in_ok-int.ensures.ok, c.in_ok-key-2.ensures.ok, c.in_ok-begin_dict.ensures.ok, c.in_ok-key.ensures.ok)
    (row w.text w.dicts w.whole c.args.hash.now c.args.complete c.requires.due)
