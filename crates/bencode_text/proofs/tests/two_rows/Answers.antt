use Rattle.std.proofs.Common.{◌≡◌, ℕ, List, [], ◌∷◌, ◌++◌, length, ap, ◌∙◌, arith}
use Rattle.std.specs.Prelude.{codes, decimal}
use Rattle.std.proofs.lemmas.List.{append_assoc}
use Rattle.bencode_text.proofs.KnownDecimals.{decimal_5, decimal_20}
use Rattle.bencode_text.proofs.tests.two_rows.Goals as goal

regroup : (a b c d e f : List ℕ) → ((((a ++ b) ++ c) ++ d) ++ e) ++ f ≡ a ++ (b ++ (c ++ (d ++ (e ++ f))))
regroup a b c d e f = simp append_assoc

rows_text : (five one two first second row : List ℕ) → five ≡ 53 ∷ [] → one ≡ 50 ∷ 48 ∷ [] → two ≡ 50 ∷ 48 ∷ []
    → ((((((((100 ∷ []) ++ (five ++ 58 ∷ codes "files")) ++ 100 ∷ []) ++ (one ++ 58 ∷ first)) ++ row) ++ (two ++ 58 ∷ second)) ++ row) ++ 101 ∷ []) ++ 101 ∷ []
    ≡ codes "d5:filesd20:" ++ (first ++ (row ++ (codes "20:" ++ (second ++ (row ++ codes "ee")))))
rows_text five one two first second row e5 e1 e2 =
    rw (e5, e1, e2) (ap (λ t. codes "d5:filesd20:" ++ t) (regroup first row (50 ∷ 48 ∷ 58 ∷ second) row (101 ∷ []) (101 ∷ [])))

pub returns : goal.returns
returns c =
    let one : decimal (length c.args.first.now) ≡ 50 ∷ 48 ∷ [] = ap decimal (omega arith) ∙ decimal_20 in
    let two : decimal (length c.args.second.now) ≡ 50 ∷ 48 ∷ [] = ap decimal (omega arith) ∙ decimal_20 in
    rw (
      c.finish.ensures.text,
      c.in_ok-end-2.ensures.ok,
      c.in_ok-end.ensures.ok,
      c.in_ok-add_row-2.ensures,
      c.in_ok-add_row.ensures,
      c.in_ok-begin_dict-2.ensures.ok,
      c.in_ok-key.ensures.ok,
      c.in_ok-begin_dict.ensures.ok,
      c.new-writer.ensures,
    )
    (rows_text (decimal 5) (decimal (length c.args.first.now)) (decimal (length c.args.second.now)) c.args.first.now c.args.second.now (codes "d8:completei" ++ (decimal c.args.complete ++ codes "ee")) decimal_5 one two)
