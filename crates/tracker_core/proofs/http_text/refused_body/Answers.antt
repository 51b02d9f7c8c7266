use Rattle.std.proofs.Common.{◌≡◌, ◌++◌, ◌∷◌, [], List, ℕ, length, sym, subst}
use Rattle.std.specs.Prelude.{codes, decimal}
use Rattle.std.proofs.lemmas.List.{append_assoc}
use Rattle.ot_base.specs.Refusal.{refusal_text}
use Rattle.bencode_text.specs.Bencode.{IsCanonical}
use Rattle.tracker_core.specs.HttpText.{failure_body}
use Rattle.tracker_core.proofs.BodyLemmas.{failure_canonical}
use Rattle.tracker_core.proofs.http_text.refused_body.Goals as goal

regroup : (a b c : List ℕ) → (((a ++ b) ++ 58 ∷ []) ++ c) ++ 101 ∷ [] ≡ a ++ ((b ++ 58 ∷ c) ++ 101 ∷ [])
regroup a b c = simp append_assoc

pub returns-clause-text : goal.returns-clause-text
unfolding failure_body
returns-clause-text c =
    rw (
      c.from.ensures,
      c.in_ok-push-2.ensures.items,
      c.in_ok-extend_from_slice-2.ensures.items,
      c.in_ok-push.ensures.items,
      c.in_ok-append_number.ensures,
      c.in_ok-extend_from_slice.ensures.items,
      c.in_ok-body.ensures.items,
      c.as_bytes-text.ensures.value,
      c.text.ensures,
    )
    (regroup (codes "d14:failure reason") (decimal (length (refusal_text c.args.why))) (refusal_text c.args.why))

pub returns-clause-canonical : goal.returns-clause-canonical
returns-clause-canonical c = subst IsCanonical (sym (returns-clause-text c)) (failure_canonical c.args.why)
