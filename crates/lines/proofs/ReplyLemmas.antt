-- What was written in two parts.
use Rattle.std.proofs.Common.{◌≡◌, ℕ, List, [], ◌++◌, Result, Ok, Err, OnOk, OnErr, subst, sym, ap, ◌∙◌, append_assoc, append-nil}
use Rattle.std.specs.Prelude.{Option}
use Rattle.std.specs.Io.KnownBytes.{Appends}
use Rattle.std.proofs.KnownBytes.{Appends-nil, Appends-trans}
use Rattle.lines.specs.Replies.{Adds, Loses}

module _ {T E : Type 0} where
  -- what waited was written, and then the text
  pub Adds-sent : (a b c : Option (List ℕ)) (waiting waiting' text : List ℕ) (r : Result T E)
      → Appends a b waiting → waiting' ≡ [] → OnOk r (Appends b c text)
      → OnOk r (Adds a c waiting waiting' text)
  Adds-sent a b c waiting waiting' text (Ok x) first none second = record {
    sent = waiting ++ text;
    gone = Appends-trans a b c waiting text first second;
    kept = sym (ap (λ l. (waiting ++ text) ++ l) none ∙ append-nil (waiting ++ text));
  }
  Adds-sent a b c waiting waiting' text (Err e) first none second = tt

  -- what waited was written, and then a front of the text
  pub Loses-sent : (a b c : Option (List ℕ)) (waiting text : List ℕ) (r : Result T E)
      → Appends a b waiting → OnErr r (Loses b c text) → OnErr r (Loses a c (waiting ++ text))
  Loses-sent a b c waiting text (Ok x) first second = tt
  Loses-sent a b c waiting text (Err e) first second = record {
    sent = waiting ++ second.sent;
    lost = second.lost;
    gone = Appends-trans a b c waiting second.sent first second.gone;
    front = ap (λ l. waiting ++ l) second.front ∙ sym (append_assoc waiting second.sent second.lost);
  }

-- what was added and then written
pub Appends-added : (a b c : Option (List ℕ)) (waiting waiting' text : List ℕ)
    → Adds a b waiting waiting' text → Appends b c waiting' → Appends a c (waiting ++ text)
Appends-added a b c waiting waiting' text adds gone =
    subst (λ (l : List ℕ). Appends a c l) (sym adds.kept) (Appends-trans a b c adds.sent waiting' adds.gone gone)

-- what was added and then lost
pub Loses-added : (a b c : Option (List ℕ)) (waiting waiting' text : List ℕ)
    → Adds a b waiting waiting' text → Loses b c waiting' → Loses a c (waiting ++ text)
Loses-added a b c waiting waiting' text adds loses = record {
  sent = adds.sent ++ loses.sent;
  lost = loses.lost;
  gone = Appends-trans a b c adds.sent loses.sent adds.gone loses.gone;
  front = adds.kept ∙ ap (λ l. adds.sent ++ l) loses.front ∙ sym (append_assoc adds.sent loses.sent loses.lost);
}

-- ---- answers that are added in parts, for proofs of responders

-- one part and then another
pub Adds-trans : (a b c : Option (List ℕ)) (waiting waiting' waiting'' text more : List ℕ)
    → Adds a b waiting waiting' text → Adds b c waiting' waiting'' more
    → Adds a c waiting waiting'' (text ++ more)
Adds-trans a b c waiting waiting' waiting'' text more first second = record {
  sent = first.sent ++ second.sent;
  gone = Appends-trans a b c first.sent second.sent first.gone second.gone;
  kept = sym (append_assoc waiting text more) ∙ ap (λ l. l ++ more) first.kept ∙ append_assoc first.sent waiting' more
      ∙ ap (λ l. first.sent ++ l) second.kept ∙ sym (append_assoc first.sent second.sent waiting'');
}

-- one part, and then the outside failed
pub Adds-Loses : (a b c : Option (List ℕ)) (waiting waiting' text more : List ℕ)
    → Adds a b waiting waiting' text → Loses b c (waiting' ++ more)
    → Loses a c (waiting ++ (text ++ more))
Adds-Loses a b c waiting waiting' text more first second = record {
  sent = first.sent ++ second.sent;
  lost = second.lost;
  gone = Appends-trans a b c first.sent second.sent first.gone second.gone;
  front = sym (append_assoc waiting text more) ∙ ap (λ l. l ++ more) first.kept ∙ append_assoc first.sent waiting' more
      ∙ ap (λ l. first.sent ++ l) second.front ∙ sym (append_assoc first.sent second.sent second.lost);
}

-- nothing was added
pub Adds-none : (a : Option (List ℕ)) (waiting : List ℕ) → Adds a a waiting waiting []
Adds-none a waiting = record { sent = []; gone = Appends-nil a; kept = append-nil waiting }
