-- What a worker did at a listener.
use Rattle.std.proofs.Common.{◌≡◌, ◌∙◌, ℕ, ◌≤◌, List, [], ◌∷◌, ◌++◌, map, refl, sym, ap, subst, arith, inl, inr}
use Rattle.std.proofs.lemmas.List.{map-append}
use Rattle.std.specs.Prelude.{Bool, Option}
use Rattle.access_list.specs.Access.{Listing}
use Rattle.ot_io.specs.Tales.{AreOwed, Links, Passes, Tale}
use Rattle.ot_io.proofs.Runs.{AreOwed-after, Passes-trans}
use Rattle.shards.specs.Shape.{PassShape}
use Rattle.serve.specs.ServedLinks.{LinkTurn, RestsAt, ServesLink, ServesLinks, WorkedLinks}

-- once one was accepted, one is owed
pub owes_one : (links links' : Option Links) (came : Tale) → AreOwed links 0 → Passes links links' (came ∷ []) [] → AreOwed links' 1
owes_one links links' came even passes = AreOwed-after links links' (came ∷ []) [] 0 1 passes even refl

module _ (access : Option Listing) (full : Bool) where
  -- a worker that accepted nothing
  pub linked_none : (pass : PassShape) (links links' : Option Links) (faults faults' : ℕ) → Passes links links' [] [] → faults ≤ faults' → WorkedLinks access full pass pass links links' faults faults'
  linked_none pass links links' faults faults' passed counted = record {
    turns = [];
    served = refl;
    pass = refl;
    passed = passed;
    counted = counted;
  }

  -- one connection was accepted, served and given back
  pub linked_once : (old new : PassShape) (links links1 links2 : Option Links) (faults faults1 faults2 : ℕ) (turn : LinkTurn)
      → ServesLink access full old new turn → new ≡ record old { seen = new.seen }
      → Passes links links1 (turn.came ∷ []) [] → Passes links1 links2 [] (turn.went ∷ []) → faults ≤ faults1 → faults2 ≡ faults1
      → WorkedLinks access full old new links links2 faults faults2
  linked_once old new links links1 links2 faults faults1 faults2 turn served keeps accepted back counted same = record {
    turns = turn ∷ [];
    served = (new, served, refl);
    pass = keeps;
    passed = Passes-trans links links1 links2 (turn.came ∷ []) [] [] (turn.went ∷ []) accepted back;
    counted = omega (arith, counted, same);
  }

  served_on : (old middle new : PassShape) (turns more : List LinkTurn) → ServesLinks access full old turns middle → ServesLinks access full middle more new → ServesLinks access full old (turns ++ more) new
  served_on old middle new [] more first then = let P : PassShape → Type 0 = λ p. ServesLinks access full p more new in subst P first then
  served_on old middle new (turn ∷ turns) more first then = (first.0, first.1, served_on first.0 middle new turns more first.2 then)

  module _ (old middle new : PassShape) (links links1 links2 : Option Links) (faults faults1 faults2 : ℕ)
      (first : WorkedLinks access full old middle links links1 faults faults1) (then : WorkedLinks access full middle new links1 links2 faults1 faults2) where
    -- connections that were served after others
    pub linked_on : WorkedLinks access full old new links links2 faults faults2
    linked_on =
        let came : LinkTurn → Tale = λ turn. turn.came in
        let went : LinkTurn → Tale = λ turn. turn.went in
        let P : List Tale → Type 0 = λ ins. Passes links links2 ins (map went first.turns ++ map went then.turns) in
        let Q : List Tale → Type 0 = λ outs. Passes links links2 (map came (first.turns ++ then.turns)) outs in
        record {
          turns = first.turns ++ then.turns;
          served = served_on old middle new first.turns then.turns first.served then.served;
          pass = then.pass ∙ ap (λ (p : PassShape). record p { seen = new.seen }) first.pass;
          passed = subst Q (sym (map-append went first.turns then.turns)) (subst P (sym (map-append came first.turns then.turns))
              (Passes-trans links links1 links2 (map came first.turns) (map went first.turns) (map came then.turns) (map went then.turns) first.passed then.passed));
          counted = omega (arith, first.counted, then.counted);
        }

    -- a worker that rests after its last connections
    pub rests_at_on : RestsAt links2 faults1 faults2 → RestsAt links2 faults faults2
    rests_at_on rests = elim rests [ inl empty ↦ inl empty | inr rose ↦ inr (omega (arith, rose, first.counted)) ]
