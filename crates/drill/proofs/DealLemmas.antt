-- How requests are dealt, one by one.
use Rattle.std.proofs.Common.{◌≡◌, ◌≢◌, ℕ, ◌<◌, ◌%◌, Bool, true, false, List, [], ◌∷◌, ◌++◌, length, map, cond, refl, sym, ap, subst, ◌∙◌, ⊎_elim, append-nil, append_assoc, get_or, set, arith, length-set, get_or-set_same, get_or-set_other}
use Rattle.std.specs.Bool.{◌==◌}
use Rattle.std.specs.List.{filter}
use Rattle.std.proofs.lemmas.Bool.{cases_eq}
use Rattle.std.proofs.lemmas.Bool.Decides.{nat_tests}
use Rattle.std.proofs.lemmas.List.{get_or_default, map-append}
use Rattle.std.proofs.lemmas.List.Elements.{filter-append}
use Rattle.load_model.specs.Drawing.{of_phase}
use Rattle.load_model.specs.Load.{peer_number}
use Rattle.load_model.specs.declared.request.Request.{Request}
use Rattle.drill.specs.Dealing.{AreDealt, AreHanded, share_of}
use Rattle.drill.specs.declared.worker.Worker.{Worker}

-- ---- one request

module _ (r : Request) (team : List Worker) (w : ℕ) (old new : Worker) (within : w < length team) (whose : w ≡ peer_number r % length team) (read : old ≡ get_or team w old) (passes : new.pass ≡ old.pass) (pushed : new.requests.items ≡ old.requests.items ++ r ∷ []) where
  of_its_worker : share_of (length team) w (r ∷ []) ≡ r ∷ []
  of_its_worker = ap (λ b. cond b (r ∷ []) []) (let e : (peer_number r % length team == w) ≡ true = grind (arith, nat_tests) in e)

  of_no_other : (i : ℕ) → i ≢ w → share_of (length team) i (r ∷ []) ≡ []
  of_no_other i apart = ap (λ b. cond b (r ∷ []) []) (let e : (peer_number r % length team == i) ≡ false = grind (arith, nat_tests) in e)

  read_by : (d : Worker) → old ≡ get_or team w d
  read_by d = read ∙ get_or_default team w old d within

  pass_there : (i : ℕ) (d : Worker) → i < length team → (get_or (set team w new) i d).pass ≡ (get_or team i d).pass
  pass_there i d below =
      ⊎_elim
      (λ (same : i ≡ w).
      subst (λ j. (get_or (set team w new) j d).pass ≡ (get_or team j d).pass) (sym same)
      (ap (λ (k : Worker). k.pass) (get_or-set_same team w new d within) ∙ passes ∙ ap (λ (k : Worker). k.pass) (read_by d)))
      (λ (apart : i ≢ w). ap (λ (k : Worker). k.pass) (get_or-set_other team w i new d apart))
      (cases_eq i w)

  share_there : (i : ℕ) (d : Worker) → i < length team → (get_or (set team w new) i d).requests.items ≡ (get_or team i d).requests.items ++ share_of (length team) i (r ∷ [])
  share_there i d below =
      ⊎_elim
      (λ (same : i ≡ w).
      subst (λ j. (get_or (set team w new) j d).requests.items ≡ (get_or team j d).requests.items ++ share_of (length team) j (r ∷ [])) (sym same)
      (ap (λ (k : Worker). k.requests.items) (get_or-set_same team w new d within) ∙ pushed
      ∙ (λ k. (read_by d k).requests.items ++ sym of_its_worker k)))
      (λ (apart : i ≢ w).
      ap (λ (k : Worker). k.requests.items) (get_or-set_other team w i new d apart)
      ∙ sym (append-nil (get_or team i d).requests.items)
      ∙ ap (λ l. (get_or team i d).requests.items ++ l) (sym (of_no_other i apart)))
      (cases_eq i w)

  pub one_handed : AreHanded (r ∷ []) team (set team w new)
  one_handed = record { count = length-set team w new; passes = pass_there; shares = share_there }

-- ---- more requests

none_handed : (team : List Worker) → AreHanded [] team team
none_handed team = record { count = refl; passes = λ i d below. refl; shares = λ i d below. sym (append-nil (get_or team i d).requests.items) }

more_handed : (rs more : List Request) (old middle new : List Worker) → AreHanded rs old middle → AreHanded more middle new → AreHanded (rs ++ more) old new
more_handed rs more old middle new first then = record {
  count = then.count ∙ first.count;
  passes = λ i d below. then.passes i d (rw first.count below) ∙ first.passes i d below;
  shares = λ i d below.
      then.shares i d (rw first.count below)
      ∙ (λ k. first.shares i d below k ++ share_of (first.count k) i more)
      ∙ append_assoc (get_or old i d).requests.items (share_of (length old) i rs) (share_of (length old) i more)
      ∙ ap (λ l. (get_or old i d).requests.items ++ l) (sym (filter-append (λ q. peer_number q % length old == i) rs more));
}

pub none_dealt : (phase : ℕ) (load : List (ℕ × Request)) (team : List Worker) → AreDealt phase load load team team
none_dealt phase load team = record { dealt = []; drawn = refl; handed = none_handed team }

pub more_dealt : (phase : ℕ) (r : Request) (load left rest : List (ℕ × Request)) (old middle new : List Worker) → AreDealt phase load left old middle → left ≡ (phase, r) ∷ rest → AreHanded (r ∷ []) middle new → AreDealt phase load rest old new
more_dealt phase r load left rest old middle new first next then = record {
  dealt = first.dealt ++ r ∷ [];
  drawn = first.drawn ∙ ap (λ l. of_phase phase first.dealt ++ l) next
      ∙ sym (ap (λ l. l ++ rest) (map-append (λ (q : Request). (phase, q)) first.dealt (r ∷ [])) ∙ append_assoc (of_phase phase first.dealt) ((phase, r) ∷ []) rest);
  handed = more_handed first.dealt (r ∷ []) old middle new first.handed then;
}
