-- Passes that are joined, one after another.
use Rattle.std.proofs.Common.{◌≡◌, ◌≢◌, ℕ, ◌+◌, List, [], ◌∷◌, ◌++◌, length, map, refl, sym, ap, subst, ◌∙◌, append-nil, append_assoc, length-append, arith}
use Rattle.std.proofs.lemmas.List.{map-append}
use Rattle.std.specs.List.{AllByRecursion}
use Rattle.tracker_model.specs.Grows.{OthersBetween, history_at}
use Rattle.tracker_model.specs.declared.entry.Entry.{Entry}
use Rattle.turn_lock.specs.Histories.{GoesOn, NoneBy}
use Rattle.turn_lock.proofs.HistoryLemmas.{all_append, all_right, goes_nowhere, none_append}
use Rattle.shards.specs.Histories.{IsJoined}
use Rattle.shards.specs.Shape.{PassShape}
use Rattle.shards.specs.Joining.{AreJoined, HoldAllOf}

-- a history goes on, and then goes on again
pub goes_on_further : (callers : List ℕ) (old middle new : List Entry) → GoesOn callers old middle → GoesOn callers middle new → GoesOn callers old new
goes_on_further callers old middle new first then = record {
  others = first.others ++ then.others;
  grown = then.grown ∙ ap (λ l. l ++ then.others) first.grown ∙ append_assoc old first.others then.others;
  apart = none_append callers first.others then.others first.apart then.apart;
}

module _ (middle new : PassShape) where
  -- who had seen all of those joined before has still, if nothing of their numbers came
  still_seen : (others : List PassShape) (joined : List ℕ) → AllByRecursion (HoldAllOf middle.seen) others → ((b : ℕ) → GoesOn (map (λ (other : PassShape). other.caller) others ++ joined) (history_at middle.seen b) (history_at new.seen b)) → AllByRecursion (HoldAllOf new.seen) others
  still_seen [] joined all on = tt
  still_seen (other ∷ others) joined all on = (
    (λ b. goes_on_further (other.caller ∷ []) (history_at other.seen b) (history_at middle.seen b) (history_at new.seen b) (all.0 b)
        (record { others = (on b).others; grown = (on b).grown; apart = ((on b).apart.0, tt) })),
    still_seen others joined all.1 (λ b. record { others = (on b).others; grown = (on b).grown; apart = (on b).apart.1 }),
  )

pub none_joined : (pass : PassShape) → AreJoined [] pass pass
none_joined pass = record {
  pass = refl;
  out = (let e : pass.out ≡ pass.out + 0 = omega arith in e);
  buckets = refl;
  seen = λ b. goes_nowhere (pass.caller ∷ pass.joined) (history_at pass.seen b) (history_at pass.seen b) refl;
  others_seen = tt;
}

module _ (others : List PassShape) (other old middle new : PassShape) (first : AreJoined others old middle)
    (pass : new ≡ record middle { seen = new.seen; joined = other.caller ∷ middle.joined; out = new.out })
    (out : middle.out ≡ new.out + 1) (buckets : length new.seen ≡ length middle.seen)
    (seen : (b : ℕ) → IsJoined (middle.caller ∷ middle.joined) other.caller (history_at middle.seen b) (history_at other.seen b) (history_at new.seen b)) where
  abbrev numbers : List ℕ
  numbers = map (λ (o : PassShape). o.caller) others ++ old.joined

  on : (b : ℕ) → GoesOn (old.caller ∷ numbers) (history_at middle.seen b) (history_at new.seen b)
  on b = subst (λ (p : PassShape). GoesOn (p.caller ∷ p.joined) (history_at middle.seen b) (history_at new.seen b)) first.pass (seen b).goes_on

  pub one_more_joined : AreJoined (other ∷ others) old new
  one_more_joined = record {
    pass = pass ∙ ap (λ (p : PassShape). record p { seen = new.seen; joined = other.caller ∷ p.joined; out = new.out }) first.pass;
    out = (let e = first.out in omega arith);
    buckets = buckets ∙ first.buckets;
    seen = λ b. goes_on_further (old.caller ∷ old.joined) (history_at old.seen b) (history_at middle.seen b) (history_at new.seen b) (first.seen b)
        (record { others = (on b).others; grown = (on b).grown; apart = ((on b).apart.0, all_right (λ c. OthersBetween c (on b).others) (map (λ (o : PassShape). o.caller) others) old.joined (on b).apart.1) });
    others_seen = (
      (λ b. (seen b).other_goes_on),
      still_seen middle new others old.joined first.others_seen (λ b. record { others = (on b).others; grown = (on b).grown; apart = (on b).apart.1 }),
    );
  }

-- one list of passes was joined, and then another
pub joined_further : (others more : List PassShape) (old middle new : PassShape) → AreJoined others old middle → AreJoined more middle new → AreJoined (more ++ others) old new
joined_further others more old middle new first then =
    let number : PassShape → ℕ = λ (o : PassShape). o.caller in
    let joined : map number more ++ (map number others ++ old.joined) ≡ map number (more ++ others) ++ old.joined =
    sym (append_assoc (map number more) (map number others) old.joined) ∙ ap (λ l. l ++ old.joined) (sym (map-append number more others)) in
    let on : (b : ℕ) → GoesOn (old.caller ∷ map number others ++ old.joined) (history_at middle.seen b) (history_at new.seen b) =
    λ b. subst (λ (p : PassShape). GoesOn (p.caller ∷ p.joined) (history_at middle.seen b) (history_at new.seen b)) first.pass (then.seen b) in
    record {
      pass = then.pass
          ∙ ap (λ (p : PassShape). record p { seen = new.seen; joined = map number more ++ p.joined; out = new.out }) first.pass
          ∙ ap (λ l. record old { seen = new.seen; joined = l; out = new.out }) joined;
      out = (let a = first.out in let b = then.out in let c = length-append more others in omega arith);
      buckets = then.buckets ∙ first.buckets;
      seen = λ b. goes_on_further (old.caller ∷ old.joined) (history_at old.seen b) (history_at middle.seen b) (history_at new.seen b) (first.seen b)
          (record { others = (on b).others; grown = (on b).grown; apart = ((on b).apart.0, all_right (λ c. OthersBetween c (on b).others) (map number others) old.joined (on b).apart.1) });
      others_seen = all_append (HoldAllOf new.seen) more others then.others_seen
          (still_seen middle new others old.joined first.others_seen (λ b. record { others = (on b).others; grown = (on b).grown; apart = (on b).apart.1 }));
    }
