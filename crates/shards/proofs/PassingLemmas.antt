-- Histories grow by the calls that are made through a pass.
use Rattle.std.proofs.Common.{◌≡◌, ℕ, suc, List, [], ◌∷◌, refl, ap, subst, ◌∙◌}
use Rattle.ot_base.specs.declared.minute.Minute.{Minute}
use Rattle.tracker_model.specs.Grows.{GrowsAmong, Move, OthersBetween, Step}
use Rattle.tracker_model.specs.Making.{Makes}
use Rattle.tracker_model.specs.Placed.{moves_of}
use Rattle.tracker_model.specs.Settings.{Settings}
use Rattle.tracker_model.specs.declared.answer.Answer.{Answer}
use Rattle.tracker_model.specs.declared.call.Call.{Call}
use Rattle.tracker_model.specs.declared.entry.Entry.{Entry}
use Rattle.turn_lock.specs.Histories.{NoneBy}
use Rattle.shards.specs.Passing.{MadeByPass, PassFollows}
use Rattle.shards.specs.Shape.{PassShape}

-- what comes between is of others
pub others_alone : (g : Settings) (caller : ℕ) (joined : List ℕ) (old : List (List Entry)) (move : Move) (new : List (List Entry)) → Step (NoneBy (caller ∷ joined)) g caller old move new → Step (OthersBetween caller) g caller old move new
others_alone g caller joined old move new step = record {
  others = step.others;
  own = step.own;
  between = step.between.0;
  within = step.within;
  grown = step.grown;
  legal = step.legal;
}

nothing_made : (minute : Minute) (old new : PassShape) → new ≡ old → PassFollows minute old [] [] new
nothing_made minute old new same = record {
  answered = refl;
  grows = ap (λ (p : PassShape). p.seen) same;
  pass = λ k. record old {
    shards = (same k).shards;
    caller = (same k).caller;
    free = (same k).free;
    joined = (same k).joined;
    out = (same k).out;
    seen = new.seen;
  };
}

one_more : (minute : Minute) (old middle new : PassShape) (bucket : ℕ) (call : Call) (answer : Answer) (placed : List (ℕ × Call)) (answers : List Answer) → MadeByPass old bucket minute call answer middle → PassFollows minute middle placed answers new → PassFollows minute old ((bucket, call) ∷ placed) (answer ∷ answers) new
one_more minute old middle new bucket call answer placed answers made rest = record {
  answered = ap suc rest.answered;
  grows = (
    middle.seen,
    others_alone old.shards.settings old.caller old.joined old.seen _ middle.seen made.step,
    subst (λ (p : PassShape). GrowsAmong p.shards.settings p.caller middle.seen (moves_of p.caller minute placed answers) new.seen) made.pass rest.grows,
  );
  pass = rest.pass ∙ ap (λ (p : PassShape). record p { seen = new.seen }) made.pass;
}

pub made_follows : (minute : Minute) (old new : PassShape) (placed : List (ℕ × Call)) (answers : List Answer) → Makes MadeByPass minute old placed answers new → PassFollows minute old placed answers new
made_follows minute old new [] [] made = nothing_made minute old new made
made_follows minute old new [] (answer ∷ answers) made = absurd made
made_follows minute old new (call ∷ placed) [] made = absurd made
made_follows minute old new (call ∷ placed) (answer ∷ answers) made =
    one_more minute old made.0 new call.0 call.1 answer placed answers made.1 (made_follows minute made.0 new placed answers made.2)

-- the same of what has a pass, and of which something else stays
module _ {T : Type 0} (pass_of : T → PassShape) (name_of : T → ℕ) where
  abbrev pub MadeBy : (old : T) → ℕ → Minute → Call → Answer → (new : T) → Type 0
  MadeBy old bucket minute call answer new = (name_of new ≡ name_of old) × MadeByPass (pass_of old) bucket minute call answer (pass_of new)

  pub made_by_follows : (minute : Minute) (old new : T) (placed : List (ℕ × Call)) (answers : List Answer) → Makes MadeBy minute old placed answers new → (name_of new ≡ name_of old) × PassFollows minute (pass_of old) placed answers (pass_of new)
  made_by_follows minute old new [] [] made = (ap name_of made, nothing_made minute (pass_of old) (pass_of new) (ap pass_of made))
  made_by_follows minute old new [] (answer ∷ answers) made = absurd made
  made_by_follows minute old new (call ∷ placed) [] made = absurd made
  made_by_follows minute old new (call ∷ placed) (answer ∷ answers) made =
      let rest = made_by_follows minute made.0 new placed answers made.2 in
      (rest.0 ∙ made.1.0, one_more minute (pass_of old) (pass_of made.0) (pass_of new) call.0 call.1 answer placed answers made.1.1 rest.1)
