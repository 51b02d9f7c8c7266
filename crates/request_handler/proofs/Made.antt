-- Calls that were made one after another.
use Rattle.std.proofs.Common.{ℕ, List, [], ◌∷◌, ◌++◌, length, refl, sym, subst}
use Rattle.std.specs.Prelude.{OnErr, Result, Ok, Err}
use Rattle.std.proofs.Math.Seq.{take-length}
use Rattle.ot_base.specs.declared.minute.Minute.{Minute}
use Rattle.tracker_model.specs.Making.{Makes, MakingRelation}
use Rattle.tracker_model.specs.declared.answer.Answer.{Answer}
use Rattle.tracker_model.specs.declared.call.Call.{Call}
use Rattle.request_handler.specs.Making.{MakesFront}

-- what holds anyway holds after an error
pub OnErr-holds : {X E P : Type 0} (r : Result X E) → P → OnErr r P
OnErr-holds (Ok x) p = tt
OnErr-holds (Err e) p = p

module _ {T : Type 0} (made : MakingRelation T) where
  -- after some calls others were made
  pub Makes-append : (minute : Minute) (old middle new : T) (firsts seconds : List (ℕ × Call)) (answers others : List Answer)
      → Makes made minute old firsts answers middle → Makes made minute middle seconds others new
      → Makes made minute old (firsts ++ seconds) (answers ++ others) new
  Makes-append minute old middle new [] seconds [] others first second =
      let From : T → Type 0 = λ state. Makes made minute state seconds others new in
      subst From first second
  Makes-append minute old middle new [] seconds (answer ∷ answers) others first second = absurd first
  Makes-append minute old middle new (placed ∷ firsts) seconds [] others first second = absurd first
  Makes-append minute old middle new (placed ∷ firsts) seconds (answer ∷ answers) others first second =
      (first.0, first.1, Makes-append minute first.0 middle new firsts seconds answers others first.2 second)

  -- one more call was made at the end
  pub Makes-push : (minute : Minute) (old middle new : T) (firsts : List (ℕ × Call)) (bucket : ℕ) (call : Call) (answers : List Answer) (answer : Answer)
      → Makes made minute old firsts answers middle → made middle bucket minute call answer new
      → Makes made minute old (firsts ++ (bucket, call) ∷ []) (answers ++ answer ∷ []) new
  Makes-push minute old middle new firsts bucket call answers answer first one =
      Makes-append minute old middle new firsts ((bucket, call) ∷ []) answers (answer ∷ []) first (new, one, refl)

  -- where all of them were made, the first ones were
  pub MakesFront-all : (minute : Minute) (old new : T) (placed : List (ℕ × Call)) (answers : List Answer) → Makes made minute old placed answers new
      → MakesFront made minute old placed new
  MakesFront-all minute old new placed answers makes =
      let Made : List (ℕ × Call) → Type 0 = λ calls. Makes made minute old calls answers new in
      record { count = length placed; answers = answers; makes = subst Made (sym (take-length placed)) makes }
