-- A call through a pass: the turn at a bucket is taken, and given back with the call's entry.
use Rattle.std.proofs.Common.{◌≡◌, ℕ, ◌+◌, ◌<◌, ◌^◌, true, false, List, [], ◌∷◌, ◌++◌, length, map, get_or, set, sym, ap, subst, ◌∙◌}
use Rattle.std.proofs.lemmas.List.{length_push}
use Rattle.ot_base.specs.declared.minute.Minute.{Minute}
use Rattle.tracker_model.specs.Grows.{history_at}
use Rattle.tracker_model.specs.Legal.{IsLegalHistory}
use Rattle.tracker_model.specs.Shape.{Shape}
use Rattle.tracker_model.specs.Stands.{StandsFor}
use Rattle.tracker_model.specs.declared.answer.Answer.{Answer}
use Rattle.tracker_model.specs.declared.call.Call.{Call}
use Rattle.tracker_model.specs.declared.entry.Entry.{Entry}
use Rattle.turn_lock.specs.Histories.{AllBelow, GoesOn}
use Rattle.turn_lock.specs.Shape.{LockShape, TurnShape, KnowsCallers, entry_of}
use Rattle.shards.specs.Passing.{MadeByPass}
use Rattle.shards.specs.Shape.{AreShards, IsAlike, IsPass, KnowsNumbers, PassShape, ShardsShape, joined_of, numbers_of}
use Rattle.shards.proofs.PassLemmas.{count_is, given_back, history_with, made_step, pass_with, seen_below}
use Rattle.shards.proofs.SettingsLemmas.{legal_by, settings_there}
use Rattle.shards.proofs.TurnLemmas.{joined_set, read_all, seen_of}

-- what a bucket stands for that has answered is legal by the settings of the shards
pub legal_there : (shards : ShardsShape) → AreShards shards → (i : ℕ) → i < 2 ^ shards.bits → (lock : LockShape) → lock ≡ get_or shards.locks i lock → (kept answered : Shape) → numbers_of kept.settings ≡ lock.settings → answered.settings ≡ kept.settings → (history : List Entry) → StandsFor history answered → IsLegalHistory shards.settings history
legal_there shards are i within lock read kept answered taken same history stands =
    let there : i < length shards.locks = rw are.buckets within in
    legal_by shards.settings answered history (same ∙ settings_there shards.settings shards.callers shards.locks i lock kept are.each there read taken) stands

-- a pass, as its fields have it
abbrev pub pass_of : ShardsShape → (caller free out : ℕ) → List TurnShape → PassShape
pass_of shards caller free out turns = record {
  shards = shards;
  caller = caller;
  free = free;
  joined = joined_of turns;
  out = out;
  seen = map seen_of turns;
}

-- a turn at a bucket was taken, and given back with the entry of a call
pub record IsOver (turn kept new : TurnShape) (minute : Minute) (call : Call) (answer : Answer) : Type 0 where
  pub taken : kept ≡ record turn { seen = kept.seen; holds = true }
  pub goes_on : GoesOn (turn.caller ∷ turn.joined) turn.seen kept.seen
  pub given : new ≡ record kept { seen = kept.seen ++ entry_of kept.caller minute call answer ∷ []; holds = false }
  pub known : KnowsCallers new

module _ (shards : ShardsShape) (caller free out : ℕ) (turns : List TurnShape) (pass : IsPass shards caller free out turns)
    (i : ℕ) (below : i < 2 ^ shards.bits) (turn kept new : TurnShape) (read : turn ≡ get_or turns i turn) (minute : Minute) (call : Call) (answer : Answer)
    (over : IsOver turn kept new minute call answer) where
  within : i < length turns
  within = rw (count_is shards caller free out turns pass) below

  alike : IsAlike caller free (joined_of turns) out turn
  alike = read_all (IsAlike caller free (joined_of turns) out) turns i turn within read pass.alike

  own : kept.caller ≡ caller
  own = ap (λ (t : TurnShape). t.caller) over.taken ∙ alike.caller_is

  same : new ≡ record turn { seen = new.seen }
  same = given_back turn kept new (entry_of kept.caller minute call answer) alike.rests over.taken over.given

  -- if the pass is caller 0's, the turn has seen numbers that aren't free
  not_free : caller ≡ 0 → AllBelow free new.seen
  not_free first =
      subst (λ n. AllBelow n new.seen) (ap (λ (t : TurnShape). t.free) same ∙ alike.free_is)
      (over.known.not_free (ap (λ (t : TurnShape). t.caller) same ∙ alike.caller_is ∙ first))

  pub pass_now : IsPass shards caller free out (set turns i new)
  pass_now = pass_with turns i turn new within read shards caller free out pass same not_free

  pub knows_now : KnowsNumbers (pass_of shards caller free out (set turns i new))
  knows_now = record { free_fits = pass_now.free_fits; not_free = seen_below shards caller free out (set turns i new) pass_now }

  added : new.seen ≡ kept.seen ++ entry_of caller minute call answer ∷ []
  added = ap seen_of over.given ∙ ap (λ (n : ℕ). kept.seen ++ entry_of n minute call answer ∷ []) own

  pub made_now : IsLegalHistory shards.settings (kept.seen ++ entry_of caller minute call answer ∷ []) → MadeByPass (pass_of shards caller free out turns) i minute call answer (pass_of shards caller free out (set turns i new))
  made_now legal =
      let callers : turn.caller ∷ turn.joined ≡ caller ∷ joined_of turns = (λ k. alike.caller_is k ∷ alike.joined_are k) in
      let joined = joined_set turns i turn new read (ap (λ (t : TurnShape). t.joined) same) in
      record {
        step = made_step turns i turn new within read shards.settings (caller ∷ joined_of turns) kept.seen (entry_of caller minute call answer)
            (subst (λ numbers. GoesOn numbers turn.seen kept.seen) callers over.goes_on) added (subst (IsLegalHistory shards.settings) (sym added) legal);
        pass = λ k. record (pass_of shards caller free out turns) { joined = joined k; seen = map seen_of (set turns i new) };
      }

  -- the call's place is the last of the history
  pub place_now : (place : ℕ) → place ≡ length kept.seen → place + 1 ≡ length (history_at (map seen_of (set turns i new)) i)
  place_now place is =
      ap (λ n. n + 1) is ∙ sym (length_push kept.seen (entry_of caller minute call answer)) ∙ ap length (sym added) ∙ ap length (sym (history_with turns i turn new within read))
