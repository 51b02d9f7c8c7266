-- What a pass has seen after one request, and after more.
use Rattle.std.proofs.Common.{◌≡◌, ℕ, Bool, true, false, List, [], ◌∷◌, ◌++◌, map, cond, refl, sym, ap, subst, ◌∙◌, append-nil, append_assoc}
use Rattle.std.specs.Bool.{◌==◌}
use Rattle.std.specs.List.{AllByRecursion, filter}
use Rattle.std.proofs.lemmas.List.{map-append}
use Rattle.std.proofs.lemmas.List.Elements.{filter-append}
use Rattle.ot_base.specs.declared.minute.Minute.{Minute}
use Rattle.tracker_model.specs.Entries.{took_effect}
use Rattle.tracker_model.specs.Grows.{Move, GrowsAmong, entries_by, entries_in, history_at}
use Rattle.tracker_model.specs.Placed.{bucket_for, bucket_in}
use Rattle.tracker_model.specs.declared.answer.Answer.{Answer}
use Rattle.tracker_model.specs.declared.call.Call.{Call}
use Rattle.tracker_model.specs.declared.entry.Entry.{Entry}
use Rattle.tracker_model.proofs.GrowsLemmas.{grows-among}
use Rattle.turn_lock.proofs.HistoryLemmas.{all_append}
use Rattle.shards.specs.Passing.{MadeByPass}
use Rattle.shards.specs.Shape.{PassShape}
use Rattle.shards.proofs.PassingLemmas.{others_alone}
use Rattle.load_model.specs.Alike.{IsOfPhase}
use Rattle.load_model.specs.Load.{call_of}
use Rattle.load_model.specs.declared.request.Request.{Request}
use Rattle.load_model.proofs.LoadLemmas.{call_reports}
use Rattle.drill.specs.Asking.{Asks, IsAsked}

module _ (minute : Minute) (r : Request) (old new : PassShape) (bucket : ℕ) (answer : Answer) (placed : bucket ≡ bucket_for (bucket_in old.shards.bits) (call_of r)) (made : MadeByPass old bucket minute (call_of r) answer new) (took : took_effect answer ≡ true) where
  abbrev entry : Entry
  entry = record { caller = old.caller; minute = minute; call = call_of r; answer = answer }

  abbrev move : Move
  move = record { bucket = bucket; entry = entry }

  grows : GrowsAmong old.shards.settings old.caller old.seen (move ∷ []) new.seen
  grows = (new.seen, others_alone old.shards.settings old.caller old.joined old.seen _ new.seen made.step, refl)

  abbrev entry_here : Bool → List Entry
  entry_here here = map (λ (m : Move). m.entry) (cond here (move ∷ []) [])

  asked_there : (b : ℕ) → IsAsked minute old.shards.bits b old.caller (r ∷ []) (history_at old.seen b) (history_at new.seen b)
  asked_there b = record {
    entries = entry_here (bucket == b);
    own = grows-among old.shards.settings old.caller old.seen new.seen (move ∷ []) grows b;
    of_phase = elim (bucket == b) as (λ here. AllByRecursion (IsOfPhase minute) (entry_here here)) [
      | true ↦ ((call_reports r, record { took = took; at = refl; calls = refl }), tt)
      | false ↦ tt
    ];
    calls =
        (elim (bucket == b) as (λ here. map (λ (x : Entry). x.call) (entry_here here) ≡ cond here (call_of r ∷ []) []) [ true ↦ refl | false ↦ refl ])
        ∙ ap (λ k. cond (k == b) (call_of r ∷ []) []) placed;
  }

  pub one_asked : Asks minute (r ∷ []) old new
  one_asked = record { pass = made.pass; each = asked_there }

-- no requests
pub none_asked : (minute : Minute) (old : PassShape) → Asks minute [] old old
none_asked minute old = record {
  pass = refl;
  each = λ b. record { entries = []; own = sym (append-nil (entries_by old.caller (history_at old.seen b))); of_phase = tt; calls = refl };
}

-- requests and others behind them, of one bucket
asked_further : (minute : Minute) (bits b caller : ℕ) (rs more : List Request) (old middle new : List Entry) → IsAsked minute bits b caller rs old middle → IsAsked minute bits b caller more middle new → IsAsked minute bits b caller (rs ++ more) old new
asked_further minute bits b caller rs more old middle new first then =
    let mine = λ (c : Call). bucket_for (bucket_in bits) c == b in
    record {
      entries = first.entries ++ then.entries;
      own = then.own ∙ ap (λ l. l ++ then.entries) first.own ∙ append_assoc (entries_by caller old) first.entries then.entries;
      of_phase = all_append (IsOfPhase minute) first.entries then.entries first.of_phase then.of_phase;
      calls =
          map-append (λ (x : Entry). x.call) first.entries then.entries
          ∙ (λ k. first.calls k ++ then.calls k)
          ∙ sym (ap (filter mine) (map-append call_of rs more) ∙ filter-append mine (map call_of rs) (map call_of more));
    }

pub more_asked : (minute : Minute) (rs more : List Request) (old middle new : PassShape) → Asks minute rs old middle → Asks minute more middle new → Asks minute (rs ++ more) old new
more_asked minute rs more old middle new first then = record {
  pass = then.pass ∙ ap (λ (p : PassShape). record p { seen = new.seen }) first.pass;
  each = λ b.
      asked_further minute old.shards.bits b old.caller rs more (history_at old.seen b) (history_at middle.seen b) (history_at new.seen b) (first.each b)
      (subst (λ (p : PassShape). IsAsked minute p.shards.bits b p.caller more (history_at middle.seen b) (history_at new.seen b)) first.pass (then.each b));
}
