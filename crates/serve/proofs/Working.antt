-- What a worker did in turns.
use Rattle.std.proofs.Common.{◌≡◌, ◌∙◌, ℕ, ◌+◌, ◌≤◌, List, [], ◌∷◌, ◌++◌, map, min, refl, sym, ap, subst, arith, inl, inr}
use Rattle.std.proofs.lemmas.List.{append-nil, length-map, map-append}
use Rattle.std.proofs.lemmas.List.Concat.{flat_map-append}
use Rattle.std.proofs.lemmas.List.Sums.{sum_by-append}
use Rattle.std.specs.Prelude.{Option, false}
use Rattle.std.specs.List.{flat_map}
use Rattle.access_list.specs.Access.{Listing}
use Rattle.ot_base.specs.declared.hash.Secret.{Secret}
use Rattle.ot_base.specs.declared.minute.Minute.{Minute}
use Rattle.ot_io.specs.Counts.{last_count}
use Rattle.ot_io.specs.Traffic.{Datagram, Moves, Traffic}
use Rattle.ot_io.proofs.Runs.{Moves-refl, Moves-trans}
use Rattle.request_handler.specs.Datagram.{udp_placed}
use Rattle.shards.specs.Shape.{PassShape}
use Rattle.tracker_core.specs.UdpPlan.{calls_of}
use Rattle.tracker_model.specs.Grows.{GrowsAmong, Move, OthersBetween}
use Rattle.tracker_model.specs.Placed.{moves_of}
use Rattle.tracker_model.specs.declared.answer.Answer.TheVariants as answered
use Rattle.tracker_model.proofs.GrowsLemmas.{grows-append}
use Rattle.upkeep.proofs.Lists.{all_append, no_moves}
use Rattle.serve.specs.Datagram.{FaultsAreCounted, Handles, Replies, Serves, Terms}
use Rattle.serve.specs.Worked.{HasReply, IsTurn, Rests, Turn, Worked, is_received, lost_in, moves_in, sent_in, turn_plan, turn_terms}
use Rattle.serve.specs.declared.datagram.Served.{Served}
use Rattle.serve.specs.declared.datagram.Served.TheVariants.{Idle, RecvFault, Unbuilt, Silent, Sent, SendFault, NoMemory}

module _ (secret : Secret) (access : Option Listing) where
  abbrev pub terms_at : Minute → Terms
  terms_at minute = record { secret = secret; access = access; minute = minute }

  -- a worker that did nothing yet
  pub worked_none : (old : PassShape) (wire : Option Traffic) (faults : ℕ) → Worked secret access old old wire wire faults faults
  worked_none old wire faults = record {
    turns = [];
    each = tt;
    grown = refl;
    pass = refl;
    moved = Moves-refl wire;
    counted = omega arith;
    failed = omega arith;
  }

  module _ (old new : PassShape) (wire wire' : Option Traffic) (faults faults' : ℕ) (keeps : new ≡ record old { seen = new.seen }) where
    -- nothing was received
    not_worked : new ≡ old → Moves wire wire' [] [] → faults ≤ faults' → Worked secret access old new wire wire' faults faults'
    not_worked same moved counted = record {
      turns = [];
      each = tt;
      grown = ap (λ (p : PassShape). p.seen) same;
      pass = keeps;
      moved = moved;
      counted = counted;
      failed = omega (arith, counted);
    }

    -- one turn was taken
    worked_turn : (turn : Turn) → IsTurn secret access turn
        → GrowsAmong old.shards.settings old.caller old.seen (moves_in secret access old turn) new.seen
        → Moves wire wire' (turn.came ∷ []) (sent_in turn) → faults ≤ faults' → min (faults + lost_in turn) last_count ≤ faults'
        → Worked secret access old new wire wire' faults faults'
    worked_turn turn is grown moved counted failed =
        let P : List Move → Type 0 = λ moves. GrowsAmong old.shards.settings old.caller old.seen moves new.seen in
        let Q : List Datagram → Type 0 = λ outs. Moves wire wire' (turn.came ∷ []) outs in
        record {
          turns = turn ∷ [];
          each = (is, tt);
          grown = subst P (sym (append-nil (moves_in secret access old turn))) grown;
          pass = keeps;
          moved = subst Q (sym (append-nil (sent_in turn))) moved;
          counted = counted;
          failed = omega (arith, failed);
        }

    -- a turn without calls was taken
    silent_turn : (turn : Turn) → IsTurn secret access turn → turn.answers ≡ [] → new ≡ old
        → Moves wire wire' (turn.came ∷ []) (sent_in turn) → faults ≤ faults' → min (faults + lost_in turn) last_count ≤ faults'
        → Worked secret access old new wire wire' faults faults'
    silent_turn turn is empty same moved counted failed =
        let P : List Move → Type 0 = λ moves. GrowsAmong old.shards.settings old.caller old.seen moves new.seen in
        let placed = udp_placed old.shards.bits (turn_plan secret access turn) in
        let nothing : moves_in secret access old turn ≡ [] = ap (λ answers. moves_of old.caller turn.minute placed answers) empty ∙ no_moves old.caller turn.minute placed in
        worked_turn turn is (subst P (sym nothing) (ap (λ (p : PassShape). p.seen) same)) moved counted failed

    -- what follows answers each call
    follows_reply : (turn : Turn) → Handles (turn_terms secret access turn) old new turn.came turn.answers → Replies (turn_terms secret access turn) turn.came turn.answers turn.reply → HasReply secret access turn
    follows_reply turn handles replies = (handles.answered ∙ length-map (calls_of (turn_plan secret access turn)) _, replies)

    -- what was done for one datagram is one turn at most
    pub worked_once : (minute : Minute) (served : Served) → Serves (terms_at minute) old new wire wire' served → FaultsAreCounted faults faults' served → Worked secret access old new wire wire' faults faults'
    worked_once minute Idle did counted = not_worked did.0 did.1 counted
    worked_once minute RecvFault did counted = not_worked did.0 did.1 counted.0
    worked_once minute Unbuilt did counted =
        let turn : Turn = record { came = did.0; minute = minute; answers = []; reply = []; served = Unbuilt } in
        silent_turn turn (did.1, refl) refl did.2 did.3 counted (omega (arith, counted))
    worked_once minute (Silent quiet) did counted =
        let turn : Turn = record { came = did.0; minute = minute; answers = []; reply = []; served = Silent quiet } in
        silent_turn turn (did.1, refl) refl did.2 did.3 counted (omega (arith, counted))
    worked_once minute Sent did counted =
        let turn : Turn = record { came = did.0; minute = minute; answers = did.1; reply = did.2; served = Sent } in
        worked_turn turn (follows_reply turn did.3 did.4) did.3.grows did.5 counted (omega (arith, counted))
    worked_once minute SendFault did counted =
        let turn : Turn = record { came = did.0; minute = minute; answers = did.1; reply = did.2; served = SendFault } in
        worked_turn turn (follows_reply turn did.3 did.4) did.3.grows did.5 counted.0 (omega (arith, counted.1))
    worked_once minute NoMemory did counted =
        let turn : Turn = record { came = did.0; minute = minute; answers = answered.NoMemory ∷ []; reply = []; served = NoMemory } in
        worked_turn turn (did.1, did.2, did.3, refl) did.4.grows did.5 counted (omega (arith, counted))

    -- where none was received the worker may rest
    pub rests_once : (minute : Minute) (served : Served) → Serves (terms_at minute) old new wire wire' served → FaultsAreCounted faults faults' served → is_received served ≡ false → Rests wire' faults faults'
    rests_once minute Idle did counted not = inl did.2
    rests_once minute RecvFault did counted not = inr counted.1
    rests_once minute Unbuilt did counted not = cc
    rests_once minute (Silent quiet) did counted not = cc
    rests_once minute Sent did counted not = cc
    rests_once minute SendFault did counted not = cc
    rests_once minute NoMemory did counted not = cc

  module _ (old middle new : PassShape) (wire wire1 wire2 : Option Traffic) (faults faults1 faults2 : ℕ)
      (first : Worked secret access old middle wire wire1 faults faults1) (then : Worked secret access middle new wire1 wire2 faults1 faults2) where
    -- turns that were taken after others
    pub worked_on : Worked secret access old new wire wire2 faults faults2
    worked_on =
        let Same : PassShape → Type 0 = λ p. GrowsAmong p.shards.settings p.caller middle.seen (flat_map (moves_in secret access p) then.turns) new.seen in
        let P : List Move → Type 0 = λ moves. GrowsAmong old.shards.settings old.caller old.seen moves new.seen in
        let came : Turn → Datagram = λ turn. turn.came in
        let Q : List Datagram → Type 0 = λ ins. Moves wire wire2 ins (flat_map sent_in first.turns ++ flat_map sent_in then.turns) in
        let S : List Datagram → Type 0 = λ outs. Moves wire wire2 (map came (first.turns ++ then.turns)) outs in
        record {
          turns = first.turns ++ then.turns;
          each = all_append (IsTurn secret access) first.turns then.turns first.each then.each;
          grown = subst P (sym (flat_map-append (moves_in secret access old) first.turns then.turns))
              (grows-append (OthersBetween old.caller) old.shards.settings old.caller old.seen middle.seen new.seen
              (flat_map (moves_in secret access old) first.turns) (flat_map (moves_in secret access old) then.turns) first.grown (subst Same first.pass then.grown));
          pass = then.pass ∙ ap (λ (p : PassShape). record p { seen = new.seen }) first.pass;
          moved = subst S (sym (flat_map-append sent_in first.turns then.turns)) (subst Q (sym (map-append came first.turns then.turns))
              (Moves-trans wire wire1 wire2 (map came first.turns) (flat_map sent_in first.turns) (map came then.turns) (flat_map sent_in then.turns) first.moved then.moved));
          counted = omega (arith, first.counted, then.counted);
          failed = omega (arith, first.failed, then.failed, first.counted, sum_by-append lost_in first.turns then.turns);
        }

    -- a worker that rests after its last turns
    pub rests_on : Rests wire2 faults1 faults2 → Rests wire2 faults faults2
    rests_on rests = elim rests [ inl empty ↦ inl empty | inr rose ↦ inr (omega (arith, rose, first.counted)) ]
