-- Turns that are joined, from the last to the first.
use Rattle.std.proofs.Common.{◌≡◌, ◌≢◌, ℕ, ◌+◌, ◌-◌, ◌<◌, ◌≤◌, List, [], ◌∷◌, ◌++◌, All, length, map, get_or, set, take, refl, sym, ap, subst, ◌∙◌, inl, ⊎_elim, arith}
use Rattle.std.proofs.lemmas.Bool.{cases_eq, cases_lt}
use Rattle.std.proofs.lemmas.List.{get_or-map, get_or-set_other, get_or-set_same, get_or-take, get_or_default, get_or_past, get_or_push, length-map, length-set, length_push, same_lists, take-take, take_at}
use Rattle.tracker_model.specs.Grows.{history_at}
use Rattle.tracker_model.specs.declared.entry.Entry.{Entry}
use Rattle.turn_lock.proofs.HistoryLemmas.{goes_nowhere}
use Rattle.turn_lock.specs.Histories.{AllBelow}
use Rattle.turn_lock.specs.Shape.{TurnShape}
use Rattle.shards.specs.Histories.{IsJoined, IsJoinedTurn}
use Rattle.shards.specs.Shape.{IsAlike, IsPass, ShardsShape, joined_of}
use Rattle.shards.proofs.PassLemmas.{some_turns}
use Rattle.shards.proofs.TurnLemmas.{lock_of, seen_of}

-- a last turn that stands at a place of all turns, and those before it
pub record IsLastOf (all rest : List TurnShape) (last : TurnShape) : Type 0 where
  pub within : length rest < length all
  pub before : rest ≡ take (length rest) all
  pub here : (d : TurnShape) → get_or all (length rest) d ≡ last

pub last_of : (all front rest : List TurnShape) (last : TurnShape) → front ≡ take (length front) all → length front ≤ length all → front ≡ rest ++ last ∷ [] → IsLastOf all rest last
last_of all front rest last is_front fits ends =
    let n = length rest in
    let long : length front ≡ n + 1 = ap length ends ∙ length_push rest last in
    let front_is : front ≡ take (n + 1) all = rw long at is_front in
    record {
      within = omega arith;
      before =
          sym (take_at rest (last ∷ []) n refl)
          ∙ ap (take n) (sym ends ∙ front_is)
          ∙ take-take n (n + 1) all (omega arith);
      here = λ d.
          sym (get_or-take (n + 1) all n d (omega arith))
          ∙ ap (λ (turns : List TurnShape). get_or turns n d) (sym front_is ∙ ends)
          ∙ get_or_push rest last d n refl;
    }

-- from a place on all turns are joined, and those before it wait
pub record IsJoinedFrom (n : ℕ) (turns others now : List TurnShape) : Type 0 where
  pub count : length now ≡ length turns
  pub waiting : (i : ℕ) (d : TurnShape) → i < n → get_or now i d ≡ get_or turns i d
  pub joined : (i : ℕ) (d : TurnShape) → n ≤ i → i < length turns → IsJoinedTurn (get_or turns i d) (get_or others i d) (get_or now i d)

pub none_joined_yet : (n : ℕ) (turns others : List TurnShape) → length turns ≤ n → IsJoinedFrom n turns others turns
none_joined_yet n turns others all = record {
  count = refl;
  waiting = λ i d below. refl;
  joined = λ i d above within. absurd (omega arith);
}

module _ (n m : ℕ) (turns others now : List TurnShape) (turn other new : TurnShape) (next : m ≡ n + 1) (was : IsJoinedFrom m turns others now) (within : n < length turns) (read : turn ≡ get_or now n turn) (there : (d : TurnShape) → get_or others n d ≡ other) (joins : IsJoinedTurn turn other new) where
  within_now : n < length now
  within_now = rw was.count within

  turn_was : (d : TurnShape) → turn ≡ get_or turns n d
  turn_was d = read ∙ get_or_default now n turn d within_now ∙ was.waiting n d (omega arith)

  here : (i : ℕ) (d : TurnShape) → i ≡ n → IsJoinedTurn (get_or turns i d) (get_or others i d) (get_or (set now n new) i d)
  here i d same =
      let at : IsJoinedTurn (get_or turns n d) (get_or others n d) (get_or (set now n new) n d) =
      rw (← turn_was d, there d, get_or-set_same now n new d within_now) joins in
      rw same at

  elsewhere : (i : ℕ) (d : TurnShape) → i ≢ n → n ≤ i → i < length turns → IsJoinedTurn (get_or turns i d) (get_or others i d) (get_or (set now n new) i d)
  elsewhere i d other_place above below =
      rw (get_or-set_other now n i new d other_place) (was.joined i d (omega arith) below)

  pub join_more : IsJoinedFrom n turns others (set now n new)
  join_more = record {
    count = length-set now n new ∙ was.count;
    waiting = λ i d below. get_or-set_other now n i new d (omega arith) ∙ was.waiting i d (omega arith);
    joined = λ i d above below. ⊎_elim (λ same. here i d same) (λ apart. elsewhere i d apart above below) (cases_eq i n);
  }

-- ---- all turns of a pass

-- a turn, as what stands past the end of a list
some_turn : (turns : List TurnShape) → 0 < length turns → TurnShape
some_turn [] some = absurd (omega arith)
some_turn (turn ∷ turns) some = turn

joined_head : (turns : List TurnShape) (numbers : List ℕ) → 0 < length turns → ((d : TurnShape) → (get_or turns 0 d).joined ≡ numbers) → joined_of turns ≡ numbers
joined_head [] numbers some same = absurd (omega arith)
joined_head (turn ∷ turns) numbers some same = same turn

-- what `IsJoined` speaks of
record Joining : Type 0 where
  callers : List ℕ
  number : ℕ
  mine : List Entry
  theirs : List Entry
  joined : List Entry

module _ (shards others_shards : ShardsShape) (caller free out number others_free others_out : ℕ) (turns others now : List TurnShape)
    (pass : IsPass shards caller free out turns) (other : IsPass others_shards number others_free others_out others)
    (as_many : length others ≡ length turns) (count : length now ≡ length turns)
    (all : (i : ℕ) (d : TurnShape) → i < length turns → IsJoinedTurn (get_or turns i d) (get_or others i d) (get_or now i d)) where
  abbrev pub numbers : List ℕ
  numbers = number ∷ joined_of turns

  some : 0 < length turns
  some = some_turns shards caller free out turns pass

  numbers_at : (i : ℕ) (d : TurnShape) → i < length turns → (get_or now i d).joined ≡ numbers
  numbers_at i d within =
      let mine = pass.alike i d within in
      let theirs = other.alike i d (rw as_many within) in
      ap (λ (t : TurnShape). t.joined) (all i d within).turn ∙ (λ k. theirs.caller_is k ∷ mine.joined_are k)

  pub joined_now : joined_of now ≡ numbers
  joined_now = joined_head now numbers (rw count some) (λ d. numbers_at 0 d some)

  -- a pass that another is joined to has one out
  pub one_out : 1 ≤ out
  one_out =
      let d = some_turn turns some in
      let less = (all 0 d some).one_less in
      let mine = (pass.alike 0 d some).out_is in
      omega arith

  pub joined_is_pass : IsPass shards caller free (out - 1) now
  joined_is_pass =
      let P : TurnShape → Type 0 = IsAlike caller free numbers (out - 1) in
      let alike : All P now = λ i d below.
      let within : i < length turns = rw (← count) below in
      let mine = pass.alike i d within in
      let is = all i d within in
      let less = is.one_less in
      let was = mine.out_is in
      record {
        caller_is = ap (λ (t : TurnShape). t.caller) is.turn ∙ mine.caller_is;
        free_is = ap (λ (t : TurnShape). t.free) is.turn ∙ mine.free_is;
        joined_are = numbers_at i d within;
        out_is = omega arith;
        rests = ap (λ (t : TurnShape). t.holds) is.turn ∙ mine.rests;
        not_free = λ first. subst (λ n. AllBelow n (get_or now i d).seen) (ap (λ (t : TurnShape). t.free) is.turn ∙ mine.free_is) (is.not_free (ap (λ (t : TurnShape). t.caller) is.turn ∙ mine.caller_is ∙ first));
      } in
      let d = some_turn turns some in
      let locks : map lock_of now ≡ map lock_of turns = same_lists _ _ (length-map now lock_of ∙ count ∙ sym (length-map turns lock_of)) (λ i e below.
      let in_now : i < length now = rw (length-map now lock_of) at below in
      let within : i < length turns = rw count at in_now in
      get_or-map lock_of now i d e in_now ∙ ap lock_of (all i d within).turn ∙ sym (get_or-map lock_of turns i d e within)) in
      let few = pass.few_out in
      record {
        known = pass.known;
        locks_are = locks ∙ pass.locks_are;
        alike = subst (λ (list : List ℕ). All (IsAlike caller free list (out - 1)) now) (sym joined_now) alike;
        few_out = omega arith;
        free_fits = pass.free_fits;
      }

  history_seen : (turns : List TurnShape) (i : ℕ) (d : TurnShape) → i < length turns → history_at (map seen_of turns) i ≡ (get_or turns i d).seen
  history_seen turns i d within = get_or-map seen_of turns i d [] within

  no_history : (turns : List TurnShape) (i : ℕ) → length turns ≤ i → history_at (map seen_of turns) i ≡ []
  no_history turns i past = get_or_past (map seen_of turns) i [] (rw (length-map turns seen_of) past)

  joined_there : (i : ℕ) → i < length turns → IsJoined (caller ∷ joined_of turns) number (history_at (map seen_of turns) i) (history_at (map seen_of others) i) (history_at (map seen_of now) i)
  joined_there i within =
      let d = some_turn turns some in
      let mine = pass.alike i d within in
      let theirs = other.alike i d (rw as_many within) in
      subst (λ (j : Joining). IsJoined j.callers j.number j.mine j.theirs j.joined)
      (λ k. record {
        callers = mine.caller_is k ∷ mine.joined_are k;
        number = theirs.caller_is k;
        mine = sym (history_seen turns i d within) k;
        theirs = sym (history_seen others i d (rw as_many within)) k;
        joined = sym (history_seen now i d (rw count within)) k;
      })
      (all i d within).seen

  none_there : (i : ℕ) → length turns ≤ i → IsJoined (caller ∷ joined_of turns) number (history_at (map seen_of turns) i) (history_at (map seen_of others) i) (history_at (map seen_of now) i)
  none_there i past =
      let nothing : IsJoined (caller ∷ joined_of turns) number [] [] [] = record { longer = inl refl; goes_on = goes_nowhere _ [] [] refl; other_goes_on = goes_nowhere _ [] [] refl } in
      rw (no_history turns i past, no_history others i (rw as_many past), no_history now i (rw count past)) nothing

  pub histories_joined : (i : ℕ) → IsJoined (caller ∷ joined_of turns) number (history_at (map seen_of turns) i) (history_at (map seen_of others) i) (history_at (map seen_of now) i)
  histories_joined i = ⊎_elim (λ within. joined_there i within) (λ past. none_there i past) (cases_lt i (length turns))
