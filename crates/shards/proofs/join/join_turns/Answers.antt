use Rattle.std.proofs.Common.{◌≡◌, ◌≢◌, length, false, subst, sym, ap, ◌∙◌, rules, arith}
use Rattle.std.proofs.lemmas.List.{length-map, length_push}
use Rattle.std.proofs.lemmas.List.Elements.{All-get_or}
use Rattle.turn_lock.specs.Shape.{TurnShape}
use Rattle.shards.specs.Histories.{IsJoinedTurn}
use Rattle.shards.proofs.JoinLemmas.{last_of, join_more}
use Rattle.shards.proofs.TurnLemmas.{lock_of}
use Rattle.shards.proofs.join.join_turns.Goals as goal

other_is : (c : goal.After-index_mut) → (c.in-Some.other.holds ≡ false) × (c.in-Some.other.caller ≢ 0)
other_is c =
    let P : TurnShape → Type 0 = λ turn. (turn.holds ≡ false) × (turn.caller ≢ 0) in
    let was = c.loop-other.invariant in
    let here = last_of c.args.others.items c.loop-other.others.items c.pop.new.self.items c.in-Some.other was.front was.fits c.in-Some.ensures.items in
    subst P (here.here c.in-Some.other) (All-get_or P c.args.others.items (length c.pop.new.self.items) c.in-Some.other here.within c.requires.others)

pub join-requires-clause-other_free : goal.join-requires-clause-other_free
join-requires-clause-other_free c = (other_is c).0

pub join-requires-clause-other_split : goal.join-requires-clause-other_split
join-requires-clause-other_split c = (other_is c).1

pub loop-other-preserved : goal.loop-other-preserved
loop-other-preserved c =
    let was = c.loop-other.invariant in
    let rest = c.pop.new.self.items in
    let here = last_of c.args.others.items c.loop-other.others.items rest c.in-Some.other was.front was.fits c.in-Some.ensures.items in
    let place : c.len-i.result ≡ length rest = search rules in
    let turns : length c.args.turns.now.items ≡ length c.args.others.items =
    sym (length-map c.args.turns.now.items lock_of) ∙ ap length (c.requires.locks ∙ sym c.requires.other_locks) ∙ length-map c.args.others.items lock_of in
    let read = rw place at c.index_mut.ensures.value in
    let after = c.join.ensures in
    let joins : IsJoinedTurn c.index_mut.result.now c.in-Some.other c.join.new.turn = record { turn = after.turn; one_less = after.out; not_free = after.known.not_free; seen = record { longer = after.longer; goes_on = after.seen; other_goes_on = after.other_seen } } in
    record {
      front = here.before;
      fits = omega arith;
      joined = rw place (join_more (length rest) (length c.loop-other.others.items) c.args.turns.now.items c.args.others.items c.loop-other.turns.items c.index_mut.result.now c.in-Some.other c.join.new.turn
          (ap length c.in-Some.ensures.items ∙ length_push rest c.in-Some.other) was.joined (rw turns here.within) read here.here joins);
    }
