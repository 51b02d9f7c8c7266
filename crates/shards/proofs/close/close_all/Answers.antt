use Rattle.std.proofs.Common.{◌≡◌, ◌+◌, ◌<◌, List, [], ◌∷◌, ◌++◌, length, map, sym, ap, ◌∙◌, rules, arith}
use Rattle.std.proofs.lemmas.Iterator.{YieldsList-from_zip}
use Rattle.std.proofs.lemmas.Iterator.Adapters.{YieldsList-from_vec}
use Rattle.std.proofs.lemmas.Iterator.Consumers.{YieldsList-turn, YieldsList-end}
use Rattle.std.proofs.lemmas.List.{length-map, length_push, take_all}
use Rattle.std.proofs.lemmas.Slice.Zip.{length-zip}
use Rattle.std.specs.List.{sum_by}
use Rattle.turn_lock.specs.Shape.{LockShape, TurnShape}
use Rattle.shards.proofs.CloseLemmas.{calls_more, pair_at, seen_by, settings_more, stand_more}
use Rattle.shards.proofs.TurnLemmas.{lock_of, seen_of}
use Rattle.shards.proofs.close.close_all.Goals as goal

pub loop-lock-preserved : goal.loop-lock-preserved
loop-lock-preserved g c =
    let locks : List LockShape = c.args.locks.items in
    let turns : List TurnShape = c.args.turns.items in
    let lock : LockShape = c.in-Some.lock in
    let turn : TurnShape = c.in-Some.turn in
    let chain = YieldsList-from_zip {s = c.into_iter-lock-iterator.result} (YieldsList-from_vec locks (cc) (cc)) (YieldsList-from_vec turns (cc) (cc)) in
    let n = length c.loop-lock.yielded in
    let at = pair_at locks turns n lock turn (YieldsList-turn chain c.loop-lock.yielded c.loop-lock.lock-iterator c.loop-lock.yielded_by c.next.result c.next.new.self (lock, turn) c.in-Some.is c.next.ensures.steps) in
    let was = c.loop-lock.invariant in
    let closed = c.close-bucket.ensures in
    let bucket = c.close-bucket.result.0 in
    let more : length (c.loop-lock.yielded ++ (lock, turn) ∷ []) ≡ n + 1 = length_push c.loop-lock.yielded (lock, turn) in
    let room = c.push_reserved.ensures.items in
    let count : c.from-calls.result ≡ length turn.seen = c.from-calls.ensures ∙ closed.count in
    let few : c.close-bucket.result.1 < 18446744073709551616 = search rules in
    record {
      next = (tt, tt);
      finite = tt;
      count = ap length room ∙ length_push c.loop-lock.room.items bucket ∙ ap (λ m. m + 1) was.count ∙ sym more;
      settings = λ of all. rw room (settings_more of locks n lock c.loop-lock.room.items bucket at.lock_within at.lock_is closed.settings all (was.settings of all));
      stands = rw (more, room) (stand_more turns n turn at.turn_within at.turn_is c.loop-lock.room.items bucket was.stands closed.stands);
      calls = rw (more, count, was.calls) (sym (calls_more turns n turn at.turn_within at.turn_is));
      few_calls = rw (more) (let below = was.few_calls in omega arith);
      room = rw c.push_reserved.ensures.capacity was.room;
    }

pub returns : goal.returns
returns g c =
    let locks : List LockShape = c.args.locks.items in
    let turns : List TurnShape = c.args.turns.items in
    let chain = YieldsList-from_zip {s = c.into_iter-lock-iterator.result} (YieldsList-from_vec locks (cc) (cc)) (YieldsList-from_vec turns (cc) (cc)) in
    let n = length c.loop-lock.yielded in
    let ends = YieldsList-end chain c.loop-lock.yielded c.loop-lock.lock-iterator c.loop-lock.yielded_by c.next.result c.next.new.self c.in-None.is c.next.ensures.steps in
    let as_many : length turns ≡ length locks = sym (length-map turns lock_of) ∙ ap length c.requires.locks in
    let pairs = length-zip locks turns in
    let all : n ≡ length turns = (let e = ends.1 in omega arith) in
    let whole : seen_by n turns ≡ map seen_of turns = ap (map seen_of) (take_all n turns (omega arith)) in
    let was = c.loop-lock.invariant in
    record {
      settings = was.settings;
      stands = rw whole at was.stands;
      calls = was.calls ∙ ap (sum_by length) whole;
    }
