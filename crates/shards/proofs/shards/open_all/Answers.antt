use Rattle.std.proofs.Common.{◌+◌, ◌++◌, ◌∷◌, [], length, map, sym, ap, ◌∙◌}
use Rattle.std.proofs.lemmas.List.{length_push, map_push}
use Rattle.std.proofs.lemmas.List.Elements.{All-push, All-same}
use Rattle.turn_lock.specs.Shape.{first_turn}
use Rattle.shards.specs.Shape.{IsLockFor, numbers_of}
use Rattle.shards.proofs.shards.open_all.Goals as goal

pub loop-preserved : goal.loop-preserved
loop-preserved c =
    let lock = c.in_ok-lock.lock in
    let made = c.in_ok-lock.ensures in
    let P = IsLockFor (record { limits = c.args.limits; sync = c.args.sync }) c.args.callers in
    let is : P lock = record { settings_are = made.settings ∙ ap numbers_of c.in_ok-new.ensures.settings; callers_are = made.callers } in
    let was = c.loop.invariant in
    let locks = c.in_ok-push.ensures.items in
    record {
      count = ap length locks ∙ length_push c.loop.locks.items lock ∙ ap (λ n. n + 1) was.count;
      locks = All-same P _ _ locks (All-push P c.loop.locks.items lock was.locks is);
      turns =
          c.in_ok-push-2.ensures.items
          ∙ (λ k. was.turns k ++ made.turn k ∷ [])
          ∙ sym (map_push first_turn c.loop.locks.items lock)
          ∙ sym (ap (map first_turn) locks);
    }
