use Rattle.std.proofs.Common.{◌≡◌, ◌++◌, ◌∷◌, [], ◌<◌, set, length, get_or, sym, ap, subst, ◌∙◌, rules}
use Rattle.std.proofs.lemmas.List.{map_more}
use Rattle.std.proofs.lemmas.List.Edits.{map_over_more}
use Rattle.std.proofs.lemmas.List.Elements.{All-more}
use Rattle.tracker_model.specs.Grows.{OthersBetween}
use Rattle.turn_lock.specs.Shape.{TurnShape}
use Rattle.shards.proofs.PassLemmas.{kept_turn, split_turn}
use Rattle.shards.proofs.TurnLemmas.{next_turn}
use Rattle.shards.proofs.split.split_turns.Goals as goal

pub loop-i-preserved : goal.loop-i-preserved
loop-i-preserved c =
    let old = c.args.turns.now.items in
    let i = c.loop-i.i in
    let n = c.args.number in
    let turn : TurnShape = c.index_mut.result.now in
    let was = c.loop-i.invariant in
    let within : i < length old = search rules in
    let read : turn ≡ get_or c.loop-i.turns.items i turn = c.index_mut.ensures.value in
    let there : turn ≡ get_or old i turn = read ∙ ap (λ turns. get_or turns i turn) was.turns ∙ next_turn (kept_turn n) old i turn within in
    record {
      turns = ap (λ t. set c.loop-i.turns.items i t) c.split.ensures.turn ∙ map_over_more (kept_turn n) old c.loop-i.turns.items i turn within was.turns read;
      new =
          c.push_reserved.ensures.items
          ∙ (λ k. was.new k ++ (c.split.ensures.new ∙ ap (split_turn n) there) k ∷ [])
          ∙ sym (map_more (split_turn n) old i turn within);
      no_entry_yet = All-more (λ (t : TurnShape). OthersBetween n t.seen) old i turn within was.no_entry_yet (subst (λ (t : TurnShape). OthersBetween n t.seen) there c.split.ensures.no_entry_yet);
      room = rw c.push_reserved.ensures.capacity was.room;
    }
