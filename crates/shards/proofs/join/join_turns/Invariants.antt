use Rattle.std.proofs.Common.{◌≡◌, ◌≤◌, length, take, vec_len}
use Rattle.shards.proofs.JoinLemmas.{IsJoinedFrom}
use Rattle.shards.proofs.join.join_turns.Given as goal

abbrev pub invariant-loop-other : goal.invariant-loop-other
invariant-loop-other l = record {
  front : l.others.items ≡ take (length l.others.items) l.fn.others.items;
  fits : length l.others.items ≤ length l.fn.others.items;
  joined : IsJoinedFrom (length l.others.items) l.fn.turns.items l.fn.others.items l.turns.items;
}

abbrev pub decreases-loop-other : goal.decreases-loop-other
decreases-loop-other l = vec_len l.others
