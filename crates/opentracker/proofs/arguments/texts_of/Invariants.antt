-- The texts so far, and then those that are left, are all arguments.
use Rattle.std.proofs.Common.{◌≡◌, ◌++◌}
use Rattle.std.specs.Vec.Iter.{into_iter_items, into_iter_len}
use Rattle.opentracker.proofs.arguments.texts_of.Given as goal

abbrev pub invariant-loop-text : goal.invariant-loop-text
invariant-loop-text l = into_iter_items l.initial.args ≡ l.texts.items ++ into_iter_items l.args

abbrev pub decreases-loop-text : goal.decreases-loop-text
decreases-loop-text l = into_iter_len l.args
