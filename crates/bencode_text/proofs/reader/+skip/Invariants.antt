use Rattle.std.proofs.Common.{◌+◌, ◌*◌, length}
use Rattle.std.specs.Option.{option_copied}
use Rattle.bencode_text.proofs.ReadLemmas.{GoesOn, GoesAfter}
use Rattle.bencode_text.proofs.reader.+skip.Given as goal

abbrev pub decreases-skip_value : goal.decreases-skip_value
decreases-skip_value l = 2 * l.depth + 1

abbrev pub decreases-skip_values : goal.decreases-skip_values
decreases-skip_values l = 2 * l.depth

abbrev pub decreases-skip_entries : goal.decreases-skip_entries
decreases-skip_entries l = 2 * l.depth

-- what is left reads as the whole does
abbrev pub invariant-skip_values-values : goal.invariant-skip_values-values
invariant-skip_values-values l = GoesOn l.depth l.bytes l.left

abbrev pub decreases-skip_values-values : goal.decreases-skip_values-values
decreases-skip_values-values l = length l.left

-- what is left reads after the last key as the whole does
abbrev pub invariant-skip_entries-entries : goal.invariant-skip_entries-entries
invariant-skip_entries-entries l = GoesAfter l.depth l.bytes l.left (option_copied l.last)

abbrev pub decreases-skip_entries-entries : goal.decreases-skip_entries-entries
decreases-skip_entries-entries l = length l.left
