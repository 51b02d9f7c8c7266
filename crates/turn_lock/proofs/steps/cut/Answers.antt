use Rattle.std.proofs.Common.{rules}
use Rattle.turn_lock.proofs.SplitLemmas.{splits}
use Rattle.turn_lock.proofs.steps.cut.Goals as goal

pub split_seat-requires : goal.split_seat-requires
split_seat-requires g c = (
  search rules,
  search rules,
  splits g.T.Stands.settings g.T.Stands.stands _ _ _ g.J.Numbered.number _ c.requires.free c.requires.first
      (search rules) (search rules),
)
