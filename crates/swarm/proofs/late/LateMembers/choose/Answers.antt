-- Of no peers none is told.
use Rattle.std.proofs.Common.{rules, ◌≡◌, None, ◌∙◌, sym}
use Rattle.swarm.proofs.ChoiceLemmas.{none_told}
use Rattle.swarm.proofs.late.LateMembers.choose.Goals as goal

pub returns-in_default : goal.returns-in_default
returns-in_default c =
    let none : c.self.inside.members ≡ None = search rules in
    rw (← c.self.view_is, none) (c.requires.empty ∙ sym (none_told c.args.words.now c.args.asker.now c.args.want))
