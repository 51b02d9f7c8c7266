-- A flag that is set to what it was stays.
use Rattle.std.proofs.Common.{rules, ◌≡◌, false, sym, ◌∙◌, ap}
use Rattle.std.proofs.Math.ListN.{set}
use Rattle.std.proofs.lemmas.List.{set-get_or}
use Rattle.std.proofs.lemmas.Option.{get_or_from_slice_get}
use Rattle.swarm.proofs.changes.set_seed.Goals as goal

pub returns-else-seed-place-clause-flags : goal.returns-else-seed-place-clause-flags
returns-else-seed-place-clause-flags c =
    let flags = c.args.flags.now.items in
    let at = c.args.place.at in
    let same : c.args.seed ≡ c.args.place.seed = search rules in
    sym (ap (λ b. set flags at b) (same ∙ sym (get_or_from_slice_get flags at c.args.place.seed false c.requires.flag)) ∙ set-get_or flags at false)
