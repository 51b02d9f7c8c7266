-- The families of the endpoints differ.
use Rattle.std.proofs.Common.{◌≡◌, ◌<◌, arith}
use Rattle.ot_base.specs.declared.address.Family.TheVariants.{Four, Six}
use Rattle.tracker_model.specs.Examples.{peer_six}
use Rattle.tracker_model.proofs.examples.kinds_of_answers.Goals as goal

pub returns-clause-other_family : goal.returns-clause-other_family
returns-clause-other_family c = λ kind.
    let first : 0 < 1 = omega arith in
    let same : Six ≡ Four = kind.0 0 peer_six first in
    absurd (let p : ⊥ = cc in p)
