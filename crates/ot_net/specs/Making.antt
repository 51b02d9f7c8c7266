-- What a maker of the host answers.
use Rattle.std.specs.Prelude.{◌≡◌, ℕ, Result, Ok, Err}
use Rattle.ot_io.specs.Lending.{MakerFailsOnlyCounted}
use Rattle.ot_io.specs.declared.outside.Made.{Made}
use Rattle.ot_io.specs.declared.outside.Made.TheVariants.{Got}
use Rattle.ot_net.specs.declared.refusal.Refusal.{Refusal}
use Rattle.ot_net.specs.declared.refusal.Refusal.TheVariants.{Host, NoMemory}
use Rattle.ot_io.specs.declared.outside.Made.TheVariants as made

-- all that was made, and a fault is counted where the host failed alone
abbrev pub Answers : {T : Type 0} → Result T Refusal → Made T → ℕ → ℕ → Type 0
Answers (Ok all) answer old new = (answer ≡ Got all) × (new ≡ old)
Answers (Err NoMemory) answer old new = (answer ≡ made.NoMemory) × (new ≡ old)
Answers (Err Host) answer old new =
    (answer ≡ made.Failed) × MakerFailsOnlyCounted old new answer
