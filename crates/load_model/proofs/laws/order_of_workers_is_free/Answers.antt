use Rattle.std.proofs.Common.{◌%◌}
use Rattle.load_model.specs.Load.{caller_number}
use Rattle.load_model.proofs.AlikeLemmas.{act_alike}
use Rattle.load_model.proofs.LoadLemmas.{caller_by_endpoint}
use Rattle.load_model.proofs.laws.order_of_workers_is_free.Goals as goal

pub returns : goal.returns
returns c minute h past workers calls others alike reports also agree =
    act_alike minute h (λ call. caller_number call % workers) (caller_by_endpoint workers) calls others reports also agree past past alike
