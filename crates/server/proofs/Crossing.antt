-- A job may go to another thread.
use denote.RattleType.{RattleType}
use denote.Param.Send.{IsSend, sendable}
use Rattle.std.proofs.Crossing.{crosses}
use Rattle.shards.proofs.Sending.{pass_send}
use Rattle.serve.specs.contracts.job.Job as job

pub job_send : (W L C : RattleType) → IsSend W → IsSend L → IsSend C → IsSend (job.the_row W L C)
job_send W L C w l c = search (sendable, crosses, pass_send) depth 30
