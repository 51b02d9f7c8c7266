-- A pass may go to another thread.
use denote.Param.Send.{sendable}
use Rattle.shards.proofs.Sending.{pass_send}
use Rattle.shards.proofs.tests.threads.work_all.Goals as goal

pub for_each_mut-requires-send-T : goal.for_each_mut-requires-send-T
for_each_mut-requires-send-T g c κs within = search (sendable, pass_send)
