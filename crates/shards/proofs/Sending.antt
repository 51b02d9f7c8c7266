-- A pass may go to another thread.
use denote.Param.Send.{IsSend, sendable, view_send}
use denote.Param.SendFields.{declared_send}
use Rattle.std.proofs.Crossing.{crosses}
use Rattle.bucket.proofs.bucket.Bucket.TheSendSync as bucket
use Rattle.turn_lock.proofs.turn.Turn.TheSendSync as turn
use Rattle.shards.specs.contracts.pass.Pass as pass
use Rattle.shards.specs.contracts.pass.Pass.TheInside as inside

pub pass_send : IsSend pass.the_row
pass_send = view_send _ _ _ _ _ (declared_send inside.the_type (search (sendable, crosses, turn.the_send, bucket.the_send) depth 20))
