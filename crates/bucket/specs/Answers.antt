-- Answers to those that take part, and to those that can't.
use Rattle.std.specs.Prelude.{List, [], Result, Ok, Err}
use Rattle.ot_base.specs.declared.address.Endpoint.{Endpoint}
use Rattle.ot_base.specs.declared.peer.Counts.{Counts}
use Rattle.ot_base.specs.declared.peer.Limits.{Limits}
use Rattle.tracker_model.specs.declared.answer.Answer.{Answer}
use Rattle.tracker_model.specs.declared.answer.Answer.TheVariants as kind
use Rattle.bucket.specs.declared.joining.JoinError.{JoinError}
use Rattle.bucket.specs.declared.joining.JoinError.TheVariants.{SwarmFull, BucketFull, NoMemory}

-- what one that is refused is answered
abbrev pub error_answer : Limits → JoinError → Answer
error_answer limits SwarmFull = kind.SwarmFull limits.peers
error_answer limits BucketFull = kind.BucketFull limits.torrents
error_answer limits NoMemory = kind.NoMemory

-- what an announce is answered, with the peers that it is told
abbrev pub announced : Limits → List Endpoint → Result Counts JoinError → Answer
announced limits told (Ok counts) = kind.Told counts told
announced limits told (Err error) = error_answer limits error

-- what a stop is answered
abbrev pub stopped : {E : Type 0} → Result Counts E → Answer
stopped (Ok counts) = kind.Told counts []
stopped (Err error) = kind.NoMemory

-- what a sync is answered
abbrev pub applied : {A : Type 0} → Limits → Result A JoinError → Answer
applied limits (Ok done) = kind.Applied
applied limits (Err error) = error_answer limits error
