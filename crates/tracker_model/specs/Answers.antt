-- Answers that are told in parts.
use Rattle.std.specs.Prelude.{List}
use Rattle.ot_base.specs.declared.address.Endpoint.{Endpoint}
use Rattle.tracker_model.specs.declared.answer.Answer.{Answer}
use Rattle.tracker_model.specs.declared.answer.Answer.TheVariants as answer
use Rattle.tracker_model.specs.declared.answer.ReportAnswer.{ReportAnswer}
use Rattle.tracker_model.specs.declared.answer.ReportAnswer.TheVariants.{Told, SwarmFull, BucketFull, NoMemory}

-- the answer to a report, with the peers that it is told
abbrev pub with_peers : List Endpoint → ReportAnswer → Answer
with_peers peers (Told counts) = answer.Told counts peers
with_peers peers (SwarmFull count) = answer.SwarmFull count
with_peers peers (BucketFull count) = answer.BucketFull count
with_peers peers NoMemory = answer.NoMemory
