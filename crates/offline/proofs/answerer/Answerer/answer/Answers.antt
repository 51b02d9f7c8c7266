use Rattle.std.proofs.Common.{◌∙◌, ap}
use Rattle.std.specs.Prelude.{Ok, option_copied}
use Rattle.trace_text.specs.Trace.{line_in}
use Rattle.offline.proofs.answerer.Answerer.answer.Goals as goal

pub returns-in-Ok-Datagram-clause-responds : goal.returns-in-Ok-Datagram-clause-responds
returns-in-Ok-Datagram-clause-responds g c =
    c.answer_datagram.ensures.responds c.args.line.now (c.in-Ok-Datagram.ensures.read ∙ ap (λ r. Ok (line_in r c.read_record.new.bytes)) c.in-Ok-Datagram.field-0-is)

pub returns-in-Ok-Connection-clause-responds : goal.returns-in-Ok-Connection-clause-responds
returns-in-Ok-Connection-clause-responds g c =
    c.answer_connection.ensures.responds c.args.line.now (c.in-Ok-Connection.ensures.read ∙ ap (λ r. Ok (line_in r c.read_record.new.bytes)) c.in-Ok-Connection.field-0-is)

pub returns-in-Ok-Clean-clause-responds : goal.returns-in-Ok-Clean-clause-responds
returns-in-Ok-Clean-clause-responds g c =
    c.clean.ensures.responds c.args.line.now (option_copied c.args.access) (c.in-Ok-Clean.ensures.read ∙ ap (λ r. Ok (line_in r c.read_record.new.bytes)) c.in-Ok-Clean.field-0-is)
