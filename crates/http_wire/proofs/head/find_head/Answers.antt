use Rattle.http_wire.proofs.HeadLemmas.{answer-none, no_head-partial, no_head-error}
use Rattle.http_wire.proofs.head.find_head.Goals as goal

pub returns-in-Ok-Partial : goal.returns-in-Ok-Partial
returns-in-Ok-Partial c =
    let none = rw c.in-Ok-Partial.field-0-is at c.in-Ok-Partial.ensures.partial in
    answer-none c.args.bytes.now c.without_head.result (no_head-partial c.args.bytes.now none) c.without_head.ensures

pub returns-in-Err : goal.returns-in-Err
returns-in-Err c =
    answer-none c.args.bytes.now c.without_head-in-Err.result (no_head-error c.args.bytes.now c.in-Err.ensures.no_room) c.without_head-in-Err.ensures
