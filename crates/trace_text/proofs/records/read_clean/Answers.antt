-- A cleaner's record with more than two fields.
use Rattle.trace_text.proofs.TraceFields.{parts_of-some, fields_line-cleaner}
use Rattle.trace_text.proofs.records.read_clean.Goals as goal

pub returns-in-Some-clause-refused : goal.returns-in-Some-clause-refused
returns-in-Some-clause-refused c =
    rw c.in-Some.ensures (fields_line-cleaner c.in-Some.field-0.0.now _ (parts_of-some 32 c.in-Some.field-0.1.now))
