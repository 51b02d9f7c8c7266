-- The numbers and settings that were read are some that a drill may have.
use Rattle.std.proofs.Common.{rules, map}
use Rattle.command_line.proofs.Offered.{given-few_bits}
use Rattle.command_line.specs.declared.settings.Asked.TheVariants.{Drill}
use Rattle.command_line.proofs.words.read_drill.Goals as goal

pub returns-clause-may : goal.returns-clause-may
returns-clause-may c = record {
  few_requests = c.in_ok-count.ensures.among.1;
  some_workers = c.in_ok-workers.ensures.among.0;
  few_workers = c.in_ok-workers.ensures.among.1;
  few_bits = rw c.unwrap_or.ensures (given-few_bits Drill 4 (map (λ word. word.now) c.in_ok-workers.others.now) c.in_ok-given.given (search rules));
}
