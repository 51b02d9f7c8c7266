use Rattle.std.proofs.Common.{◌<◌, length, sym, ◌∙◌, arith}
use Rattle.std.specs.Prelude.{codes}
use Rattle.query_read.specs.Query.{values_of}
use Rattle.tracker_core.proofs.NamedLemmas.{named_ascend, some_hash}
use Rattle.tracker_core.proofs.Scrapes.{scrapes-well-formed}
use Rattle.tracker_core.proofs.http_plan.plan_scrape.Goals as goal

pub returns-in-Some-clause-formed : goal.returns-in-Some-clause-formed
returns-in-Some-clause-formed c = scrapes-well-formed _

pub returns-in-Some-clause-complete : goal.returns-in-Some-clause-complete
returns-in-Some-clause-complete c =
    let values = values_of c.args.query.now (codes "info_hash") in
    let some : 0 < length values = omega arith in
    some_hash values c.in-Some.hashes (sym c.in-Some.is ∙ c.in_ok-hashes.ensures) some

pub returns-in-Some-clause-ascending : goal.returns-in-Some-clause-ascending
returns-in-Some-clause-ascending c =
    named_ascend (values_of c.args.query.now (codes "info_hash")) c.in-Some.hashes
    (sym c.in-Some.is ∙ c.in_ok-hashes.ensures)
