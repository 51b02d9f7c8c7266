-- Once all passes are joined none is out, and the summary is of all that caller 0 has seen.
use Rattle.std.proofs.Common.{◌∙◌, rules}
use Rattle.server.proofs.RunLemmas.{caused_at_end, none_out, shards_stay, told_at_end}
use Rattle.server.proofs.run.run_jobs.Goals as goal

pub conclude-told-requires-clause-pass : goal.conclude-told-requires-clause-pass
conclude-told-requires-clause-pass g c = (shards_stay c.do_jobs-end.ensures.ran).0 ∙ c.requires.pass

pub conclude-told-requires-clause-first : goal.conclude-told-requires-clause-first
conclude-told-requires-clause-first g c = (shards_stay c.do_jobs-end.ensures.ran).1 ∙ c.requires.first

pub conclude-told-requires-clause-alone : goal.conclude-told-requires-clause-alone
conclude-told-requires-clause-alone g c = none_out c.do_jobs-end.ensures.ran (search rules)

pub returns-clause-caused : goal.returns-clause-caused
returns-clause-caused g c =
    rw c.status_of.ensures (caused_at_end _ _ _ _ _ _ _ _ _ _ c.do_jobs-end.new.pass.seen c.do_jobs-end.result c.conclude-told.result c.do_jobs-end.ensures.caused c.conclude-told.ensures.written)

pub returns-clause-concluded : goal.returns-clause-concluded
returns-clause-concluded g c = record {
  last = c.do_jobs-end.new.pass;
  have_run = c.do_jobs-end.ensures.ran;
  known = c.do_jobs-end.ensures.known;
  buckets = c.conclude-told.ensures.buckets;
  legal = c.conclude-told.ensures.legal;
  told = rw c.status_of.ensures (told_at_end _ _ _ _ c.do_jobs-end.new.pass.seen c.do_jobs-end.result c.conclude-told.result c.conclude-told.ensures.written);
}
