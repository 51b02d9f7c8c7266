use Rattle.tracker_core.proofs.BodyLemmas.{failure_canonical, scrape_canonical, told_canonical}
use Rattle.tracker_core.proofs.laws.canonical_bodies.Goals as goal

pub returns : goal.returns
returns c = record { refused = failure_canonical; told = told_canonical; scraped = scrape_canonical }
