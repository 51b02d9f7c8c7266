-- The counts are read at the torrent's place, if it has one.
use Rattle.bucket.proofs.CallLemmas.{scrapes_some, scrapes_none}
use Rattle.bucket.proofs.calls.scrape.Goals as goal

pub returns-in-Some : goal.returns-in-Some
returns-in-Some g c = scrapes_some c.args.now.0 c.args.hash.now c.args.torrents.now c.open.new.torrents c.counts.result c.in-Some.place c.in-Some.ensures c.counts.ensures

pub returns : goal.returns
returns g c = scrapes_none c.args.now.0 c.args.hash.now c.args.torrents.now c.open.new.torrents c.in-None.ensures
