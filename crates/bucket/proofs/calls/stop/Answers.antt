-- The counts are read at the torrent's place, if it has one, after the endpoint has left it.
use Rattle.bucket.proofs.CallLemmas.{stops_some, stops_none}
use Rattle.bucket.proofs.calls.stop.Goals as goal

pub returns-in-Some : goal.returns-in-Some
returns-in-Some g c =
    stops_some c.args.now.0 c.args.hash.now c.args.who.now c.args.torrents.now c.open.new.torrents c.take.new.self c.counts.result c.in-Some.place c.in-Some.ensures c.take.ensures.stays c.take.ensures.turns c.counts.ensures

pub returns : goal.returns
returns g c = stops_none c.args.now.0 c.args.hash.now c.args.who.now c.args.torrents.now c.open.new.torrents c.in-None.ensures
