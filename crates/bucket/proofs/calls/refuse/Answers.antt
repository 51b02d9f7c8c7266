-- The torrent that stands at the place is full for the endpoint, or it isn't.
use Rattle.bucket.proofs.CallLemmas.{refuses_some}
use Rattle.bucket.proofs.calls.refuse.Goals as goal

pub returns-in-Some : goal.returns-in-Some
returns-in-Some g c =
    refuses_some c.args.now.0 c.args.joining.now.hash c.args.joining.now.who c.args.torrents.now c.open.new.torrents c.in-Some.place c.is_full_for.result c.or_memory.result c.in-Some.ensures c.is_full_for.ensures c.or_memory.ensures
