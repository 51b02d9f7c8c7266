-- The torrent stands where it stood once its stale peers have gone.
use Rattle.bucket.proofs.CallLemmas.{opens}
use Rattle.bucket.proofs.calls.open.Goals as goal

pub returns : goal.returns
returns g c =
    opens c.args.now.0 c.args.hash.now c.args.torrents.now c.move_on.new.self c.refresh.new.self c.in_ok-place.place c.move_on.ensures c.in_ok-place.ensures c.refresh.ensures.stays c.refresh.ensures.turns
