-- What one that takes part is told is read at its torrent's place.
use Rattle.bucket.proofs.CallLemmas.{announces}
use Rattle.bucket.proofs.calls.announce.Goals as goal

pub returns : goal.returns
returns g c =
    announces c.args.now.0 c.args.joining.now c.args.want c.args.words.now c.args.torrents.now c.move_on.new.self c.join.new.torrents c.choose.new.told c.counts.result c.in_ok-place.place
    c.move_on.ensures c.join.ensures.stays c.in_ok-place.ensures.joins c.in_ok-place.ensures.place c.choose.ensures c.counts.ensures
