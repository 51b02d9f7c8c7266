-- The place of the torrent afterwards.
use Rattle.std.proofs.Common.{sym}
use Rattle.bucket.proofs.CallLemmas.{place_put, place_added}
use Rattle.bucket.proofs.calls.join.Goals as goal

pub returns-in_ok-put-in-Some-clause-place : goal.returns-in_ok-put-in-Some-clause-place
returns-in_ok-put-in-Some-clause-place g c = place_put c.args.joining.now c.args.torrents.now c.put.new.self c.in-Some.at c.in_ok-put-in-Some.ensures.joins c.in-Some.ensures

pub returns-in-None-clause-place : goal.returns-in-None-clause-place
returns-in-None-clause-place g c = place_added c.args.joining.now c.args.torrents.now c.add.new.self c.add.result (sym c.in-None.ensures) c.add.ensures.adds c.add.ensures.place
