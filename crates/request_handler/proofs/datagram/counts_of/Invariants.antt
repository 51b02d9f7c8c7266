-- The torrents so far were scraped, in order.
use Rattle.std.proofs.Common.{◌≡◌, length, take}
use Rattle.tracker_core.specs.UdpText.{all_counts}
use Rattle.request_handler.specs.Making.{Gives}
use Rattle.request_handler.proofs.Scraping.{scrapes}
use Rattle.request_handler.proofs.datagram.counts_of.Given as goal

abbrev pub invariant-loop-i : goal.invariant-loop-i
invariant-loop-i g l =
    let t = g.T.Tracker in record {
      settings : t.settings l.tracker ≡ t.settings l.initial.tracker;
      bits : t.bits l.tracker ≡ t.bits l.initial.tracker;
      many : length l.counts ≡ l.i;
      scraped : Gives t.made l.minute l.initial.tracker (scrapes (t.bits l.initial.tracker) (take l.i l.hashes)) all_counts l.tracker l.counts;
    }
