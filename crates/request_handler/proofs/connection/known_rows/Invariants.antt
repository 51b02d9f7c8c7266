-- The torrents so far were scraped in order, and the known ones have their rows.
use Rattle.std.proofs.Common.{◌≡◌, take}
use Rattle.tracker_core.specs.HttpText.{scraped_rows}
use Rattle.request_handler.specs.Making.{Gives}
use Rattle.request_handler.proofs.Scraping.{scrapes}
use Rattle.request_handler.proofs.connection.known_rows.Given as goal

abbrev pub invariant-hashes : goal.invariant-hashes
invariant-hashes g l =
    let t = g.T.Tracker in record {
      settings : t.settings l.tracker ≡ t.settings l.initial.tracker;
      bits : t.bits l.tracker ≡ t.bits l.initial.tracker;
      found : Gives t.made l.minute l.initial.tracker (scrapes (t.bits l.initial.tracker) (take l.hash-index l.hash-items)) (scraped_rows (take l.hash-index l.hash-items)) l.tracker l.rows;
    }
