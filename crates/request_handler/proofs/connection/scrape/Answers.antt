use Rattle.tracker_core.proofs.ScrapedRows.{scraped_rows-ascend}
use Rattle.request_handler.proofs.Made.{MakesFront-all, OnErr-holds}
use Rattle.request_handler.proofs.connection.scrape.Goals as goal

pub finish_scrape-requires : goal.finish_scrape-requires
finish_scrape-requires g c =
    let found = c.in_ok-rows.ensures.found in
    scraped_rows-ascend c.args.hashes.now found.answers c.in_ok-rows.rows c.requires.ascending found.came

pub returns-clause-front : goal.returns-clause-front
returns-clause-front g c =
    let found = c.in_ok-rows.ensures.found in
    OnErr-holds c.finish_scrape.result (MakesFront-all g.T.Tracker.made c.args.minute c.args.tracker.now c.known_rows.new.tracker _ found.answers found.makes)
