use Rattle.std.proofs.Common.{◌≡◌, List, [], ◌++◌, append-nil, sym, ◌∙◌, ap, subst}
use Rattle.std.specs.Prelude.{option_to_list}
use Rattle.ot_base.specs.declared.hash.InfoHash.{InfoHash}
use Rattle.request_handler.specs.Making.{MakesFront}
use Rattle.request_handler.proofs.Made.{OnErr-holds}
use Rattle.request_handler.proofs.Scraping.{front_more, rows_more, scrapes}
use Rattle.request_handler.proofs.connection.known_rows.Goals.{in-Some+in_ok-push, in_default}
use Rattle.request_handler.proofs.connection.known_rows.Goals as goal

pub returns-in_err-push-clause-front : goal.returns-in_err-push-clause-front
returns-in_err-push-clause-front g c =
    let t = g.T.Tracker in
    let none : InfoHash = record { 0 = [] } in
    let hashes = c.as_slice-hash-items.result.now in
    let before = c.hashes.invariant in
    let scraped = c.known_row.ensures.scraped in
    let Front : List InfoHash → Type 0 = λ hs. MakesFront t.made c.args.minute c.args.tracker.now (scrapes (t.bits c.args.tracker.now) hs) c.known_row.new.tracker in
    OnErr-holds c.from_residual.result
    (subst Front c.as_slice-hash-items.ensures
    (front_more t.made c.args.minute c.args.tracker.now c.hashes.tracker c.known_row.new.tracker (t.bits c.args.tracker.now) (t.bits c.hashes.tracker) hashes c.hashes.hash-index none before.found.answers scraped.0
    c.hashes-test.true before.bits before.found.makes scraped.1))

pub hashes-preserved : goal.hashes-preserved
hashes-preserved g c =
    let t = g.T.Tracker in
    let none : InfoHash = record { 0 = [] } in
    let found = c.known_row in
    let before = c.hashes.invariant in
    let rows : c.match-known_row.rows ≡ c.hashes.rows ++ option_to_list found.result =
    elim c.match-known_row.branch [
      | in-Some+in_ok-push w ↦ w.rows-is ∙ w.in_ok-push.ensures.ok ∙ ap (λ o. c.hashes.rows ++ option_to_list o) (sym w.in-Some.is)
      | in_default w ↦ w.rows-is ∙ sym (append-nil c.hashes.rows) ∙ ap (λ o. c.hashes.rows ++ option_to_list o) (sym w.in_default.is)
    ] in record {
      settings = found.ensures.settings ∙ before.settings;
      bits = found.ensures.bits ∙ before.bits;
      found = rows_more t.made c.args.minute c.args.tracker.now c.hashes.tracker found.new.tracker (t.bits c.args.tracker.now) (t.bits c.hashes.tracker) c.as_slice-hash-items.result.now c.hashes.hash-index none c.hashes.rows (option_to_list found.result) c.match-known_row.rows
          c.hashes-test.true before.bits before.found found.ensures.scraped rows;
    }
