use Rattle.std.proofs.Common.{◌≡◌, ◌++◌, ℕ, All, List, sym, subst}
use Rattle.std.specs.Prelude.{Result, Ok, Err, IfOk, OnOk, codes, flat_map, map}
use Rattle.std.specs.List.Sorted.{IsStrictlySortedBy}
use Rattle.std.specs.declared.alloc.AllocError.{AllocError}
use Rattle.ot_base.specs.Order.{hash_cmp}
use Rattle.ot_base.specs.declared.peer.Row.{Row}
use Rattle.bencode_text.specs.Bencode.{IsCanonical}
use Rattle.tracker_core.specs.HttpText.{IsRow, row_text, scrape_body}
use Rattle.tracker_core.proofs.BodyLemmas.{scrape_canonical}
use Rattle.tracker_core.proofs.http_text.finish_scrape.Goals as goal

-- rows between the front and the back of a scrape
scraped : (rows : List Row) (body : Result (List ℕ) AllocError) → IsStrictlySortedBy hash_cmp (map (λ row. row.hash) rows)
    → IfOk body (λ text. text ≡ codes "d5:filesd" ++ (flat_map row_text rows ++ codes "ee")) → OnOk body (All IsRow rows) → IfOk body IsCanonical
unfolding scrape_body
scraped rows (Ok body) sorted text typed = subst IsCanonical (sym text) (scrape_canonical rows typed sorted)
scraped rows (Err e) sorted text typed = tt

pub returns-clause-canonical : goal.returns-clause-canonical
returns-clause-canonical c =
    let told = c.rows_between.ensures in
    scraped c.args.rows.now c.rows_between.result c.requires (rw c.as_slice.ensures at told.text) (rw c.as_slice.ensures at told.typed)
