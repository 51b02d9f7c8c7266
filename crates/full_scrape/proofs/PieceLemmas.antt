-- The pieces of the body, put together.
use Rattle.std.proofs.Common.{◌≡◌, List, [], ◌∷◌, ◌++◌, All, refl, sym, ap, subst, ◌∙◌}
use Rattle.std.specs.Prelude.{codes, flat_map, map}
use Rattle.std.specs.List.Sorted.{IsStrictlySortedBy}
use Rattle.std.proofs.lemmas.Grind.{flat_map-append}
use Rattle.std.proofs.lemmas.List.Elements.{All-append, All-head, All-nil, All-tail}
use Rattle.bencode_text.specs.Bencode.{IsCanonical}
use Rattle.ot_base.specs.Order.{hash_cmp}
use Rattle.ot_base.specs.declared.peer.Row.{Row}
use Rattle.tracker_core.proofs.BodyLemmas.{scrape_canonical}
use Rattle.tracker_core.specs.HttpText.{IsRow, row_text, scrape_body}
use Rattle.full_scrape.specs.FullScrape.{full_body, rows_of}

rows_told : (lists : List (List Row)) → flat_map (λ rows. flat_map row_text rows) lists ≡ flat_map row_text (rows_of lists)
rows_told [] = refl
rows_told (rows ∷ lists) =
    ap (λ t. flat_map row_text rows ++ t) (rows_told lists)
    ∙ sym (flat_map-append row_text rows (rows_of lists))

pub body_of_rows : (lists : List (List Row)) → full_body lists ≡ scrape_body (rows_of lists)
unfolding scrape_body
body_of_rows lists = ap (λ t. codes "d5:filesd" ++ (t ++ codes "ee")) (rows_told lists)

rows_typed : (lists : List (List Row)) → All (λ rows. All IsRow rows) lists → All IsRow (rows_of lists)
rows_typed [] typed = All-nil IsRow
rows_typed (rows ∷ lists) typed =
    All-append IsRow rows (rows_of lists) (All-head (λ rows. All IsRow rows) rows lists typed)
    (rows_typed lists (All-tail (λ rows. All IsRow rows) rows lists typed))

pub body_canonical : (lists : List (List Row)) → All (λ rows. All IsRow rows) lists
    → IsStrictlySortedBy hash_cmp (map (λ row. row.hash) (rows_of lists)) → IsCanonical (full_body lists)
body_canonical lists typed ascend =
    subst IsCanonical (sym (body_of_rows lists)) (scrape_canonical (rows_of lists) (rows_typed lists typed) ascend)
