-- The body of a scrape of all torrents, told list after list.
use Rattle.std.specs.Prelude.{ℕ, List, ◌++◌, codes, flat_map}
use Rattle.ot_base.specs.declared.peer.Row.{Row}
use Rattle.tracker_core.specs.HttpText.{row_text}

-- the rows of the lists in order, between the front and the back of a scrape's body
abbrev pub full_body : List (List Row) → List ℕ
full_body lists =
    codes "d5:filesd" ++ (flat_map (λ rows. flat_map row_text rows) lists ++ codes "ee")

abbrev pub rows_of : List (List Row) → List Row
rows_of lists = flat_map (λ rows. rows) lists
