-- What a server tells as it ends.
use Rattle.std.specs.Prelude.{ℕ, List, [], ◌∷◌, ◌++◌, codes, decimal}
use Rattle.load_model.specs.declared.totals.Totals.{Totals}

-- how many torrents are known, how many seeds and other peers they have, and how many calls were
-- made
abbrev pub summary_line : Totals → ℕ → List ℕ
summary_line t calls =
    codes "torrents " ++ decimal t.torrents ++ codes " complete " ++ decimal t.complete
    ++ codes " incomplete " ++ decimal t.incomplete ++ codes " calls " ++ decimal calls ++ 10 ∷ []
