-- Legal histories.
use Rattle.std.specs.Prelude.{List, [], ◌∷◌, reverse}
use Rattle.tracker_model.specs.Calls.{IsWellFormed}
use Rattle.tracker_model.specs.Right.{IsRightAfterPast}
use Rattle.tracker_model.specs.Settings.{Settings}
use Rattle.tracker_model.specs.declared.entry.Entry.{Entry}

-- each call is well formed, and each answer right after the entries before it: here the newest
-- entry stands first
abbrev pub IsLegalPast : Settings → List Entry → Type 0
IsLegalPast g [] = Unit {0}
IsLegalPast g (x ∷ past) = IsWellFormed x.call × IsRightAfterPast g past x × IsLegalPast g past

-- the same of a history with the oldest entry first, as it grows
abbrev pub IsLegalHistory : Settings → List Entry → Type 0
IsLegalHistory g history = IsLegalPast g (reverse history)

-- an entry is right after a history with the oldest entry first
abbrev pub IsRightAfter : Settings → List Entry → Entry → Type 0
IsRightAfter g history x = IsRightAfterPast g (reverse history) x
