-- What objects in memory are handed out, and what came back.
use Rattle.std.specs.Prelude.{◌≡◌, ℕ, ◌+◌, take, drop, vec_len}
use Rattle.std.specs.Global.{Vec}
use Rattle.ot_io.specs.declared.lender.Lender.{Lender}
use Rattle.ot_io.specs.declared.outside.Made.{Made}
use Rattle.ot_io.specs.declared.outside.Made.TheVariants.{Got, Failed, NoMemory}

-- the first objects were handed out, so many, or none was
abbrev pub HandsOut : {T : Type 0} → Lender T → Lender T → ℕ → Made (Vec T) → Type 0
HandsOut old new count (Got front) =
    (vec_len front ≡ count)
    × (front.items ≡ take count old.unused.items)
    × (new.unused.items ≡ drop count old.unused.items)
    × (new.made ≡ old.made + count)
HandsOut old new count Failed = (new.unused.items ≡ old.unused.items) × (new.made ≡ old.made)
HandsOut old new count NoMemory = (new.unused.items ≡ old.unused.items) × (new.made ≡ old.made)
