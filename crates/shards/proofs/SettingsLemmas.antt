-- The settings of a bucket, as its lock has them.
use Rattle.std.proofs.Common.{◌≡◌, ℕ, ◌<◌, Bool, true, false, if◌then◌else◌, List, All, length, get_or, refl, ap, subst, ◌∙◌, arith}
use Rattle.std.proofs.lemmas.List.Elements.{All-get_or}
use Rattle.tracker_model.specs.Settings.{Settings}
use Rattle.tracker_model.specs.Legal.{IsLegalHistory}
use Rattle.tracker_model.specs.Shape.{Shape}
use Rattle.tracker_model.specs.Stands.{StandsFor}
use Rattle.tracker_model.specs.declared.entry.Entry.{Entry}
use Rattle.turn_lock.specs.Shape.{LockShape}
use Rattle.shards.specs.Shape.{IsLockFor, numbers_of}

abbrev flag_of : Bool → ℕ
flag_of on = if on then 1 else 0

same_flag : (a b : Bool) → flag_of a ≡ flag_of b → a ≡ b
same_flag true true e = refl
same_flag true false e = absurd (omega arith)
same_flag false true e = absurd (omega arith)
same_flag false false e = refl

-- the numbers tell the settings
pub settings_from_numbers : (g h : Settings) → numbers_of g ≡ numbers_of h → g ≡ h
settings_from_numbers g h e =
    let peers : g.limits.peers ≡ h.limits.peers = cc in
    let torrents : g.limits.torrents ≡ h.limits.torrents = cc in
    let flags : flag_of g.sync ≡ flag_of h.sync = cc in
    let sync = same_flag g.sync h.sync flags in
    λ k. record { limits = record { peers = peers k; torrents = torrents k }; sync = sync k }

-- the bucket of a lock
pub settings_there : (g : Settings) (callers : ℕ) (locks : List LockShape) (i : ℕ) (lock : LockShape) (bucket : Shape) → All (IsLockFor g callers) locks → i < length locks → lock ≡ get_or locks i lock → numbers_of bucket.settings ≡ lock.settings → bucket.settings ≡ g
settings_there g callers locks i lock bucket each within read numbers =
    let there = All-get_or (IsLockFor g callers) locks i lock within each in
    settings_from_numbers bucket.settings g (numbers ∙ ap (λ (l : LockShape). l.settings) read ∙ there.settings_are)

-- what it stands for is legal by the settings of all
pub legal_by : (g : Settings) (bucket : Shape) (history : List Entry) → bucket.settings ≡ g → StandsFor history bucket → IsLegalHistory g history
legal_by g bucket history same stands = subst (λ settings. IsLegalHistory settings history) same stands.legal
