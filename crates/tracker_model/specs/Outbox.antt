-- The notes that a bucket keeps for the other nodes.
use Rattle.std.specs.Prelude.{ℕ, ◌-◌, min, Bool, true, false, List, [], ◌∷◌, ◌++◌, Option, Some, None, take, length, if◌then◌else◌}
use Rattle.std.specs.Option.{option_to_list}
use Rattle.ot_base.specs.declared.peer.Mark.TheVariants.{Leecher, Seed, Stopped}
use Rattle.ot_base.specs.declared.peer.Note.{Note}
use Rattle.tracker_model.specs.Entries.{is_effective}
use Rattle.tracker_model.specs.Settings.{Settings}
use Rattle.tracker_model.specs.declared.entry.Entry.{Entry}
use Rattle.tracker_model.specs.declared.call.Call.{Call}
use Rattle.tracker_model.specs.declared.call.Call.TheVariants.{Announce, Stop, Scrape, Scan, Clean, Sync, Drain}
use Rattle.tracker_model.specs.declared.limits.TheConstants.{OUTBOX_NOTES}

-- the note that a local call makes
abbrev pub note_of : Call → Option Note
note_of (Announce h who seed completed want) =
    Some (record { hash = h; who = who; mark = if seed then Seed else Leecher })
note_of (Stop h who) = Some (record { hash = h; who = who; mark = Stopped })
note_of (Scrape h) = None
note_of Scan = None
note_of Clean = None
note_of (Sync h who mark) = None
note_of Drain = None

-- whether a call empties the outbox
abbrev pub is_drain : Call → Bool
is_drain (Announce h who seed completed want) = false
is_drain (Stop h who) = false
is_drain (Scrape h) = false
is_drain Scan = false
is_drain Clean = false
is_drain (Sync h who mark) = false
is_drain Drain = true

-- the note that an entry makes: an effective announce or stop
abbrev pub note_made : Entry → Option Note
note_made x = if is_effective x then note_of x.call else None

-- the notes that were made since the last drain, oldest first
abbrev pub notes_since : List Entry → List Note
notes_since [] = []
notes_since (x ∷ past) =
    if is_drain x.call then [] else notes_since past ++ option_to_list (note_made x)

-- the outbox keeps the first 4,096 of them, where sync is on
abbrev pub outbox_notes : Settings → List Entry → List Note
outbox_notes g past = if g.sync then take OUTBOX_NOTES (notes_since past) else []

-- how many it had no place for, as far as 32 bits count
abbrev pub outbox_dropped : Settings → List Entry → ℕ
outbox_dropped g past =
    if g.sync then min 4294967295 (length (notes_since past) - OUTBOX_NOTES) else 0
