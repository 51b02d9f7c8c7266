-- The outbox of a bucket, as contracts see it.
use Rattle.std.specs.Prelude.{◌≡◌, ℕ, ◌<◌, ◌≤◌, Bool, true, List, [], Option, length, if◌then◌else◌}
use Rattle.ot_base.specs.declared.peer.Limits.{Limits}
use Rattle.ot_base.specs.declared.peer.Mark.{Mark}
use Rattle.ot_base.specs.declared.peer.Mark.TheVariants.{Leecher, Seed}
use Rattle.ot_base.specs.declared.peer.Note.{Note}
use Rattle.tracker_model.specs.Settings.{Settings}
use Rattle.tracker_model.specs.Steps.{notes_with, dropped_with}
use Rattle.tracker_model.specs.declared.limits.TheConstants.{OUTBOX_NOTES}

-- whether it keeps notes at all, those that it keeps, how many it dropped, and how many more fit
-- into the memory that it holds
pub record OutboxShape : Type 0 where
  pub sync : Bool
  pub notes : List Note
  pub dropped : ℕ
  pub spare : ℕ

-- an outbox that has no note and holds no memory
abbrev pub empty_outbox : Bool → OutboxShape
empty_outbox sync = record { sync = sync; notes = []; dropped = 0; spare = 0 }

-- the settings of a bucket with this outbox
abbrev pub settings_with : Limits → OutboxShape → Settings
settings_with limits outbox = record { limits = limits; sync = outbox.sync }

-- a note that it would keep fits into its memory
abbrev pub HasRoom : OutboxShape → Type 0
HasRoom outbox = outbox.sync ≡ true → length outbox.notes < OUTBOX_NOTES → 1 ≤ outbox.spare

-- it got a note, or none: that is kept, or counted as dropped, by its settings
pub record Gets (note : Option Note) (old new : OutboxShape) : Type 0 where
  pub sync : new.sync ≡ old.sync
  pub notes : (limits : Limits) → new.notes ≡ notes_with (settings_with limits old) note old.notes
  pub dropped : (limits : Limits) →
      new.dropped ≡ dropped_with (settings_with limits old) note old.notes old.dropped

-- what a note says of an endpoint that takes part
abbrev pub mark_here : Bool → Mark
mark_here seed = if seed then Seed else Leecher
