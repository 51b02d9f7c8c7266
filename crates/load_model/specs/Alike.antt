-- Histories, here with the newest entry first, by which the same is known.
use Rattle.std.specs.Prelude.{◌≡◌, ◌≢◌, ℕ, ◌≤◌, List, [], ◌∷◌, None, true}
use Rattle.ot_base.specs.declared.address.Endpoint.{Endpoint}
use Rattle.ot_base.specs.declared.hash.InfoHash.{InfoHash}
use Rattle.ot_base.specs.declared.minute.Minute.{Minute}
use Rattle.tracker_model.specs.Calls.{IsReport}
use Rattle.tracker_model.specs.Entries.{time_of, is_effective}
use Rattle.tracker_model.specs.Known.{known}
use Rattle.tracker_model.specs.Live.{live}
use Rattle.tracker_model.specs.Placed.{bucket_in}
use Rattle.tracker_model.specs.declared.call.Call.{Call}
use Rattle.tracker_model.specs.declared.entry.Entry.{Entry}
use Rattle.load_model.specs.Load.{made}

-- by two histories the same is known of a torrent at a minute that neither is past
pub record AreAlike (minute : ℕ) (h : InfoHash) (past other : List Entry) : Type 0 where
  pub peers : (e : Endpoint) → live past h e minute ≡ live other h e minute
  pub torrent : known past h minute ≡ known other h minute
  pub on_time : time_of past ≤ minute
  pub other_on_time : time_of other ≤ minute

-- an entry of a call that took effect at a minute
pub record IsMade (minute : ℕ) (call : Call) (x : Entry) : Type 0 where
  pub took : is_effective x ≡ true
  pub at : x.minute.0 ≡ minute
  pub calls : x.call ≡ call

-- An entry of a phase: its call is an announce or a stop, and took effect at the minute
abbrev pub IsOfPhase : Minute → Entry → Type 0
IsOfPhase minute x = IsReport x.call × IsMade minute.0 x.call x

-- a history after more entries, of which the oldest stands first
abbrev pub after : List Entry → List Entry → List Entry
after past [] = past
after past (x ∷ xs) = after (x ∷ past) xs

-- a history after calls that were made at a minute and took effect, in this order
abbrev pub after_calls : Minute → List Entry → List Call → List Entry
after_calls minute past [] = past
after_calls minute past (call ∷ calls) = after_calls minute (made minute call ∷ past) calls

-- by a bucket's history the same is known of its torrents as by the history of a whole load, and
-- nothing of all others. Neither is past the minute
pub record IsPart (bits bucket minute : ℕ) (past load : List Entry) : Type 0 where
  pub alike : (h : InfoHash) → bucket_in bits h ≡ bucket → AreAlike minute h past load
  pub elsewhere : (h : InfoHash) → bucket_in bits h ≢ bucket → known past h minute ≡ None
  pub on_time : time_of past ≤ minute
  pub load_on_time : time_of load ≤ minute
