-- What kind of answer a call gets, with no history.
use Rattle.std.specs.Prelude.{◌≡◌, ◌≤◌, true, [], length, All}
use Rattle.ot_base.specs.Address.{family_of}
use Rattle.ot_base.specs.declared.peer.Mark.TheVariants.{Stopped}
use Rattle.tracker_model.specs.Settings.{Settings}
use Rattle.tracker_model.specs.declared.answer.Answer.{Answer}
use Rattle.tracker_model.specs.declared.answer.Answer.TheVariants.{Told, Stats, Rows, Cleaned, Applied, Drained, SwarmFull, BucketFull, NoMemory}
use Rattle.tracker_model.specs.declared.call.Call.{Call}
use Rattle.tracker_model.specs.declared.call.Call.TheVariants.{Announce, Stop, Scrape, Scan, Clean, Sync, Drain}

-- the answers that a call can get: an announce is told peers of its endpoint's family, no more than
-- it wants, and a stop no peers. Something is full only for those that take part, and then by its
-- limit. Want of memory answers no scrape, cleaning or drain, no sync that is a stop, and a stop
-- only where notes are kept
abbrev pub IsKindOf : Settings → Call → Answer → Type 0
IsKindOf g (Announce h who seed completed want) (Told counts peers) =
    All (λ peer. family_of peer.addr ≡ family_of who.addr) peers × (length peers ≤ want)
IsKindOf g (Announce h who seed completed want) (SwarmFull count) = count ≡ g.limits.peers
IsKindOf g (Announce h who seed completed want) (BucketFull count) = count ≡ g.limits.torrents
IsKindOf g (Announce h who seed completed want) NoMemory = Unit {0}
IsKindOf g (Stop h who) (Told counts peers) = peers ≡ []
IsKindOf g (Stop h who) NoMemory = g.sync ≡ true
IsKindOf g (Scrape h) (Stats counts known) = Unit {0}
IsKindOf g Scan (Rows rows) = Unit {0}
IsKindOf g Scan NoMemory = Unit {0}
IsKindOf g Clean (Cleaned held) = Unit {0}
IsKindOf g (Sync h who mark) Applied = Unit {0}
IsKindOf g (Sync h who Stopped) answer = ⊥
IsKindOf g (Sync h who mark) (SwarmFull count) = count ≡ g.limits.peers
IsKindOf g (Sync h who mark) (BucketFull count) = count ≡ g.limits.torrents
IsKindOf g (Sync h who mark) NoMemory = Unit {0}
IsKindOf g Drain (Drained notes dropped) = Unit {0}
IsKindOf g call answer = ⊥
