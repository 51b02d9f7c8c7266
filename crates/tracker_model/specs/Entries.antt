-- Histories of a bucket, here with the newest entry first: its time, and the last word on an
-- endpoint.
use Rattle.std.specs.Prelude.{ℕ, Bool, true, false, max, List, [], ◌∷◌, ◌&&◌, Option, Some, None, if◌then◌else◌}
use Rattle.ot_base.specs.declared.hash.InfoHash.{InfoHash}
use Rattle.ot_base.specs.declared.address.Endpoint.{Endpoint}
use Rattle.ot_base.specs.declared.peer.Held.{Held}
use Rattle.tracker_model.specs.Calls.{Word, silent, gone, here, call_word, is_about}
use Rattle.tracker_model.specs.declared.entry.Entry.{Entry}
use Rattle.tracker_model.specs.declared.answer.Answer.{Answer}
use Rattle.tracker_model.specs.declared.answer.Answer.TheVariants.{Told, Stats, Rows, Cleaned, Applied, Drained, SwarmFull, BucketFull, NoMemory}

-- the bucket's time: the greatest of 0 and all minutes that callers gave
abbrev pub time_of : List Entry → ℕ
time_of [] = 0
time_of (x ∷ past) = max x.minute.0 (time_of past)

-- whether a call with this answer took effect: it wasn't refused as full, and it found memory
abbrev pub took_effect : Answer → Bool
took_effect (Told counts peers) = true
took_effect (Stats counts known) = true
took_effect (Rows rows) = true
took_effect (Cleaned held) = true
took_effect Applied = true
took_effect (Drained notes dropped) = true
took_effect (SwarmFull count) = false
took_effect (BucketFull count) = false
took_effect NoMemory = false

-- whether an entry took effect
abbrev pub is_effective : Entry → Bool
is_effective x = took_effect x.answer

-- what an entry says of an endpoint of a torrent
abbrev pub word_of : Entry → InfoHash → Endpoint → Word
word_of x h e = if is_effective x && is_about x.call h e then call_word x.call else silent

-- what stands of an endpoint after a word at a minute, given what stood before
abbrev pub held_after : Word → Endpoint → ℕ → Option Held → Option Held
held_after silent e minute before = before
held_after gone e minute before = None
held_after (here seed) e minute before =
    Some (record { who = e; seed = seed; stamp = record { 0 = minute } })

-- the last word on an endpoint of a torrent, unless it is that it stopped: its seed flag, and the
-- bucket's time at that entry as its stamp
abbrev pub last_word : List Entry → InfoHash → Endpoint → Option Held
last_word [] h e = None
last_word (x ∷ past) h e = held_after (word_of x h e) e (time_of (x ∷ past)) (last_word past h e)
