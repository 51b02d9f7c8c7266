-- A load: requests that are drawn at random from a seed, and what a tracker knows after them.
use Rattle.std.specs.Prelude.{ℕ, zero, suc, ◌+◌, ◌-◌, ◌*◌, ◌/◌, ◌%◌, ◌≤◌, ◌==◌, false, nat_lt, List, [], ◌∷◌, ◌++◌, if◌then◌else◌, map, replicate, reverse, slice_index_or}
use Rattle.std.specs.Int.{w32, to_be_bytes}
use Rattle.std.specs.List.{filter}
use Rattle.rand_core.specs.Pcg32Seed.{pcg32_seed}
use Rattle.rand_pcg.specs.Lcg.{Lcg}
use Rattle.rand_pcg.specs.Pcg.{pcg32, pcg32_of_seed}
use Rattle.ot_base.specs.declared.address.Addr.{Addr}
use Rattle.ot_base.specs.declared.address.Addr.TheVariants.{V4, V6}
use Rattle.ot_base.specs.declared.address.Endpoint.{Endpoint}
use Rattle.ot_base.specs.declared.hash.InfoHash.{InfoHash}
use Rattle.ot_base.specs.declared.minute.Minute.{Minute}
use Rattle.tracker_model.specs.Settings.{Settings}
use Rattle.tracker_model.specs.declared.answer.Answer.TheVariants.{Applied}
use Rattle.tracker_model.specs.declared.call.Call.{Call}
use Rattle.tracker_model.specs.declared.call.Call.TheVariants.{Announce, Stop, Scrape, Scan, Clean, Sync, Drain}
use Rattle.tracker_model.specs.declared.entry.Entry.{Entry}
use Rattle.load_model.specs.declared.request.Request.{Request}
use Rattle.load_model.specs.declared.settings.DrillSettings.{DrillSettings}

-- settings that a drill may have
pub record CanDrill (s : DrillSettings) : Type 0 where
  pub few_requests : s.count ≤ 1000000
  pub some_workers : 1 ≤ s.workers
  pub few_workers : s.workers ≤ 64
  pub few_bits : s.bits ≤ 10

-- ---- requests

-- the torrent of a number below 64: its hash begins with the number's six bits, and all else
-- is 0
abbrev pub torrent_hash : ℕ → InfoHash
torrent_hash k = record { 0 = to_be_bytes w32 (k * 67108864) ++ replicate 16 0 }

-- the peer of a number below 1,024: 10.0 and the number's two bytes, with the usual port of
-- BitTorrent
abbrev pub peer_at : ℕ → Endpoint
peer_at e = record { addr = V4 (10 ∷ 0 ∷ e / 256 ∷ e % 256 ∷ []); port = 6881 }

-- the number of a request's peer
abbrev pub peer_number : Request → ℕ
peer_number r = r.second % 1024

-- what a request does, by three bits of its first word: 0 is a stop, 1 to 3 are announces of a
-- seed, of which 1 has just completed, and 4 to 7 announces of a leecher
abbrev pub call_by : ℕ → InfoHash → Endpoint → Call
call_by zero h e = Stop h e
call_by (suc kind) h e = Announce h e (nat_lt kind 3) (kind == 0) 50

-- a request's call: its torrent is told by the low six bits of the first word
abbrev pub call_of : Request → Call
call_of r = call_by (r.first / 64 % 8) (torrent_hash (r.first % 64)) (peer_at (peer_number r))

-- the number of a peer of a load, by the last two bytes of its address
abbrev pub number_of : Addr → ℕ
number_of (V4 bytes) = slice_index_or bytes 2 0 * 256 + slice_index_or bytes 3 0
number_of (V6 bytes) = 0

-- the number of the peer that an announce or a stop is of
abbrev pub caller_number : Call → ℕ
caller_number (Announce h e seed completed want) = number_of e.addr
caller_number (Stop h e) = number_of e.addr
caller_number (Scrape h) = 0
caller_number Scan = 0
caller_number Clean = 0
caller_number (Sync h e mark) = 0
caller_number Drain = 0

-- so many requests, each of two words that a generator gives
abbrev pub drawn : Lcg → ℕ → List Request
drawn g zero = []
drawn g (suc n) =
    let a = pcg32 g in
    let b = pcg32 a.1 in
    record { first = a.0; second = b.0 } ∷ drawn b.1 n

-- requests out of `count`, from number i on, each with its phase: there are eight, of equal length
abbrev pub phased : (count i : ℕ) → List Request → List (ℕ × Request)
phased count i [] = []
phased count i (r ∷ rs) = (i * 8 / count, r) ∷ phased count (i + 1) rs

-- all requests of a load, each with its phase
abbrev pub requests : DrillSettings → List (ℕ × Request)
requests s = phased s.count 0 (drawn (pcg32_of_seed (pcg32_seed 16 s.seed)) s.count)

-- the requests of one phase among these
abbrev pub requests_in : ℕ → List (ℕ × Request) → List Request
requests_in phase all = map (λ x. x.1) (filter (λ x. x.0 == phase) all)

-- ---- what a tracker knows

-- each bucket's settings: no phase comes near the limits, and no notes are kept
abbrev pub load_settings : Settings
load_settings = record { limits = record { peers = 1000000; torrents = 1000000 }; sync = false }

-- the minute of a phase: they are 15 minutes apart
abbrev pub phase_minute : ℕ → Minute
phase_minute phase = record { 0 = 15 * phase }

-- A call of one caller that took effect. What was told for it says nothing of what is known later,
-- so one answer stands for all
abbrev pub made : Minute → Call → Entry
made minute call = record { caller = 0; minute = minute; call = call; answer = Applied }

-- the calls of one phase, in the order of their numbers, and the scan behind them
abbrev pub phase_calls : DrillSettings → ℕ → List Entry
phase_calls s phase =
    map (λ r. made (phase_minute phase) (call_of r)) (requests_in phase (requests s))
    ++ made (phase_minute phase) Scan ∷ []

-- all calls of so many phases, with the newest first
abbrev pub past_after : DrillSettings → ℕ → List Entry
past_after s zero = []
past_after s (suc phase) = reverse (phase_calls s phase) ++ past_after s phase
