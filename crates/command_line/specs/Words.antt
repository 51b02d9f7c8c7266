-- What the words of a command line ask for.
use Rattle.std.specs.Prelude.{ℕ, ◌+◌, ◌-◌, ◌^◌, ◌≤◌, ◌&&◌, ◌||◌, Bool, false, if◌then◌else◌}
use Rattle.std.specs.Prelude.{List, [], ◌∷◌, length, codes, replicate}
use Rattle.std.specs.Prelude.{Option, Some, None, Result, Ok, Err, unwrap_or}
use Rattle.std.specs.Option.{is_none, is_some, option_and_then, option_map, option_map_or}
use Rattle.std.specs.Str.{bytes_eq}
use Rattle.load_model.specs.Load.{CanDrill}
use Rattle.ot_base.specs.declared.hash.Secret.{Secret}
use Rattle.ot_io.specs.declared.settings.ReplaySettings.{ReplaySettings}
use Rattle.ot_io.specs.declared.settings.ServeSettings.{ServeSettings}
use Rattle.ot_io.specs.declared.settings.SyncSettings.{SyncSettings}
use Rattle.offline.specs.Command.{IsOffered, settings_of}
use Rattle.offline.specs.declared.command.Offline.TheVariants as offline
use Rattle.command_line.specs.Settings.{given_of, no_settings, place_of}
use Rattle.command_line.specs.Values.{number_value}
use Rattle.command_line.specs.declared.settings.Asked.TheVariants as asked
use Rattle.command_line.specs.declared.settings.Given.{Given}
use Rattle.command_line.specs.declared.words.Command.{Command}
use Rattle.command_line.specs.declared.words.Command.TheVariants.{Offline, Drill, Serve}
use Rattle.command_line.specs.declared.words.WordsFault.{WordsFault}
use Rattle.command_line.specs.declared.words.WordsFault.TheVariants.{At}

-- what was read goes on to the next reading, and a fault ends it
infixl 10 ◌>>=◌
abbrev pub ◌>>=◌ : {A B : Type 0}
    → Result A WordsFault → (A → Result B WordsFault) → Result B WordsFault
Ok x >>= f = f x
Err fault >>= f = Err fault

-- the settings of a replay, where each that isn't given is the usual one
abbrev pub replay_of : Given → ReplaySettings
replay_of given =
    let zeros : Secret = record { 0 = replicate 20 0 } in record {
      bits = unwrap_or given.bits 10;
      limits = record {
        peers = unwrap_or given.peers 100000;
        torrents = unwrap_or given.torrents 65536;
      };
      full = unwrap_or given.full false;
      secret = unwrap_or given.secret zeros;
      seed = unwrap_or given.seed 0;
      access = given.access;
    }

-- with whom a server shares, where all three settings of that are given
abbrev pub sync_of : Given → Option SyncSettings
sync_of given =
    option_and_then (λ at. option_and_then (λ own. option_map
    (λ nodes. record { at = at; own = own; nodes = nodes }) given.nodes) given.id) given.sync

-- whether some of the three are given, but not all
abbrev pub shares_in_part : Given → Bool
shares_in_part given =
    is_none (sync_of given) && (is_some given.sync || is_some given.nodes || is_some given.id)

-- the settings of a server; a secret is needed, and a place where requests come
abbrev pub server_of : Given → Option ServeSettings
server_of given =
    if is_none given.secret || (is_none given.udp && is_none given.http)
    || shares_in_part given then None
    else Some (record {
      replay = replay_of given;
      udp = given.udp;
      http = given.http;
      sync = sync_of given;
      workers = unwrap_or given.workers 2;
    })

-- the number that the first of these words writes, which stands at a place, and the words behind
-- it
abbrev pub number_first : (at least greatest : ℕ) → List (List ℕ)
    → Result (ℕ × List (List ℕ)) WordsFault
number_first at least greatest [] = Err (At at)
number_first at least greatest (word ∷ words) =
    option_map_or (λ number. Ok (number, words)) (number_value least greatest word) (Err (At at))

-- what the words behind `replay`, `drill` and `serve` ask for
abbrev pub replay_command : List (List ℕ) → Result Command WordsFault
replay_command words = do
  given ← given_of asked.Replay 1 no_settings words
  Ok (Offline (offline.Replay (replay_of given)))

abbrev pub drill_command : List (List ℕ) → Result Command WordsFault
drill_command words = do
  seed ← number_first 1 0 (2 ^ 64 - 1) words
  count ← number_first 2 0 1000000 seed.1
  workers ← number_first 3 1 64 count.1
  given ← given_of asked.Drill 4 no_settings workers.1
  Ok (Drill (record {
    seed = seed.0;
    count = count.0;
    workers = workers.0;
    bits = unwrap_or given.bits 10;
  }))

-- the server's command, or the place behind the last word where one is missing
abbrev pub served_or_missing : (at : ℕ) → Option ServeSettings → Result Command WordsFault
served_or_missing at None = Err (At (place_of at))
served_or_missing at (Some settings) = Ok (Serve settings)

abbrev pub serve_command : List (List ℕ) → Result Command WordsFault
serve_command words = do
  given ← given_of asked.Serve 1 no_settings words
  served_or_missing (1 + length words) (server_of given)

-- the command that words ask for, or the place of the first one that can't stand or is missing
abbrev pub command_of : List (List ℕ) → Result Command WordsFault
command_of [] = Err (At 0)
command_of (first ∷ words) =
    if bytes_eq first (codes "replay") then replay_command words
    else if bytes_eq first (codes "drill") then drill_command words
    else if bytes_eq first (codes "serve") then serve_command words
    else Err (At 0)

-- settings that a server may have
pub record MayServe (settings : ServeSettings) : Type 0 where
  pub replay : IsOffered settings.replay
  pub some_workers : 1 ≤ settings.workers
  pub few_workers : settings.workers ≤ 64

-- a command with settings that it may have
abbrev pub MayRun : Command → Type 0
MayRun (Offline command) = IsOffered (settings_of command)
MayRun (Drill settings) = CanDrill settings
MayRun (Serve settings) = MayServe settings
