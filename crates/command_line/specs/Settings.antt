-- The settings that words give.
use Rattle.std.specs.Prelude.{ℕ, ◌+◌, ◌-◌, ◌^◌, ◌==◌, min, if◌then◌else◌, List, [], ◌∷◌, codes}
use Rattle.std.specs.Prelude.{Option, Some, None, Result, Ok, Err}
use Rattle.std.specs.List.{after_first, before_first, list_any}
use Rattle.std.specs.Option.{option_map, option_map_or}
use Rattle.std.specs.Str.{bytes_eq}
use Rattle.command_line.specs.Values.{endpoint_value, mode_value, nodes_value, number_value}
use Rattle.command_line.specs.Values.{secret_value, switch_value}
use Rattle.command_line.specs.declared.settings.Asked.{Asked}
use Rattle.command_line.specs.declared.settings.Asked.TheVariants.{Replay, Drill, Serve}
use Rattle.command_line.specs.declared.settings.Given.{Given}
use Rattle.command_line.specs.declared.words.WordsFault.{WordsFault}
use Rattle.command_line.specs.declared.words.WordsFault.TheVariants.{At}

-- the value of a setting, which stands once at most
abbrev pub once : {T : Type 0} → (before value : Option T) → Option T
once None value = value
once (Some first) value = None

-- Each of the following is the settings with one more: its name, how its text is read, and where
-- its value goes. Other names can't stand.

-- the one setting that every command has
abbrev pub bits_setting : Given → (name text : List ℕ) → Option Given
bits_setting given name text =
    if bytes_eq name (codes "bits")
    then option_map (λ value. record given { bits = Some value })
    (once given.bits (number_value 0 10 text))
    else None

-- the settings of a replay
abbrev pub tracker_setting : Given → (name text : List ℕ) → Option Given
tracker_setting given name text =
    if bytes_eq name (codes "peers")
    then option_map (λ value. record given { peers = Some value })
    (once given.peers (number_value 1 1000000 text))
    else if bytes_eq name (codes "torrents")
    then option_map (λ value. record given { torrents = Some value })
    (once given.torrents (number_value 1 1000000 text))
    else if bytes_eq name (codes "full")
    then option_map (λ value. record given { full = Some value })
    (once given.full (switch_value text))
    else if bytes_eq name (codes "secret")
    then option_map (λ value. record given { secret = Some value })
    (once given.secret (secret_value text))
    else if bytes_eq name (codes "seed")
    then option_map (λ value. record given { seed = Some value })
    (once given.seed (number_value 0 (2 ^ 64 - 1) text))
    else if bytes_eq name (codes "access")
    then option_map (λ value. record given { access = Some value })
    (once given.access (mode_value text))
    else bits_setting given name text

-- the settings of a server
abbrev pub server_setting : Given → (name text : List ℕ) → Option Given
server_setting given name text =
    if bytes_eq name (codes "udp")
    then option_map (λ value. record given { udp = Some value })
    (once given.udp (endpoint_value text))
    else if bytes_eq name (codes "http")
    then option_map (λ value. record given { http = Some value })
    (once given.http (endpoint_value text))
    else if bytes_eq name (codes "workers")
    then option_map (λ value. record given { workers = Some value })
    (once given.workers (number_value 1 64 text))
    else if bytes_eq name (codes "sync")
    then option_map (λ value. record given { sync = Some value })
    (once given.sync (endpoint_value text))
    else if bytes_eq name (codes "nodes")
    then option_map (λ value. record given { nodes = Some value })
    (once given.nodes (nodes_value text))
    else if bytes_eq name (codes "id")
    then option_map (λ value. record given { id = Some value })
    (once given.id (number_value 0 (2 ^ 32 - 1) text))
    else tracker_setting given name text

abbrev pub asked_setting : Asked → Given → (name text : List ℕ) → Option Given
asked_setting Replay given name text = tracker_setting given name text
asked_setting Drill given name text = bits_setting given name text
asked_setting Serve given name text = server_setting given name text

-- The settings with one more, where the word is one that can stand: a name, and behind the first
-- `=` (61) the text of its value.
abbrev pub word_setting : Asked → Given → List ℕ → Option Given
word_setting asked given word =
    if list_any (λ b. b == 61) word
    then asked_setting asked given (before_first (λ b. b == 61) word)
    (after_first (λ b. b == 61) word)
    else None

-- a word's place, at most the last of 32 bits
abbrev pub place_of : ℕ → ℕ
place_of at = min at 4294967295

-- the settings that words give after others, where the first of them stands at a place
abbrev pub given_of : Asked → ℕ → Given → List (List ℕ) → Result Given WordsFault
given_of asked at given [] = Ok given
given_of asked at given (word ∷ words) =
    option_map_or (λ more. given_of asked (at + 1) more words) (word_setting asked given word)
    (Err (At (place_of at)))

abbrev pub no_settings : Given
no_settings = record {
  bits = None;
  peers = None;
  torrents = None;
  full = None;
  secret = None;
  seed = None;
  access = None;
  udp = None;
  http = None;
  workers = None;
  sync = None;
  nodes = None;
  id = None;
}
