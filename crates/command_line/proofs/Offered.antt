-- The settings that words give are some that their command may have.
use Rattle.std.proofs.Common.{◌≡◌, ℕ, ◌+◌, ◌≤◌, Bool, true, false, cond, List, [], ◌∷◌, length, arith}
use Rattle.std.specs.Prelude.{◌==◌, ◌||◌, ◌&&◌, Option, Some, None, Ok, Err, IfSome, IfOk, if◌then◌else◌, unwrap_or, nat_le, codes}
use Rattle.std.specs.List.{after_first, before_first, list_any}
use Rattle.std.specs.Option.{is_none, option_and_then, option_map, option_map_or}
use Rattle.std.specs.Str.{bytes_eq}
use Rattle.std.proofs.lemmas.Result.{IfOk-at_ok}
use Rattle.query_read.specs.Query.{number_of}
use Rattle.offline.specs.Command.{IsOffered}
use Rattle.command_line.specs.Settings.{asked_setting, bits_setting, given_of, no_settings, once, place_of, server_setting, tracker_setting, word_setting}
use Rattle.command_line.specs.Values.{endpoint_value, mode_value, nodes_value, number_among, number_value, secret_value, switch_value}
use Rattle.command_line.specs.Words.{MayServe, replay_of, server_of, shares_in_part, sync_of}
use Rattle.command_line.specs.declared.settings.Asked.{Asked}
use Rattle.command_line.specs.declared.settings.Asked.TheVariants.{Replay, Drill, Serve}
use Rattle.command_line.specs.declared.settings.Given.{Given}
use Rattle.command_line.specs.declared.words.WordsFault.TheVariants.{At}

abbrev IsWithin : ℕ → ℕ → ℕ → Type 0
IsWithin least greatest number = (least ≤ number) × (number ≤ greatest)

-- the numbers that were given are in their ranges
record AreWithin (given : Given) : Type 0 where
  bits : IfSome given.bits (IsWithin 0 10)
  peers : IfSome given.peers (IsWithin 1 1000000)
  torrents : IfSome given.torrents (IsWithin 1 1000000)
  workers : IfSome given.workers (IsWithin 1 64)

among : (least greatest number : ℕ) → IfSome (number_among least greatest number) (IsWithin least greatest)
among least greatest number = grind arith

value-within : (least greatest : ℕ) (text : List ℕ) → IfSome (number_value least greatest text) (IsWithin least greatest)
value-within least greatest text =
    elim (nat_le (length text) 20) as (λ b. IfSome (cond b (option_and_then (number_among least greatest) (number_of text)) None) (IsWithin least greatest)) [
      | true ↦ elim (number_of text) as (λ o. IfSome (option_and_then (number_among least greatest) o) (IsWithin least greatest)) [
        | None ↦ tt
        | Some number ↦ among least greatest number
      ]
      | false ↦ tt
    ]

-- what holds with each value that a setting may get holds where it got one
set : {T : Type 0} (before value : Option T) (P : T → Type 0) (put : T → Given)
    → IfSome value P → ((x : T) → P x → AreWithin (put x)) → IfSome (option_map put (once before value)) AreWithin
set (Some first) value P put h step = tt
set None None P put h step = tt
set None (Some x) P put h step = step x h

either : (b : Bool) (x y : Option Given) → IfSome x AreWithin → IfSome y AreWithin → IfSome (if b then x else y) AreWithin
either true x y h k = h
either false x y h k = k

any : {T : Type 0} (value : Option T) → IfSome value (λ x. Unit {0})
any None = tt
any (Some x) = tt

bits-within : (given : Given) (name text : List ℕ) → AreWithin given → IfSome (bits_setting given name text) AreWithin
bits-within given name text h =
    (either (bytes_eq name (codes "bits")) _ _
    (set given.bits (number_value 0 10 text) (IsWithin 0 10) (λ value. record given { bits = Some value }) (value-within 0 10 text)
    (λ x k. record { bits = k; peers = h.peers; torrents = h.torrents; workers = h.workers }))
    tt)

tracker-within : (given : Given) (name text : List ℕ) → AreWithin given → IfSome (tracker_setting given name text) AreWithin
tracker-within given name text h =
    (either (bytes_eq name (codes "peers")) _ _
    (set given.peers (number_value 1 1000000 text) (IsWithin 1 1000000) (λ value. record given { peers = Some value }) (value-within 1 1000000 text)
    (λ x k. record { bits = h.bits; peers = k; torrents = h.torrents; workers = h.workers }))
    (either (bytes_eq name (codes "torrents")) _ _
    (set given.torrents (number_value 1 1000000 text) (IsWithin 1 1000000) (λ value. record given { torrents = Some value }) (value-within 1 1000000 text)
    (λ x k. record { bits = h.bits; peers = h.peers; torrents = k; workers = h.workers }))
    (either (bytes_eq name (codes "full")) _ _
    (set given.full (switch_value text) (λ x. Unit {0}) (λ value. record given { full = Some value }) (any (switch_value text))
    (λ x k. record { bits = h.bits; peers = h.peers; torrents = h.torrents; workers = h.workers }))
    (either (bytes_eq name (codes "secret")) _ _
    (set given.secret (secret_value text) (λ x. Unit {0}) (λ value. record given { secret = Some value }) (any (secret_value text))
    (λ x k. record { bits = h.bits; peers = h.peers; torrents = h.torrents; workers = h.workers }))
    (either (bytes_eq name (codes "seed")) _ _
    (set given.seed (number_value 0 18446744073709551615 text) (λ x. Unit {0}) (λ value. record given { seed = Some value }) (any (number_value 0 18446744073709551615 text))
    (λ x k. record { bits = h.bits; peers = h.peers; torrents = h.torrents; workers = h.workers }))
    (either (bytes_eq name (codes "access")) _ _
    (set given.access (mode_value text) (λ x. Unit {0}) (λ value. record given { access = Some value }) (any (mode_value text))
    (λ x k. record { bits = h.bits; peers = h.peers; torrents = h.torrents; workers = h.workers }))
    (bits-within given name text h)))))))

server-within : (given : Given) (name text : List ℕ) → AreWithin given → IfSome (server_setting given name text) AreWithin
server-within given name text h =
    (either (bytes_eq name (codes "udp")) _ _
    (set given.udp (endpoint_value text) (λ x. Unit {0}) (λ value. record given { udp = Some value }) (any (endpoint_value text))
    (λ x k. record { bits = h.bits; peers = h.peers; torrents = h.torrents; workers = h.workers }))
    (either (bytes_eq name (codes "http")) _ _
    (set given.http (endpoint_value text) (λ x. Unit {0}) (λ value. record given { http = Some value }) (any (endpoint_value text))
    (λ x k. record { bits = h.bits; peers = h.peers; torrents = h.torrents; workers = h.workers }))
    (either (bytes_eq name (codes "workers")) _ _
    (set given.workers (number_value 1 64 text) (IsWithin 1 64) (λ value. record given { workers = Some value }) (value-within 1 64 text)
    (λ x k. record { bits = h.bits; peers = h.peers; torrents = h.torrents; workers = k }))
    (either (bytes_eq name (codes "sync")) _ _
    (set given.sync (endpoint_value text) (λ x. Unit {0}) (λ value. record given { sync = Some value }) (any (endpoint_value text))
    (λ x k. record { bits = h.bits; peers = h.peers; torrents = h.torrents; workers = h.workers }))
    (either (bytes_eq name (codes "nodes")) _ _
    (set given.nodes (nodes_value text) (λ x. Unit {0}) (λ value. record given { nodes = Some value }) (any (nodes_value text))
    (λ x k. record { bits = h.bits; peers = h.peers; torrents = h.torrents; workers = h.workers }))
    (either (bytes_eq name (codes "id")) _ _
    (set given.id (number_value 0 4294967295 text) (λ x. Unit {0}) (λ value. record given { id = Some value }) (any (number_value 0 4294967295 text))
    (λ x k. record { bits = h.bits; peers = h.peers; torrents = h.torrents; workers = h.workers }))
    (tracker-within given name text h)))))))

asked-within : (asked : Asked) (given : Given) (name text : List ℕ) → AreWithin given → IfSome (asked_setting asked given name text) AreWithin
asked-within Replay given name text h = tracker-within given name text h
asked-within Drill given name text h = bits-within given name text h
asked-within Serve given name text h = server-within given name text h

word-within : (asked : Asked) (given : Given) (word : List ℕ) → AreWithin given → IfSome (word_setting asked given word) AreWithin
word-within asked given word h =
    let name = before_first (λ b. b == 61) word in
    let text = after_first (λ b. b == 61) word in
    either (list_any (λ b. b == 61) word) (asked_setting asked given name text) None (asked-within asked given name text h) tt

given-within : (asked : Asked) (at : ℕ) (given : Given) (words : List (List ℕ)) → AreWithin given → IfOk (given_of asked at given words) AreWithin
given-within asked at given [] h = h
given-within asked at given (word ∷ words) h =
    elim (word_setting asked given word) as (λ o. IfSome o AreWithin → IfOk (option_map_or (λ more. given_of asked (at + 1) more words) o (Err (At (place_of at)))) AreWithin) [
      | None ↦ λ k. tt
      | Some more ↦ λ k. given-within asked (at + 1) more words k
    ] (word-within asked given word h)

within-usual : (least greatest usual : ℕ) (o : Option ℕ) → IfSome o (IsWithin least greatest) → IsWithin least greatest usual → IsWithin least greatest (unwrap_or o usual)
within-usual least greatest usual None h k = k
within-usual least greatest usual (Some x) h k = h

replay-offered : (given : Given) → AreWithin given → IsOffered (replay_of given)
replay-offered given h =
    let bits = within-usual 0 10 10 given.bits h.bits (grind arith) in
    let peers = within-usual 1 1000000 100000 given.peers h.peers (grind arith) in
    let torrents = within-usual 1 1000000 65536 given.torrents h.torrents (grind arith) in
    record {
      bits = bits.1;
      limits = record { some_peers = peers.0; peers = peers.1; some_torrents = torrents.0; torrents = torrents.1 };
    }

given-all : (asked : Asked) (at : ℕ) (words : List (List ℕ)) (given : Given) → given_of asked at no_settings words ≡ Ok given → AreWithin given
given-all asked at words given h =
    IfOk-at_ok AreWithin h (given-within asked at no_settings words (record { bits = tt; peers = tt; torrents = tt; workers = tt }))

-- the settings of a replay are offered
pub given-offered : (asked : Asked) (at : ℕ) (words : List (List ℕ)) (given : Given) → given_of asked at no_settings words ≡ Ok given → IsOffered (replay_of given)
given-offered asked at words given h = replay-offered given (given-all asked at words given h)

-- a drill has at most 10 bits
pub given-few_bits : (asked : Asked) (at : ℕ) (words : List (List ℕ)) (given : Given) → given_of asked at no_settings words ≡ Ok given → unwrap_or given.bits 10 ≤ 10
given-few_bits asked at words given h = (within-usual 0 10 10 given.bits (given-all asked at words given h).bits (grind arith)).1

serves : (given : Given) → AreWithin given → (lacks : Bool) → IfSome (if lacks then None else Some (record { replay = replay_of given; udp = given.udp; http = given.http; sync = sync_of given; workers = unwrap_or given.workers 2 })) MayServe
serves given h true = tt
serves given h false =
    let workers = within-usual 1 64 2 given.workers h.workers (grind arith) in
    record { replay = replay-offered given h; some_workers = workers.0; few_workers = workers.1 }

-- the settings of a server are some that it may have
pub given-serves : (asked : Asked) (at : ℕ) (words : List (List ℕ)) (given : Given) → given_of asked at no_settings words ≡ Ok given → IfSome (server_of given) MayServe
given-serves asked at words given h =
    serves given (given-all asked at words given h) (is_none given.secret || (is_none given.udp && is_none given.http) || shares_in_part given)
