-- What is stored, counted, is what the entries say, counted from scratch.
use Rattle.std.proofs.Common.{◌≡◌, ℕ, suc, ◌+◌, ◌-◌, Bool, true, false, not, ◌&&◌, ◌||◌, List, [], ◌∷◌, Option, Some, None, refl, sym, ◌∙◌, ap, subst, map, length, reverse, if◌then◌else◌, cond, arith, nat_lt}
use Rattle.std.specs.List.{filter, filter_map, cons_option, IsDistinct, AllByRecursion}
use Rattle.std.specs.Option.{is_some, option_map, option_map_or}
use Rattle.std.specs.Set.{is_member, distinct_count, unique_keys}
use Rattle.std.proofs.lemmas.Map.Made.{length-from_keys, is_member-filter, alike_from_same}
use Rattle.std.proofs.lemmas.List.{length-map}
use Rattle.ot_base.specs.Same.{same_hash, same_endpoint}
use Rattle.ot_base.proofs.SameLemmas.{same_endpoint_laws, same_endpoint_decides, same_hash_laws, same_hash_decides}
use Rattle.ot_base.specs.declared.hash.InfoHash.{InfoHash}
use Rattle.ot_base.specs.declared.address.Endpoint.{Endpoint}
use Rattle.ot_base.specs.declared.peer.Held.{Held}
use Rattle.tracker_model.specs.Calls.{silent, call_word, subject, is_about, is_joining}
use Rattle.tracker_model.specs.Counted.{subjects, named_endpoints, endpoint_in, how_many, counts_of, is_leecher, swarm_size, known_hashes, known_count}
use Rattle.tracker_model.specs.Entries.{last_word, word_of, held_after, time_of, is_effective}
use Rattle.tracker_model.specs.Live.{if_live, live}
use Rattle.tracker_model.specs.Shape.{Torrent, peers_of, torrent_of, Shape, stored_peers, held_of, count_in, counts_in, downloads_in, known_in, is_known_in, known_torrents}
use Rattle.tracker_model.specs.Known.{Standing, known, is_known, is_recent, if_known, is_seed, touches, touch_of, downloaded_of}
use Rattle.tracker_model.specs.Stands.{IsTidy, Keeps, StandsFor}
use Rattle.tracker_model.specs.declared.entry.Entry.{Entry}
use Rattle.tracker_model.specs.declared.call.Call.{Call}
use Rattle.tracker_model.specs.declared.call.Call.TheVariants.{Announce, Stop, Scrape, Scan, Clean, Sync, Drain}
use Rattle.ot_base.specs.declared.peer.Mark.TheVariants.{Leecher, Seed, Stopped}
use Rattle.tracker_model.specs.declared.limits.TheConstants.{TORRENT_MINUTES}
use Rattle.tracker_model.proofs.Cases.{by_test}
use Rattle.tracker_model.proofs.Cases.{and_true, and_false}
use Rattle.tracker_model.proofs.KnownLemmas.{downloaded_of-known}
use Rattle.ot_base.specs.declared.peer.Counts.{Counts}
use Rattle.tracker_model.proofs.KeyedLemmas.{keys_apart, is_member-passing}

-- the torrent that is stored for a hash is tidy: it names no endpoint twice
pub stored_apart : (torrents : List Torrent) (h : InfoHash) → AllByRecursion IsTidy torrents → IsDistinct same_endpoint (map (λ held. held.who) (stored_peers torrents h))
unfolding IsDistinct
stored_apart [] h each = tt
stored_apart (torrent ∷ torrents) h each =
    elim (same_hash h torrent.hash) as (λ b. IsDistinct same_endpoint (map (λ held. held.who) (option_map_or peers_of (cond b (Some torrent) (torrent_of torrents h)) [])))
    [ true ↦ each.0.distinct | false ↦ stored_apart torrents h each.1 ]

-- an endpoint is named for a torrent where an entry is about it
named_more : (h : InfoHash) (e : Endpoint) (s : Option (InfoHash × Endpoint)) (rest : List (InfoHash × Endpoint)) →
    is_member same_endpoint (filter_map (endpoint_in h) (cons_option s rest)) e
    ≡ (option_map_or (λ s. same_hash s.0 h && same_endpoint s.1 e) s false || is_member same_endpoint (filter_map (endpoint_in h) rest) e)
named_more h e None rest = refl
named_more h e (Some s) rest =
    let others = filter_map (endpoint_in h) rest in
    elim (same_hash s.0 h) as (λ b. is_member same_endpoint (cons_option (if b then Some s.1 else None) others) e ≡ ((b && same_endpoint s.1 e) || is_member same_endpoint others e))
    [ true ↦ ap (λ b. b || is_member same_endpoint others e) (same_endpoint_laws.symm e s.1) | false ↦ refl ]

pub or_false : (a b : Bool) → (a || b) ≡ false → (a ≡ false) × (b ≡ false)
or_false true b e = absurd (let p : ⊥ = cc in p)
or_false false b e = (refl, e)

-- nothing stands of an endpoint that was never named
pub unnamed : (past : List Entry) (h : InfoHash) (e : Endpoint) → is_member same_endpoint (named_endpoints past h) e ≡ false → last_word past h e ≡ None
unnamed [] h e never = refl
unnamed (x ∷ past) h e never =
    let parts = or_false (is_about x.call h e) (is_member same_endpoint (named_endpoints past h) e) (sym (named_more h e (subject x.call) (subjects past)) ∙ never) in
    let unsaid : word_of x h e ≡ silent = ap (λ b. if is_effective x && b then call_word x.call else silent) parts.0 ∙ ap (λ b. if b then call_word x.call else silent) (and_false (is_effective x)) in
    ap (λ w. held_after w e (time_of (x ∷ past)) (last_word past h e)) unsaid ∙ unnamed past h e parts.1

-- a test that nothing passes, of what is live of an endpoint, by the stored one
stored_test : (minute : ℕ) (test : Option Held → Bool) → test None ≡ false → (o : Option Held) → option_map_or (λ held. test (if_live minute (Some held))) o false ≡ test (if_live minute o)
stored_test minute test nothing None = sym nothing
stored_test minute test nothing (Some held) = refl

-- the endpoints that pass a test, counted from scratch, are the stored ones that pass it
pub how_many-stored : (past : List Entry) (minute : ℕ) (stored : List Torrent) (h : InfoHash) (test : Option Held → Bool) → test None ≡ false → Keeps past minute stored → how_many test past h minute ≡ count_in test minute stored h
how_many-stored past minute stored h test nothing kept =
    let peers = stored_peers stored h in
    let who = λ (held : Held). held.who in
    let passes = λ (held : Held). test (if_live minute (Some held)) in
    let at = λ (e : Endpoint). test (live past h e minute) in
    let apart = stored_apart stored h kept.tidy.each in
    let members : (q : Endpoint) → is_member same_endpoint (map who (filter passes peers)) q ≡ is_member same_endpoint (filter at (named_endpoints past h)) q = λ q.
    let nobody : is_member same_endpoint (named_endpoints past h) q ≡ false → at q ≡ false = λ never. ap (λ o. test (if_live minute o)) (unnamed past h q never) ∙ nothing in
    let both : at q ≡ (is_member same_endpoint (named_endpoints past h) q && at q) = by_test (is_member same_endpoint (named_endpoints past h) q) (at q ≡ (is_member same_endpoint (named_endpoints past h) q && at q))
    (λ among. sym (ap (λ b. b && at q) among)) (λ never. nobody never ∙ sym (ap (λ b. b && at q) never)) in
    is_member-passing same_endpoint same_endpoint_decides who passes q peers apart
    ∙ stored_test minute test nothing (held_of peers q)
    ∙ ap (λ o. test o) (kept.peers h q)
    ∙ both
    ∙ sym (is_member-filter same_endpoint_laws at q (alike_from_same same_endpoint_decides at q) (named_endpoints past h)) in
    sym (length-from_keys same_endpoint_laws (map who (filter passes peers)) (filter at (named_endpoints past h)) (keys_apart same_endpoint same_endpoint_decides who passes peers apart) members)
    ∙ length-map (filter passes peers) who

-- the counts of what is stored are those counted from scratch
pub counts_of-stored : (past : List Entry) (stored : List Torrent) (h : InfoHash) → Keeps past (time_of past) stored → counts_of past h ≡ counts_in (time_of past) stored h
counts_of-stored past stored h kept =
    let now = time_of past in
    let told = λ (c d i : ℕ). (let counts : Counts = record { complete = c; downloaded = d; incomplete = i } in counts) in
    ap (λ n. told n (downloaded_of past h) (how_many is_leecher past h now)) (how_many-stored past now stored h is_seed refl kept)
    ∙ ap (λ n. told (count_in is_seed now stored h) (downloaded_of past h) n) (how_many-stored past now stored h is_leecher refl kept)
    ∙ ap (λ n. told (count_in is_seed now stored h) n (count_in is_leecher now stored h)) (downloaded_of-known past h ∙ ap downloads_in (sym (kept.torrents h)))

-- two bodies that stand for the same history count and know the same
pub same_counts : (history : List Entry) (a b : Shape) → StandsFor history a → StandsFor history b → (h : InfoHash) → counts_in a.time a.torrents h ≡ counts_in b.time b.torrents h
same_counts history a b stands also h =
    let past = reverse history in
    let now = time_of past in
    let KeepsAt : List Torrent → ℕ → Type 0 = λ stored t. Keeps past t stored in
    ap (λ t. counts_in t a.torrents h) stands.holds.on_time
    ∙ sym (counts_of-stored past a.torrents h (subst (KeepsAt a.torrents) stands.holds.on_time stands.holds.kept))
    ∙ counts_of-stored past b.torrents h (subst (KeepsAt b.torrents) also.holds.on_time also.holds.kept)
    ∙ ap (λ t. counts_in t b.torrents h) (sym also.holds.on_time)

pub same_known : (history : List Entry) (a b : Shape) → StandsFor history a → StandsFor history b → (h : InfoHash) → known_in a.time a.torrents h ≡ known_in b.time b.torrents h
same_known history a b stands also h =
    stands.holds.kept.torrents h ∙ ap (λ t. known (reverse history) h t) (stands.holds.on_time ∙ sym also.holds.on_time) ∙ sym (also.holds.kept.torrents h)

-- ---- seeds and leechers

-- a key that passes a test is counted unless it comes again, and another one isn't
count_passing : (p : Endpoint → Bool) (e : Endpoint) (es : List Endpoint) → p e ≡ true →
    distinct_count same_endpoint (filter p (e ∷ es)) ≡ (if is_member same_endpoint es e then distinct_count same_endpoint (filter p es) else suc (distinct_count same_endpoint (filter p es)))
count_passing p e es pass =
    let kept = unique_keys same_endpoint (filter p es) in
    ap (λ b. length (unique_keys same_endpoint (cond b (e ∷ filter p es) (filter p es)))) pass
    ∙ ap (λ b. length (cond b kept (e ∷ kept)))
    (is_member-filter same_endpoint_laws p e (alike_from_same same_endpoint_decides p e) es ∙ ap (λ b. is_member same_endpoint es e && b) pass ∙ and_true (is_member same_endpoint es e))
    ∙ elim (is_member same_endpoint es e) as (λ b. length (cond b kept (e ∷ kept)) ≡ (if b then length kept else suc (length kept))) [ true ↦ refl | false ↦ refl ]

count_failing : (p : Endpoint → Bool) (e : Endpoint) (es : List Endpoint) → p e ≡ false → distinct_count same_endpoint (filter p (e ∷ es)) ≡ distinct_count same_endpoint (filter p es)
count_failing p e es fail = ap (λ b. distinct_count same_endpoint (cond b (e ∷ filter p es) (filter p es))) fail

one_each : (again : Bool) (a b c : ℕ) → a + b ≡ c → (if again then a else suc a) + b ≡ (if again then c else suc c)
one_each true a b c e = e
one_each false a b c e = omega arith

other_each : (again : Bool) (a b c : ℕ) → a + b ≡ c → a + (if again then b else suc b) ≡ (if again then c else suc c)
other_each true a b c e = e
other_each false a b c e = omega arith

module _ (at : Endpoint → Option Held) where
  passing : (Option Held → Bool) → List Endpoint → ℕ
  passing test es = distinct_count same_endpoint (filter (λ e. test (at e)) es)

  parts_at : (e : Endpoint) (es : List Endpoint) (o : Option Held) → at e ≡ o → passing is_seed es + passing is_leecher es ≡ passing is_some es → passing is_seed (e ∷ es) + passing is_leecher (e ∷ es) ≡ passing is_some (e ∷ es)
  unfolding passing
  parts_at e es None is parts =
      let skipped = λ (test : Option Held → Bool) (nothing : test None ≡ false). count_failing (λ d. test (at d)) e es (ap test is ∙ nothing) in
      ap (λ n. n + passing is_leecher (e ∷ es)) (skipped is_seed refl) ∙ ap (λ n. passing is_seed es + n) (skipped is_leecher refl) ∙ parts ∙ sym (skipped is_some refl)
  parts_at e es (Some held) is parts =
      let again = is_member same_endpoint es e in
      let counted = λ (test : Option Held → Bool) (yes : test (Some held) ≡ true). count_passing (λ d. test (at d)) e es (ap test is ∙ yes) in
      let skipped = λ (test : Option Held → Bool) (nothing : test (Some held) ≡ false). count_failing (λ d. test (at d)) e es (ap test is ∙ nothing) in
      by_test held.seed (passing is_seed (e ∷ es) + passing is_leecher (e ∷ es) ≡ passing is_some (e ∷ es))
      (λ seeds.
      ap (λ n. n + passing is_leecher (e ∷ es)) (counted is_seed seeds)
      ∙ ap (λ n. (if again then passing is_seed es else suc (passing is_seed es)) + n) (skipped is_leecher (ap not seeds))
      ∙ one_each again _ _ _ parts ∙ sym (counted is_some refl))
      (λ leeches.
      ap (λ n. n + passing is_leecher (e ∷ es)) (skipped is_seed leeches)
      ∙ ap (λ n. passing is_seed es + n) (counted is_leecher (ap not leeches))
      ∙ other_each again _ _ _ parts ∙ sym (counted is_some refl))

  parts_of : (es : List Endpoint) → passing is_seed es + passing is_leecher es ≡ passing is_some es
  unfolding passing
  parts_of [] = refl
  parts_of (e ∷ es) = parts_at e es (at e) refl (parts_of es)

-- live seeds and other live peers are all live peers
pub seeds_and_leechers : (past : List Entry) (h : InfoHash) (minute : ℕ) → how_many is_seed past h minute + how_many is_leecher past h minute ≡ swarm_size past h minute
unfolding passing
seeds_and_leechers past h minute = parts_of (λ e. live past h e minute) (named_endpoints past h)

-- ---- known torrents

-- a call that touches a torrent names it
joining_named : (call : Call) (h : InfoHash) → option_map_or (λ s. same_hash h s.0) (subject call) false ≡ false → is_joining call h ≡ false
joining_named (Announce hash who seed completed want) h apart = same_hash_laws.symm hash h ∙ apart
joining_named (Stop hash who) h apart = refl
joining_named (Scrape hash) h apart = refl
joining_named Scan h apart = refl
joining_named Clean h apart = refl
joining_named (Sync hash who Leecher) h apart = same_hash_laws.symm hash h ∙ apart
joining_named (Sync hash who Seed) h apart = same_hash_laws.symm hash h ∙ apart
joining_named (Sync hash who Stopped) h apart = refl
joining_named Drain h apart = refl

hashes_more : (h : InfoHash) (s : Option (InfoHash × Endpoint)) (rest : List (InfoHash × Endpoint)) →
    is_member same_hash (map (λ s. s.0) (cons_option s rest)) h ≡ (option_map_or (λ s. same_hash h s.0) s false || is_member same_hash (map (λ s. s.0) rest) h)
hashes_more h None rest = refl
hashes_more h (Some s) rest = refl

-- a torrent that was never named was never touched
pub untouched : (past : List Entry) (h : InfoHash) → is_member same_hash (map (λ s. s.0) (subjects past)) h ≡ false → touch_of past h ≡ None
untouched [] h never = refl
untouched (x ∷ past) h never =
    let parts = or_false (option_map_or (λ s. same_hash h s.0) (subject x.call) false) (is_member same_hash (map (λ s. s.0) (subjects past)) h) (sym (hashes_more h (subject x.call) (subjects past)) ∙ never) in
    let left : touches x h ≡ false = ap (λ b. is_effective x && b) (joining_named x.call h parts.0) ∙ and_false (is_effective x) in
    ap (λ b. if b then Some (time_of (x ∷ past)) else touch_of past h) left ∙ untouched past h parts.1

-- whether a stored torrent is known, by its lookup
known_passes : (minute : ℕ) (torrents : List Torrent) (h : InfoHash) → option_map_or (is_known_in minute) (torrent_of torrents h) false ≡ is_some (known_in minute torrents h)
known_passes minute torrents h = elim (torrent_of torrents h) as (λ o. option_map_or (is_known_in minute) o false ≡ is_some (if_known minute (option_map (λ torrent. record { touch = torrent.touch; downloaded = torrent.downloaded }) o))) [
  | None ↦ refl
  | Some torrent ↦ elim (nat_lt (minute - torrent.touch) TORRENT_MINUTES) as (λ b. b ≡ is_some (if b then Some (let s : Standing = record { touch = torrent.touch; downloaded = torrent.downloaded } in s) else None)) [ true ↦ refl | false ↦ refl ]
]

pub is_some-known : (minute : ℕ) (f : ℕ → Standing) → ((touch : ℕ) → (f touch).touch ≡ touch) → (o : Option ℕ) → is_some (if_known minute (option_map f o)) ≡ is_recent minute o
is_some-known minute f keeps None = refl
is_some-known minute f keeps (Some touch) =
    (elim (nat_lt (minute - (f touch).touch) TORRENT_MINUTES) as (λ b. is_some (if b then Some (f touch) else None) ≡ b) [ true ↦ refl | false ↦ refl ])
    ∙ ap (λ n. nat_lt (minute - n) TORRENT_MINUTES) (keeps touch)

-- a torrent is among the known ones where it is known
pub known_hash_member : (past : List Entry) (minute : ℕ) (h : InfoHash) → is_member same_hash (known_hashes past minute) h ≡ is_known past h minute
known_hash_member past minute h =
    let names = map (λ s. s.0) (subjects past) in
    is_member-filter same_hash_laws (λ g. is_known past g minute) h (alike_from_same same_hash_decides (λ g. is_known past g minute) h) names
    ∙ by_test (is_member same_hash names h) ((is_member same_hash names h && is_known past h minute) ≡ is_known past h minute)
    (λ among. ap (λ b. b && is_known past h minute) among)
    (λ never. ap (λ b. b && is_known past h minute) never ∙ sym (ap (λ o. is_recent minute o) (untouched past h never)))

module _ (past : List Entry) (minute : ℕ) (stored : List Torrent) (kept : Keeps past minute stored) where
  -- a torrent is among the stored ones that are known where it is known
  pub known_member : (h : InfoHash) → is_member same_hash (map (λ torrent. torrent.hash) (known_torrents minute stored)) h ≡ is_known past h minute
  known_member h =
      is_member-passing same_hash same_hash_decides (λ (torrent : Torrent). torrent.hash) (is_known_in minute) h stored kept.tidy.distinct
      ∙ known_passes minute stored h
      ∙ ap is_some (kept.torrents h)
      ∙ is_some-known minute (λ touch. record { touch = touch; downloaded = downloaded_of past h }) (λ touch. refl) (touch_of past h)

  -- the known torrents, counted from scratch, are the stored ones that are known
  pub known_count-stored : known_count past minute ≡ length (known_torrents minute stored)
  known_count-stored =
      let hash = λ (torrent : Torrent). torrent.hash in
      sym (length-from_keys same_hash_laws (map hash (known_torrents minute stored)) (known_hashes past minute)
      (keys_apart same_hash same_hash_decides hash (is_known_in minute) stored kept.tidy.distinct)
      (λ h. known_member h ∙ sym (known_hash_member past minute h)))
      ∙ length-map (known_torrents minute stored) hash
