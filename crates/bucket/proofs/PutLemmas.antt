-- An endpoint takes part in a stored torrent, or in a new one.
use Rattle.std.proofs.Common.{◌≡◌, ℕ, ◌+◌, ◌<◌, false, not, ◌&&◌, cond, List, [], ◌∷◌, ◌++◌, Option, Result, Ok, Err, IsErr, IsErrAnd, refl, sym, ◌∙◌, ap, subst, length, arith, get_or}
use Rattle.std.specs.Bool.{◌==◌}
use Rattle.std.specs.List.{All, find}
use Rattle.std.specs.Option.{is_none}
use Rattle.std.specs.Result.{MatchResult}
use Rattle.std.proofs.Math.ListN.{set}
use Rattle.std.proofs.lemmas.Bool.Decides.{Decides-eqb}
use Rattle.std.proofs.lemmas.List.{length-append, length-set, length_push}
use Rattle.std.proofs.lemmas.List.Elements.{All-push, All-set}
use Rattle.std.proofs.lemmas.Option.{get_or_from_slice_get}
use Rattle.age_ring.specs.Ring.{IsYoung, Ring, items_of}
use Rattle.ot_base.specs.Address.{family_of}
use Rattle.ot_base.specs.declared.address.Family.{Family}
use Rattle.ot_base.specs.declared.address.Family.TheVariants.{Four, Six}
use Rattle.ot_base.specs.declared.hash.InfoHash.{InfoHash}
use Rattle.ot_base.specs.declared.peer.Held.{Held}
use Rattle.ot_base.specs.declared.peer.Limits.{Limits}
use Rattle.tracker_model.specs.Known.{is_seed}
use Rattle.tracker_model.specs.Shape.{Torrent, held_of}
use Rattle.tracker_model.specs.Steps.{one_more}
use Rattle.tracker_model.specs.declared.limits.TheConstants.{TORRENT_MINUTES}
use Rattle.swarm.specs.Peers.{is_of, put_peer}
use Rattle.swarm.specs.Shape as swarms
use Rattle.bucket.specs.Calls.{Adds, JoinsAt, Stays}
use Rattle.bucket.specs.Index.{IsIndexed}
use Rattle.bucket.specs.Stored.{IsFit, JoinsStored, PassesTo, empty_stored, put_stored, torrent_by}
use Rattle.bucket.specs.Table.{IsKept, Table, torrents_by}
use Rattle.bucket.specs.Torrents.{Freshens, new_torrent, of_family, with_family, with_peer}
use Rattle.bucket.specs.declared.joining.JoinError.{JoinError}
use Rattle.bucket.specs.declared.joining.JoinError.TheVariants.{BucketFull, SwarmFull, NoMemory}
use Rattle.bucket.specs.declared.joining.Joining.{Joining}
use Rattle.bucket.specs.declared.stored.Stored.{Stored}
use Rattle.bucket.proofs.JoinLemmas.{not_equal}
use Rattle.bucket.proofs.PlaceLemmas.{StandsAt, family_by, same_set}
use Rattle.bucket.proofs.SoundLemmas.{sound_by, table_by}
use Rattle.bucket.proofs.TableLemmas.{by_set, length_by}

freshens_by : (minute : ℕ) (pair : InfoHash × ℕ) (old new : Stored) → PassesTo minute old new → Freshens minute (torrent_by pair old) (torrent_by pair new)
freshens_by minute pair old new passes = record {
  hash = refl;
  touch = refl;
  downloaded = passes.downloaded;
  fours = passes.fours;
  sixes = passes.sixes;
  young_fours = passes.young_fours;
  young_sixes = passes.young_sixes;
}

abbrev held_at : Joining → ℕ → Held
held_at joining time = record { who = joining.who; seed = joining.seed; stamp = record { 0 = time } }

abbrev put_at : Family → Joining → Stored → ℕ → Stored
put_at family joining stored time = record {
  downloaded = one_more (joining.completed && not (is_seed (find (is_of joining.who) (swarms.of_family family stored.swarm)))) stored.downloaded;
  swarm = swarms.with_family family stored.swarm (put_peer (held_at joining time) (swarms.of_family family stored.swarm));
}

put_by_family : (family : Family) (pair : InfoHash × ℕ) (joining : Joining) (stored : Stored) (time : ℕ) → torrent_by (pair.0, time) (put_at family joining stored time) ≡
    with_family family (put_peer (held_at joining time) (of_family family (torrent_by pair stored))) (record (torrent_by pair stored) {
      touch = time;
      downloaded = one_more (joining.completed && not (is_seed (held_of (of_family family (torrent_by pair stored)) joining.who))) stored.downloaded;
    })
put_by_family Four pair joining stored time = refl
put_by_family Six pair joining stored time = refl

-- what is put into what is stored is put into its torrent
put_by : (pair : InfoHash × ℕ) (joining : Joining) (stored : Stored) (time : ℕ) → stored.swarm.time ≡ time → torrent_by (pair.0, time) (put_stored joining stored) ≡ with_peer time joining (torrent_by pair stored)
put_by pair joining stored time same =
    ap (λ t. torrent_by (pair.0, time) (put_at (family_of joining.who.addr) joining stored t)) same
    ∙ put_by_family (family_of joining.who.addr) pair joining stored time

pub joins_at : {A : Type 0} (limits : Limits) (time time' place : ℕ) (pairs pairs' : List (InfoHash × ℕ)) (list : List Stored) (joining : Joining) (stored new : Stored) (result : Result A JoinError) → StandsAt pairs list place stored
    → JoinsStored limits.peers time joining stored new result → ((pair : InfoHash × ℕ) → MatchResult result (λ done. pairs' ≡ set pairs place ((get_or pairs place pair).0, time)) (λ error. pairs' ≡ pairs))
    → JoinsAt place joining (table_by limits time pairs list) (table_by limits time' pairs' (set list place new)) result
joins_at limits time time' place pairs pairs' list joining stored new (Ok done) it joins renewed =
    let fresh = joins.fresh in
    let torrent = torrent_by it.pair fresh in
    let family = family_of joining.who.addr in
    let known : is_none (held_of (of_family family torrent) joining.who) ≡ is_none (find (is_of joining.who) (swarms.of_family family fresh.swarm)) = ap (λ (l : List Held). is_none (held_of l joining.who)) (sym (family_by family it.pair fresh)) in
    let pair : pairs' ≡ set pairs place (it.pair.0, time) = renewed it.pair ∙ ap (λ p. set pairs place (p.0, time)) (get_or_from_slice_get pairs place it.pair it.pair it.has_pair) in
    record {
      before = torrent_by it.pair stored;
      torrent = torrent;
      stood = it.has_torrent;
      freshens = freshens_by time it.pair stored fresh joins.passes;
      joins = (
        (λ i. known i && length-append fresh.swarm.fours fresh.swarm.sixes i == limits.peers) ∙ joins.joins.0,
        (λ i. torrents_by (pair i) (set list place new)) ∙ by_set pairs list place (it.pair.0, time) new
            ∙ ap (λ t. set (torrents_by pairs list) place t) (ap (λ s. torrent_by (it.pair.0, time) s) joins.joins.1 ∙ put_by it.pair joining fresh time joins.passes.time),
      );
    }
joins_at limits time time' place pairs pairs' list joining stored new (Err error) it joins renewed =
    let fresh = joins.fresh in
    let torrent = torrent_by it.pair fresh in
    let family = family_of joining.who.addr in
    let known : is_none (held_of (of_family family torrent) joining.who) ≡ is_none (find (is_of joining.who) (swarms.of_family family fresh.swarm)) = ap (λ (l : List Held). is_none (held_of l joining.who)) (sym (family_by family it.pair fresh)) in
    let pair : pairs' ≡ set pairs place it.pair = renewed it.pair ∙ same_set pairs place it.pair it.has_pair in
    record {
      before = torrent_by it.pair stored;
      torrent = torrent;
      stood = it.has_torrent;
      freshens = freshens_by time it.pair stored fresh joins.passes;
      joins = (
        known ∙ joins.joins.0,
        (λ i. torrents_by (pair i) (set list place new)) ∙ by_set pairs list place it.pair new ∙ ap (λ s. set (torrents_by pairs list) place (torrent_by it.pair s)) joins.joins.1,
        joins.joins.2 ∙ sym (ap (λ n. cond (n == limits.peers) SwarmFull NoMemory) (length-append fresh.swarm.fours fresh.swarm.sixes)),
      );
    }

-- a touch renews the pair at a place
pub kept_renewed : (limits : Limits) (ring renewed : Ring InfoHash) (look : InfoHash → Option ℕ) (list : List Stored) (place : ℕ) (hash : InfoHash) (new : Stored) → IsKept limits ring look list → renewed.pairs ≡ set ring.pairs place (hash, ring.time)
    → items_of renewed.pairs ≡ items_of ring.pairs → renewed.time ≡ ring.time → renewed.ages ≡ ring.ages → IsFit limits.peers ring.time new → IsKept limits renewed look (set list place new)
kept_renewed limits ring renewed look list place hash new it pairs hashes time ages fit =
    let P : List InfoHash → Type 0 = λ l. IsIndexed l look in
    let Q : List (InfoHash × ℕ) → Type 0 = λ l. All (IsYoung TORRENT_MINUTES ring.time) l in
    let R : ℕ → Type 0 = λ t. All (IsYoung TORRENT_MINUTES t) renewed.pairs in
    let S : ℕ → Type 0 = λ t. All (IsFit limits.peers t) (set list place new) in
    let now : ring.time < ring.time + TORRENT_MINUTES = omega arith in
    record {
      limited = it.limited;
      indexed = subst P (sym hashes) it.indexed;
      ages = ages ∙ it.ages;
      young = subst R (sym time) (subst Q (sym pairs) (All-set (IsYoung TORRENT_MINUTES ring.time) ring.pairs place (hash, ring.time) now it.young));
      as_many = omega (arith, length-set list place new, it.as_many, ap length pairs, length-set ring.pairs place (hash, ring.time));
      few = omega (arith, it.few, length-set list place new);
      each = subst S (sym time) (All-set (IsFit limits.peers ring.time) list place new fit it.each);
    }

-- another torrent stands last
pub kept_added : (limits : Limits) (ring added : Ring InfoHash) (look look' : InfoHash → Option ℕ) (list list' : List Stored) (hash : InfoHash) (new : Stored) → IsKept limits ring look list → added.pairs ≡ ring.pairs ++ (hash, ring.time) ∷ []
    → list' ≡ list ++ new ∷ [] → length list < limits.torrents → IsIndexed (items_of added.pairs) look' → added.time ≡ ring.time → added.ages ≡ ring.ages → IsFit limits.peers ring.time new → IsKept limits added look' list'
kept_added limits ring added look look' list list' hash new it pairs stored few indexed time ages fit =
    let Q : List (InfoHash × ℕ) → Type 0 = λ l. All (IsYoung TORRENT_MINUTES ring.time) l in
    let R : ℕ → Type 0 = λ t. All (IsYoung TORRENT_MINUTES t) added.pairs in
    let S : ℕ → Type 0 = λ t. All (IsFit limits.peers t) list' in
    let T : List Stored → Type 0 = λ l. All (IsFit limits.peers ring.time) l in
    let now : ring.time < ring.time + TORRENT_MINUTES = omega arith in
    record {
      limited = it.limited;
      indexed = indexed;
      ages = ages ∙ it.ages;
      young = subst R (sym time) (subst Q (sym pairs) (All-push (IsYoung TORRENT_MINUTES ring.time) ring.pairs (hash, ring.time) it.young now));
      as_many = omega (arith, it.as_many, ap length stored, length_push list new, ap length pairs, length_push ring.pairs (hash, ring.time));
      few = omega (arith, few, ap length stored, length_push list new);
      each = subst S (sym time) (subst T (sym stored) (All-push (IsFit limits.peers ring.time) list new it.each fit));
    }

pub gave_error : {A : Type 0} (r : Result A JoinError) (error : JoinError) → IsErr r → IsErrAnd r (λ e. e ≡ error) → r ≡ Err error
gave_error (Ok x) error err gave = absurd (let p : ⊥ = cc in p)
gave_error (Err e) error err gave = ap Err gave

-- a table that stays is sound
pub stays_itself : (limits : Limits) (ring : Ring InfoHash) (look : InfoHash → Option ℕ) (list : List Stored) (old : Table) → IsKept limits ring look list → table_by limits ring.time ring.pairs list ≡ old → Stays old old
stays_itself limits ring look list old it view =
    let P : Table → Type 0 = λ v. Stays v v in
    subst P view (record { limits = refl; time = refl; sound = sound_by limits ring look list it })

pub adds_full : (limits : Limits) (time : ℕ) (pairs : List (InfoHash × ℕ)) (list : List Stored) (joining : Joining) (old : Table) → table_by limits time pairs list ≡ old → length list ≡ length pairs → length pairs ≡ limits.torrents → Adds {A = ℕ} joining old old (Err BucketFull)
adds_full limits time pairs list joining old view as_many full =
    let P : Table → Type 0 = λ v. Adds {A = ℕ} joining v v (Err BucketFull) in
    let torrents = torrents_by pairs list in
    subst P view (refl, sym (ap (λ b. cond b BucketFull NoMemory) ((Decides-eqb (length torrents) limits.torrents).1 (length_by pairs list as_many ∙ full))))

pub adds_none : (limits : Limits) (time : ℕ) (pairs : List (InfoHash × ℕ)) (list : List Stored) (joining : Joining) (old new : Table) → table_by limits time pairs list ≡ old → length list ≡ length pairs → length pairs < limits.torrents → new ≡ old
    → Adds {A = ℕ} joining old new (Err NoMemory)
adds_none limits time pairs list joining old new view as_many less same =
    let P : Table → Type 0 = λ v. NoMemory ≡ cond (length v.torrents == v.limits.torrents) BucketFull NoMemory in
    let torrents = torrents_by pairs list in
    (same, subst P view (sym (ap (λ b. cond b BucketFull NoMemory) (not_equal (length torrents) limits.torrents (omega (arith, length_by pairs list as_many))))))

pub adds_one : (limits : Limits) (time : ℕ) (pairs : List (InfoHash × ℕ)) (list : List Stored) (joining : Joining) (old : Table) (torrents : List Torrent) (new : Stored) → table_by limits time pairs list ≡ old → length list ≡ length pairs → length pairs < limits.torrents
    → torrents ≡ torrents_by pairs list ++ torrent_by (joining.hash, time) new ∷ [] → new ≡ put_stored joining (empty_stored time)
    → ((length old.torrents == old.limits.torrents) ≡ false) × (torrents ≡ old.torrents ++ with_peer old.time joining (new_torrent joining.hash) ∷ [])
adds_one limits time pairs list joining old torrents new view as_many less added is =
    let P : Table → Type 0 = λ v. ((length v.torrents == v.limits.torrents) ≡ false) × (torrents ≡ v.torrents ++ with_peer v.time joining (new_torrent joining.hash) ∷ []) in
    let before = torrents_by pairs list in
    subst P view (
      not_equal (length before) limits.torrents (omega (arith, length_by pairs list as_many)),
      added ∙ ap (λ t. before ++ t ∷ []) (ap (λ s. torrent_by (joining.hash, time) s) is ∙ put_by (joining.hash, 0) joining (empty_stored time) time refl),
    )
