-- What is stored at a place, as a torrent.
use Rattle.std.proofs.Common.{◌≡◌, ℕ, zero, suc, ◌+◌, ◌<◌, List, [], ◌∷◌, Option, Some, refl, sym, ◌∙◌, ap, subst, length, arith, get_or}
use Rattle.std.specs.List.{slice_get, sum_by}
use Rattle.std.specs.Option.{MatchOption}
use Rattle.std.proofs.Math.ListN.{set}
use Rattle.std.proofs.lemmas.List.{length-set}
use Rattle.std.proofs.lemmas.List.Elements.{All-set}
use Rattle.std.proofs.lemmas.List.Sums.{sum_by-append}
use Rattle.std.proofs.lemmas.Option.{slice_get_read, same_Some}
use Rattle.ot_base.specs.Address.{family_of}
use Rattle.ot_base.specs.declared.address.Endpoint.{Endpoint}
use Rattle.ot_base.specs.declared.address.Family.{Family}
use Rattle.ot_base.specs.declared.address.Family.TheVariants.{Four, Six}
use Rattle.ot_base.specs.declared.hash.InfoHash.{InfoHash}
use Rattle.ot_base.specs.declared.peer.Counts.{Counts}
use Rattle.ot_base.specs.declared.peer.Limits.{Limits}
use Rattle.age_ring.specs.Ring.{Ring}
use Rattle.tracker_model.specs.Shape.{Torrent}
use Rattle.swarm.specs.Peers.{other_one, seed_one}
use Rattle.swarm.specs.Peers as peers
use Rattle.swarm.specs.Shape as swarms
use Rattle.bucket.specs.Calls.{Stays}
use Rattle.bucket.specs.Stored.{IsFit, torrent_by}
use Rattle.bucket.specs.Table.{IsKept, Table, torrents_by}
use Rattle.bucket.specs.Torrents.{Turns, of_family, tally, with_family, without_peer}
use Rattle.bucket.specs.declared.stored.Stored.{Stored}
use Rattle.bucket.proofs.DropLemmas.{some_at}
use Rattle.bucket.proofs.SoundLemmas.{sound_by, table_by}
use Rattle.bucket.proofs.TableLemmas.{by_at, by_set, length_by}

-- a place of a torrent is one of the list
pub within_list : (old : Table) (limits : Limits) (time : ℕ) (pairs : List (InfoHash × ℕ)) (list : List Stored) (i : ℕ) → table_by limits time pairs list ≡ old → length list ≡ length pairs → i < length old.torrents → i < length list
within_list old limits time pairs list i view as_many within = omega (arith, length_by pairs list as_many, ap (λ (v : Table). length v.torrents) view)

pub record StandsAt (pairs : List (InfoHash × ℕ)) (list : List Stored) (i : ℕ) (stored : Stored) : Type 0 where
  pub pair : InfoHash × ℕ
  pub has_pair : slice_get pairs i ≡ Some pair
  pub has_stored : slice_get list i ≡ Some stored
  pub has_torrent : slice_get (torrents_by pairs list) i ≡ Some (torrent_by pair stored)

pub stands_at : (pairs : List (InfoHash × ℕ)) (list : List Stored) (i : ℕ) (stored : Stored) → length list ≡ length pairs → i < length list → stored ≡ get_or list i stored → StandsAt pairs list i stored
stands_at pairs list i stored as_many within here =
    let pair = some_at pairs i (omega arith) in
    let has : slice_get list i ≡ Some stored = slice_get_read list (length list) i stored refl within here in
    record { pair = pair.0; has_pair = pair.1; has_stored = has; has_torrent = by_at pairs list i pair.0 stored pair.1 has }

-- what holds of the torrent made of what stands at a place holds of the one that stands there
pub at_place : (pairs : List (InfoHash × ℕ)) (list : List Stored) (i : ℕ) (stored : Stored) (P : Torrent → Type 0) (it : StandsAt pairs list i stored) → P (torrent_by it.pair stored) → MatchOption (slice_get (torrents_by pairs list) i) ⊥ P
at_place pairs list i stored P it holds =
    let Q : Option Torrent → Type 0 = λ o. MatchOption o ⊥ P in
    subst Q (sym it.has_torrent) holds

pub tally_by : (pair : InfoHash × ℕ) (stored : Stored) (counts : Counts) → counts ≡ record {
  complete = sum_by seed_one stored.swarm.fours + sum_by seed_one stored.swarm.sixes;
  downloaded = stored.downloaded;
  incomplete = sum_by other_one stored.swarm.fours + sum_by other_one stored.swarm.sixes;
} → counts ≡ tally (torrent_by pair stored)
tally_by pair stored counts is =
    is ∙ (λ i. let counted : Counts = record {
      complete = sym (sum_by-append seed_one stored.swarm.fours stored.swarm.sixes) i;
      downloaded = stored.downloaded;
      incomplete = sym (sum_by-append other_one stored.swarm.fours stored.swarm.sixes) i;
    } in counted)

pub family_by : (family : Family) (pair : InfoHash × ℕ) (stored : Stored) → swarms.of_family family stored.swarm ≡ of_family family (torrent_by pair stored)
family_by Four pair stored = refl
family_by Six pair stored = refl

pub same_set : {X : Type 0} (xs : List X) (i : ℕ) (x : X) → slice_get xs i ≡ Some x → xs ≡ set xs i x
same_set [] i x here = refl
same_set (y ∷ ys) zero x here = ap (λ z. z ∷ ys) (same_Some y x here)
same_set (y ∷ ys) (suc i) x here = ap (λ l. y ∷ l) (same_set ys i x here)

-- another one is stored at the place
pub turns_set : (pairs : List (InfoHash × ℕ)) (list : List Stored) (i : ℕ) (stored other : Stored) (Into : (old new : Torrent) → Type 0) (it : StandsAt pairs list i stored)
    → Into (torrent_by it.pair stored) (torrent_by it.pair other) → Turns i Into (torrents_by pairs list) (torrents_by pairs (set list i other))
turns_set pairs list i stored other Into it turned = record {
  before = torrent_by it.pair stored;
  after = torrent_by it.pair other;
  stood = it.has_torrent;
  turned = turned;
  set = ap (λ l. torrents_by l (set list i other)) (same_set pairs i it.pair it.has_pair) ∙ by_set pairs list i it.pair other;
}

-- what keeps a table keeps it where another one is stored at a place
pub kept_set : (limits : Limits) (ring : Ring InfoHash) (look : InfoHash → Option ℕ) (list : List Stored) (i : ℕ) (other : Stored) → IsKept limits ring look list → IsFit limits.peers ring.time other → IsKept limits ring look (set list i other)
kept_set limits ring look list i other it fit = record {
  limited = it.limited;
  indexed = it.indexed;
  ages = it.ages;
  young = it.young;
  as_many = length-set list i other ∙ it.as_many;
  few = omega (arith, it.few, length-set list i other);
  each = All-set (IsFit limits.peers ring.time) list i other fit it.each;
}

-- limits and time stay, and what is kept is sound
pub stays_by : (old : Table) (limits : Limits) (ring ring' : Ring InfoHash) (look' : InfoHash → Option ℕ) (list list' : List Stored) → table_by limits ring.time ring.pairs list ≡ old → ring'.time ≡ ring.time → IsKept limits ring' look' list' → Stays old (table_by limits ring'.time ring'.pairs list')
stays_by old limits ring ring' look' list list' view time it =
    let P : Table → Type 0 = λ v. Stays v (table_by limits ring'.time ring'.pairs list') in
    subst P view (record { limits = refl; time = time; sound = sound_by limits ring' look' list' it })

-- a torrent without a peer is that of what is stored without it
pub without_by : (who : Endpoint) (pair : InfoHash × ℕ) (stored : Stored)
    → torrent_by pair (record stored { swarm = swarms.with_family (family_of who.addr) stored.swarm (peers.without_peer who (swarms.of_family (family_of who.addr) stored.swarm)) }) ≡ without_peer who (torrent_by pair stored)
without_by who pair stored = by_family (family_of who.addr) who pair stored
  where
    by_family : (family : Family) (who : Endpoint) (pair : InfoHash × ℕ) (stored : Stored)
        → torrent_by pair (record stored { swarm = swarms.with_family family stored.swarm (peers.without_peer who (swarms.of_family family stored.swarm)) }) ≡ with_family family (peers.without_peer who (of_family family (torrent_by pair stored))) (torrent_by pair stored)
    by_family Four who pair stored = refl
    by_family Six who pair stored = refl
