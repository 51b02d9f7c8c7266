-- What keeps a table makes it sound.
use Rattle.std.proofs.Common.{◌≡◌, ℕ, ◌+◌, ◌-◌, ◌<◌, ◌≤◌, true, false, ◌&&◌, nat_lt, List, [], ◌∷◌, ◌++◌, Option, refl, sym, ◌∙◌, ap, subst, length, map, arith}
use Rattle.std.specs.List.{All, AllByRecursion, IsDistinct}
use Rattle.std.proofs.lemmas.Bool.Decides.{nat_tests}
use Rattle.std.proofs.lemmas.List.{length-append}
use Rattle.std.proofs.lemmas.List.Elements.{All-from_recursion, recursion_from_All}
use Rattle.ot_base.specs.Address.{family_of}
use Rattle.ot_base.specs.Same.{same_endpoint, same_family, same_hash}
use Rattle.ot_base.proofs.SameLemmas.{same_endpoint_decides}
use Rattle.ot_base.specs.declared.address.Endpoint.{Endpoint}
use Rattle.ot_base.specs.declared.address.Family.{Family}
use Rattle.ot_base.specs.declared.address.Family.TheVariants.{Four, Six}
use Rattle.ot_base.specs.declared.hash.InfoHash.{InfoHash}
use Rattle.ot_base.specs.declared.peer.Held.{Held}
use Rattle.ot_base.specs.declared.peer.Limits.{Limits}
use Rattle.age_ring.specs.Ring.{IsYoung, Ring, items_of}
use Rattle.tracker_model.specs.Shape.{Torrent, is_known_in, peers_of}
use Rattle.tracker_model.specs.Stands.{IsTidy, are_of}
use Rattle.tracker_model.specs.declared.limits.TheConstants.{TORRENT_MINUTES}
use Rattle.tracker_model.proofs.Cases.{by_test}
use Rattle.swarm.specs.Peers.{endpoints_of}
use Rattle.bucket.specs.Stored.{IsFit, IsTidySwarm, torrent_by}
use Rattle.bucket.specs.Table.{IsKept, IsSound, Table, torrents_by}
use Rattle.bucket.specs.declared.stored.Stored.{Stored}
use Rattle.bucket.proofs.Indexed.{indexed_distinct}
use Rattle.bucket.proofs.TableLemmas.{hashes_by, length_by}

same_family_self : (f : Family) → same_family f f ≡ true
same_family_self Four = refl
same_family_self Six = refl

are_of_each : (f : Family) (peers : List Held) → AllByRecursion (λ peer. family_of peer.who.addr ≡ f) peers → are_of f peers ≡ true
are_of_each f [] all = refl
are_of_each f (h ∷ peers) all =
    ap (λ b. b && are_of f peers) (ap (λ g. same_family g f) all.0 ∙ same_family_self f) ∙ are_of_each f peers all.1

-- endpoints of different families differ
four_or_six : Four ≡ Six → ⊥
four_or_six e = cc

family_apart : (e d : Endpoint) → family_of e.addr ≡ Four → family_of d.addr ≡ Six → same_endpoint e d ≡ false
family_apart e d four six =
    by_test (same_endpoint e d) (same_endpoint e d ≡ false)
    (λ yes. absurd (four_or_six (sym four ∙ ap (λ (x : Endpoint). family_of x.addr) ((same_endpoint_decides e d).0 yes) ∙ six)))
    (λ no. no)

apart_from_six : (e : Endpoint) (peers : List Held) → family_of e.addr ≡ Four → AllByRecursion (λ peer. family_of peer.who.addr ≡ Six) peers → AllByRecursion (λ d. same_endpoint e d ≡ false) (map (λ peer. peer.who) peers)
apart_from_six e [] four all = tt
apart_from_six e (h ∷ peers) four all = (family_apart e h.who four all.0, apart_from_six e peers four all.1)

apart_both : (e : Endpoint) (xs ys : List Held) → AllByRecursion (λ d. same_endpoint e d ≡ false) (map (λ peer. peer.who) xs) → AllByRecursion (λ d. same_endpoint e d ≡ false) (map (λ peer. peer.who) ys)
    → AllByRecursion (λ d. same_endpoint e d ≡ false) (map (λ peer. peer.who) (xs ++ ys))
apart_both e [] ys front back = back
apart_both e (x ∷ xs) ys front back = (front.0, apart_both e xs ys front.1 back)

distinct_both : (fours sixes : List Held) → AllByRecursion (λ peer. family_of peer.who.addr ≡ Four) fours → AllByRecursion (λ peer. family_of peer.who.addr ≡ Six) sixes
    → IsDistinct same_endpoint (endpoints_of fours) → IsDistinct same_endpoint (endpoints_of sixes) → IsDistinct same_endpoint (map (λ peer. peer.who) (fours ++ sixes))
unfolding IsDistinct
distinct_both [] sixes four six apart apart_too = apart_too
distinct_both (x ∷ xs) sixes four six apart apart_too = (
  apart_both x.who xs sixes apart.0 (apart_from_six x.who sixes four.0 six),
  distinct_both xs sixes four.1 six apart.1 apart_too,
)

tidy_by : (p : InfoHash × ℕ) (s : Stored) → IsTidySwarm s.swarm → IsTidy (torrent_by p s)
tidy_by p s it =
    let four = recursion_from_All (λ (peer : Held). family_of peer.who.addr ≡ Four) s.swarm.fours it.four in
    let six = recursion_from_All (λ (peer : Held). family_of peer.who.addr ≡ Six) s.swarm.sixes it.six in
    record {
      distinct = distinct_both s.swarm.fours s.swarm.sixes four six it.fours it.sixes;
      in_fours = are_of_each Four s.swarm.fours four;
      in_sixes = are_of_each Six s.swarm.sixes six;
    }

all_tidy : (limit time : ℕ) (pairs : List (InfoHash × ℕ)) (list : List Stored) → AllByRecursion (IsFit limit time) list → AllByRecursion IsTidy (torrents_by pairs list)
all_tidy limit time [] list all = tt
all_tidy limit time (p ∷ pairs) [] all = tt
all_tidy limit time (p ∷ pairs) (s ∷ list) all = (tidy_by p s all.0.tidy, all_tidy limit time pairs list all.1)

all_within : (limit time : ℕ) (pairs : List (InfoHash × ℕ)) (list : List Stored) → AllByRecursion (IsFit limit time) list → AllByRecursion (λ t. length (peers_of t) ≤ limit) (torrents_by pairs list)
all_within limit time [] list all = tt
all_within limit time (p ∷ pairs) [] all = tt
all_within limit time (p ∷ pairs) (s ∷ list) all =
    let few : length (peers_of (torrent_by p s)) ≤ limit = omega (arith, all.0.few, length-append s.swarm.fours s.swarm.sixes) in
    (few, all_within limit time pairs list all.1)

young_known : (time touch : ℕ) → time < touch + TORRENT_MINUTES → nat_lt (time - touch) TORRENT_MINUTES ≡ true
young_known time touch young = let less : time - touch < TORRENT_MINUTES = omega arith in grind (arith, nat_tests)

all_known : (time : ℕ) (pairs : List (InfoHash × ℕ)) (list : List Stored) → AllByRecursion (IsYoung TORRENT_MINUTES time) pairs → AllByRecursion (λ t. is_known_in time t ≡ true) (torrents_by pairs list)
all_known time [] list all = tt
all_known time (p ∷ pairs) [] all = tt
all_known time (p ∷ pairs) (s ∷ list) all = (young_known time p.1 all.0, all_known time pairs list all.1)

pub known_by : (time : ℕ) (pairs : List (InfoHash × ℕ)) (list : List Stored) → All (IsYoung TORRENT_MINUTES time) pairs → All (λ t. is_known_in time t ≡ true) (torrents_by pairs list)
known_by time pairs list young =
    All-from_recursion (λ t. is_known_in time t ≡ true) (torrents_by pairs list) (all_known time pairs list (recursion_from_All (IsYoung TORRENT_MINUTES time) pairs young))

-- the table that fields make
abbrev pub table_by : Limits → ℕ → List (InfoHash × ℕ) → List Stored → Table
table_by limits time pairs list = record { limits = limits; time = time; torrents = torrents_by pairs list }

pub sound_by : (limits : Limits) (ring : Ring InfoHash) (look : InfoHash → Option ℕ) (list : List Stored) → IsKept limits ring look list → IsSound (table_by limits ring.time ring.pairs list)
sound_by limits ring look list it =
    let fit = recursion_from_All (IsFit limits.peers ring.time) list it.each in
    let torrents = torrents_by ring.pairs list in
    let P : List InfoHash → Type 0 = λ l. IsDistinct same_hash l in
    record {
      limited = it.limited;
      tidy = record {
        distinct = subst P (sym (hashes_by ring.pairs list it.as_many)) (indexed_distinct (items_of ring.pairs) look it.indexed);
        each = all_tidy limits.peers ring.time ring.pairs list fit;
      };
      known = known_by ring.time ring.pairs list it.young;
      within = record {
        few = omega (arith, it.few, it.as_many, length_by ring.pairs list it.as_many);
        each = All-from_recursion (λ (t : Torrent). length (peers_of t) ≤ limits.peers) torrents (all_within limits.peers ring.time ring.pairs list fit);
      };
    }
