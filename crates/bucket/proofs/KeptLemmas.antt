-- What forgetting, dropping stale peers, taking part and leaving make of what is live and known.
use Rattle.std.proofs.Common.{◌≡◌, ℕ, ◌-◌, ◌≤◌, true, false, not, ◌&&◌, List, [], ◌∷◌, Option, Some, None, refl, sym, ◌∙◌, ap, subst, arith, nat_lt, cond, if◌then◌else◌}
use Rattle.std.specs.List.{AllByRecursion, AllZip, slice_get}
use Rattle.std.specs.Option.{is_some, option_map, option_map_or}
use Rattle.std.proofs.Math.ListN.{set}
use Rattle.std.proofs.lemmas.List.Elements.{All-from_recursion}
use Rattle.ot_base.specs.Address.{family_of}
use Rattle.ot_base.specs.Same.{same_hash, same_endpoint, same_family}
use Rattle.ot_base.proofs.SameLemmas.{same_endpoint_decides}
use Rattle.ot_base.specs.declared.hash.InfoHash.{InfoHash}
use Rattle.ot_base.specs.declared.address.Endpoint.{Endpoint}
use Rattle.ot_base.specs.declared.address.Family.{Family}
use Rattle.ot_base.specs.declared.address.Family.TheVariants.{Four, Six}
use Rattle.ot_base.specs.declared.peer.Held.{Held}
use Rattle.tracker_model.specs.Known.{Standing, if_known, is_known, is_seed, known, touch_of, downloaded_of}
use Rattle.tracker_model.specs.Live.{if_live, live}
use Rattle.tracker_model.specs.Shape.{Torrent, peers_of, held_of, torrent_of, live_in, known_in, is_known_in, downloads_in}
use Rattle.tracker_model.specs.Stands.{AreTidy, IsTidy, Keeps}
use Rattle.tracker_model.specs.Steps.{SameAt, Puts, Takes, one_more}
use Rattle.tracker_model.specs.declared.entry.Entry.{Entry}
use Rattle.tracker_model.specs.declared.limits.TheConstants.{TORRENT_MINUTES}
use Rattle.tracker_model.proofs.Cases.{by_test}
use Rattle.tracker_model.proofs.CountLemmas.{is_some-known}
use Rattle.tracker_model.proofs.KindLemmas.{same_family-is}
use Rattle.tracker_model.proofs.KnownLemmas.{zero_recent}
use Rattle.tracker_model.proofs.LawLemmas.{live_is_known}
use Rattle.tracker_model.proofs.LiveLemmas.{zero_live, if_live-later}
use Rattle.swarm.specs.Peers.{put_peer}
use Rattle.swarm.specs.Peers as peers
use Rattle.swarm.proofs.FoundLemmas.{found_put, found_take}
use Rattle.bucket.specs.Torrents.{Freshens, of_family, place_of, with_family, with_peer, without_peer}
use Rattle.bucket.specs.Torrents.{if_known as kept_torrent}
use Rattle.bucket.specs.declared.joining.Joining.{Joining}
use Rattle.bucket.proofs.Families.{AreInFamilies, family_apart, family_distinct, held_of-family, held_with, in_families, same_itself}
use Rattle.bucket.proofs.LivePeers.{held_fresh}
use Rattle.bucket.proofs.Looked.{all_found, by_hash, flipped, found_at, found_set, hash_found, itself}

-- what is live and known of a torrent that was looked up
abbrev pub live_found : ℕ → Endpoint → Option Torrent → Option Held
live_found minute e o = if_live minute (held_of (option_map_or peers_of o []) e)

abbrev pub standing : Torrent → Standing
standing t = record { touch = t.touch; downloaded = t.downloaded }

abbrev pub known_found : ℕ → Option Torrent → Option Standing
known_found minute o = if_known minute (option_map standing o)

pub live-live : (minute : ℕ) (o : Option Held) → if_live minute (if_live minute o) ≡ if_live minute o
live-live minute o = let le : minute ≤ minute = omega arith in if_live-later minute minute le o

pub tidy_found : (torrents : List Torrent) (h : InfoHash) (t : Torrent) → AreTidy torrents → torrent_of torrents h ≡ Some t → IsTidy t
tidy_found torrents h t tidy found = all_found IsTidy torrents h t (All-from_recursion IsTidy torrents tidy.each) found

-- ---- torrents that aren't known go

-- a torrent that isn't known tells nothing, and is no loss
known-kept : (minute : ℕ) (o : Option Torrent) → known_found minute (kept_torrent minute o) ≡ known_found minute o
known-kept minute None = refl
known-kept minute (Some t) =
    by_test (is_known_in minute t) (known_found minute (kept_torrent minute (Some t)) ≡ known_found minute (Some t))
    (λ yes. ap (λ b. known_found minute (if b then Some t else None)) yes)
    (λ no. ap (λ b. known_found minute (if b then Some t else None)) no ∙ sym (ap (λ b. if b then Some (standing t) else None) no))

live-kept : (minute : ℕ) (e : Endpoint) (o : Option Torrent) → (known_found minute o ≡ None → live_found minute e o ≡ None) → live_found minute e (kept_torrent minute o) ≡ live_found minute e o
live-kept minute e None gone = refl
live-kept minute e (Some t) gone =
    by_test (is_known_in minute t) (live_found minute e (kept_torrent minute (Some t)) ≡ live_found minute e (Some t))
    (λ yes. ap (λ b. live_found minute e (if b then Some t else None)) yes)
    (λ no. ap (λ b. live_found minute e (if b then Some t else None)) no ∙ sym (gone (ap (λ b. if b then Some (standing t) else None) no)))

-- where a history knows nothing of a torrent, none of its peers is live
unlive : (past : List Entry) (h : InfoHash) (e : Endpoint) (minute : ℕ) → known past h minute ≡ None → live past h e minute ≡ None
unlive past h e minute unknown = by_live (live past h e minute) refl
  where
    some_known : is_some (known past h minute) ≡ is_known past h minute
    some_known = is_some-known minute (λ touch. record { touch = touch; downloaded = downloaded_of past h }) (λ touch. refl) (touch_of past h)

    by_live : (o : Option Held) → live past h e minute ≡ o → live past h e minute ≡ None
    by_live None is = is
    by_live (Some held) is =
        absurd (let clash : is_some (known past h minute) ≡ true = some_known ∙ live_is_known past h e minute held is in
        let none : is_some (known past h minute) ≡ false = ap (λ o. is_some o) unknown in let e : true ≡ false = sym clash ∙ none in cc)

pub same_forgotten : (past : List Entry) (minute : ℕ) (old kept : List Torrent) → Keeps past minute old → AreTidy kept → ((h : InfoHash) → torrent_of kept h ≡ kept_torrent minute (torrent_of old h)) → SameAt minute old kept
same_forgotten past minute old kept keeps tidy found = record {
  tidy = tidy;
  peers = λ h e. ap (λ o. live_found minute e o) (found h)
      ∙ live-kept minute e (torrent_of old h)
      (λ none. keeps.peers h e ∙ unlive past h e minute (sym (keeps.torrents h) ∙ none));
  torrents = λ h. ap (λ o. known_found minute o) (found h) ∙ known-kept minute (torrent_of old h);
}

-- ---- stale peers go

-- of the torrent at a place
module _ (minute : ℕ) (h : InfoHash) (i : ℕ) (old : List Torrent) (before after : Torrent) (tidy : AreTidy old) (at : place_of h old ≡ Some i) (stood : slice_get old i ≡ Some before) (fresh : Freshens minute before after) where
  pub found_before : torrent_of old h ≡ Some before
  found_before = found_at (λ u. same_hash h u.hash) old i before at stood

  pub hash_after : after.hash ≡ h
  hash_after = fresh.hash ∙ hash_found old h before found_before

  pub tidy_before : IsTidy before
  tidy_before = tidy_found old h before tidy found_before

  pub same_turned : AreTidy (set old i after) → SameAt minute old (set old i after)
  same_turned tidy_new = record {
    tidy = tidy_new;
    peers = λ k e. ap (λ o. live_found minute e o) (found_set h old i after at hash_after k) ∙ by_hash k h (live_found minute e (if same_hash k h then Some after else torrent_of old k) ≡ live_in minute old k e)
        (λ same.
        ap (λ g. live_found minute e (if same_hash g h then Some after else torrent_of old g)) same
        ∙ ap (λ b. live_found minute e (if b then Some after else torrent_of old h)) (itself h)
        ∙ ap (λ o. if_live minute o) (held_fresh minute before after tidy_before fresh e) ∙ live-live minute (held_of (peers_of before) e)
        ∙ sym (ap (λ g. live_in minute old g e) same ∙ ap (λ o. live_found minute e o) found_before))
        (λ apart. ap (λ b. live_found minute e (if b then Some after else torrent_of old k)) apart);
    torrents = λ k. ap (λ o. known_found minute o) (found_set h old i after at hash_after k) ∙ by_hash k h (known_found minute (if same_hash k h then Some after else torrent_of old k) ≡ known_in minute old k)
        (λ same.
        let touched : standing after ≡ standing before = λ i. record { touch = fresh.touch i; downloaded = fresh.downloaded i } in
        ap (λ g. known_found minute (if same_hash g h then Some after else torrent_of old g)) same
        ∙ ap (λ b. known_found minute (if b then Some after else torrent_of old h)) (itself h)
        ∙ ap (λ s. if_known minute (Some s)) touched
        ∙ sym (ap (λ g. known_in minute old g) same ∙ ap (λ o. known_found minute o) found_before))
        (λ apart. ap (λ b. known_found minute (if b then Some after else torrent_of old k)) apart);
  }

-- of all torrents
same_zipped : (minute : ℕ) (old new : List Torrent) → AllByRecursion IsTidy old → AllZip (Freshens minute) old new →
    (h : InfoHash) → ((e : Endpoint) → live_in minute new h e ≡ live_in minute old h e) × (known_in minute new h ≡ known_in minute old h)
same_zipped minute [] [] tidy zipped h = (λ e. refl, refl)
same_zipped minute [] (a ∷ new) tidy zipped h = absurd zipped
same_zipped minute (b ∷ old) [] tidy zipped h = absurd zipped
same_zipped minute (b ∷ old) (a ∷ new) tidy zipped h =
    let fresh = zipped.0 in
    let Goal : Type 0 = ((e : Endpoint) → live_in minute (a ∷ new) h e ≡ live_in minute (b ∷ old) h e) × (known_in minute (a ∷ new) h ≡ known_in minute (b ∷ old) h) in
    let named : same_hash h a.hash ≡ same_hash h b.hash = ap (λ g. same_hash h g) fresh.hash in
    by_test (same_hash h b.hash) Goal
    (λ yes. (
      λ e. ap (λ t. live_found minute e (cond t (Some a) (torrent_of new h))) (named ∙ yes)
          ∙ ap (λ o. if_live minute o) (held_fresh minute b a tidy.0 fresh e) ∙ live-live minute (held_of (peers_of b) e)
          ∙ sym (ap (λ t. live_found minute e (cond t (Some b) (torrent_of old h))) yes),
      let touched : standing a ≡ standing b = λ i. record { touch = fresh.touch i; downloaded = fresh.downloaded i } in
          ap (λ t. known_found minute (cond t (Some a) (torrent_of new h))) (named ∙ yes) ∙ ap (λ s. if_known minute (Some s)) touched
          ∙ sym (ap (λ t. known_found minute (cond t (Some b) (torrent_of old h))) yes),
    ))
    (λ no.
    let rest = same_zipped minute old new tidy.1 zipped.1 h in (
      λ e. ap (λ t. live_found minute e (cond t (Some a) (torrent_of new h))) (named ∙ no) ∙ rest.0 e ∙ sym (ap (λ t. live_found minute e (cond t (Some b) (torrent_of old h))) no),
      ap (λ t. known_found minute (cond t (Some a) (torrent_of new h))) (named ∙ no) ∙ rest.1 ∙ sym (ap (λ t. known_found minute (cond t (Some b) (torrent_of old h))) no),
    ))

pub same_freshened : (minute : ℕ) (old new : List Torrent) → AreTidy old → AreTidy new → AllZip (Freshens minute) old new → SameAt minute old new
same_freshened minute old new tidy tidy_new zipped = record {
  tidy = tidy_new;
  peers = λ h e. (same_zipped minute old new tidy.each zipped h).0 e;
  torrents = λ h. (same_zipped minute old new tidy.each zipped h).1;
}

-- ---- an endpoint takes part

pub hash_joined : (minute : ℕ) (j : Joining) (t : Torrent) → (with_peer minute j t).hash ≡ t.hash
hash_joined minute j t = by_family (family_of j.who.addr) _ _
  where
    by_family : (f : Family) (l : List Held) (count : ℕ) → (with_family f l (record t { touch = minute; downloaded = count })).hash ≡ t.hash
    by_family Four l count = refl
    by_family Six l count = refl

pub touch_joined : (minute : ℕ) (j : Joining) (t : Torrent) → (with_peer minute j t).touch ≡ minute
touch_joined minute j t = by_family (family_of j.who.addr) _ _
  where
    by_family : (f : Family) (l : List Held) (count : ℕ) → (with_family f l (record t { touch = minute; downloaded = count })).touch ≡ minute
    by_family Four l count = refl
    by_family Six l count = refl

downloaded_joined : (minute : ℕ) (j : Joining) (t : Torrent) →
    (with_peer minute j t).downloaded ≡ one_more (j.completed && not (is_seed (held_of (of_family (family_of j.who.addr) t) j.who))) t.downloaded
downloaded_joined minute j t = by_family (family_of j.who.addr) _ _
  where
    by_family : (f : Family) (l : List Held) (count : ℕ) → (with_family f l (record t { touch = minute; downloaded = count })).downloaded ≡ count
    by_family Four l count = refl
    by_family Six l count = refl

of_family-touched : (f : Family) (t : Torrent) (touch count : ℕ) → of_family f (record t { touch = touch; downloaded = count }) ≡ of_family f t
of_family-touched Four t touch count = refl
of_family-touched Six t touch count = refl

other_way : (a b : Endpoint) → same_endpoint a b ≡ false → same_endpoint b a ≡ false
other_way a b apart =
    by_test (same_endpoint b a) (same_endpoint b a ≡ false)
    (λ yes. absurd (let clash : true ≡ false = sym ((same_endpoint_decides a b).1 (sym ((same_endpoint_decides b a).0 yes))) ∙ apart in cc))
    (λ no. no)

-- an endpoint of another family is another endpoint
apart_by_family : (e d : Endpoint) → same_family (family_of e.addr) (family_of d.addr) ≡ false → same_endpoint e d ≡ false
apart_by_family e d other = family_apart (family_of d.addr) e d other (same_itself (family_of d.addr))

held_joined : (minute : ℕ) (j : Joining) (t : Torrent) (e : Endpoint) → AreInFamilies t → AreInFamilies (with_peer minute j t) →
    held_of (peers_of (with_peer minute j t)) e ≡ (if same_endpoint e j.who then Some (record { who = j.who; seed = j.seed; stamp = record { 0 = minute } }) else held_of (peers_of t) e)
held_joined minute j t e it after =
    let g = family_of j.who.addr in
    let held : Held = record { who = j.who; seed = j.seed; stamp = record { 0 = minute } } in
    let Goal : Option Held → Type 0 = λ o. o ≡ (if same_endpoint e j.who then Some held else held_of (peers_of t) e) in
    held_with g (put_peer held (of_family g t)) _ t it after (λ f. of_family-touched f t _ _) e
    ∙ by_test (same_family (family_of e.addr) g) (Goal (if same_family (family_of e.addr) g then held_of (put_peer held (of_family g t)) e else held_of (peers_of t) e))
    (λ own.
    ap (λ b. if b then held_of (put_peer held (of_family g t)) e else held_of (peers_of t) e) own
    ∙ found_put held (of_family g t) e
    ∙ ap (λ o. if same_endpoint e j.who then Some held else o) (sym (held_of-family g t e it (same_of own))))
    (λ other.
    ap (λ b. if b then held_of (put_peer held (of_family g t)) e else held_of (peers_of t) e) other
    ∙ sym (ap (λ b. if b then Some held else held_of (peers_of t) e) (apart_by_family e j.who other)))
  where
    same_of : same_family (family_of e.addr) (family_of j.who.addr) ≡ true → family_of e.addr ≡ family_of j.who.addr
    same_of own = same_family-is (family_of e.addr) (family_of j.who.addr) own

-- in the torrent of its hash, by what is found in that torrent and in the list
module _ (minute : ℕ) (j : Joining) (t : Torrent) (it : AreInFamilies t) (old new : List Torrent) where
  pub puts_joined : AreTidy new → torrent_of new j.hash ≡ Some (with_peer minute j t) →
      ((g : InfoHash) → same_hash j.hash g ≡ false → torrent_of new g ≡ torrent_of old g) →
      ((e : Endpoint) → live_in minute old j.hash e ≡ held_of (peers_of t) e) →
      downloads_in (known_in minute old j.hash) ≡ t.downloaded →
      Puts minute j.hash j.who j.seed j.completed old new
  puts_joined all found others live count =
      let held : Held = record { who = j.who; seed = j.seed; stamp = record { 0 = minute } } in
      let after : Torrent = with_peer minute j t in
      let told = λ (touch downloaded : ℕ). (let s : Standing = record { touch = touch; downloaded = downloaded } in s) in
      let looked = λ (e : Endpoint). (let p : live_in minute new j.hash e ≡ if_live minute (if same_endpoint e j.who then Some held else held_of (peers_of t) e) =
      ap (λ o. live_found minute e o) found ∙ ap (λ o. if_live minute o) (held_joined minute j t e it (in_families after (tidy_found new j.hash after all found))) in p) in
      let own : same_endpoint j.who j.who ≡ true = (same_endpoint_decides j.who j.who).1 refl in
      record {
        tidy = all;
        peer = looked j.who
            ∙ ap (λ b. if_live minute (if b then Some held else held_of (peers_of t) j.who)) own
            ∙ ap (λ b. if b then Some held else None) (zero_live minute);
        other_peers = λ g e apart. by_hash j.hash g (live_in minute new g e ≡ live_in minute old g e)
            (λ same.
            let At : InfoHash → Type 0 = λ k. live_in minute new k e ≡ live_in minute old k e in
            let other : same_endpoint j.who e ≡ false = sym (ap (λ b. b && same_endpoint j.who e) (ap (λ k. same_hash j.hash k) (sym same) ∙ itself j.hash)) ∙ apart in
            subst At same
            (looked e ∙ ap (λ b. if_live minute (if b then Some held else held_of (peers_of t) e)) (other_way j.who e other)
            ∙ ap (λ o. if_live minute o) (sym (live e)) ∙ live-live minute (held_of (option_map_or peers_of (torrent_of old j.hash) []) e)))
            (λ no. ap (λ o. live_found minute e o) (others g no));
        torrent = ap (λ o. known_found minute o) found
            ∙ ap (λ n. if nat_lt (minute - n) TORRENT_MINUTES then Some (told n after.downloaded) else None) (touch_joined minute j t)
            ∙ ap (λ b. if b then Some (told minute after.downloaded) else None) (zero_recent minute)
            ∙ ap (λ n. Some (told minute n)) (downloaded_joined minute j t
            ∙ ap (λ o. one_more (j.completed && not (is_seed o)) t.downloaded) (sym (held_of-family (family_of j.who.addr) t j.who it refl) ∙ sym (live j.who))
            ∙ ap (λ n. one_more (j.completed && not (is_seed (live_in minute old j.hash j.who))) n) (sym count));
        other_torrents = λ g apart. ap (λ o. known_found minute o) (others g apart);
      }

-- ---- an endpoint leaves

held_left : (who : Endpoint) (t : Torrent) (e : Endpoint) → IsTidy t → AreInFamilies (without_peer who t) →
    held_of (peers_of (without_peer who t)) e ≡ (if same_endpoint e who then None else held_of (peers_of t) e)
held_left who t e tidy after =
    let g = family_of who.addr in
    let left = peers.without_peer who (of_family g t) in
    let it = in_families t tidy in
    let Goal : Option Held → Type 0 = λ o. o ≡ (if same_endpoint e who then None else held_of (peers_of t) e) in
    held_with g left t t it after (λ f. refl) e
    ∙ by_test (same_family (family_of e.addr) g) (Goal (if same_family (family_of e.addr) g then held_of left e else held_of (peers_of t) e))
    (λ own.
    ap (λ b. if b then held_of left e else held_of (peers_of t) e) own
    ∙ found_take who (of_family g t) e (family_distinct g t tidy)
    ∙ ap (λ o. if same_endpoint e who then None else o) (sym (held_of-family g t e it (same_family-is (family_of e.addr) g own))))
    (λ other.
    ap (λ b. if b then held_of left e else held_of (peers_of t) e) other
    ∙ sym (ap (λ b. if b then None else held_of (peers_of t) e) (apart_by_family e who other)))

module _ (minute : ℕ) (h : InfoHash) (who : Endpoint) (i : ℕ) (old : List Torrent) (before : Torrent) (tidy : AreTidy old) (at : place_of h old ≡ Some i) (stood : slice_get old i ≡ Some before) where
  abbrev left : Torrent
  left = without_peer who before

  before_found : torrent_of old h ≡ Some before
  before_found = found_at (λ u. same_hash h u.hash) old i before at stood

  like : (f : Family) (l : List Held) → ((with_family f l before).hash ≡ before.hash) × (standing (with_family f l before) ≡ standing before)
  like Four l = (refl, refl)
  like Six l = (refl, refl)

  pub hash_left : left.hash ≡ h
  hash_left = (like (family_of who.addr) _).0 ∙ hash_found old h before before_found

  pub takes_left : AreTidy (set old i left) → Takes minute h who old (set old i left)
  takes_left tidy_new =
      let looked = found_set h old i left at hash_left in
      let there : torrent_of (set old i left) h ≡ Some left = looked h ∙ ap (λ b. if b then Some left else torrent_of old h) (itself h) in
      let after = in_families left (tidy_found (set old i left) h left tidy_new there) in
      let one = tidy_found old h before tidy before_found in
      let own : same_endpoint who who ≡ true = (same_endpoint_decides who who).1 refl in
      record {
        tidy = tidy_new;
        peer = ap (λ o. live_found minute who o) there ∙ ap (λ o. if_live minute o) (held_left who before who one after ∙ ap (λ b. if b then None else held_of (peers_of before) who) own);
        other_peers = λ k d apart. by_hash h k (live_in minute (set old i left) k d ≡ live_in minute old k d)
            (λ same.
            let At : InfoHash → Type 0 = λ g. live_in minute (set old i left) g d ≡ live_in minute old g d in
            let other : same_endpoint who d ≡ false = sym (ap (λ b. b && same_endpoint who d) (ap (λ g. same_hash h g) (sym same) ∙ itself h)) ∙ apart in
            subst At same
            (ap (λ o. live_found minute d o) there ∙ ap (λ o. if_live minute o) (held_left who before d one after ∙ ap (λ b. if b then None else held_of (peers_of before) d) (other_way who d other))
            ∙ sym (ap (λ o. live_found minute d o) before_found)))
            (λ no. ap (λ o. live_found minute d o) (looked k ∙ ap (λ b. if b then Some left else torrent_of old k) (flipped h k no)));
        torrents = λ k. ap (λ o. known_found minute o) (looked k) ∙ by_hash k h (known_found minute (if same_hash k h then Some left else torrent_of old k) ≡ known_in minute old k)
            (λ same.
            ap (λ g. known_found minute (if same_hash g h then Some left else torrent_of old g)) same
            ∙ ap (λ b. known_found minute (if b then Some left else torrent_of old h)) (itself h)
            ∙ ap (λ s. if_known minute (Some s)) (like (family_of who.addr) _).1
            ∙ sym (ap (λ g. known_in minute old g) same ∙ ap (λ o. known_found minute o) before_found))
            (λ apart. ap (λ b. known_found minute (if b then Some left else torrent_of old k)) apart);
      }
