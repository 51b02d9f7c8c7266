-- What the steps of a call leave, put together.
use Rattle.std.proofs.Common.{◌≡◌, ℕ, zero, suc, Bool, true, false, if◌then◌else◌, List, [], ◌∷◌, Option, Some, None, Result, Ok, Err, IfOk, refl, sym, ◌∙◌, ap, subst, length}
use Rattle.std.specs.List.{slice_get}
use Rattle.std.specs.Option.{is_some, option_map_or, MatchOption}
use Rattle.std.proofs.Math.ListN.{set}
use Rattle.std.proofs.lemmas.List.Folds.{find_at}
use Rattle.ot_base.specs.Address.{family_of}
use Rattle.ot_base.specs.Same.{same_hash}
use Rattle.ot_base.specs.declared.address.Endpoint.{Endpoint}
use Rattle.ot_base.specs.declared.address.Family.{Family}
use Rattle.ot_base.specs.declared.address.Family.TheVariants.{Four, Six}
use Rattle.ot_base.specs.declared.hash.InfoHash.{InfoHash}
use Rattle.ot_base.specs.declared.peer.Counts.{Counts}
use Rattle.ot_base.specs.declared.peer.Held.{Held}
use Rattle.ot_base.specs.declared.peer.Limits.{Limits}
use Rattle.tracker_model.specs.Shape.{Torrent, torrent_of}
use Rattle.swarm.specs.Peers.{choice_of}
use Rattle.swarm.proofs.PlaceLemmas.{find_nowhere}
use Rattle.bucket.specs.Calls.{Adds, Announces, Forgets, Joins, JoinsAt, Opens, Refused, RefusedAt, Refuses, Scrapes, Stays, Stops, found_counts, no_counts}
use Rattle.bucket.specs.Table.{Table}
use Rattle.bucket.specs.Torrents.{Freshens, Turns, is_full_for, new_torrent, of_family, place_of, tally, with_family, with_peer, without_peer}
use Rattle.bucket.specs.declared.joining.Joining.{Joining}
use Rattle.bucket.specs.declared.joining.JoinError.{JoinError}
use Rattle.bucket.specs.declared.joining.JoinError.TheVariants.{SwarmFull, NoMemory}
use Rattle.bucket.proofs.KeptLemmas.{hash_joined}
use Rattle.bucket.proofs.Looked.{first_at, place_push, places_kept}

-- the torrent that stands at the place of a hash is found
at_place : (torrents : List Torrent) (h : InfoHash) (place : ℕ) → Some place ≡ place_of h torrents → slice_get torrents place ≡ torrent_of torrents h
at_place torrents h place stands =
    ap (λ i. slice_get torrents i) (sym (first_at (λ u. same_hash h u.hash) torrents place (sym stands))) ∙ sym (find_at (λ u. same_hash h u.hash) torrents)

-- the place stays where the torrent there changes
place_turned : (h : InfoHash) (old new : List Torrent) (place : ℕ) (Into : Torrent → Torrent → Type 0) → ((b a : Torrent) → Into b a → a.hash ≡ b.hash) → Turns place Into old new → place_of h new ≡ place_of h old
place_turned h old new place Into same turns = ap (λ l. place_of h l) turns.set ∙ places_kept h old place turns.before turns.after turns.stood (same turns.before turns.after turns.turned)

pub opens : (minute : ℕ) (h : InfoHash) (old forgotten new : Table) (place : ℕ) → Forgets minute old forgotten → Some place ≡ place_of h forgotten.torrents → Stays forgotten new →
    Turns place (Freshens forgotten.time) forgotten.torrents new.torrents → Opens minute h old new (Some place)
opens minute h old forgotten new place forgets stands stays turns =
    let F : ℕ → Type 0 = λ n. Turns place (Freshens n) forgotten.torrents new.torrents in
    record {
      forgotten = forgotten;
      forgets = forgets;
      stays = stays;
      stands = stands ∙ sym (place_turned h forgotten.torrents new.torrents place (Freshens forgotten.time) (λ b a fresh. fresh.hash) turns);
      freshens = subst F forgets.time turns;
    }

-- ---- joining

pub place_put : (j : Joining) (old new : Table) (place : ℕ) → JoinsAt {A = Unit {0}} place j old new (Ok tt) → Some place ≡ place_of j.hash old.torrents → Some place ≡ place_of j.hash new.torrents
place_put j old new place it stands =
    stands
    ∙ sym (ap (λ l. place_of j.hash l) it.joins.1
    ∙ places_kept j.hash old.torrents place it.before (with_peer old.time j it.torrent) it.stood (hash_joined old.time j it.torrent ∙ it.freshens.hash))

pub place_added : (j : Joining) (old new : Table) (result : Result ℕ JoinError) → place_of j.hash old.torrents ≡ None → Adds j old new result → IfOk result (λ place. place ≡ length old.torrents) → IfOk result (λ at. Some at ≡ place_of j.hash new.torrents)
place_added j old new (Ok place) none adds last =
    ap Some last ∙ sym (ap (λ l. place_of j.hash l) adds.1 ∙ place_push j.hash old.torrents (with_peer old.time j (new_torrent j.hash)) none (hash_joined old.time j (new_torrent j.hash)))
place_added j old new (Err error) none adds last = tt

-- ---- an announce

joins_as : {A B : Type 0} (o : Option ℕ) (j : Joining) (old new : Table) (a : A) (b : B) → Joins o j old new (Ok a) → Joins o j old new (Ok b)
joins_as None j old new a b it = it
joins_as (Some place) j old new a b it = record { before = it.before; torrent = it.torrent; stood = it.stood; freshens = it.freshens; joins = it.joins }

both : (P Q : Torrent → Type 0) (o : Option Torrent) → MatchOption o ⊥ P → MatchOption o ⊥ Q → MatchOption o ⊥ (λ t. P t × Q t)
both P Q None p q = p
both P Q (Some t) p q = (p, q)

pub announces : (minute : ℕ) (j : Joining) (want : ℕ) (words : List ℕ) (old forgotten new : Table) (told : List Endpoint) (counts : Counts) (place : ℕ) → Forgets minute old forgotten → Stays forgotten new →
    Joins (place_of j.hash forgotten.torrents) j forgotten new (Ok place) → Some place ≡ place_of j.hash new.torrents →
    MatchOption (slice_get new.torrents place) ⊥ (λ torrent. told ≡ choice_of words j.who want (of_family (family_of j.who.addr) torrent)) →
    MatchOption (slice_get new.torrents place) ⊥ (λ torrent. counts ≡ tally torrent) → Announces minute j want words old new told (Ok counts)
announces minute j want words old forgotten new told counts place forgets stays joins stands chosen counted =
    let C : Torrent → Type 0 = λ torrent. counts ≡ tally torrent in
    let D : Torrent → Type 0 = λ torrent. told ≡ choice_of words j.who want (of_family (family_of j.who.addr) torrent) in
    let P : Option Torrent → Type 0 = λ o. MatchOption o ⊥ (λ t. C t × D t) in
    record {
      forgotten = forgotten;
      forgets = forgets;
      stays = stays;
      joins = joins_as (place_of j.hash forgotten.torrents) j forgotten new place counts joins;
      answers = subst P (at_place new.torrents j.hash place stands) (both C D (slice_get new.torrents place) counted chosen);
    }

-- ---- an endpoint that is refused

set_there : {X : Type 0} (xs : List X) (i : ℕ) (y x : X) → slice_get xs i ≡ Some y → slice_get (set xs i x) i ≡ Some x
set_there [] i y x stood = absurd (let clash : None ≡ Some y = stood in cc)
set_there (z ∷ zs) zero y x stood = refl
set_there (z ∷ zs) (suc i) y x stood = set_there zs i y x stood

pub refuses_some : (minute : ℕ) (h : InfoHash) (who : Endpoint) (old new : Table) (place : ℕ) (full : Bool) (error : JoinError) → Opens minute h old new (Some place) →
    MatchOption (slice_get new.torrents place) ⊥ (λ torrent. full ≡ is_full_for new.limits.peers who torrent) → error ≡ (if full then SwarmFull else NoMemory) → Refuses minute h who old new error
refuses_some minute h who old new place full error it is_full meets =
    let kept = it.forgotten in
    let turns = it.freshens in
    let there : slice_get new.torrents place ≡ Some turns.after = ap (λ l. slice_get l place) turns.set ∙ set_there kept.torrents place turns.before turns.after turns.stood in
    let at : place_of h kept.torrents ≡ Some place = sym (place_turned h kept.torrents new.torrents place (Freshens minute) (λ b a fresh. fresh.hash) turns) ∙ sym it.stands in
    let P : Option Torrent → Type 0 = λ o. MatchOption o ⊥ (λ torrent. full ≡ is_full_for new.limits.peers who torrent) in
    let says : full ≡ is_full_for new.limits.peers who turns.after = subst P there is_full in
    let F : ℕ → Type 0 = λ n. Freshens n turns.before turns.after in
    let R : Option ℕ → Type 0 = λ o. Refused o who kept new error in
    let refused : RefusedAt place who kept new error = record {
      before = turns.before;
      torrent = turns.after;
      stood = turns.stood;
      freshens = subst F (sym it.forgets.time) turns.turned;
      set = turns.set;
      meets = meets ∙ ap (λ b. if b then SwarmFull else NoMemory) (says ∙ ap (λ (l : Limits). is_full_for l.peers who turns.after) it.stays.limits);
    } in
    record { forgotten = kept; forgets = it.forgets; stays = it.stays; refused = subst R (sym at) refused }

-- ---- counts that are found

counted_at : (h : InfoHash) (new : Table) (counts : Counts) (place : ℕ) → Some place ≡ place_of h new.torrents → MatchOption (slice_get new.torrents place) ⊥ (λ torrent. counts ≡ tally torrent) →
    (counts ≡ found_counts new h) × (true ≡ is_some (torrent_of new.torrents h))
counted_at h new counts place stands counted =
    let M : Option Torrent → Type 0 = λ o. MatchOption o ⊥ (λ torrent. counts ≡ tally torrent) in
    by_found (torrent_of new.torrents h) (subst M (at_place new.torrents h place stands) counted)
  where
    by_found : (o : Option Torrent) → MatchOption o ⊥ (λ torrent. counts ≡ tally torrent) → (counts ≡ option_map_or tally o no_counts) × (true ≡ is_some o)
    by_found None says = absurd says
    by_found (Some t) says = (says, refl)

unknown_at : (h : InfoHash) (new : Table) → None ≡ place_of h new.torrents → (no_counts ≡ found_counts new h) × (false ≡ is_some (torrent_of new.torrents h))
unknown_at h new stands =
    let none : torrent_of new.torrents h ≡ None = find_nowhere (λ u. same_hash h u.hash) new.torrents (sym stands) in
    (sym (ap (λ o. option_map_or tally o no_counts) none), sym (ap (λ o. is_some o) none))

pub scrapes_some : (minute : ℕ) (h : InfoHash) (old new : Table) (counts : Counts) (place : ℕ) → Opens minute h old new (Some place) →
    MatchOption (slice_get new.torrents place) ⊥ (λ torrent. counts ≡ tally torrent) → Scrapes minute h old new counts true
scrapes_some minute h old new counts place it counted =
    let found = counted_at h new counts place it.stands counted in
    record { place = Some place; opens = it; counted = found.0; stored = found.1 }

pub scrapes_none : (minute : ℕ) (h : InfoHash) (old new : Table) → Opens minute h old new None → Scrapes minute h old new no_counts false
scrapes_none minute h old new it = let found = unknown_at h new it.stands in record { place = None; opens = it; counted = found.0; stored = found.1 }

hash_without : (who : Endpoint) (t : Torrent) → (without_peer who t).hash ≡ t.hash
hash_without who t = by_family (family_of who.addr) _
  where
    by_family : (f : Family) (l : List Held) → (with_family f l t).hash ≡ t.hash
    by_family Four l = refl
    by_family Six l = refl

pub stops_some : (minute : ℕ) (h : InfoHash) (who : Endpoint) (old opened new : Table) (counts : Counts) (place : ℕ) → Opens minute h old opened (Some place) → Stays opened new →
    Turns place (λ before after. after ≡ without_peer who before) opened.torrents new.torrents →
    MatchOption (slice_get new.torrents place) ⊥ (λ torrent. counts ≡ tally torrent) → Stops minute h who old new counts
stops_some minute h who old opened new counts place it stays turns counted =
    let same = place_turned h opened.torrents new.torrents place (λ before after. after ≡ without_peer who before) (λ b a is. ap (λ t. t.hash) is ∙ hash_without who b) turns in
    record {
      opened = opened;
      place = Some place;
      opens = it;
      stays = stays;
      leaves = turns;
      counted = (counted_at h new counts place (it.stands ∙ sym same) counted).0;
    }

pub stops_none : (minute : ℕ) (h : InfoHash) (who : Endpoint) (old opened : Table) → Opens minute h old opened None → Stops minute h who old opened no_counts
stops_none minute h who old opened it = record {
  opened = opened;
  place = None;
  opens = it;
  stays = record { limits = refl; time = refl; sound = it.stays.sound };
  leaves = refl;
  counted = (unknown_at h opened it.stands).0;
}
