-- What an announce makes of a bucket, by the tables before and after it: it stands for the history
-- with the call, and keeps what it promises beside that.
use Rattle.std.proofs.Common.{◌≡◌, ℕ, ◌≤◌, max, Bool, true, false, not, ◌&&◌, List, Option, Some, None, Result, Ok, Err, IfErr, is_err, MatchResult, refl, sym, ◌∙◌, ap, subst, length, if◌then◌else◌}
use Rattle.std.specs.List.{All, slice_get, slice_set}
use Rattle.std.specs.Option.{is_some, is_none, MatchOption}
use Rattle.std.proofs.lemmas.List.Elements.{recursion_from_All}
use Rattle.ot_base.specs.Address.{family_of}
use Rattle.ot_base.specs.Same.{same_hash}
use Rattle.ot_base.specs.declared.hash.InfoHash.{InfoHash}
use Rattle.ot_base.specs.declared.address.Endpoint.{Endpoint}
use Rattle.ot_base.specs.declared.address.Family.TheVariants.{Four, Six}
use Rattle.ot_base.specs.declared.minute.Minute.{Minute}
use Rattle.ot_base.specs.declared.peer.Counts.{Counts}
use Rattle.ot_base.specs.declared.peer.Limits.{Limits}
use Rattle.ot_base.specs.declared.peer.Note.{Note}
use Rattle.tracker_model.specs.Calls.{IsWellFormed}
use Rattle.tracker_model.specs.Kinds.{IsKindOf}
use Rattle.tracker_model.specs.Outbox.{is_drain, note_of}
use Rattle.tracker_model.specs.Settings.{Settings}
use Rattle.tracker_model.specs.Shape.{Shape, Torrent, peers_of, held_of, torrent_of, is_live_in, is_known_in}
use Rattle.tracker_model.specs.Stands.{AreTidy, IsTidy}
use Rattle.tracker_model.specs.declared.answer.Answer.{Answer}
use Rattle.tracker_model.specs.declared.answer.Answer.TheVariants.{Told}
use Rattle.tracker_model.specs.declared.call.Call.{Call}
use Rattle.swarm.specs.Peers.{choice_of, endpoints_of}
use Rattle.swarm.proofs.PlaceLemmas.{find_nowhere}
use Rattle.bucket.specs.Answers.{announced, error_answer}
use Rattle.bucket.specs.Calls.{Announces, Forgets, Joins, Refused, Refuses, Stays, announce_of}
use Rattle.bucket.specs.Outbox.{Gets, OutboxShape, settings_with}
use Rattle.bucket.specs.Public.{AreInOrder, IsChosen, KeepsOrder}
use Rattle.bucket.specs.Table.{Table, IsSound}
use Rattle.bucket.specs.Torrents.{Freshens, of_family, place_of, tally, with_peer}
use Rattle.bucket.specs.Torrents.{if_known as kept_torrent}
use Rattle.bucket.specs.declared.joining.Joining.{Joining}
use Rattle.bucket.specs.declared.joining.JoinError.{JoinError}
use Rattle.bucket.specs.declared.joining.JoinError.TheVariants.{SwarmFull, BucketFull, NoMemory as MemoryIsWanted}
use Rattle.bucket.proofs.Families.{held_of-family, in_families}
use Rattle.bucket.proofs.Judging.{Settles, StandsOn, no_note, note_for, settled, shape_with}
use Rattle.bucket.proofs.KeptLemmas.{found_before, hash_after, hash_joined, tidy_found}
use Rattle.bucket.proofs.Looked.{found_set, itself}
use Rattle.bucket.proofs.OrderLemmas.{order_joined, unchanged}
use Rattle.bucket.proofs.Settling.{IsTold, announce_settles, outcome_of, refuse_settles, refused_of, table_of}
use Rattle.bucket.proofs.ToldLemmas.{choice_kind}

-- a bucket by its table and its outbox
abbrev pub bucket_of : OutboxShape → Table → Shape
bucket_of box t = shape_with t.limits box t.time t.torrents

pub gets_itself : (box : OutboxShape) → Gets None box box
gets_itself box = record { sync = refl; notes = λ l. refl; dropped = λ l. refl }

-- a call that makes no note
pub gets_nothing : (call : Call) (answer : Answer) → note_of call ≡ None → (box : OutboxShape) → Gets (note_for call answer) box box
gets_nothing call answer none box = let G : Option Note → Type 0 = λ n. Gets n box box in subst G (sym (no_note call answer none)) (gets_itself box)

pub as_table : (limits : Limits) (now : ℕ) (t : Table) → t.limits ≡ limits → t.time ≡ now → t ≡ table_of limits now t.torrents
as_table limits now t same_limits same_time = λ i. record { limits = same_limits i; time = same_time i; torrents = t.torrents }

pub on_err : {X E : Type 0} (r : Result X E) (P : Type 0) → is_err r ≡ true → IfErr r (λ _. P) → P
on_err (Ok x) P is it = absurd (let clash : false ≡ true = is in cc)
on_err (Err e) P is it = it

-- the bucket before may be the one of its fields
pub later_as : (minute : Minute) (now : ℕ) (box : OutboxShape) (old : Table) (was : Shape) → bucket_of box old ≡ was → now ≡ max minute.0 was.time → now ≡ max minute.0 old.time
later_as minute now box old was is_old later = later ∙ ap (λ (s : Shape). max minute.0 s.time) (sym is_old)

-- a table from which another one came, when both have the old limits and stand at the minute
module _ (now : ℕ) (old forgotten new : Table) (forgets : Forgets now old forgotten) (stays : Stays forgotten new) where
  pub is_forgotten : forgotten ≡ table_of old.limits now forgotten.torrents
  is_forgotten = as_table old.limits now forgotten forgets.limits forgets.time

  pub is_new : new ≡ table_of old.limits now new.torrents
  is_new = as_table old.limits now new (stays.limits ∙ forgets.limits) (stays.time ∙ forgets.time)

  pub sound_forgotten : IsSound (table_of old.limits now forgotten.torrents)
  sound_forgotten = subst IsSound is_forgotten forgets.sound

  pub sound_new : IsSound (table_of old.limits now new.torrents)
  sound_new = subst IsSound is_new stays.sound

  pub same_limits : new.limits ≡ old.limits
  same_limits = stays.limits ∙ forgets.limits

  -- what settles stands
  pub stands_by : (box next : OutboxShape) (caller : ℕ) (minute : Minute) → now ≡ max minute.0 old.time → (call : Call) (answer : Answer) → is_drain call ≡ false → Gets (note_for call answer) box next → IsWellFormed call →
      Settles (settings_with old.limits box) now call answer forgotten.torrents new.torrents → StandsOn caller minute call answer (bucket_of box old) (bucket_of next new)
  stands_by box next caller minute later call answer drains gets formed settles =
      let S : Table → Type 0 = λ t. StandsOn caller minute call answer (bucket_of box old) (bucket_of next t) in
      subst S (sym is_new) (settled old.limits box next caller minute call answer old.time now old.torrents forgotten.torrents new.torrents drains gets formed later sound_forgotten.tidy forgets.found settles)

-- ---- a torrent of which nothing goes

some_same : (a b : Torrent) → Some a ≡ Some b → a ≡ b
some_same a b e = cc

-- it is left where it is known
found_left : (now : ℕ) (old forgotten : Table) → Forgets now old forgotten → (h : InfoHash) (before : Torrent) → torrent_of old.torrents h ≡ Some before → is_known_in now before ≡ true → torrent_of forgotten.torrents h ≡ Some before
found_left now old forgotten forgets h before found known = forgets.found h ∙ ap (λ o. kept_torrent now o) found ∙ ap (λ b. if b then Some before else None) known

-- it is the one whose stale peers go
fresh_there : (now : ℕ) (h : InfoHash) (i : ℕ) (kept : List Torrent) (before : Torrent) → AreTidy kept → torrent_of kept h ≡ Some before → place_of h kept ≡ Some i → (b torrent : Torrent) → slice_get kept i ≡ Some b → Freshens now b torrent → Freshens now before torrent
fresh_there now h i kept before tidy found at b torrent stood freshens =
    let Fresh : Torrent → Type 0 = λ t. Freshens now t torrent in
    subst Fresh (some_same b before (sym (found_before now h i kept b torrent tidy at stood freshens) ∙ found)) freshens

-- ---- an announce

module _ (now : ℕ) (old new : Table) (j : Joining) (want : ℕ) (few : want ≤ 200) (words : List ℕ) (enough : length words ≡ 200) (told : List Endpoint) (result : Result Counts JoinError) (it : Announces now j want words old new told result) where
  joins_by : Joins (place_of j.hash it.forgotten.torrents) j (table_of old.limits now it.forgotten.torrents) (table_of old.limits now new.torrents) result
  joins_by =
      let F : Table → Type 0 = λ t. Joins (place_of j.hash it.forgotten.torrents) j t new result in
      let N : Table → Type 0 = λ t. Joins (place_of j.hash it.forgotten.torrents) j (table_of old.limits now it.forgotten.torrents) t result in
      subst N (is_new now old it.forgotten new it.forgets it.stays) (subst F (is_forgotten now old it.forgotten new it.forgets it.stays) it.joins)

  pub announce_stands : (box next : OutboxShape) (caller : ℕ) (minute : Minute) → now ≡ max minute.0 old.time → Gets (note_for (announce_of j want) (announced old.limits told result)) box next → IsWellFormed (announce_of j want) →
      StandsOn caller minute (announce_of j want) (announced old.limits told result) (bucket_of box old) (bucket_of next new)
  announce_stands box next caller minute later gets formed =
      let g = settings_with old.limits box in
      let sound = sound_forgotten now old it.forgotten new it.forgets it.stays in
      let sound_after = sound_new now old it.forgotten new it.forgets it.stays in
      stands_by now old it.forgotten new it.forgets it.stays box next caller minute later (announce_of j want) (announced old.limits told result) refl gets formed
      (announce_settles g now j it.forgotten.torrents new.torrents sound_after words enough want few told result
      (outcome_of g now j it.forgotten.torrents new.torrents sound sound_after result joins_by) it.answers)

  -- of the right kind
  told_kind : (g : Settings) (counts : Counts) (o : Option Torrent) → torrent_of new.torrents j.hash ≡ o →
      MatchOption o ⊥ (λ torrent. (counts ≡ tally torrent) × (told ≡ choice_of words j.who want (of_family (family_of j.who.addr) torrent))) → IsKindOf g (announce_of j want) (Told counts told)
  told_kind g counts None found says = absurd says
  told_kind g counts (Some t) found says =
      let K : List Endpoint → Type 0 = λ l. IsKindOf g (announce_of j want) (Told counts l) in
      subst K (sym says.1) (choice_kind words enough j.who want few t (tidy_found new.torrents j.hash t it.stays.sound.tidy found))

  pub announce_kind : (box : OutboxShape) → IsKindOf (settings_with old.limits box) (announce_of j want) (announced old.limits told result)
  announce_kind box = by_result result it.answers
    where
      by_result : (r : Result Counts JoinError) → MatchResult r (λ counts. IsTold words j want new.torrents told counts) (λ error. Unit {0}) → IsKindOf (settings_with old.limits box) (announce_of j want) (announced old.limits told r)
      by_result (Ok counts) says = told_kind (settings_with old.limits box) counts (torrent_of new.torrents j.hash) refl says
      by_result (Err SwarmFull) says = refl
      by_result (Err BucketFull) says = refl
      by_result (Err MemoryIsWanted) says = tt

  -- with the peers that the words choose
  pub announce_chosen : (next : OutboxShape) → IsChosen words (bucket_of next new) (announce_of j want) (announced old.limits told result)
  announce_chosen next = by_result result it.answers
    where
      by_found : (counts : Counts) (o : Option Torrent) → MatchOption o ⊥ (λ torrent. (counts ≡ tally torrent) × (told ≡ choice_of words j.who want (of_family (family_of j.who.addr) torrent))) →
          MatchOption o ⊥ (λ torrent. told ≡ choice_of words j.who want (of_family (family_of j.who.addr) torrent))
      by_found counts None says = says
      by_found counts (Some t) says = says.1

      by_result : (r : Result Counts JoinError) → MatchResult r (λ counts. IsTold words j want new.torrents told counts) (λ error. Unit {0}) → IsChosen words (bucket_of next new) (announce_of j want) (announced old.limits told r)
      by_result (Ok counts) says = by_found counts (torrent_of new.torrents j.hash) says
      by_result (Err SwarmFull) says = tt
      by_result (Err BucketFull) says = tt
      by_result (Err MemoryIsWanted) says = tt

  -- in the order of the torrent, where nothing of it goes and the endpoint is one of its peers
  module _ (before : Torrent) (found : torrent_of old.torrents j.hash ≡ Some before) (known : is_known_in now before ≡ true) (live : All (λ held. is_live_in now held ≡ true) (peers_of before)) (stored : is_some (held_of (peers_of before) j.who) ≡ true) where
    found_kept : torrent_of it.forgotten.torrents j.hash ≡ Some before
    found_kept = found_left now old it.forgotten it.forgets j.hash before found known

    at_place : (i : ℕ) → place_of j.hash it.forgotten.torrents ≡ Some i → (b torrent : Torrent) → slice_get it.forgotten.torrents i ≡ Some b → Freshens now b torrent → (r : Result Counts JoinError) →
        MatchResult r (λ done. new.torrents ≡ slice_set it.forgotten.torrents i (with_peer now j torrent)) (λ error. is_none (held_of (of_family (family_of j.who.addr) torrent) j.who) ≡ true) →
        MatchOption (torrent_of new.torrents j.hash) ⊥ (AreInOrder before)
    at_place i at b torrent stood freshens r joins =
        let tidy_all = (sound_forgotten now old it.forgotten new it.forgets it.stays).tidy in
        let fresh = fresh_there now j.hash i it.forgotten.torrents before tidy_all found_kept at b torrent stood freshens in
        let tidy : IsTidy before = tidy_found it.forgotten.torrents j.hash before tidy_all found_kept in
        let own = family_of j.who.addr in
        let like = unchanged now before torrent fresh (recursion_from_All (λ held. is_live_in now held ≡ true) (peers_of before) live) in
        let there : is_some (held_of (of_family own torrent) j.who) ≡ true =
        ap (λ l. is_some (held_of l j.who)) (like own) ∙ ap (λ o. is_some o) (sym (held_of-family own before j.who (in_families before tidy) refl)) ∙ stored in
        by_result torrent (like Four) (like Six) there (hash_after now j.hash i it.forgotten.torrents b torrent tidy_all at stood freshens) r joins
      where
        by_result : (torrent : Torrent) → torrent.fours ≡ before.fours → torrent.sixes ≡ before.sixes → is_some (held_of (of_family (family_of j.who.addr) torrent) j.who) ≡ true → torrent.hash ≡ j.hash → (r : Result Counts JoinError) →
            MatchResult r (λ done. new.torrents ≡ slice_set it.forgotten.torrents i (with_peer now j torrent)) (λ error. is_none (held_of (of_family (family_of j.who.addr) torrent) j.who) ≡ true) →
            MatchOption (torrent_of new.torrents j.hash) ⊥ (AreInOrder before)
        by_result torrent fours sixes there hash (Ok counts) set_is =
            let after = with_peer now j torrent in
            let stands : torrent_of new.torrents j.hash ≡ Some after =
            ap (λ l. torrent_of l j.hash) set_is ∙ found_set j.hash it.forgotten.torrents i after at (hash_joined now j torrent ∙ hash) j.hash
            ∙ ap (λ b. if b then Some after else torrent_of it.forgotten.torrents j.hash) (itself j.hash) in
            let order = order_joined now j torrent there in
            let P : Option Torrent → Type 0 = λ o. MatchOption o ⊥ (AreInOrder before) in
            subst P (sym stands) (record { fours = order.fours ∙ ap (λ l. endpoints_of l) fours; sixes = order.sixes ∙ ap (λ l. endpoints_of l) sixes })
        by_result torrent fours sixes there hash (Err error) fails = absurd (let clash : false ≡ true = sym (ap (λ b. not b) there) ∙ fails in cc)

    order_at : MatchOption (torrent_of new.torrents j.hash) ⊥ (AreInOrder before)
    order_at = by_place (place_of j.hash it.forgotten.torrents) refl it.joins
      where
        weaker : (torrent : Torrent) (i : ℕ) (full : Bool) (error_is : JoinError → Type 0) (r : Result Counts JoinError) →
            MatchResult r (λ done. ((is_none (held_of (of_family (family_of j.who.addr) torrent) j.who) && full) ≡ false) × (new.torrents ≡ slice_set it.forgotten.torrents i (with_peer it.forgotten.time j torrent)))
            (λ error. (is_none (held_of (of_family (family_of j.who.addr) torrent) j.who) ≡ true) × (new.torrents ≡ slice_set it.forgotten.torrents i torrent) × error_is error) →
            MatchResult r (λ done. new.torrents ≡ slice_set it.forgotten.torrents i (with_peer now j torrent)) (λ error. is_none (held_of (of_family (family_of j.who.addr) torrent) j.who) ≡ true)
        weaker torrent i full error_is (Ok done) joins = joins.1 ∙ ap (λ n. slice_set it.forgotten.torrents i (with_peer n j torrent)) it.forgets.time
        weaker torrent i full error_is (Err error) joins = joins.0

        by_place : (o : Option ℕ) → place_of j.hash it.forgotten.torrents ≡ o → Joins o j it.forgotten new result → MatchOption (torrent_of new.torrents j.hash) ⊥ (AreInOrder before)
        by_place None none joins = absurd (let clash : Some before ≡ None = sym found_kept ∙ find_nowhere (λ u. same_hash j.hash u.hash) it.forgotten.torrents none in cc)
        by_place (Some i) at joins =
            let F : ℕ → Type 0 = λ n. Freshens n joins.before joins.torrent in
            at_place i at joins.before joins.torrent joins.stood (subst F it.forgets.time joins.freshens) result (weaker joins.torrent i _ _ result joins.joins)

  pub announce_order : (box next : OutboxShape) → KeepsOrder (announce_of j want) (bucket_of box old) (bucket_of next new)
  announce_order box next before found known live stored =
      let at : new.time ≡ now = it.stays.time ∙ it.forgets.time in
      let K : ℕ → Type 0 = λ n. is_known_in n before ≡ true in
      let L : ℕ → Type 0 = λ n. All (λ held. is_live_in n held ≡ true) (peers_of before) in
      order_at before found (subst K at known) (subst L at live) stored

-- ---- an announce that there is no memory for

pub error_kind : (g : Settings) (j : Joining) (want : ℕ) (error : JoinError) → IsKindOf g (announce_of j want) (error_answer g.limits error)
error_kind g j want SwarmFull = refl
error_kind g j want BucketFull = refl
error_kind g j want MemoryIsWanted = tt

pub error_chosen : (words : List ℕ) (bucket : Shape) (j : Joining) (want : ℕ) (limits : Limits) (error : JoinError) → IsChosen words bucket (announce_of j want) (error_answer limits error)
error_chosen words bucket j want limits SwarmFull = tt
error_chosen words bucket j want limits BucketFull = tt
error_chosen words bucket j want limits MemoryIsWanted = tt

pub error_unnoted : (call : Call) (limits : Limits) (error : JoinError) → note_for call (error_answer limits error) ≡ None
error_unnoted call limits SwarmFull = refl
error_unnoted call limits BucketFull = refl
error_unnoted call limits MemoryIsWanted = refl

module _ (now : ℕ) (old new : Table) (j : Joining) (want : ℕ) (error : JoinError) (it : Refuses now j.hash j.who old new error) where
  refused_by : Refused (place_of j.hash it.forgotten.torrents) j.who (table_of old.limits now it.forgotten.torrents) (table_of old.limits now new.torrents) error
  refused_by =
      let F : Table → Type 0 = λ t. Refused (place_of j.hash it.forgotten.torrents) j.who t new error in
      let N : Table → Type 0 = λ t. Refused (place_of j.hash it.forgotten.torrents) j.who (table_of old.limits now it.forgotten.torrents) t error in
      subst N (is_new now old it.forgotten new it.forgets it.stays) (subst F (is_forgotten now old it.forgotten new it.forgets it.stays) it.refused)

  pub refuse_stands : (box next : OutboxShape) → box.sync ≡ true → (caller : ℕ) (minute : Minute) → now ≡ max minute.0 old.time → Gets None box next → IsWellFormed (announce_of j want) →
      StandsOn caller minute (announce_of j want) (error_answer old.limits error) (bucket_of box old) (bucket_of next new)
  refuse_stands box next on caller minute later gets formed =
      let g = settings_with old.limits box in
      let G : Option Note → Type 0 = λ n. Gets n box next in
      stands_by now old it.forgotten new it.forgets it.stays box next caller minute later (announce_of j want) (error_answer old.limits error) refl (subst G (sym (error_unnoted (announce_of j want) old.limits error)) gets) formed
      (refuse_settles g now j it.forgotten.torrents new.torrents on want error
      (refused_of g now j it.forgotten.torrents new.torrents (sound_forgotten now old it.forgotten new it.forgets it.stays) (sound_new now old it.forgotten new it.forgets it.stays) error refused_by))

  module _ (before : Torrent) (found : torrent_of it.forgotten.torrents j.hash ≡ Some before) (live : All (λ held. is_live_in now held ≡ true) (peers_of before)) where
    refused_order : (o : Option ℕ) → place_of j.hash it.forgotten.torrents ≡ o → Refused o j.who (table_of old.limits now it.forgotten.torrents) (table_of old.limits now new.torrents) error → MatchOption (torrent_of new.torrents j.hash) ⊥ (AreInOrder before)
    refused_order None none refused = absurd (let clash : Some before ≡ None = sym found ∙ find_nowhere (λ u. same_hash j.hash u.hash) it.forgotten.torrents none in cc)
    refused_order (Some i) at refused =
        let kept = it.forgotten.torrents in
        let tidy = (sound_forgotten now old it.forgotten new it.forgets it.stays).tidy in
        let fresh = fresh_there now j.hash i kept before tidy found at refused.before refused.torrent refused.stood refused.freshens in
        let like = unchanged now before refused.torrent fresh (recursion_from_All (λ held. is_live_in now held ≡ true) (peers_of before) live) in
        let hash = hash_after now j.hash i kept refused.before refused.torrent tidy at refused.stood refused.freshens in
        let stands : torrent_of new.torrents j.hash ≡ Some refused.torrent =
        ap (λ l. torrent_of l j.hash) refused.set ∙ found_set j.hash kept i refused.torrent at hash j.hash ∙ ap (λ b. if b then Some refused.torrent else torrent_of kept j.hash) (itself j.hash) in
        let P : Option Torrent → Type 0 = λ o. MatchOption o ⊥ (AreInOrder before) in
        subst P (sym stands) (record { fours = ap (λ l. endpoints_of l) (like Four); sixes = ap (λ l. endpoints_of l) (like Six) })

  pub refuse_order : (box next : OutboxShape) → KeepsOrder (announce_of j want) (bucket_of box old) (bucket_of next new)
  refuse_order box next before found known live stored =
      let at : new.time ≡ now = it.stays.time ∙ it.forgets.time in
      let K : ℕ → Type 0 = λ n. is_known_in n before ≡ true in
      let L : ℕ → Type 0 = λ n. All (λ held. is_live_in n held ≡ true) (peers_of before) in
      refused_order before (found_left now old it.forgotten it.forgets j.hash before found (subst K at known)) (subst L at live) (place_of j.hash it.forgotten.torrents) refl refused_by
