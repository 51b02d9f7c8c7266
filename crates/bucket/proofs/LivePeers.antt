-- A torrent whose stale peers have gone: what is found in it, and how many peers it has.
use Rattle.std.proofs.Common.{◌≡◌, ℕ, ◌+◌, ◌-◌, Bool, true, false, List, [], ◌∷◌, ◌++◌, Option, Some, None, refl, sym, ◌∙◌, ap, arith, length, length-append, cond, nat_lt, if◌then◌else◌}
use Rattle.std.specs.List.{All, AllByRecursion, filter, sum_by}
use Rattle.std.specs.Option.{is_some}
use Rattle.std.proofs.lemmas.Bool.Decides.{nat_tests}
use Rattle.std.proofs.lemmas.List.Elements.{All-append, All-weaker, All-from_recursion, recursion_from_All, filter-append}
use Rattle.std.proofs.lemmas.List.Sorted.{All-permutation, sum_by-IsPermutation}
use Rattle.std.proofs.lemmas.List.Sums.{sum_by-cons}
use Rattle.ot_base.specs.Address.{family_of}
use Rattle.ot_base.specs.declared.address.Endpoint.{Endpoint}
use Rattle.ot_base.specs.declared.address.Family.{Family}
use Rattle.ot_base.specs.declared.address.Family.TheVariants.{Four, Six}
use Rattle.ot_base.specs.declared.peer.Held.{Held}
use Rattle.tracker_model.specs.Live.{if_live}
use Rattle.tracker_model.specs.Shape.{Torrent, peers_of, held_of, is_live_in}
use Rattle.tracker_model.specs.Stands.{IsTidy}
use Rattle.tracker_model.specs.declared.limits.TheConstants.{PEER_MINUTES}
use Rattle.tracker_model.proofs.Cases.{by_test}
use Rattle.swarm.specs.Members.{Expires}
use Rattle.swarm.specs.Peers.{if_young, is_young}
use Rattle.swarm.proofs.FoundLemmas.{found_expired}
use Rattle.bucket.specs.Torrents.{Freshens, of_family}
use Rattle.bucket.proofs.Families.{AreInFamilies, are_of-all, all-are_of, held_of-family, in_families, family_distinct}

-- a peer is live where it is young
young_age : (now : ℕ) (held : Held) → is_young now held ≡ nat_lt (now - held.stamp.0) PEER_MINUTES
young_age now held = by_test (is_young now held) (is_young now held ≡ nat_lt (now - held.stamp.0) PEER_MINUTES)
    (λ yes. grind (arith, nat_tests))
    (λ no. grind (arith, nat_tests))

pub is_live_in-age : (now : ℕ) (held : Held) → is_live_in now held ≡ nat_lt (now - held.stamp.0) PEER_MINUTES
is_live_in-age now held = elim (nat_lt (now - held.stamp.0) PEER_MINUTES) as (λ b. is_some (if b then Some held else None) ≡ b) [ true ↦ refl | false ↦ refl ]

pub young_is_live : (now : ℕ) (held : Held) → is_young now held ≡ is_live_in now held
young_is_live now held = young_age now held ∙ sym (is_live_in-age now held)

if_young-live : (now : ℕ) (o : Option Held) → if_young now o ≡ if_live now o
if_young-live now None = refl
if_young-live now (Some held) = ap (λ b. if b then Some held else None) (young_age now held)

-- all or none of a list pass a filter
pub filter_all : {X : Type 0} (p : X → Bool) (xs : List X) → AllByRecursion (λ x. p x ≡ true) xs → filter p xs ≡ xs
filter_all p [] all = refl
filter_all p (x ∷ xs) all = ap (λ b. cond b (x ∷ filter p xs) (filter p xs)) all.0 ∙ ap (λ l. x ∷ l) (filter_all p xs all.1)

filter_none : {X : Type 0} (p : X → Bool) (xs : List X) → AllByRecursion (λ x. p x ≡ false) xs → filter p xs ≡ []
filter_none p [] all = refl
filter_none p (x ∷ xs) all = ap (λ b. cond b (x ∷ filter p xs) (filter p xs)) all.0 ∙ filter_none p xs all.1

-- how many pass doesn't go by the order
abbrev pub one : Bool → ℕ
one b = cond b 1 0

pub length_passing : {X : Type 0} (p : X → Bool) (xs : List X) → length (filter p xs) ≡ sum_by (λ x. one (p x)) xs
length_passing p [] = refl
length_passing p (x ∷ xs) =
    by_test (p x) (length (filter p (x ∷ xs)) ≡ sum_by (λ y. one (p y)) (x ∷ xs))
    (λ yes. let e : sum_by (λ y. one (p y)) (x ∷ xs) ≡ 1 + sum_by (λ y. one (p y)) xs = sum_by-cons (λ y. one (p y)) x xs ∙ ap (λ b. one b + sum_by (λ y. one (p y)) xs) yes in
    let f : length (filter p (x ∷ xs)) ≡ length (x ∷ filter p xs) = ap (λ b. length (cond b (x ∷ filter p xs) (filter p xs))) yes in
    omega (arith, e, f, length_passing p xs))
    (λ no. let e : sum_by (λ y. one (p y)) (x ∷ xs) ≡ 0 + sum_by (λ y. one (p y)) xs = sum_by-cons (λ y. one (p y)) x xs ∙ ap (λ b. one b + sum_by (λ y. one (p y)) xs) no in
    let f : length (filter p (x ∷ xs)) ≡ length (filter p xs) = ap (λ b. length (cond b (x ∷ filter p xs) (filter p xs))) no in
    omega (arith, e, f, length_passing p xs))

-- those that go are stale, and those that stay are live, so as many stay as were live
pub live_left : (now : ℕ) (old new : List Held) → Expires now old new → All (λ h. is_young now h ≡ true) new → length (filter (is_live_in now) old) ≡ length new
live_left now old new it young =
    let p = is_live_in now in
    let stale : AllByRecursion (λ h. p h ≡ false) it.gone = recursion_from_All (λ h. p h ≡ false) it.gone (All-weaker (λ h. is_young now h ≡ false) (λ h. p h ≡ false) (λ h d. sym (young_is_live now h) ∙ d) it.gone it.due) in
    let live : AllByRecursion (λ h. p h ≡ true) new = recursion_from_All (λ h. p h ≡ true) new (All-weaker (λ h. is_young now h ≡ true) (λ h. p h ≡ true) (λ h d. sym (young_is_live now h) ∙ d) new young) in
    length_passing p old
    ∙ sym (sum_by-IsPermutation (λ h. one (p h)) old (it.gone ++ new) it.moves)
    ∙ sym (length_passing p (it.gone ++ new))
    ∙ ap (λ l. length l) (filter-append p it.gone new ∙ ap (λ l. l ++ filter p new) (filter_none p it.gone stale) ∙ filter_all p new live)

-- those that stay are of the family of those that were
all_back : {X : Type 0} (P : X → Type 0) (xs ys : List X) → AllByRecursion P (xs ++ ys) → AllByRecursion P ys
all_back P [] ys all = all
all_back P (x ∷ xs) ys all = all_back P xs ys all.1

left_of_family : (now : ℕ) (f : Family) (old new : List Held) → Expires now old new → AllByRecursion (λ (h : Held). family_of h.who.addr ≡ f) old → AllByRecursion (λ (h : Held). family_of h.who.addr ≡ f) new
left_of_family now f old new it all =
    let P : Held → Type 0 = λ h. family_of h.who.addr ≡ f in
    all_back P it.gone new (recursion_from_All P (it.gone ++ new) (All-permutation P old (it.gone ++ new) it.moves (All-from_recursion P old all)))

module _ (now : ℕ) (before after : Torrent) (tidy : IsTidy before) (fresh : Freshens now before after) where
  expires : (f : Family) → Expires now (of_family f before) (of_family f after)
  expires Four = fresh.fours
  expires Six = fresh.sixes

  young : (f : Family) → All (λ h. is_young now h ≡ true) (of_family f after)
  young Four = fresh.young_fours
  young Six = fresh.young_sixes

  pub fresh_families : AreInFamilies after
  fresh_families = record {
    fours = are_of-all Four after.fours (left_of_family now Four before.fours after.fours fresh.fours (all-are_of Four before.fours tidy.in_fours));
    sixes = are_of-all Six after.sixes (left_of_family now Six before.sixes after.sixes fresh.sixes (all-are_of Six before.sixes tidy.in_sixes));
  }

  -- what is found is what was live
  pub held_fresh : (e : Endpoint) → held_of (peers_of after) e ≡ if_live now (held_of (peers_of before) e)
  held_fresh e =
      let f = family_of e.addr in
      held_of-family f after e fresh_families refl
      ∙ found_expired now (of_family f before) (of_family f after) e (family_distinct f before tidy) (expires f) (young f)
      ∙ if_young-live now (held_of (of_family f before) e)
      ∙ ap (λ o. if_live now o) (sym (held_of-family f before e (in_families before tidy) refl))

  -- and all are live
  pub live_fresh : All (λ h. is_live_in now h ≡ true) (peers_of after)
  live_fresh = All-append (λ h. is_live_in now h ≡ true) after.fours after.sixes (lively Four) (lively Six)
    where
      lively : (f : Family) → All (λ h. is_live_in now h ≡ true) (of_family f after)
      lively f = All-weaker (λ h. is_young now h ≡ true) (λ h. is_live_in now h ≡ true) (λ h y. sym (young_is_live now h) ∙ y) (of_family f after) (young f)

  pub size_fresh : length (filter (is_live_in now) (peers_of before)) ≡ length (peers_of after)
  size_fresh =
      let p = is_live_in now in
      let split : length (filter p (peers_of before)) ≡ length (filter p before.fours ++ filter p before.sixes) = ap (λ l. length l) (filter-append p before.fours before.sixes) in
      omega (
        arith,
        split,
        length-append (filter p before.fours) (filter p before.sixes),
        length-append after.fours after.sixes,
        live_left now before.fours after.fours fresh.fours fresh.young_fours,
        live_left now before.sixes after.sixes fresh.sixes fresh.young_sixes,
      )
