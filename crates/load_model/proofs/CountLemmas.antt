-- Alike histories count alike.
use Rattle.std.proofs.Common.{◌≡◌, ℕ, Bool, true, false, ◌&&◌, ◌||◌, List, [], ◌∷◌, Option, Some, None, refl, sym, ◌∙◌, ap, subst, cond, length, map}
use Rattle.std.specs.Bool.{Decides}
use Rattle.std.specs.Cmp.{IsEquivalence}
use Rattle.std.specs.List.{filter, IsDistinct, AllByRecursion}
use Rattle.std.specs.Option.{is_some, option_map}
use Rattle.std.specs.Set.{is_member, distinct_count, unique_keys}
use Rattle.std.proofs.lemmas.Map.Made.{length-from_keys, is_member-filter, alike_from_same}
use Rattle.ot_base.specs.Same.{same_hash, same_endpoint}
use Rattle.ot_base.proofs.SameLemmas.{same_endpoint_laws, same_endpoint_decides}
use Rattle.ot_base.specs.declared.address.Endpoint.{Endpoint}
use Rattle.ot_base.specs.declared.hash.InfoHash.{InfoHash}
use Rattle.ot_base.specs.declared.peer.Counts.{Counts}
use Rattle.ot_base.specs.declared.peer.Held.{Held}
use Rattle.tracker_model.specs.Counted.{named_endpoints, how_many, counts_of, is_leecher}
use Rattle.tracker_model.specs.Entries.{time_of}
use Rattle.tracker_model.specs.Known.{Standing, known, is_known, is_seed, touch_of, downloaded_of}
use Rattle.tracker_model.specs.Live.{if_live, live}
use Rattle.tracker_model.specs.Shape.{downloads_in}
use Rattle.tracker_model.specs.declared.entry.Entry.{Entry}
use Rattle.tracker_model.proofs.Cases.{by_test}
use Rattle.tracker_model.proofs.CountLemmas.{or_false, unnamed, is_some-known}
use Rattle.tracker_model.proofs.KnownLemmas.{downloaded_of-known}
use Rattle.load_model.specs.Alike.{AreAlike}

-- ---- keys that are counted once each

module _ {K : Type 0} (same : K → K → Bool) (laws : IsEquivalence same) (decides : (a b : K) → Decides (same a b) (a ≡ b)) where
  all_unique : (P : K → Type 0) (xs : List K) → AllByRecursion P xs → AllByRecursion P (unique_keys same xs)
  all_unique P [] all = tt
  all_unique P (x ∷ xs) all =
      elim (is_member same xs x) as (λ b. AllByRecursion P (cond b (unique_keys same xs) (x ∷ unique_keys same xs)))
      [ true ↦ all_unique P xs all.1 | false ↦ (all.0, all_unique P xs all.1) ]

  apart_from : (x : K) (xs : List K) → is_member same xs x ≡ false → AllByRecursion (λ k. same x k ≡ false) xs
  apart_from x [] never = tt
  apart_from x (y ∷ ys) never = let parts = or_false (same x y) (is_member same ys x) never in (parts.0, apart_from x ys parts.1)

  distinct_unique : (xs : List K) → IsDistinct same (unique_keys same xs)
  unfolding IsDistinct
  distinct_unique [] = tt
  distinct_unique (x ∷ xs) =
      by_test (is_member same xs x) (IsDistinct same (unique_keys same (x ∷ xs)))
      (λ again. subst (λ b. IsDistinct same (cond b (unique_keys same xs) (x ∷ unique_keys same xs))) (sym again) (distinct_unique xs))
      (λ fresh. subst (λ b. IsDistinct same (cond b (unique_keys same xs) (x ∷ unique_keys same xs))) (sym fresh)
      (all_unique (λ k. same x k ≡ false) xs (apart_from x xs fresh), distinct_unique xs))

  member_unique : (xs : List K) (q : K) → is_member same (unique_keys same xs) q ≡ is_member same xs q
  member_unique [] q = refl
  member_unique (x ∷ xs) q =
      by_test (is_member same xs x) (is_member same (unique_keys same (x ∷ xs)) q ≡ is_member same (x ∷ xs) q)
      (λ again.
      ap (λ b. is_member same (cond b (unique_keys same xs) (x ∷ unique_keys same xs)) q) again
      ∙ member_unique xs q
      ∙ by_test (same q x) (is_member same xs q ≡ (same q x || is_member same xs q))
      (λ equal. subst (λ k. is_member same xs k ≡ true) (sym ((decides q x).0 equal)) again ∙ sym (ap (λ b. b || is_member same xs q) equal))
      (λ differ. sym (ap (λ b. b || is_member same xs q) differ)))
      (λ fresh.
      ap (λ b. is_member same (cond b (unique_keys same xs) (x ∷ unique_keys same xs)) q) fresh
      ∙ ap (λ b. same q x || b) (member_unique xs q))

  counted_same : (xs ys : List K) → ((q : K) → is_member same xs q ≡ is_member same ys q) → distinct_count same xs ≡ distinct_count same ys
  counted_same xs ys agree = length-from_keys laws (unique_keys same xs) ys (distinct_unique xs) (λ q. member_unique xs q ∙ agree q)

-- ---- peers

-- an endpoint is among those that pass a test where it passes, if nothing passes it
passing_member : (past : List Entry) (h : InfoHash) (minute : ℕ) (test : Option Held → Bool) → test None ≡ false → (q : Endpoint) →
    is_member same_endpoint (filter (λ e. test (live past h e minute)) (named_endpoints past h)) q ≡ test (live past h q minute)
passing_member past h minute test nothing q =
    let at = λ (e : Endpoint). test (live past h e minute) in
    is_member-filter same_endpoint_laws at q (alike_from_same same_endpoint_decides at q) (named_endpoints past h)
    ∙ by_test (is_member same_endpoint (named_endpoints past h) q) ((is_member same_endpoint (named_endpoints past h) q && at q) ≡ at q)
    (λ among. ap (λ b. b && at q) among)
    (λ never. ap (λ b. b && at q) never ∙ sym (ap (λ o. test (if_live minute o)) (unnamed past h q never) ∙ nothing))

module _ (minute : ℕ) (h : InfoHash) (a b : List Entry) (ab : AreAlike minute h a b) where
  how_many_alike : (test : Option Held → Bool) → test None ≡ false → how_many test a h minute ≡ how_many test b h minute
  how_many_alike test nothing =
      counted_same same_endpoint same_endpoint_laws same_endpoint_decides _ _
      (λ q. passing_member a h minute test nothing q ∙ ap test (ab.peers q) ∙ sym (passing_member b h minute test nothing q))

  pub known_alike : is_known a h minute ≡ is_known b h minute
  known_alike = sym (is_known_some a) ∙ ap is_some ab.torrent ∙ is_known_some b
    where
      is_known_some : (past : List Entry) → is_some (known past h minute) ≡ is_known past h minute
      is_known_some past = is_some-known minute (λ touch. record { touch = touch; downloaded = downloaded_of past h }) (λ touch. refl) (touch_of past h)

  pub counts_alike : time_of a ≡ minute → time_of b ≡ minute → counts_of a h ≡ counts_of b h
  counts_alike a_now b_now =
      let complete : how_many is_seed a h (time_of a) ≡ how_many is_seed b h (time_of b) = ap (how_many is_seed a h) a_now ∙ how_many_alike is_seed refl ∙ sym (ap (how_many is_seed b h) b_now) in
      let incomplete : how_many is_leecher a h (time_of a) ≡ how_many is_leecher b h (time_of b) = ap (how_many is_leecher a h) a_now ∙ how_many_alike is_leecher refl ∙ sym (ap (how_many is_leecher b h) b_now) in
      let downloaded : downloaded_of a h ≡ downloaded_of b h =
      downloaded_of-known a h ∙ ap (λ t. downloads_in (known a h t)) a_now ∙ ap downloads_in ab.torrent ∙ sym (downloaded_of-known b h ∙ ap (λ t. downloads_in (known b h t)) b_now) in
      λ k. record { complete = complete k; downloaded = downloaded k; incomplete = incomplete k }

-- a torrent of which nothing stands isn't known
pub unknown_not : (minute : ℕ) (past : List Entry) (h : InfoHash) → known past h minute ≡ None → is_known past h minute ≡ false
unknown_not minute past h unknown =
    sym (is_some-known minute (λ touch. record { touch = touch; downloaded = downloaded_of past h }) (λ touch. refl) (touch_of past h)) ∙ ap is_some unknown
