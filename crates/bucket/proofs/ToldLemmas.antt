-- What is told of a torrent whose stored peers are all live: its counts, and the peers that words
-- choose.
use Rattle.std.proofs.Common.{◌≡◌, ℕ, ◌+◌, ◌-◌, ◌<◌, ◌≤◌, min, Bool, true, false, not, ◌&&◌, ◌||◌, List, [], ◌∷◌, ◌++◌, Option, Some, None, inl, inr, refl, sym, ◌∙◌, ap, subst, arith, length, map, cond, nat_eq, nat_lt, get_or, if◌then◌else◌}
use Rattle.std.proofs.lemmas.Bool.{cases_lt}
use Rattle.std.proofs.lemmas.List.{append-nil, length-map, get_or-map}
use Rattle.std.proofs.lemmas.List.Elements.{All-map, All-weaker, All-from_recursion, filter-append}
use Rattle.std.proofs.lemmas.List.Sums.{sum_by-cons, list_all-from_AllPass}
use Rattle.std.proofs.lemmas.Map.Keys.{apart_from_distinct, IsDistinct-from_apart}
use Rattle.std.proofs.lemmas.Map.Made.{distinct_count-from_IsDistinct}
use Rattle.std.specs.List.{All, AllByRecursion, IsDistinct, filter, sum_by}
use Rattle.std.specs.Option.{option_map_or}
use Rattle.std.specs.Set.{is_member}
use Rattle.ot_base.specs.Address.{family_of, no_endpoint}
use Rattle.ot_base.specs.Same.{same_endpoint, same_family}
use Rattle.ot_base.proofs.SameLemmas.{same_endpoint_decides, same_endpoint_laws}
use Rattle.ot_base.specs.declared.hash.InfoHash.{InfoHash}
use Rattle.ot_base.specs.declared.address.Endpoint.{Endpoint}
use Rattle.ot_base.specs.declared.address.Family.{Family}
use Rattle.ot_base.specs.declared.address.Family.TheVariants.{Four, Six}
use Rattle.ot_base.specs.declared.peer.Counts.{Counts}
use Rattle.ot_base.specs.declared.peer.Held.{Held}
use Rattle.tracker_model.specs.Counted.{is_leecher, may_be_told}
use Rattle.tracker_model.specs.Judged.{IsDrawn}
use Rattle.tracker_model.specs.Known.{is_seed}
use Rattle.tracker_model.specs.Live.{if_live}
use Rattle.tracker_model.specs.Shape.{Torrent, peers_of, held_of, torrent_of, stored_peers, live_in, counts_in, is_known_in, is_live_in, downloads_in}
use Rattle.tracker_model.specs.Stands.{IsTidy}
use Rattle.tracker_model.specs.declared.limits.TheConstants.{PEER_MINUTES}
use Rattle.tracker_model.proofs.Cases.{by_test}
use Rattle.tracker_model.proofs.KeyedLemmas.{keys_apart, is_member-passing}
use Rattle.pick.specs.Picks.{picks}
use Rattle.pick.proofs.PickLemmas.{picks_apart}
use Rattle.swarm.specs.Peers.{choice_of, endpoints_of, other_one, others, seed_one}
use Rattle.bucket.specs.Torrents.{of_family, tally}
use Rattle.bucket.specs.Calls.{no_counts}
use Rattle.bucket.proofs.Families.{Distinct, all-are_of, in_families, of_its_family, same_itself}
use Rattle.bucket.proofs.LivePeers.{is_live_in-age, length_passing, one}
use Rattle.bucket.proofs.KeptLemmas.{standing, known_found}

-- a peer of a list whose peers are all live
abbrev pub AreLive : ℕ → List Held → Type 0
AreLive now peers = AllByRecursion (λ h. is_live_in now h ≡ true) peers

age_of_live : (now : ℕ) (held : Held) → is_live_in now held ≡ true → nat_lt (now - held.stamp.0) PEER_MINUTES ≡ true
age_of_live now held live = sym (is_live_in-age now held) ∙ live

-- ---- counts

pub sum_by_same : {X : Type 0} (f g : X → ℕ) (xs : List X) → AllByRecursion (λ x. f x ≡ g x) xs → sum_by f xs ≡ sum_by g xs
sum_by_same f g [] same = refl
sum_by_same f g (x ∷ xs) same = sum_by-cons f x xs ∙ ap (λ n. n + sum_by f xs) same.0 ∙ ap (λ n. g x + n) (sum_by_same f g xs same.1) ∙ sym (sum_by-cons g x xs)

all_other : {X : Type 0} (P Q : X → Type 0) → ((x : X) → P x → Q x) → (xs : List X) → AllByRecursion P xs → AllByRecursion Q xs
all_other P Q follows [] all = tt
all_other P Q follows (x ∷ xs) all = (follows x all.0, all_other P Q follows xs all.1)

live_seeds : (now : ℕ) (peers : List Held) → AreLive now peers → length (filter (λ h. is_seed (if_live now (Some h))) peers) ≡ sum_by seed_one peers
live_seeds now peers live =
    length_passing (λ h. is_seed (if_live now (Some h))) peers
    ∙ sum_by_same (λ h. one (is_seed (if_live now (Some h)))) seed_one peers (all_other _ _
    (λ h l. ap (λ b. one (is_seed (if b then Some h else None))) (age_of_live now h l)) peers live)

live_leechers : (now : ℕ) (peers : List Held) → AreLive now peers → length (filter (λ h. is_leecher (if_live now (Some h))) peers) ≡ sum_by other_one peers
live_leechers now peers live =
    length_passing (λ h. is_leecher (if_live now (Some h))) peers
    ∙ sum_by_same (λ h. one (is_leecher (if_live now (Some h)))) other_one peers (all_other _ _
    (λ h l. ap (λ b. one (is_leecher (if b then Some h else None))) (age_of_live now h l)) peers live)

module _ (now : ℕ) (stored : List Torrent) (h : InfoHash) where
  abbrev counted : ℕ → ℕ → ℕ → Counts
  counted complete downloaded incomplete = record { complete = complete; downloaded = downloaded; incomplete = incomplete }

  -- of a torrent that isn't stored
  pub counts_none : torrent_of stored h ≡ None → counts_in now stored h ≡ no_counts
  counts_none none =
      let number = λ (test : Option Held → Bool) (o : Option Torrent). length (filter (λ held. test (if_live now (Some held))) (option_map_or peers_of o [])) in
      ap (λ o. counted (number is_seed o) (downloads_in (known_found now o)) (number is_leecher o)) none

  -- of one that is known, and whose peers are all live
  pub counts_some : (t : Torrent) → torrent_of stored h ≡ Some t → is_known_in now t ≡ true → AreLive now (peers_of t) → counts_in now stored h ≡ tally t
  counts_some t found known live =
      let number = λ (test : Option Held → Bool) (o : Option Torrent). length (filter (λ held. test (if_live now (Some held))) (option_map_or peers_of o [])) in
      ap (λ o. counted (number is_seed o) (downloads_in (known_found now o)) (number is_leecher o)) found
      ∙ ap (λ b. counted (number is_seed (Some t)) (downloads_in (if b then Some (standing t) else None)) (number is_leecher (Some t))) known
      ∙ ap (λ n. counted n t.downloaded (number is_leecher (Some t))) (live_seeds now (peers_of t) live)
      ∙ ap (λ n. counted (sum_by seed_one (peers_of t)) t.downloaded n) (live_leechers now (peers_of t) live)

-- ---- peers that may be told

-- a stored peer that may be told to an asker
abbrev pub is_told : ℕ → Endpoint → Held → Bool
is_told now asker held = may_be_told asker (if_live now (Some held))

abbrev is_other : Endpoint → Held → Bool
is_other asker held = not (same_endpoint asker held.who)

others_are : (asker : Endpoint) (peers : List Held) → others asker peers ≡ endpoints_of (filter (is_other asker) peers)
others_are asker [] = refl
others_are asker (h ∷ peers) =
    by_test (is_other asker h) (others asker (h ∷ peers) ≡ endpoints_of (filter (is_other asker) (h ∷ peers)))
    (λ yes. ap (λ b. cond b (h.who ∷ others asker peers) (others asker peers)) yes ∙ ap (λ l. h.who ∷ l) (others_are asker peers)
    ∙ sym (ap (λ b. endpoints_of (cond b (h ∷ filter (is_other asker) peers) (filter (is_other asker) peers))) yes))
    (λ no. ap (λ b. cond b (h.who ∷ others asker peers) (others asker peers)) no ∙ others_are asker peers
    ∙ sym (ap (λ b. endpoints_of (cond b (h ∷ filter (is_other asker) peers) (filter (is_other asker) peers))) no))

told_own : (now : ℕ) (asker : Endpoint) (held : Held) → is_live_in now held ≡ true → same_family (family_of held.who.addr) (family_of asker.addr) ≡ true → is_told now asker held ≡ is_other asker held
told_own now asker held live own =
    ap (λ b. may_be_told asker (if b then Some held else None)) (age_of_live now held live)
    ∙ ap (λ b. b && not (same_endpoint held.who asker)) own
    ∙ ap (λ b. not b) (same_endpoint_laws.symm held.who asker)

told_foreign : (now : ℕ) (asker : Endpoint) (held : Held) → same_family (family_of held.who.addr) (family_of asker.addr) ≡ false → is_told now asker held ≡ false
told_foreign now asker held foreign =
    elim (nat_lt (now - held.stamp.0) PEER_MINUTES) as (λ b. may_be_told asker (if b then Some held else None) ≡ false) [
      | true ↦ ap (λ b. b && not (same_endpoint held.who asker)) foreign
      | false ↦ refl
    ]

families_apart : (a b c : Family) → a ≡ b → same_family b c ≡ false → same_family a c ≡ false
families_apart a b c same other = ap (λ f. same_family f c) same ∙ other

own_told : (now : ℕ) (asker : Endpoint) (peers : List Held) → AllByRecursion (λ (h : Held). family_of h.who.addr ≡ family_of asker.addr) peers → AreLive now peers → filter (is_told now asker) peers ≡ filter (is_other asker) peers
own_told now asker [] all live = refl
own_told now asker (h ∷ peers) all live =
    let own : same_family (family_of h.who.addr) (family_of asker.addr) ≡ true = ap (λ f. same_family f (family_of asker.addr)) all.0 ∙ same_itself (family_of asker.addr) in
    ap (λ b. cond b (h ∷ filter (is_told now asker) peers) (filter (is_told now asker) peers)) (told_own now asker h live.0 own)
    ∙ ap (λ l. cond (is_other asker h) (h ∷ l) l) (own_told now asker peers all.1 live.1)

none_told : (now : ℕ) (asker : Endpoint) (f : Family) (peers : List Held) → AllByRecursion (λ (h : Held). family_of h.who.addr ≡ f) peers → same_family f (family_of asker.addr) ≡ false → filter (is_told now asker) peers ≡ []
none_told now asker f [] all other = refl
none_told now asker f (h ∷ peers) all other =
    ap (λ b. cond b (h ∷ filter (is_told now asker) peers) (filter (is_told now asker) peers)) (told_foreign now asker h (families_apart (family_of h.who.addr) f (family_of asker.addr) all.0 other))
    ∙ none_told now asker f peers all.1 other

pub live_front : (now : ℕ) (xs ys : List Held) → AreLive now (xs ++ ys) → AreLive now xs
live_front now [] ys live = tt
live_front now (x ∷ xs) ys live = (live.0, live_front now xs ys live.1)

pub live_back : (now : ℕ) (xs ys : List Held) → AreLive now (xs ++ ys) → AreLive now ys
live_back now [] ys live = live
live_back now (x ∷ xs) ys live = live_back now xs ys live.1

told_others : (now : ℕ) (asker : Endpoint) (t : Torrent) → IsTidy t → AreLive now (peers_of t) → filter (is_told now asker) (peers_of t) ≡ filter (is_other asker) (of_family (family_of asker.addr) t)
told_others now asker t tidy live = filter-append (is_told now asker) t.fours t.sixes ∙ by_family (family_of asker.addr) refl
  where
    by_family : (f : Family) → family_of asker.addr ≡ f → filter (is_told now asker) t.fours ++ filter (is_told now asker) t.sixes ≡ filter (is_other asker) (of_family (family_of asker.addr) t)
    by_family Four is =
        let Own : Family → Type 0 = λ f. AllByRecursion (λ (h : Held). family_of h.who.addr ≡ f) t.fours in
        ap (λ l. filter (is_told now asker) t.fours ++ l) (none_told now asker Six t.sixes (all-are_of Six t.sixes tidy.in_sixes) (ap (λ f. same_family Six f) is))
        ∙ append-nil (filter (is_told now asker) t.fours)
        ∙ own_told now asker t.fours (subst Own (sym is) (all-are_of Four t.fours tidy.in_fours)) (live_front now t.fours t.sixes live)
        ∙ ap (λ f. filter (is_other asker) (of_family f t)) (sym is)
    by_family Six is =
        let Own : Family → Type 0 = λ f. AllByRecursion (λ (h : Held). family_of h.who.addr ≡ f) t.sixes in
        ap (λ l. l ++ filter (is_told now asker) t.sixes) (none_told now asker Four t.fours (all-are_of Four t.fours tidy.in_fours) (ap (λ f. same_family Four f) is))
        ∙ own_told now asker t.sixes (subst Own (sym is) (all-are_of Six t.sixes tidy.in_sixes)) (live_back now t.fours t.sixes live)
        ∙ ap (λ f. filter (is_other asker) (of_family f t)) (sym is)

-- a test that all members pass
members_pass : (test : Endpoint → Bool) (xs : List Endpoint) → ((q : Endpoint) → is_member same_endpoint xs q ≡ true → test q ≡ true) → AllByRecursion (λ e. test e ≡ true) xs
members_pass test [] each = tt
members_pass test (x ∷ xs) each = (
  each x (ap (λ b. b || is_member same_endpoint xs x) ((same_endpoint_decides x x).1 refl)),
  members_pass test xs (λ q member. each q (or_true (same_endpoint q x) (is_member same_endpoint xs q) member)),
)
  where
    or_true : (a b : Bool) → b ≡ true → (a || b) ≡ true
    or_true true b e = refl
    or_true false b e = e

told_found : (now : ℕ) (asker : Endpoint) (o : Option Held) → option_map_or (is_told now asker) o false ≡ may_be_told asker (if_live now o)
told_found now asker None = refl
told_found now asker (Some held) = refl

-- ---- a choice

-- elements at different positions of a list without repetition
abbrev at_places : List Endpoint → List ℕ → List Endpoint
at_places rest places = map (λ p. get_or rest p no_endpoint) places

places_differ : (rest : List Endpoint) (places : List ℕ) → IsDistinct same_endpoint rest → All (λ p. p < length rest) places → IsDistinct nat_eq places → IsDistinct same_endpoint (at_places rest places)
places_differ rest places distinct below apart =
    IsDistinct-from_apart same_endpoint (at_places rest places) (λ i j d less within.
    let n = length-map places (λ p. get_or rest p no_endpoint) in
    let a = get_or places i 0 in
    let b = get_or places j 0 in
    let at_i : get_or (at_places rest places) i d ≡ get_or rest a no_endpoint = get_or-map (λ p. get_or rest p no_endpoint) places i 0 d (omega arith) in
    let at_j : get_or (at_places rest places) j d ≡ get_or rest b no_endpoint = get_or-map (λ p. get_or rest p no_endpoint) places j 0 d (omega arith) in
    let low : a < length rest = below i 0 (omega arith) in
    let high : b < length rest = below j 0 (omega arith) in
    let two : nat_eq a b ≡ false = apart_from_distinct nat_eq places i j 0 apart less (omega arith) in
    ap (λ e. same_endpoint e (get_or (at_places rest places) j d)) at_i ∙ ap (λ e. same_endpoint (get_or rest a no_endpoint) e) at_j
    ∙ elim (cases_lt a b) [
      | inl up ↦ apart_from_distinct same_endpoint rest a b no_endpoint distinct up high
      | inr le ↦ elim (cases_lt b a) [
        | inl down ↦ same_endpoint_laws.symm (get_or rest a no_endpoint) (get_or rest b no_endpoint) ∙ apart_from_distinct same_endpoint rest b a no_endpoint distinct down low
        | inr ge ↦ absurd (let same : a ≡ b = omega arith in let clash : true ≡ false = sym (ap (λ k. nat_eq a k) (sym same) ∙ equal a) ∙ two in cc)
      ]
    ])
  where
    equal : (n : ℕ) → nat_eq n n ≡ true
    equal n = grind arith

-- what words choose of the other peers of a torrent
module _ (words : List ℕ) (enough : length words ≡ 200) (asker : Endpoint) (want : ℕ) (few : want ≤ 200) (peers : List Held) where
  rest : List Endpoint
  rest = others asker peers

  abbrev wanted : ℕ
  wanted = min want (length (others asker peers))

  picked : All (λ p. p < length (others asker peers)) (picks words (length (others asker peers)) wanted) × IsDistinct nat_eq (picks words (length (others asker peers)) wanted) × (length (picks words (length (others asker peers)) wanted) ≡ wanted)
  picked = let it = picks_apart words (length (others asker peers)) wanted (omega arith) (omega arith) in (it.below, it.distinct, it.count)

  pub choice_long : length (choice_of words asker want peers) ≡ wanted
  choice_long = length-map (picks words (length (others asker peers)) wanted) (λ p. get_or (others asker peers) p no_endpoint) ∙ picked.2

  pub choice_apart : IsDistinct same_endpoint (others asker peers) → IsDistinct same_endpoint (choice_of words asker want peers)
  choice_apart distinct = places_differ (others asker peers) (picks words (length (others asker peers)) wanted) distinct picked.0 picked.1

  pub choice_all : (P : Endpoint → Type 0) → All P (others asker peers) → All P (choice_of words asker want peers)
  choice_all P all =
      All-map P (λ p. get_or (others asker peers) p no_endpoint) (picks words (length (others asker peers)) wanted)
      (All-weaker (λ p. p < length (others asker peers)) (λ p. P (get_or (others asker peers) p no_endpoint)) (λ p below. all p no_endpoint below) (picks words (length (others asker peers)) wanted) picked.0)

-- of a stored torrent whose peers are all live
module _ (now : ℕ) (stored : List Torrent) (h : InfoHash) (t : Torrent) (found : torrent_of stored h ≡ Some t) (tidy : IsTidy t) (live : AreLive now (peers_of t)) (words : List ℕ) (enough : length words ≡ 200) (asker : Endpoint) (want : ℕ) (few : want ≤ 200) where
  abbrev own : List Held
  own = of_family (family_of asker.addr) t

  abbrev told : List Held
  told = filter (is_told now asker) (peers_of t)

  stored_are : stored_peers stored h ≡ peers_of t
  stored_are = ap (λ o. option_map_or peers_of o []) found

  rest_told : others asker own ≡ endpoints_of told
  rest_told = others_are asker own ∙ ap (λ l. endpoints_of l) (sym (told_others now asker t tidy live))

  pub is_drawn : IsDrawn now stored h asker want (choice_of words asker want own)
  is_drawn =
      let who = λ (held : Held). held.who in
      let test = λ (e : Endpoint). may_be_told asker (live_in now stored h e) in
      let D : List Endpoint → Type 0 = λ l. IsDistinct same_endpoint l in
      let A : List Endpoint → Type 0 = λ l. All (λ e. test e ≡ true) l in
      let apart : Distinct told = keys_apart same_endpoint same_endpoint_decides who (is_told now asker) (peers_of t) tidy.distinct in
      let member = λ (q : Endpoint). (let p : is_member same_endpoint (map who told) q ≡ test q =
      is_member-passing same_endpoint same_endpoint_decides who (is_told now asker) q (peers_of t) tidy.distinct
      ∙ told_found now asker (held_of (peers_of t) q)
      ∙ ap (λ l. may_be_told asker (if_live now (held_of l q))) (sym stored_are) in p) in
      let all : AllByRecursion (λ e. test e ≡ true) (map who told) = members_pass test (map who told) (λ q is_one. sym (member q) ∙ is_one) in
      let chosen : All (λ e. test e ≡ true) (choice_of words asker want own) =
      choice_all words enough asker want few own (λ e. test e ≡ true) (subst A (sym rest_told) (All-from_recursion (λ e. test e ≡ true) (map who told) all)) in
      record {
        distinct = distinct_count-from_IsDistinct same_endpoint_laws (choice_of words asker want own) (choice_apart words enough asker want few own (subst D (sym rest_told) apart));
        drawn = list_all-from_AllPass test (choice_of words asker want own) chosen;
        as_many = choice_long words enough asker want few own
            ∙ ap (λ n. min want n) (ap (λ l. length l) rest_told ∙ length-map told who ∙ ap (λ l. length (filter (is_told now asker) l)) (sym stored_are));
      }

-- all of the asker's family, and no more than are wanted
others_own : (asker : Endpoint) (f : Family) (peers : List Held) → AllByRecursion (λ (h : Held). family_of h.who.addr ≡ f) peers → AllByRecursion (λ (e : Endpoint). family_of e.addr ≡ f) (others asker peers)
others_own asker f [] all = tt
others_own asker f (h ∷ peers) all =
    elim (not (same_endpoint asker h.who)) as (λ b. AllByRecursion (λ (e : Endpoint). family_of e.addr ≡ f) (cond b (h.who ∷ others asker peers) (others asker peers)))
    [ true ↦ (all.0, others_own asker f peers all.1) | false ↦ others_own asker f peers all.1 ]

pub choice_kind : (words : List ℕ) → length words ≡ 200 → (asker : Endpoint) (want : ℕ) → want ≤ 200 → (t : Torrent) → IsTidy t →
    All (λ (e : Endpoint). family_of e.addr ≡ family_of asker.addr) (choice_of words asker want (of_family (family_of asker.addr) t)) × (length (choice_of words asker want (of_family (family_of asker.addr) t)) ≤ want)
choice_kind words enough asker want few t tidy =
    let f = family_of asker.addr in
    let own = of_family f t in
    let P : Endpoint → Type 0 = λ e. family_of e.addr ≡ f in (
      choice_all words enough asker want few own P (All-from_recursion P (others asker own) (others_own asker f own (all-are_of f own (of_its_family f t (in_families t tidy))))),
      omega (arith, choice_long words enough asker want few own),
    )
