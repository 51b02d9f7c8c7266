-- Peers by family: where the peer of an endpoint is looked up.
use Rattle.std.proofs.Common.{◌≡◌, Bool, true, false, ◌&&◌, List, [], ◌∷◌, ◌++◌, Option, Some, None, refl, sym, ◌∙◌, ap, cond, if◌then◌else◌}
use Rattle.std.proofs.lemmas.List.Folds.{find-append}
use Rattle.std.specs.List.{AllByRecursion, IsDistinct}
use Rattle.std.specs.Option.{option_or}
use Rattle.ot_base.specs.Address.{family_of}
use Rattle.ot_base.specs.Same.{same_endpoint, same_family}
use Rattle.ot_base.proofs.SameLemmas.{same_endpoint_decides}
use Rattle.ot_base.specs.declared.address.Endpoint.{Endpoint}
use Rattle.ot_base.specs.declared.address.Family.{Family}
use Rattle.ot_base.specs.declared.address.Family.TheVariants.{Four, Six}
use Rattle.ot_base.specs.declared.peer.Held.{Held}
use Rattle.tracker_model.specs.Shape.{Torrent, peers_of, held_of}
use Rattle.tracker_model.specs.Stands.{are_of, IsTidy}
use Rattle.tracker_model.proofs.Cases.{by_test, both_first}
use Rattle.tracker_model.proofs.KindLemmas.{same_family-is}
use Rattle.swarm.specs.Peers.{endpoints_of}
use Rattle.bucket.specs.Torrents.{of_family, with_family}

both_second : (a b : Bool) → (a && b) ≡ true → b ≡ true
both_second true b both = both
both_second false b both = absurd (cc)

-- each peer stands in the list of its family
pub record AreInFamilies (t : Torrent) : Type 0 where
  pub fours : are_of Four t.fours ≡ true
  pub sixes : are_of Six t.sixes ≡ true

pub in_families : (t : Torrent) → IsTidy t → AreInFamilies t
in_families t tidy = record { fours = tidy.in_fours; sixes = tidy.in_sixes }

pub same_itself : (f : Family) → same_family f f ≡ true
same_itself Four = refl
same_itself Six = refl

-- families from peers, and back
pub are_of-all : (f : Family) (peers : List Held) → AllByRecursion (λ (h : Held). family_of h.who.addr ≡ f) peers → are_of f peers ≡ true
are_of-all f [] all = refl
are_of-all f (h ∷ peers) all = ap (λ b. b && are_of f peers) (ap (λ g. same_family g f) all.0 ∙ same_itself f) ∙ are_of-all f peers all.1

pub all-are_of : (f : Family) (peers : List Held) → are_of f peers ≡ true → AllByRecursion (λ (h : Held). family_of h.who.addr ≡ f) peers
all-are_of f [] all = tt
all-are_of f (h ∷ peers) all = (
  same_family-is (family_of h.who.addr) f (both_first (same_family (family_of h.who.addr) f) (are_of f peers) all),
  all-are_of f peers (both_second (same_family (family_of h.who.addr) f) (are_of f peers) all),
)

pub of_its_family : (f : Family) (t : Torrent) → AreInFamilies t → are_of f (of_family f t) ≡ true
of_its_family Four t it = it.fours
of_its_family Six t it = it.sixes

-- endpoints of two families are two
pub family_apart : (f : Family) (e d : Endpoint) → same_family (family_of e.addr) f ≡ false → same_family (family_of d.addr) f ≡ true → same_endpoint e d ≡ false
family_apart f e d other of_it =
    by_test (same_endpoint e d) (same_endpoint e d ≡ false)
    (λ yes. absurd (let clash : true ≡ false = sym of_it ∙ ap (λ (x : Endpoint). same_family (family_of x.addr) f) (sym ((same_endpoint_decides e d).0 yes)) ∙ other in cc))
    (λ no. no)

-- an endpoint isn't among the peers of the other family
not_among : (f : Family) (peers : List Held) (e : Endpoint) → are_of f peers ≡ true → same_family (family_of e.addr) f ≡ false → held_of peers e ≡ None
not_among f [] e all other = refl
not_among f (h ∷ peers) e all other =
    ap (λ b. cond b (Some h) (held_of peers e)) (family_apart f e h.who other (both_first (same_family (family_of h.who.addr) f) (are_of f peers) all))
    ∙ not_among f peers e (both_second (same_family (family_of h.who.addr) f) (are_of f peers) all) other

none_or : (o : Option Held) → option_or o None ≡ o
none_or None = refl
none_or (Some h) = refl

-- the stored peer of an endpoint is looked up among those of its family
pub held_of-family : (f : Family) (t : Torrent) (e : Endpoint) → AreInFamilies t → family_of e.addr ≡ f → held_of (peers_of t) e ≡ held_of (of_family f t) e
held_of-family Four t e it is =
    find-append (λ h. same_endpoint e h.who) t.fours t.sixes
    ∙ ap (λ o. option_or (held_of t.fours e) o) (not_among Six t.sixes e it.sixes (ap (λ f. same_family f Six) is))
    ∙ none_or (held_of t.fours e)
held_of-family Six t e it is =
    find-append (λ h. same_endpoint e h.who) t.fours t.sixes
    ∙ ap (λ o. option_or o (held_of t.sixes e)) (not_among Four t.fours e it.fours (ap (λ f. same_family f Four) is))

-- the peers of a family after those of one were changed
pub of_with : (f : Family) (peers : List Held) (t : Torrent) → of_family f (with_family f peers t) ≡ peers
of_with Four peers t = refl
of_with Six peers t = refl

pub of_with_other : (f g : Family) (peers : List Held) (t : Torrent) → same_family f g ≡ false → of_family f (with_family g peers t) ≡ of_family f t
of_with_other Four Four peers t apart = absurd (cc)
of_with_other Four Six peers t apart = refl
of_with_other Six Four peers t apart = refl
of_with_other Six Six peers t apart = absurd (cc)

-- what is found where the peers of one family were changed
pub held_with : (g : Family) (peers : List Held) (u t : Torrent) → AreInFamilies t → AreInFamilies (with_family g peers u) → ((f : Family) → of_family f u ≡ of_family f t) →
    (e : Endpoint) → held_of (peers_of (with_family g peers u)) e ≡ (if same_family (family_of e.addr) g then held_of peers e else held_of (peers_of t) e)
held_with g peers u t it after like e =
    let f = family_of e.addr in
    let here : held_of (peers_of (with_family g peers u)) e ≡ held_of (of_family f (with_family g peers u)) e = held_of-family f (with_family g peers u) e after refl in
    by_test (same_family f g) (held_of (peers_of (with_family g peers u)) e ≡ (if same_family f g then held_of peers e else held_of (peers_of t) e))
    (λ own.
    here ∙ ap (λ k. held_of (of_family k (with_family g peers u)) e) (same_family-is f g own) ∙ ap (λ l. held_of l e) (of_with g peers u)
    ∙ sym (ap (λ b. if b then held_of peers e else held_of (peers_of t) e) own))
    (λ other.
    here ∙ ap (λ l. held_of l e) (of_with_other f g peers u other ∙ like f) ∙ sym (held_of-family f t e it refl)
    ∙ sym (ap (λ b. if b then held_of peers e else held_of (peers_of t) e) other))

-- no endpoint twice in a list, so none in its parts
abbrev pub Distinct : List Held → Type 0
Distinct peers = IsDistinct same_endpoint (endpoints_of peers)

apart_front : (e : Endpoint) (xs ys : List Held) → AllByRecursion (λ d. same_endpoint e d ≡ false) (endpoints_of (xs ++ ys)) → AllByRecursion (λ d. same_endpoint e d ≡ false) (endpoints_of xs)
apart_front e [] ys all = tt
apart_front e (x ∷ xs) ys all = (all.0, apart_front e xs ys all.1)

distinct_front : (xs ys : List Held) → Distinct (xs ++ ys) → Distinct xs
unfolding IsDistinct
distinct_front [] ys distinct = tt
distinct_front (x ∷ xs) ys distinct = (apart_front x.who xs ys distinct.0, distinct_front xs ys distinct.1)

distinct_back : (xs ys : List Held) → Distinct (xs ++ ys) → Distinct ys
unfolding IsDistinct
distinct_back [] ys distinct = distinct
distinct_back (x ∷ xs) ys distinct = distinct_back xs ys distinct.1

pub family_distinct : (f : Family) (t : Torrent) → IsTidy t → Distinct (of_family f t)
family_distinct Four t tidy = distinct_front t.fours t.sixes tidy.distinct
family_distinct Six t tidy = distinct_back t.fours t.sixes tidy.distinct
