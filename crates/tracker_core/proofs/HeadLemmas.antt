-- The answers on the beginning of a request, and the plans by them.
use Rattle.std.proofs.Common.{◌≡◌, ℕ, Bool, true, false, List, refl, sym, ◌∙◌, ap, subst}
use Rattle.std.specs.Prelude.{Option, IsTrue, ◌↔◌, codes, slice_range, drop, if◌then◌else◌}
use Rattle.std.proofs.lemmas.Bool.{false≢true}
use Rattle.httparse.specs.Grammar.{RequestHead}
use Rattle.httparse.proofs.GrammarLemmas.{request_unique}
use Rattle.ot_base.specs.declared.address.Endpoint.{Endpoint}
use Rattle.access_list.specs.Access.{Listing}
use Rattle.http_wire.specs.Head.{IsAnswer, IsWhole, HasNoHead}
use Rattle.http_wire.specs.declared.head.Head.{Head}
use Rattle.http_wire.specs.declared.head.Head.TheVariants.{Whole, More, Bad, Many}
use Rattle.http_wire.specs.declared.reply.Code.TheVariants.{BadRequest}
use Rattle.tracker_core.specs.HttpPlan.{http_plan}
use Rattle.tracker_core.specs.ConnectionPlan.{IsConnectionPlan, head_front, plan_of_head}
use Rattle.tracker_core.specs.declared.connection_plan.ConnectionPlan.{ConnectionPlan}
use Rattle.tracker_core.specs.declared.connection_plan.ConnectionPlan.TheVariants.{Planned, Rejected}

-- two tests of one fact
same_test : {P : Type 0} (a b : Bool) → IsTrue a ↔ P → IsTrue b ↔ P → a ≡ b
same_test true true x y = refl
same_test true false x y = absurd (false≢true (y.1 (x.0 refl)))
same_test false true x y = absurd (false≢true (x.1 (y.0 refl)))
same_test false false x y = refl

-- there is no head beside none
no_whole : (bytes : List ℕ) (get : Bool) (from to len : ℕ) → IsWhole bytes get from to len → HasNoHead bytes → ⊥
no_whole bytes get from to len whole none = none whole.head (drop len bytes) whole.reads whole.few

-- two heads are the same one, so the plans by them are the same
whole_plan : (bytes : List ℕ) (access : Option Listing) (asker : Endpoint) (full : Bool) (g h : Bool) (f e t s l m : ℕ) → IsWhole bytes g f t l → IsWhole bytes h e s m
    → plan_of_head bytes access asker full (Whole g f t l) ≡ plan_of_head bytes access asker full (Whole h e s m)
whole_plan bytes access asker full g h f e t s l m x y =
    let heads : x.head ≡ y.head = (request_unique bytes x.head y.head _ _ x.reads y.reads).0 in
    let targets : slice_range bytes f t ≡ slice_range bytes e s = x.target ∙ ap (λ (k : RequestHead). k.target) heads ∙ sym y.target in
    let Get : RequestHead → Type 0 = λ k. IsTrue g ↔ (k.method ≡ codes "GET") in
    let gets : g ≡ h = same_test g h (subst Get heads x.method) y.method in
    ap (λ b. if b then Planned (http_plan (slice_range bytes f t) access asker full) else Rejected BadRequest) gets
    ∙ ap (λ target. if h then Planned (http_plan target access asker full) else Rejected BadRequest) targets

-- two answers on the same bytes give the same plan
same_plan : (bytes : List ℕ) (access : Option Listing) (asker : Endpoint) (full : Bool) (a b : Head) → IsAnswer bytes a → IsAnswer bytes b → plan_of_head bytes access asker full a ≡ plan_of_head bytes access asker full b
same_plan bytes access asker full (Whole g f t l) (Whole h e s m) x y = whole_plan bytes access asker full g h f e t s l m x y
same_plan bytes access asker full (Whole g f t l) Bad x y = absurd (no_whole bytes g f t l x y.0)
same_plan bytes access asker full (Whole g f t l) Many x y = absurd (no_whole bytes g f t l x y.0)
same_plan bytes access asker full (Whole g f t l) More x y = absurd (no_whole bytes g f t l x y.0)
same_plan bytes access asker full Bad (Whole h e s m) x y = absurd (no_whole bytes h e s m y x.0)
same_plan bytes access asker full Many (Whole h e s m) x y = absurd (no_whole bytes h e s m y x.0)
same_plan bytes access asker full More (Whole h e s m) x y = absurd (no_whole bytes h e s m y x.0)
same_plan bytes access asker full Bad Bad x y = refl
same_plan bytes access asker full Bad Many x y = ap (plan_of_head bytes access asker full) (sym x.1 ∙ y.1)
same_plan bytes access asker full Bad More x y = ap (plan_of_head bytes access asker full) (sym x.1 ∙ y.1)
same_plan bytes access asker full Many Bad x y = ap (plan_of_head bytes access asker full) (sym x.1 ∙ y.1)
same_plan bytes access asker full Many Many x y = refl
same_plan bytes access asker full Many More x y = ap (plan_of_head bytes access asker full) (sym x.1 ∙ y.1)
same_plan bytes access asker full More Bad x y = ap (plan_of_head bytes access asker full) (sym x.1 ∙ y.1)
same_plan bytes access asker full More Many x y = ap (plan_of_head bytes access asker full) (sym x.1 ∙ y.1)
same_plan bytes access asker full More More x y = refl

-- bytes have one plan
pub one_plan : (bytes : List ℕ) (access : Option Listing) (asker : Endpoint) (full : Bool) (a b : ConnectionPlan) → IsConnectionPlan bytes access asker full a → IsConnectionPlan bytes access asker full b → a ≡ b
one_plan bytes access asker full a b x y = x.planned ∙ same_plan (head_front bytes) access asker full x.head y.head x.found y.found ∙ sym y.planned
