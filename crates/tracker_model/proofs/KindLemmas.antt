-- A right answer is of the kind that its call gets.
use Rattle.std.proofs.Common.{◌≡◌, ◌≤◌, ℕ, Bool, true, false, ◌&&◌, List, [], ◌∷◌, Option, Some, None, refl, sym, ◌∙◌, ap, subst, arith, length, not, ◌-◌, nat_lt, IsTrue, if◌then◌else◌}
use Rattle.std.specs.Prelude.{All}
use Rattle.std.specs.Bool.{MatchBool}
use Rattle.std.specs.List.{list_all, AllByRecursion}
use Rattle.std.proofs.lemmas.List.Elements.{All-from_recursion}
use Rattle.ot_base.specs.Address.{family_of}
use Rattle.ot_base.specs.Same.{same_endpoint, same_family}
use Rattle.ot_base.specs.declared.hash.InfoHash.{InfoHash}
use Rattle.ot_base.specs.declared.address.Endpoint.{Endpoint}
use Rattle.ot_base.specs.declared.address.Family.{Family}
use Rattle.ot_base.specs.declared.address.Family.TheVariants.{Four, Six}
use Rattle.ot_base.specs.declared.peer.Held.{Held}
use Rattle.ot_base.specs.declared.peer.Mark.TheVariants.{Leecher, Seed, Stopped}
use Rattle.tracker_model.specs.Calls.{Word, silent, gone, here}
use Rattle.tracker_model.specs.Counted.{counts_of, may_be_told}
use Rattle.tracker_model.specs.Entries.{time_of, held_after, last_word, word_of}
use Rattle.tracker_model.specs.Kinds.{IsKindOf}
use Rattle.tracker_model.specs.Live.{if_live, live}
use Rattle.tracker_model.specs.Right.{Answers, IsFair, IsToldAnd, IsRightAfterPast, is_no_memory, is_swarm_full, is_bucket_full, may_want}
use Rattle.tracker_model.specs.Settings.{Settings}
use Rattle.tracker_model.specs.declared.answer.Answer.{Answer}
use Rattle.tracker_model.specs.declared.answer.Answer.TheVariants.{Told, Stats, Rows, Cleaned, Applied, Drained, SwarmFull, BucketFull, NoMemory}
use Rattle.tracker_model.specs.declared.call.Call.{Call}
use Rattle.tracker_model.specs.declared.call.Call.TheVariants.{Announce, Stop, Scrape, Scan, Clean, Sync, Drain}
use Rattle.tracker_model.specs.declared.entry.Entry.{Entry}
use Rattle.tracker_model.specs.declared.limits.TheConstants.{PEER_MINUTES}
use Rattle.tracker_model.proofs.Cases.{both_first}

pub same_family-is : (f g : Family) → same_family f g ≡ true → f ≡ g
same_family-is Four Four e = refl
same_family-is Four Six e = cc
same_family-is Six Four e = cc
same_family-is Six Six e = refl

both_second : (a b : Bool) → (a && b) ≡ true → b ≡ true
both_second true b both = both
both_second false b both = absurd (let p : ⊥ = cc in p)

-- what stands of an endpoint has it
abbrev Has : Endpoint → Option Held → Type 0
Has e None = Unit {0}
Has e (Some held) = held.who ≡ e

has_after : (w : Word) (e : Endpoint) (minute : ℕ) (o : Option Held) → Has e o → Has e (held_after w e minute o)
has_after silent e minute o has = has
has_after gone e minute o has = tt
has_after (here seed) e minute o has = refl

last_has : (past : List Entry) (h : InfoHash) (e : Endpoint) → Has e (last_word past h e)
last_has [] h e = tt
last_has (x ∷ past) h e = has_after (word_of x h e) e (time_of (x ∷ past)) (last_word past h e) (last_has past h e)

if_live_has : (minute : ℕ) (e : Endpoint) (o : Option Held) → Has e o → Has e (if_live minute o)
if_live_has minute e None has = tt
if_live_has minute e (Some held) has =
    elim (nat_lt (minute - held.stamp.0) PEER_MINUTES) as (λ b. Has e (if b then Some held else None)) [ true ↦ has | false ↦ tt ]

-- an endpoint that may be told is of the asker's family
family_told : (asker e : Endpoint) (o : Option Held) → Has e o → may_be_told asker o ≡ true → family_of e.addr ≡ family_of asker.addr
family_told asker e None has told = absurd (let p : ⊥ = cc in p)
family_told asker e (Some held) has told =
    ap (λ (d : Endpoint). family_of d.addr) (sym has)
    ∙ same_family-is (family_of held.who.addr) (family_of asker.addr) (both_first (same_family (family_of held.who.addr) (family_of asker.addr)) (not (same_endpoint held.who asker)) told)

families_told : (now : List Entry) (h : InfoHash) (asker : Endpoint) (peers : List Endpoint) → list_all (λ e. may_be_told asker (live now h e (time_of now))) peers ≡ true →
    AllByRecursion (λ (e : Endpoint). family_of e.addr ≡ family_of asker.addr) peers
families_told now h asker [] all = tt
families_told now h asker (e ∷ peers) all =
    let here = may_be_told asker (live now h e (time_of now)) in
    let rest = list_all (λ e. may_be_told asker (live now h e (time_of now))) peers in (
      family_told asker e (live now h e (time_of now)) (if_live_has (time_of now) e (last_word now h e) (last_has now h e)) (both_first here rest all),
      families_told now h asker peers (both_second here rest all),
    )

fair_kind : (now : List Entry) (h : InfoHash) (asker : Endpoint) (want : ℕ) (peers : List Endpoint) → IsFair now h asker want peers →
    All (λ (e : Endpoint). family_of e.addr ≡ family_of asker.addr) peers × (length peers ≤ want)
fair_kind now h asker want peers fair = (
  All-from_recursion (λ (e : Endpoint). family_of e.addr ≡ family_of asker.addr) peers (families_told now h asker peers fair.drawn),
  (let many = fair.as_many in omega (arith, many)),
)

told_kind : (g : Settings) (now : List Entry) (h : InfoHash) (who : Endpoint) (seed completed : Bool) (want : ℕ) (a : Answer) →
    IsToldAnd a (λ counts peers. (counts ≡ counts_of now h) × IsFair now h who want peers) → IsKindOf g (Announce h who seed completed want) a
told_kind g now h who seed completed want (Told counts peers) told = fair_kind now h who want peers told.1
told_kind g now h who seed completed want (Stats counts known) told = absurd told
told_kind g now h who seed completed want (Rows rows) told = absurd told
told_kind g now h who seed completed want (Cleaned held) told = absurd told
told_kind g now h who seed completed want Applied told = absurd told
told_kind g now h who seed completed want (Drained notes dropped) told = absurd told
told_kind g now h who seed completed want (SwarmFull count) told = absurd told
told_kind g now h who seed completed want (BucketFull count) told = absurd told
told_kind g now h who seed completed want NoMemory told = absurd told

-- by whether an answer is want of memory
answer_cases : (a : Answer) (W Q R : Type 0) → (a ≡ NoMemory → W → R) → (Q → R) → MatchBool (is_no_memory a) W Q → R
answer_cases (Told counts peers) W Q R none some fact = some fact
answer_cases (Stats counts known) W Q R none some fact = some fact
answer_cases (Rows rows) W Q R none some fact = some fact
answer_cases (Cleaned held) W Q R none some fact = some fact
answer_cases Applied W Q R none some fact = some fact
answer_cases (Drained notes dropped) W Q R none some fact = some fact
answer_cases (SwarmFull count) W Q R none some fact = some fact
answer_cases (BucketFull count) W Q R none some fact = some fact
answer_cases NoMemory W Q R none some fact = none refl fact

match_cases : (b : Bool) (P Q R : Type 0) → (P → R) → (Q → R) → MatchBool b P Q → R
match_cases true P Q R first second fact = first fact
match_cases false P Q R first second fact = second fact

-- an answer that is another one's equal is of its kind
kind_as : (g : Settings) (call : Call) (a b : Answer) → a ≡ b → IsKindOf g call b → IsKindOf g call a
kind_as g call a b same kind = let P : Answer → Type 0 = λ o. IsKindOf g call o in subst P (sym same) kind

never : {P : Type 0} → IsTrue false → P
never e = absurd (let p : ⊥ = cc in p)

-- a call that may be refused as full, or want memory
joining_kind : (g : Settings) (past now : List Entry) (minute : ℕ) (call : Call) (a : Answer) →
    IsKindOf g call (SwarmFull g.limits.peers) → IsKindOf g call (BucketFull g.limits.torrents) → IsKindOf g call NoMemory →
    (Answers g past now call a → IsKindOf g call a) →
    MatchBool (is_swarm_full g past minute call) (a ≡ SwarmFull g.limits.peers)
    (MatchBool (is_bucket_full g past minute call) (a ≡ BucketFull g.limits.torrents)
    (MatchBool (is_no_memory a) (IsTrue (may_want g past minute call)) (Answers g past now call a))) → IsKindOf g call a
joining_kind g past now minute call a swarm_kind bucket_kind none_kind told_kind fact =
    let Rest : Type 0 = MatchBool (is_no_memory a) (IsTrue (may_want g past minute call)) (Answers g past now call a) in
    let Space : Type 0 = MatchBool (is_bucket_full g past minute call) (a ≡ BucketFull g.limits.torrents) Rest in
    match_cases (is_swarm_full g past minute call) (a ≡ SwarmFull g.limits.peers) Space (IsKindOf g call a)
    (λ is. kind_as g call a (SwarmFull g.limits.peers) is swarm_kind)
    (λ more. match_cases (is_bucket_full g past minute call) (a ≡ BucketFull g.limits.torrents) Rest (IsKindOf g call a)
    (λ is. kind_as g call a (BucketFull g.limits.torrents) is bucket_kind)
    (λ rest. answer_cases a (IsTrue (may_want g past minute call)) (Answers g past now call a) (IsKindOf g call a) (λ is wants. kind_as g call a NoMemory is none_kind) told_kind rest)
    more)
    fact

kind_by_call : (g : Settings) (past now : List Entry) (minute : ℕ) (call : Call) (a : Answer) →
    MatchBool (is_swarm_full g past minute call) (a ≡ SwarmFull g.limits.peers)
    (MatchBool (is_bucket_full g past minute call) (a ≡ BucketFull g.limits.torrents)
    (MatchBool (is_no_memory a) (IsTrue (may_want g past minute call)) (Answers g past now call a))) → IsKindOf g call a
kind_by_call g past now minute (Announce h who seed completed want) a right =
    joining_kind g past now minute (Announce h who seed completed want) a refl refl tt (told_kind g now h who seed completed want a) right
kind_by_call g past now minute (Stop h who) a right =
    answer_cases a _ _ (IsKindOf g (Stop h who) a) (λ is wants. kind_as g (Stop h who) a _ is wants) (λ told. kind_as g (Stop h who) a _ told refl) right
kind_by_call g past now minute (Scrape h) a right = answer_cases a _ _ (IsKindOf g (Scrape h) a) (λ is wants. never wants) (λ told. kind_as g (Scrape h) a _ told tt) right
kind_by_call g past now minute Scan a right = answer_cases a _ _ (IsKindOf g Scan a) (λ is wants. kind_as g Scan a _ is tt) (λ told. kind_as g Scan a _ told tt) right
kind_by_call g past now minute Clean a right = answer_cases a _ _ (IsKindOf g Clean a) (λ is wants. never wants) (λ told. kind_as g Clean a _ told tt) right
kind_by_call g past now minute (Sync h who Leecher) a right =
    joining_kind g past now minute (Sync h who Leecher) a refl refl tt (λ told. kind_as g (Sync h who Leecher) a Applied told tt) right
kind_by_call g past now minute (Sync h who Seed) a right =
    joining_kind g past now minute (Sync h who Seed) a refl refl tt (λ told. kind_as g (Sync h who Seed) a Applied told tt) right
kind_by_call g past now minute (Sync h who Stopped) a right =
    let call : Call = Sync h who Stopped in
    answer_cases a _ _ (IsKindOf g call a) (λ is wants. never wants) (λ told. kind_as g call a _ told tt) right
kind_by_call g past now minute Drain a right = answer_cases a _ _ (IsKindOf g Drain a) (λ is wants. never wants) (λ told. kind_as g Drain a _ told tt) right

pub right_kind : (g : Settings) (past : List Entry) (x : Entry) → IsRightAfterPast g past x → IsKindOf g x.call x.answer
right_kind g past x right = kind_by_call g past (x ∷ past) (time_of (x ∷ past)) x.call x.answer right
