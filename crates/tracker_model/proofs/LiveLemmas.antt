-- What is live now and later, and after an entry.
use Rattle.std.proofs.Common.{◌≡◌, ℕ, ◌-◌, ◌≤◌, Bool, true, List, ◌∷◌, Option, Some, None, refl, sym, ◌∙◌, ap, arith, nat_lt, if◌then◌else◌}
use Rattle.std.proofs.lemmas.Bool.Decides.{nat_tests}
use Rattle.ot_base.specs.declared.hash.InfoHash.{InfoHash}
use Rattle.ot_base.specs.declared.address.Endpoint.{Endpoint}
use Rattle.ot_base.specs.declared.peer.Held.{Held}
use Rattle.tracker_model.specs.Calls.{silent, gone, here}
use Rattle.tracker_model.specs.Entries.{time_of, word_of, last_word, held_after}
use Rattle.tracker_model.specs.Live.{if_live, live}
use Rattle.tracker_model.specs.declared.entry.Entry.{Entry}
use Rattle.tracker_model.specs.declared.limits.TheConstants.{PEER_MINUTES}

pub if_live-later : (now later : ℕ) → now ≤ later → (o : Option Held) → if_live later (if_live now o) ≡ if_live later o
if_live-later now later le None = refl
if_live-later now later le (Some held) = grind (arith, nat_tests)

-- what agrees now agrees later
pub live_agrees_later : (now later : ℕ) → now ≤ later → (a b : Option Held) → if_live now a ≡ if_live now b → if_live later a ≡ if_live later b
live_agrees_later now later le a b e = sym (if_live-later now later le a) ∙ ap (λ o. if_live later o) e ∙ if_live-later now later le b

-- an entry that says nothing of an endpoint leaves what is live of it
pub live-kept : (x : Entry) (past : List Entry) (h : InfoHash) (e : Endpoint) (minute : ℕ) → word_of x h e ≡ silent → live (x ∷ past) h e minute ≡ live past h e minute
live-kept x past h e minute unsaid = ap (λ w. if_live minute (held_after w e (time_of (x ∷ past)) (last_word past h e))) unsaid

-- an endpoint that stops isn't live
pub live-gone : (x : Entry) (past : List Entry) (h : InfoHash) (e : Endpoint) (minute : ℕ) → word_of x h e ≡ gone → live (x ∷ past) h e minute ≡ None
live-gone x past h e minute stopped = ap (λ w. if_live minute (held_after w e (time_of (x ∷ past)) (last_word past h e))) stopped

pub zero_live : (now : ℕ) → nat_lt (now - now) PEER_MINUTES ≡ true
zero_live now = grind (arith, nat_tests)

-- an endpoint that takes part is live just then
pub live-here : (x : Entry) (past : List Entry) (h : InfoHash) (e : Endpoint) (seed : Bool) → word_of x h e ≡ here seed →
    live (x ∷ past) h e (time_of (x ∷ past)) ≡ Some (record { who = e; seed = seed; stamp = record { 0 = time_of (x ∷ past) } })
live-here x past h e seed says =
    let now = time_of (x ∷ past) in
    let held : Held = record { who = e; seed = seed; stamp = record { 0 = now } } in
    ap (λ w. if_live now (held_after w e now (last_word past h e))) says
    ∙ ap (λ b. if b then Some held else None) (zero_live now)
