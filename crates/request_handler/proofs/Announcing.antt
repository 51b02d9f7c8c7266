-- An announce or a stop that was made.
use Rattle.std.proofs.Common.{◌≡◌, ℕ, List, [], ◌∷◌, refl, sym, ap, subst}
use Rattle.std.specs.Prelude.{Some}
use Rattle.std.specs.Option.{option_map}
use Rattle.http_wire.specs.declared.reply.Code.TheVariants as code
use Rattle.ot_base.specs.declared.minute.Minute.{Minute}
use Rattle.tracker_core.specs.HttpText.{announce_body, answered, family_asking, http_text}
use Rattle.tracker_core.specs.declared.http_plan.HttpPlan.{HttpPlan}
use Rattle.tracker_core.specs.declared.http_plan.HttpPlan.TheVariants as http
use Rattle.tracker_core.specs.declared.udp_plan.UdpPlan.{UdpPlan}
use Rattle.tracker_core.specs.declared.udp_plan.UdpPlan.TheVariants.{Announce}
use Rattle.tracker_model.specs.Making.{MakingRelation}
use Rattle.tracker_model.specs.Placed.{bucket_for, bucket_in}
use Rattle.tracker_model.specs.declared.answer.Answer.{Answer}
use Rattle.tracker_model.specs.declared.call.Call.{Call}
use Rattle.request_handler.specs.Connection.{http_placed}
use Rattle.request_handler.specs.Datagram.{CarriesOut, IsOutcome, IsReportOutcome}
use Rattle.request_handler.specs.Making.{Gives, MakesFront}
use Rattle.request_handler.specs.declared.datagram.Outcome.{Outcome}
use Rattle.request_handler.specs.declared.datagram.Outcome.TheVariants.{Silent, Replied, NoMemory}

came : (transaction : ℕ) (call : Call) (answer : Answer) (reply : List ℕ) (outcome : Outcome) → IsReportOutcome transaction answer reply outcome → IsOutcome (Announce transaction call) (answer ∷ []) reply outcome
came transaction call answer reply (Silent quiet) h = absurd h
came transaction call answer reply (Replied len) h = h
came transaction call answer reply NoMemory h = (transaction, call, refl, ap (λ a. a ∷ []) h)

module _ {T : Type 0} (made : MakingRelation T) where
  pub announced : (minute : Minute) (old new : T) (bits : ℕ) (plan : UdpPlan) (transaction : ℕ) (call : Call) (reply : List ℕ) (outcome : Outcome) → plan ≡ Announce transaction call
      → (answer : Answer) × made old (bucket_for (bucket_in bits) call) minute call answer new × IsReportOutcome transaction answer reply outcome
      → CarriesOut made minute old bits plan new reply outcome
  announced minute old new bits plan transaction call reply outcome is one =
      let Carried : UdpPlan → Type 0 = λ p. CarriesOut made minute old bits p new reply outcome in
      subst Carried (sym is) (record { answers = one.0 ∷ []; makes = (new, one.1, refl); came = came transaction call one.0 reply outcome one.2 })

  -- the same over HTTP
  pub reported : (minute : Minute) (old new : T) (bits : ℕ) (plan : HttpPlan) (call : Call) (body : List ℕ) → plan ≡ http.Announce call
      → (answer : Answer) × made old (bucket_for (bucket_in bits) call) minute call answer new × (announce_body (family_asking call) answer ≡ Some body)
      → Gives made minute old (http_placed bits plan) (http_text plan) new (code.Ok, body)
  reported minute old new bits plan call body is one =
      let Given : HttpPlan → Type 0 = λ p. Gives made minute old (http_placed bits p) (http_text p) new (code.Ok, body) in
      subst Given (sym is) (record { answers = one.0 ∷ []; makes = (new, one.1, refl); came = ap (option_map answered) one.2 })

  -- where there is no memory for its body, it was made
  pub report_front : (minute : Minute) (old new : T) (bits : ℕ) (plan : HttpPlan) (call : Call) (answer : Answer) → plan ≡ http.Announce call
      → made old (bucket_for (bucket_in bits) call) minute call answer new → MakesFront made minute old (http_placed bits plan) new
  report_front minute old new bits plan call answer is one =
      let Front : HttpPlan → Type 0 = λ p. MakesFront made minute old (http_placed bits p) new in
      subst Front (sym is) (record { count = 1; answers = answer ∷ []; makes = (new, one, refl) })
