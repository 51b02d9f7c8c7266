-- What was carried out by a plan was carried out for the datagram whose plan it is.
use Rattle.std.proofs.Common.{◌≡◌, ◌∙◌, ℕ, List, [], ◌∷◌, ap, subst, take}
use Rattle.std.specs.Prelude.{Option, Some}
use Rattle.ot_base.specs.declared.address.Endpoint.{Endpoint}
use Rattle.ot_base.specs.declared.minute.Minute.{Minute}
use Rattle.ot_io.specs.Traffic.{Datagram, Moves, Traffic, datagram}
use Rattle.ot_io.proofs.Runs.{Moves-trans}
use Rattle.request_handler.specs.Datagram.{udp_placed}
use Rattle.request_handler.specs.declared.datagram.Outcome.TheVariants.{Replied}
use Rattle.shards.specs.Passing.{PassFollows}
use Rattle.shards.specs.Shape.{PassShape}
use Rattle.tracker_core.specs.UdpPlan.{udp_plan}
use Rattle.tracker_core.specs.UdpText.{udp_text}
use Rattle.tracker_core.specs.declared.udp_plan.UdpPlan.{UdpPlan}
use Rattle.tracker_model.specs.declared.answer.Answer.{Answer}
use Rattle.udp_wire.specs.Packets.{request_of}
use Rattle.serve.specs.Datagram.{Carries, Handles, Replies, Terms, plan_of}

module _ (terms : Terms) (from : Endpoint) (bytes front : List ℕ) (minute : Minute) (plan : UdpPlan)
    (read : front ≡ take 2048 bytes) (now : minute ≡ terms.minute)
    (planned : plan ≡ udp_plan terms.secret terms.access from minute (request_of front)) where
  pub its_plan : plan ≡ plan_of terms (datagram from bytes)
  its_plan =
      planned ∙ ap (λ m. udp_plan terms.secret terms.access from m (request_of front)) now
      ∙ ap (λ b. udp_plan terms.secret terms.access from terms.minute (request_of b)) read

  handled : (old new : PassShape) (answers : List Answer) → PassFollows minute old (udp_placed old.shards.bits plan) answers new → Handles terms old new (datagram from bytes) answers
  handled old new answers follows =
      let P : UdpPlan → Type 0 = λ p. PassFollows terms.minute old (udp_placed old.shards.bits p) answers new in
      let Q : Minute → Type 0 = λ m. PassFollows m old (udp_placed old.shards.bits plan) answers new in
      subst P its_plan (subst Q now follows)

  replied : (answers : List Answer) (reply : List ℕ) → udp_text plan answers ≡ Some reply → Replies terms (datagram from bytes) answers reply
  replied answers reply text =
      let P : UdpPlan → Type 0 = λ p. udp_text p answers ≡ Some reply in
      subst P its_plan text

  -- the plan was carried out, and then its reply was handed to the wire, which sent it or didn't
  pub answered : (old new : PassShape) (room : List ℕ) (len : ℕ) (wire wire1 wire2 : Option Traffic) (outs : Datagram → List ℕ → List Datagram)
      → (carried : Carries minute plan old new room (Replied len)) → Moves wire wire1 (datagram from bytes ∷ []) [] → Moves wire1 wire2 [] (outs (datagram from bytes) (take len room))
      → (came : Datagram) × (answers : List Answer) × (reply : List ℕ) × Handles terms old new came answers × Replies terms came answers reply × Moves wire wire2 (came ∷ []) (outs came reply)
  answered old new room len wire wire1 wire2 outs carried received sent = (
    datagram from bytes,
    carried.answers,
    take len room,
    handled old new carried.answers carried.follows,
    replied carried.answers (take len room) carried.came,
    Moves-trans wire wire1 wire2 (datagram from bytes ∷ []) [] [] (outs (datagram from bytes) (take len room)) received sent,
  )
