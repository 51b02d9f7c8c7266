use Rattle.std.proofs.Common.{◌≡◌, ◌≤◌, ◌<◌, ℕ, true, false, List, length, ap, subst, sym, arith}
use Rattle.std.specs.Prelude.{nat_le, if◌then◌else◌}
use Rattle.std.proofs.lemmas.Bool.Decides.{nat_tests}
use Rattle.http_wire.specs.Head.{IsAnswer}
use Rattle.http_wire.specs.declared.head.Head.TheVariants as head
use Rattle.http_wire.specs.declared.reply.Code.TheVariants.{TooLarge}
use Rattle.tracker_core.specs.ConnectionPlan.{head_front, head_room}
use Rattle.tracker_core.specs.declared.connection_plan.ConnectionPlan.TheVariants.{More, Rejected}
use Rattle.tracker_core.proofs.connection_plan.plan_connection.Goals as goal

full_front : (n room : ℕ) → room ≤ n → nat_le room n ≡ true
full_front n room full = grind (arith, nat_tests)

open_front : (n room : ℕ) → n < room → nat_le room n ≡ false
open_front n room left = grind (arith, nat_tests)

pub returns-then-front-ge-HEAD_ROOM-clause-planned : goal.returns-then-front-ge-HEAD_ROOM-clause-planned
returns-then-front-ge-HEAD_ROOM-clause-planned c =
    let front = head_front c.args.bytes.now in
    let Has : List ℕ → Type 0 = λ bytes. head_room ≤ length bytes in
    let Answers : List ℕ → Type 0 = λ bytes. IsAnswer bytes head.More in
    let test = full_front (length front) head_room (subst Has c.head_front-front.ensures c.if-front-ge-HEAD_ROOM.true) in
    record {
      head = head.More;
      found = subst Answers c.head_front-front.ensures c.in-More.ensures;
      planned = sym (ap (λ b. if b then Rejected TooLarge else More) test);
    }

pub returns-else-front-ge-HEAD_ROOM-clause-planned : goal.returns-else-front-ge-HEAD_ROOM-clause-planned
returns-else-front-ge-HEAD_ROOM-clause-planned c =
    let front = head_front c.args.bytes.now in
    let Lacks : List ℕ → Type 0 = λ bytes. length bytes < head_room in
    let Answers : List ℕ → Type 0 = λ bytes. IsAnswer bytes head.More in
    let test = open_front (length front) head_room (subst Lacks c.head_front-front.ensures c.if-front-ge-HEAD_ROOM.false) in
    record {
      head = head.More;
      found = subst Answers c.head_front-front.ensures c.in-More.ensures;
      planned = sym (ap (λ b. if b then Rejected TooLarge else More) test);
    }
