-- One more batch was sent.
use Rattle.std.proofs.Common.{◌≡◌, ◌∙◌, ◌≤◌, List, All, arith, length, sym, subst}
use Rattle.std.proofs.lemmas.Bool.Decides.{nat_tests}
use Rattle.std.proofs.lemmas.List.{length-map}
use Rattle.std.proofs.lemmas.List.Elements.{All-drop}
use Rattle.ot_base.specs.declared.peer.Note.{Note}
use Rattle.ot_io.specs.Traffic.{datagram}
use Rattle.sync_wire.specs.Batches.{batch_bytes}
use Rattle.sync_wire.specs.Notes.{IsTellable}
use Rattle.upkeep.specs.Telling.{outgoing, to_each}
use Rattle.upkeep.proofs.Sending.{outgoing_cut, outgoing_none, sent_all, sent_more, sent_some}
use Rattle.upkeep.proofs.sync_out.send_notes.Goals as goal

pub returns-in-Err-clause-sent : goal.returns-in-Err-clause-sent
returns-in-Err-clause-sent g c =
    let of = g.W.Wire in
    let own = c.args.own in
    let nodes = c.args.nodes.now in
    let left = c.loop-left.left.now in
    let front = c.split_at.result.0.now in
    let back = c.split_at.result.1.now in
    let some : 1 ≤ length left = grind (arith, nat_tests) in
    sent_some (outgoing own nodes c.args.notes.now) (outgoing own nodes left) (to_each nodes (batch_bytes own front)) (outgoing own nodes back)
    (of.traffic c.args.wire.now) (of.traffic c.loop-left.wire) (of.traffic c.send_batch.new.wire) c.loop-left.count c.in-Err.sent c.loop-left.invariant.sent
    (outgoing_cut own nodes left front back c.batch_len.result some c.batch_len.ensures.value c.split_at.ensures.front c.split_at.ensures.back) c.in-Err.ensures.sent

pub loop-left-preserved : goal.loop-left-preserved
loop-left-preserved g c =
    let of = g.W.Wire in
    let own = c.args.own in
    let nodes = c.args.nodes.now in
    let left = c.loop-left.left.now in
    let front = c.split_at.result.0.now in
    let back = c.split_at.result.1.now in
    let before = c.loop-left.invariant in
    let some : 1 ≤ length left = grind (arith, nat_tests) in
    let Tellable : List Note → Type 0 = λ notes. All IsTellable notes in record {
      sent = sent_more (outgoing own nodes c.args.notes.now) (outgoing own nodes left) (to_each nodes (batch_bytes own front)) (outgoing own nodes back)
          (of.traffic c.args.wire.now) (of.traffic c.loop-left.wire) (of.traffic c.send_batch.new.wire) c.loop-left.count c.in-Ok.sent before.sent
          (outgoing_cut own nodes left front back c.batch_len.result some c.batch_len.ensures.value c.split_at.ensures.front c.split_at.ensures.back) c.in-Ok.ensures.sent;
      few = omega (arith, before.few, some, c.batch_len.ensures.some some, c.split_at.ensures.back_len, c.in-Ok.ensures.sent.0, length-map nodes (λ node. datagram node (batch_bytes own front)), c.requires.few_nodes);
      tellable = subst Tellable (sym c.split_at.ensures.back) (All-drop IsTellable c.batch_len.result left before.tellable);
      faults = omega (arith, before.faults, c.in-Ok.ensures.faults);
      idles = c.in-Ok.ensures.idles ∙ before.idles;
    }

pub returns-clause-sent : goal.returns-clause-sent
returns-clause-sent g c =
    let of = g.W.Wire in
    let left = c.loop-left.left.now in
    let none : length left ≡ 0 = grind (arith, nat_tests) in
    sent_all (outgoing c.args.own c.args.nodes.now c.args.notes.now) (outgoing c.args.own c.args.nodes.now left) (of.traffic c.args.wire.now) (of.traffic c.loop-left.wire) c.loop-left.count c.loop-left.invariant.sent
    (outgoing_none c.args.own c.args.nodes.now left none)
