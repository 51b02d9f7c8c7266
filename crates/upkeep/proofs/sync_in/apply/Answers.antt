-- One more note's call.
use Rattle.std.proofs.Common.{◌≡◌, ◌∙◌, ap, arith, get_or, length, refl, sym}
use Rattle.std.specs.Int.{from_bool}
use Rattle.shards.specs.Shape.{PassShape, ShardsShape}
use Rattle.tracker_model.specs.Placed.{bucket_for, bucket_in}
use Rattle.upkeep.specs.Hearing.{sync_call}
use Rattle.upkeep.proofs.Lists.{no_note}
use Rattle.upkeep.proofs.Syncing.{applied_more, applied_none, applied_wanting, full_one, one_at_most}
use Rattle.upkeep.proofs.sync_in.apply.Goals as goal

pub loop-note-init : goal.loop-note-init
loop-note-init g c = record {
  applied = applied_none c.args.minute c.args.pass.now c.args.batch.now.notes;
  calls = refl;
  full = omega arith;
  shards = c.requires.pass;
}

pub returns-then-is_wanting-clause-applied : goal.returns-then-is_wanting-clause-applied
returns-then-is_wanting-clause-applied g c =
    let before = c.loop-note.invariant in
    let items = c.as_slice-note-items.result.now in
    let note = get_or items c.loop-note.note-index no_note in
    let there : get_or c.args.batch.now.notes c.loop-note.calls no_note ≡ note =
    ap (λ i. get_or c.args.batch.now.notes i no_note) before.calls ∙ ap (λ notes. get_or notes c.loop-note.note-index no_note) (sym c.as_slice-note-items.ensures.value) in
    applied_wanting c.args.minute c.args.pass.now c.loop-note.pass c.call.new.pass c.args.batch.now.notes c.loop-note.calls c.loop-note.full before.applied no_note note there
    (omega (arith, before.calls, ap length c.as_slice-note-items.ensures.value, c.loop-note-test.true)) c.call.result.bucket
    (c.call.ensures.bucket ∙ ap (λ (s : ShardsShape). bucket_for (bucket_in s.bits) (sync_call note)) (sym before.shards)) c.call.result.answer c.call.ensures.made
    (sym c.is_wanting.ensures ∙ c.if-is_wanting.true)

pub loop-note-preserved : goal.loop-note-preserved
loop-note-preserved g c =
    let before = c.loop-note.invariant in
    let items = c.as_slice-note-items.result.now in
    let note = get_or items c.loop-note.note-index no_note in
    let there : get_or c.args.batch.now.notes c.loop-note.calls no_note ≡ note =
    ap (λ i. get_or c.args.batch.now.notes i no_note) before.calls ∙ ap (λ notes. get_or notes c.loop-note.note-index no_note) (sym c.as_slice-note-items.ensures.value) in
    let counted = c.from-full.ensures ∙ ap from_bool c.is_full.ensures in record {
      applied = applied_more c.args.minute c.args.pass.now c.loop-note.pass c.call.new.pass c.args.batch.now.notes c.loop-note.calls c.loop-note.full before.applied no_note note there
          (omega (arith, before.calls, ap length c.as_slice-note-items.ensures.value, c.loop-note-test.true)) c.call.result.bucket
          (c.call.ensures.bucket ∙ ap (λ (s : ShardsShape). bucket_for (bucket_in s.bits) (sync_call note)) (sym before.shards)) c.call.result.answer c.call.ensures.made
          c.from-full.result (sym c.is_wanting.ensures ∙ c.if-is_wanting.false) (full_one c.call.result.answer c.from-full.result counted);
      calls = omega (arith, before.calls);
      full = omega (arith, before.full, one_at_most c.call.result.answer c.from-full.result counted);
      shards = ap (λ (p : PassShape). p.shards) c.call.ensures.made.pass ∙ before.shards;
    }
