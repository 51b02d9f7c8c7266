use Rattle.std.proofs.Common.{◌≡◌, sym, ap, subst, ◌∙◌}
use Rattle.tracker_model.specs.Placed.{bucket_for, bucket_in}
use Rattle.shards.specs.Passing.{MadeByPass}
use Rattle.load_model.specs.Load.{call_of}
use Rattle.drill.proofs.AskLemmas.{one_asked}
use Rattle.drill.proofs.ask.ask_one.Goals as goal

pub returns-clause-asked : goal.returns-clause-asked
returns-clause-asked g c =
    let old = c.args.pass.now in
    let minute = c.args.minute in
    let done = c.call-done in
    let bucket = done.result.bucket in
    let answer = done.result.answer in
    let new = done.new.pass in
    let of_shards = sym c.requires in
    let made : MadeByPass old bucket minute (call_of c.args.request) answer new = subst (λ call. MadeByPass old bucket minute call answer new) c.call.ensures done.ensures.made in
    let placed : bucket ≡ bucket_for (bucket_in old.shards.bits) (call_of c.args.request) =
    done.ensures.bucket ∙ (λ k. bucket_for (bucket_in (of_shards k).bits) (c.call.ensures k)) in
    λ took. one_asked minute c.args.request old new bucket answer placed made (sym c.has_effect.ensures ∙ took)
