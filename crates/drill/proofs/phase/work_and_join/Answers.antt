use Rattle.std.proofs.Common.{◌≡◌, true, All, List, length, map, sym, ap, subst, ◌∙◌}
use Rattle.shards.specs.Joining.{AreJoined}
use Rattle.drill.specs.Working.{AllWork}
use Rattle.drill.specs.declared.worker.Worker.{Worker}
use Rattle.drill.proofs.TeamLemmas.{IsOthers, passes_still, written_back}
use Rattle.drill.proofs.phase.work_and_join.Goals as goal

pub join_all-requires-clause-passes : goal.join_all-requires-clause-passes
join_all-requires-clause-passes g c =
    let team = c.args.team.items in
    let worked = c.work_all.new.team in
    let value = c.as_mut_slice.ensures.value in
    let work : AllWork c.args.minute team worked = subst (λ (l : List Worker). AllWork c.args.minute l worked) value c.work_all.ensures in
    let back = written_back c.args.team.len team worked (sym (ap length value) ∙ c.as_mut_slice.ensures.len) work.count in
    subst (All (IsOthers c.args.shards.now)) (sym back) (passes_still c.args.minute c.args.shards.now team worked c.requires.passes work)

pub returns-clause-done : goal.returns-clause-done
returns-clause-done g c =
    let team = c.args.team.items in
    let worked = c.work_all.new.team in
    let value = c.as_mut_slice.ensures.value in
    let work : AllWork c.args.minute team worked = subst (λ (l : List Worker). AllWork c.args.minute l worked) value c.work_all.ensures in
    let back = written_back c.args.team.len team worked (sym (ap length value) ∙ c.as_mut_slice.ensures.len) work.count in
    record {
      worked = worked;
      work = work;
      joins = subst (λ (l : List Worker). AreJoined (map (λ (worker : Worker). worker.pass) l) c.args.pass.now c.join_all.new.pass) back c.join_all.ensures.joined;
      effective = λ took. subst (All (λ (worker : Worker). worker.took ≡ true)) (c.as_slice.ensures.value ∙ back) (c.all_took-took.ensures took);
    }
