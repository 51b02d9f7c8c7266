use Rattle.offline.proofs.command.run_offline.Goals as goal

pub returns-clause-err : goal.returns-clause-err
returns-clause-err g c = record { counted = c.report.ensures.counted; stays = c.report.ensures.aside }
