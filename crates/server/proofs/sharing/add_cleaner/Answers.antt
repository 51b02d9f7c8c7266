-- One job has the next pass and the next clock.
use Rattle.std.proofs.Common.{[], ◌∷◌, length, refl, ap, arith}
use Rattle.serve.specs.declared.job.Job.TheVariants.{Cleaner}
use Rattle.server.proofs.sharing.add_cleaner.Goals as goal

pub returns-clause-jobs : goal.returns-clause-jobs
returns-clause-jobs g c =
    let pass = c.take_next.result in
    let clock = c.take_next-2.result in
    record {
      jobs = Cleaner pass clock ∷ [];
      taken = pass ∷ [];
      added = record { pass = pass; clock = clock; passes_are = refl; jobs_are = refl };
      room_is = c.push_reserved.ensures.items;
      passes_are = c.take_next.ensures;
      clocks_gone = omega (arith, ap length c.take_next-2.ensures);
    }
