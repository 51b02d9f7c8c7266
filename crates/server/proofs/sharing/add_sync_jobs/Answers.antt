-- There are no wires, or two.
use Rattle.std.proofs.Common.{rules, ◌≡◌, ◌∙◌, ◌<◌, ◌++◌, [], ◌∷◌, length, refl, sym, ap, subst, append_assoc, append-nil, arith}
use Rattle.std.proofs.lemmas.List.{nil_from_length}
use Rattle.std.specs.Vec.Iter.{into_iter_items}
use Rattle.serve.specs.declared.job.Job.TheVariants.{Receiver, Sender}
use Rattle.server.specs.Opening.{AreSyncJobs}
use Rattle.server.proofs.TeamLemmas.{two_of}
use Rattle.server.proofs.sharing.add_sync_jobs.Goals as goal

pub returns-then-is_empty : goal.returns-then-is_empty
returns-then-is_empty g c =
    let no_wire : c.args.wires.len ≡ 0 = search rules in
    let none : c.args.wires.items ≡ [] = nil_from_length c.args.wires.items (sym c.args.wires.ok.0 ∙ no_wire) in record {
      jobs = record {
        jobs = [];
        taken = [];
        added = subst (λ l. AreSyncJobs l [] []) (sym none) (refl, refl);
        room_is = sym (append-nil c.args.room.items);
        passes_are = refl;
        clocks_gone = omega arith;
      };
    }

pub take_next-requires-4 : goal.take_next-requires-4
take_next-requires-4 g c =
    let some : 0 < c.args.wires.len = search rules in
    omega (arith, two_of c.args.wires.len c.requires.none_or_two some, c.requires.passes, ap length c.take_next.ensures)

pub take_next-requires-5 : goal.take_next-requires-5
take_next-requires-5 g c =
    let some : 0 < c.args.wires.len = search rules in
    let all : into_iter_items c.into_iter-wires.result ≡ c.args.wires.items = search rules in
    omega (arith, two_of c.args.wires.len c.requires.none_or_two some, c.args.wires.ok.0, ap length all, ap length c.take_next-2.ensures)

pub returns : goal.returns
returns g c =
    let some : 0 < c.args.wires.len = search rules in
    let all : into_iter_items c.into_iter-wires.result ≡ c.args.wires.items = search rules in
    let two = two_of c.args.wires.len c.requires.none_or_two some in
    let first = c.take_next-2.result in
    let second = c.take_next-5.result in
    let left = into_iter_items c.take_next-5.new.left in
    let none : left ≡ [] = nil_from_length left (omega (arith, two, c.args.wires.ok.0, ap length all, ap length c.take_next-2.ensures, ap length c.take_next-5.ensures)) in
    let wires : c.args.wires.items ≡ first ∷ second ∷ [] =
    sym all ∙ c.take_next-2.ensures ∙ ap (λ l. first ∷ l) c.take_next-5.ensures ∙ ap (λ l. first ∷ second ∷ l) none in
    let pass = c.take_next.result in
    let next = c.take_next-4.result in
    let sender = Sender pass first c.take_next-3.result in
    let receiver = Receiver next second c.take_next-6.result in record {
      jobs = record {
        jobs = sender ∷ receiver ∷ [];
        taken = pass ∷ next ∷ [];
        added = subst (λ l. AreSyncJobs l (pass ∷ next ∷ []) (sender ∷ receiver ∷ [])) (sym wires)
            (record { pass = pass; clock = c.take_next-3.result; next = next; next_clock = c.take_next-6.result; passes_are = refl; jobs_are = refl });
        room_is = c.push_reserved-2.ensures.items ∙ ap (λ l. l ++ receiver ∷ []) c.push_reserved.ensures.items ∙ append_assoc c.args.room.items (sender ∷ []) (receiver ∷ []);
        passes_are = c.take_next.ensures ∙ ap (λ l. pass ∷ l) c.take_next-4.ensures;
        clocks_gone = omega (arith, ap length c.take_next-3.ensures, ap length c.take_next-6.ensures);
      };
    }
