-- One more job has the next pass and the next clock.
use Rattle.std.proofs.Common.{rules, ◌≡◌, ◌∙◌, ◌++◌, [], ◌∷◌, length, refl, sym, ap, subst, append_assoc, append-nil, vec_len, arith}
use Rattle.std.proofs.lemmas.Iterator.Adapters.{YieldsList-from_vec}
use Rattle.std.proofs.lemmas.Iterator.Consumers.{YieldsList-end}
use Rattle.std.proofs.lemmas.List.{length_push, length-append}
use Rattle.std.specs.Vec.Iter.{into_iter_items}
use Rattle.server.specs.Opening.{AreWireJobs}
use Rattle.serve.specs.declared.job.Job.TheVariants.{Udp}
use Rattle.server.proofs.TeamLemmas.{all_gone, wire_long, wire_more, some_left}
use Rattle.server.proofs.opening.add_wire_jobs.Goals as goal

pub loop-wire-init : goal.loop-wire-init
loop-wire-init g c = record {
  all = search rules;
  jobs = ([], [], sym (append-nil c.args.room.items), refl, tt);
  clocks = omega arith;
  capacity = omega arith;
}

pub take_next-pass-requires : goal.take_next-pass-requires
take_next-pass-requires g c =
    let was = c.loop-wire.invariant.jobs in
    let long = wire_long c.loop-wire.yielded was.1 was.0 was.4 in
    let all : c.args.wires.items ≡ c.loop-wire.yielded ++ c.in-Some.wire ∷ c.next.new.self.rest.items = search rules in
    let k : vec_len c.args.wires ≡ length c.args.wires.items = search rules in
    some_left c.args.wires.items c.loop-wire.yielded c.next.new.self.rest.items c.in-Some.wire (into_iter_items c.args.passes.now) was.1 (into_iter_items c.loop-wire.passes) (let l = c.requires.passes in omega arith) all was.3 long.0

pub take_next-clock-requires : goal.take_next-clock-requires
take_next-clock-requires g c =
    let all : c.args.wires.items ≡ c.loop-wire.yielded ++ c.in-Some.wire ∷ c.next.new.self.rest.items = search rules in
    let a = ap length all in
    let b = length-append c.loop-wire.yielded (c.in-Some.wire ∷ c.next.new.self.rest.items) in
    let d = c.loop-wire.invariant.clocks in
    let k : vec_len c.args.wires ≡ length c.args.wires.items = search rules in
    let l = c.requires.clocks in omega arith

pub push_reserved-requires : goal.push_reserved-requires
push_reserved-requires g c =
    let was = c.loop-wire.invariant.jobs in
    let long = wire_long c.loop-wire.yielded was.1 was.0 was.4 in
    let all : c.args.wires.items ≡ c.loop-wire.yielded ++ c.in-Some.wire ∷ c.next.new.self.rest.items = search rules in
    let a = ap length all in
    let b = length-append c.loop-wire.yielded (c.in-Some.wire ∷ c.next.new.self.rest.items) in
    let d = ap length was.2 in
    let e = length-append c.args.room.items was.0 in
    let f = long.1 in
    let h = c.loop-wire.invariant.capacity in
    let i : vec_len c.loop-wire.room ≡ length c.loop-wire.room.items = search rules in
    let j : vec_len c.args.room ≡ length c.args.room.items = search rules in
    let k : vec_len c.args.wires ≡ length c.args.wires.items = search rules in
    let l = c.requires.room in omega arith

pub loop-wire-preserved : goal.loop-wire-preserved
loop-wire-preserved g c =
    let was = c.loop-wire.invariant.jobs in
    let wire = c.in-Some.wire in
    let pass = c.take_next-pass.result in
    let job = Udp c.take_next-pass.result wire c.take_next-clock.result c.new-scratch.result in
    let done = c.loop-wire.yielded in
    let all : c.args.wires.items ≡ done ++ wire ∷ c.next.new.self.rest.items = search rules in record {
      all = all ∙ sym (append_assoc done (wire ∷ []) c.next.new.self.rest.items);
      jobs = (
        was.0 ++ job ∷ [],
        was.1 ++ pass ∷ [],
        c.push_reserved.ensures.items ∙ ap (λ l. l ++ job ∷ []) was.2 ∙ append_assoc c.args.room.items was.0 (job ∷ []),
        was.3 ∙ ap (λ l. was.1 ++ l) c.take_next-pass.ensures ∙ sym (append_assoc was.1 (pass ∷ []) (into_iter_items c.take_next-pass.new.left)),
        wire_more done was.1 was.0 wire pass c.take_next-clock.result c.new-scratch.result was.4,
      );
      clocks = (let a = c.loop-wire.invariant.clocks in let b = ap length c.take_next-clock.ensures in let e = length_push done wire in omega arith);
      capacity = (let a = c.loop-wire.invariant.capacity in let b = c.push_reserved.ensures.capacity in omega arith);
    }

pub returns-clause-jobs : goal.returns-clause-jobs
returns-clause-jobs g c =
    let was = c.loop-wire.invariant.jobs in
    let long = wire_long c.loop-wire.yielded was.1 was.0 was.4 in
    let ends = YieldsList-end (YieldsList-from_vec {s = c.into_iter-wire-iterator.result} c.args.wires.items (cc) (cc)) c.loop-wire.yielded c.loop-wire.wire-iterator c.loop-wire.yielded_by c.next.result c.next.new.self c.in-None.is c.next.ensures.steps in
    let whole : c.loop-wire.yielded ≡ c.args.wires.items = all_gone c.args.wires.items c.loop-wire.yielded c.loop-wire.wire-iterator.rest.items c.loop-wire.invariant.all (sym ends.1) in
    record {
      jobs = was.0;
      taken = was.1;
      added = subst (λ l. AreWireJobs l was.1 was.0) whole was.4;
      room_is = was.2;
      passes_are = was.3;
      clocks_gone = (let a = c.loop-wire.invariant.clocks in let b = long.1 in omega arith);
    }
