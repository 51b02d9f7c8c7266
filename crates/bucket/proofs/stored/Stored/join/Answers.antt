-- Where it isn't full for the endpoint, only memory may be wanting.
use Rattle.std.proofs.Common.{inl, inr, arith, Result, sym, subst}
use Rattle.bucket.specs.Stored.{IsFit, JoinsStored}
use Rattle.bucket.specs.declared.joining.JoinError.{JoinError}
use Rattle.bucket.specs.declared.stored.Stored.{Stored}
use Rattle.bucket.proofs.JoinLemmas.{gave_memory, joins_done, put_fit, refused_full, refused_memory, room_where}
use Rattle.bucket.proofs.stored.Stored.join.Goals as goal

pub returns-then-is_full_for-clause-joins : goal.returns-then-is_full_for-clause-joins
returns-then-is_full_for-clause-joins g c =
    refused_full c.args.limit c.args.now.0 c.args.joining.now c.args.self.now c.move_on.new.self c.move_on.ensures.passes c.is_full_for.result c.is_full_for.ensures c.if-is_full_for.true

pub returns-then-is_full_for-clause-fit : goal.returns-then-is_full_for-clause-fit
returns-then-is_full_for-clause-fit g c = c.move_on.ensures.fit c.args.limit c.requires.few

pub put-requires : goal.put-requires
put-requires g c =
    let fit = c.move_on.ensures.fit c.args.limit c.requires.few in
    let room = room_where c.args.limit c.args.joining.now.who c.move_on.new.self.swarm c.is_full_for.result c.is_full_for.ensures c.if-is_full_for.false fit.few in
    elim room [
      | inl again ↦ inl again
      | inr less ↦ inr (omega (arith, less, c.requires.limited))
    ]

pub returns-in_err-put-clause-joins : goal.returns-in_err-put-clause-joins
returns-in_err-put-clause-joins g c =
    let fit = c.move_on.ensures.fit c.args.limit c.requires.few in
    let room = room_where c.args.limit c.args.joining.now.who c.move_on.new.self.swarm c.is_full_for.result c.is_full_for.ensures c.if-is_full_for.false fit.few in
    let P : Result (Unit {0}) JoinError → Type 0 = λ r. JoinsStored c.args.limit c.args.now.0 c.args.joining.now c.args.self.now c.put.new.self r in
    let gave = c.from_residual.ensures in
    subst P (sym (gave_memory c.from_residual.result gave.0 gave.1)) (refused_memory c.args.limit c.args.now.0 c.args.joining.now c.args.self.now c.move_on.new.self c.put.new.self c.move_on.ensures.passes room c.in_err-put.ensures.fresh c.in_err-put.ensures.err)

pub returns-in_err-put-clause-fit : goal.returns-in_err-put-clause-fit
returns-in_err-put-clause-fit g c =
    let P : Stored → Type 0 = λ s. IsFit c.args.limit c.args.now.0 s in
    subst P (sym c.in_err-put.ensures.err) (c.move_on.ensures.fit c.args.limit c.requires.few)

pub returns-clause-joins : goal.returns-clause-joins
returns-clause-joins g c =
    let fit = c.move_on.ensures.fit c.args.limit c.requires.few in
    let room = room_where c.args.limit c.args.joining.now.who c.move_on.new.self.swarm c.is_full_for.result c.is_full_for.ensures c.if-is_full_for.false fit.few in
    joins_done c.args.limit c.args.now.0 c.args.joining.now c.args.self.now c.move_on.new.self c.put.new.self tt c.move_on.ensures.passes room c.in_ok-put.ensures.ok

pub returns-clause-fit : goal.returns-clause-fit
returns-clause-fit g c =
    let fit = c.move_on.ensures.fit c.args.limit c.requires.few in
    let room = room_where c.args.limit c.args.joining.now.who c.move_on.new.self.swarm c.is_full_for.result c.is_full_for.ensures c.if-is_full_for.false fit.few in
    put_fit c.args.limit c.args.now.0 c.args.joining.now c.move_on.new.self c.put.new.self room fit c.in_ok-put.ensures.ok c.put.ensures.tidy
