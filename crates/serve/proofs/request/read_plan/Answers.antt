-- Piece by piece, until there is a plan.
use Rattle.std.proofs.Common.{◌-◌, ℕ, List, subst, arith, option_copied}
use Rattle.ot_io.specs.Pieces.{EndsOnlyCounted}
use Rattle.ot_io.specs.declared.source.Piece.{Piece}
use Rattle.tracker_core.specs.ConnectionPlan.{IsConnectionPlan}
use Rattle.serve.specs.Reading.{AddsPiece}
use Rattle.serve.proofs.ReadingLemmas.{end_told, full_head, read_all, read_more, read_within, seen}
use Rattle.serve.proofs.request.read_plan.Goals as goal

pub returns-then-not-awaits_more-clause-read : goal.returns-then-not-awaits_more-clause-read
returns-then-not-awaits_more-clause-read g c =
    let of = g.N.Source in
    let old = seen (of.left c.args.conn.now) (of.faults c.args.conn.now) (of.ends c.args.conn.now) (of.aside c.args.conn.now) in
    let now = seen (of.left c.loop-watch.conn) (of.faults c.loop-watch.conn) (of.ends c.loop-watch.conn) (of.aside c.loop-watch.conn) in
    let new = seen (of.left c.read_piece.new.conn) (of.faults c.read_piece.new.conn) (of.ends c.read_piece.new.conn) (of.aside c.read_piece.new.conn) in
    let most = 8192 - c.len-before.result in
    let Added : Piece → Type 0 = λ p. AddsPiece most now.left new.left p c.loop-watch.read.items c.read_piece.new.read.items in
    let Ended : Piece → Type 0 = λ p. EndsOnlyCounted now.ends new.ends p in
    let Planned : List ℕ → Type 0 = λ l. IsConnectionPlan l (option_copied c.args.access) c.args.from c.args.full c.in_ok-plan-in-Got.plan in
    let more =
    read_more old now new c.loop-watch.read.items c.read_piece.new.read.items c.loop-watch.invariant most c.in-Got.field-0 (omega (arith, c.len-before.ensures))
    (subst Added c.in-Got.is c.in_ok-read_piece.ensures.piece) c.read_piece.ensures.counted (subst Ended c.in-Got.is c.in_ok-read_piece.ensures.ends) c.read_piece.ensures.aside in
    (c.read_piece.new.read.items, more.consumed, more.within, subst Planned c.as_slice.ensures.value c.in_ok-plan-in-Got.ensures.planned)

pub loop-watch-preserved-else-not-awaits_more-3 : goal.loop-watch-preserved-else-not-awaits_more-3
loop-watch-preserved-else-not-awaits_more-3 g c =
    let of = g.N.Source in
    let old = seen (of.left c.args.conn.now) (of.faults c.args.conn.now) (of.ends c.args.conn.now) (of.aside c.args.conn.now) in
    let now = seen (of.left c.loop-watch.conn) (of.faults c.loop-watch.conn) (of.ends c.loop-watch.conn) (of.aside c.loop-watch.conn) in
    let new = seen (of.left c.read_piece.new.conn) (of.faults c.read_piece.new.conn) (of.ends c.read_piece.new.conn) (of.aside c.read_piece.new.conn) in
    let most = 8192 - c.len-before.result in
    let Added : Piece → Type 0 = λ p. AddsPiece most now.left new.left p c.loop-watch.read.items c.read_piece.new.read.items in
    let Ended : Piece → Type 0 = λ p. EndsOnlyCounted now.ends new.ends p in
    read_more old now new c.loop-watch.read.items c.read_piece.new.read.items c.loop-watch.invariant most c.in-Got.field-0 (omega (arith, c.len-before.ensures))
    (subst Added c.in-Got.is c.in_ok-read_piece.ensures.piece) c.read_piece.ensures.counted (subst Ended c.in-Got.is c.in_ok-read_piece.ensures.ends) c.read_piece.ensures.aside

pub loop-watch-preserved : goal.loop-watch-preserved
loop-watch-preserved g c =
    let of = g.N.Source in
    let old = seen (of.left c.args.conn.now) (of.faults c.args.conn.now) (of.ends c.args.conn.now) (of.aside c.args.conn.now) in
    let now = seen (of.left c.loop-watch.conn) (of.faults c.loop-watch.conn) (of.ends c.loop-watch.conn) (of.aside c.loop-watch.conn) in
    let new = seen (of.left c.read_piece.new.conn) (of.faults c.read_piece.new.conn) (of.ends c.read_piece.new.conn) (of.aside c.read_piece.new.conn) in
    let most = 8192 - c.len-before.result in
    let Added : Piece → Type 0 = λ p. AddsPiece most now.left new.left p c.loop-watch.read.items c.read_piece.new.read.items in
    let Ended : Piece → Type 0 = λ p. EndsOnlyCounted now.ends new.ends p in
    read_more old now new c.loop-watch.read.items c.read_piece.new.read.items c.loop-watch.invariant most c.in-Got.field-0 (omega (arith, c.len-before.ensures))
    (subst Added c.in-Got.is c.in_ok-read_piece.ensures.piece) c.read_piece.ensures.counted (subst Ended c.in-Got.is c.in_ok-read_piece.ensures.ends) c.read_piece.ensures.aside

pub returns-in-End-clause-read : goal.returns-in-End-clause-read
returns-in-End-clause-read g c =
    let of = g.N.Source in
    let old = seen (of.left c.args.conn.now) (of.faults c.args.conn.now) (of.ends c.args.conn.now) (of.aside c.args.conn.now) in
    let now = seen (of.left c.loop-watch.conn) (of.faults c.loop-watch.conn) (of.ends c.loop-watch.conn) (of.aside c.loop-watch.conn) in
    let new = seen (of.left c.read_piece.new.conn) (of.faults c.read_piece.new.conn) (of.ends c.read_piece.new.conn) (of.aside c.read_piece.new.conn) in
    let most = 8192 - c.len-before.result in
    let Added : Piece → Type 0 = λ p. AddsPiece most now.left new.left p c.loop-watch.read.items c.read_piece.new.read.items in
    let Planned : List ℕ → Type 0 = λ l. IsConnectionPlan l (option_copied c.args.access) c.args.from c.args.full c.in_ok-plan-in-End.plan in (
      c.read_piece.new.read.items,
      read_all old now new c.loop-watch.read.items c.read_piece.new.read.items c.loop-watch.invariant most (subst Added c.in-End.is c.in_ok-read_piece.ensures.piece),
      read_within old now new c.loop-watch.read.items c.read_piece.new.read.items c.loop-watch.invariant most (subst Added c.in-End.is c.in_ok-read_piece.ensures.piece),
      subst Planned c.as_slice-in-End.ensures.value c.in_ok-plan-in-End.ensures.planned,
    )

pub returns-in-End-clause-cut : goal.returns-in-End-clause-cut
returns-in-End-clause-cut g c =
    let of = g.N.Source in
    let old = seen (of.left c.args.conn.now) (of.faults c.args.conn.now) (of.ends c.args.conn.now) (of.aside c.args.conn.now) in
    let now = seen (of.left c.loop-watch.conn) (of.faults c.loop-watch.conn) (of.ends c.loop-watch.conn) (of.aside c.loop-watch.conn) in
    let new = seen (of.left c.read_piece.new.conn) (of.faults c.read_piece.new.conn) (of.ends c.read_piece.new.conn) (of.aside c.read_piece.new.conn) in
    let most = 8192 - c.len-before.result in
    let Added : Piece → Type 0 = λ p. AddsPiece most now.left new.left p c.loop-watch.read.items c.read_piece.new.read.items in
    let Ended : Piece → Type 0 = λ p. EndsOnlyCounted now.ends new.ends p in
    λ same. end_told old now new c.loop-watch.read.items c.read_piece.new.read.items c.loop-watch.invariant (subst Ended c.in-End.is c.in_ok-read_piece.ensures.ends)

pub returns-in-End-clause-all : goal.returns-in-End-clause-all
returns-in-End-clause-all g c =
    let of = g.N.Source in
    let Added : Piece → Type 0 = λ p. AddsPiece (8192 - c.len-before.result) (of.left c.loop-watch.conn) (of.left c.read_piece.new.conn) p c.loop-watch.read.items c.read_piece.new.read.items in
    let ended = subst Added c.in-End.is c.in_ok-read_piece.ensures.piece in
    λ same. ended.1

pub returns-clause-read : goal.returns-clause-read
returns-clause-read g c =
    let Planned : List ℕ → Type 0 = λ l. IsConnectionPlan l (option_copied c.args.access) c.args.from c.args.full c.in_ok-plan_connection.field-0 in
    let read = c.loop-watch.invariant in
    (c.loop-watch.read.items, read.consumed, read.within, subst Planned c.as_slice-2.ensures.value c.in_ok-plan_connection.ensures.planned)

pub returns-clause-cut : goal.returns-clause-cut
returns-clause-cut g c =
    λ same.
    let Planned : List ℕ → Type 0 = λ l. IsConnectionPlan l (option_copied c.args.access) c.args.from c.args.full c.in_ok-plan_connection.field-0 in
    absurd (full_head c.loop-watch.read.items (option_copied c.args.access) c.args.from c.args.full c.in_ok-plan_connection.field-0 (omega (arith, c.len.ensures, c.loop-watch-test.false))
    (subst Planned c.as_slice-2.ensures.value c.in_ok-plan_connection.ensures.planned) (cc))

pub returns-clause-all : goal.returns-clause-all
returns-clause-all g c =
    λ same.
    let Planned : List ℕ → Type 0 = λ l. IsConnectionPlan l (option_copied c.args.access) c.args.from c.args.full c.in_ok-plan_connection.field-0 in
    absurd (full_head c.loop-watch.read.items (option_copied c.args.access) c.args.from c.args.full c.in_ok-plan_connection.field-0 (omega (arith, c.len.ensures, c.loop-watch-test.false))
    (subst Planned c.as_slice-2.ensures.value c.in_ok-plan_connection.ensures.planned) (cc))
