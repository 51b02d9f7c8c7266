use Rattle.std.proofs.Common.{◌+◌, ◌≤◌, length, arith, refl}
use Rattle.lines.proofs.BufferLemmas.{length-slice_range, none_before, line_found, too_long-unended, too_long-ended, IsInOrder-searched}
use Rattle.lines.proofs.line_buffer.Lines.take.Goals as goal

pub invariant_of-self : goal.invariant_of-self
invariant_of-self c = IsInOrder-searched c.self.inside c.self.invariant (rw c.deref.ensures.value at c.in_default.ensures)

pub returns-then-self-gt-LINE_LIMIT : goal.returns-then-self-gt-LINE_LIMIT
returns-then-self-gt-LINE_LIMIT c =
    let order = IsInOrder-searched c.self.inside c.self.invariant (rw c.deref.ensures.value at c.in_default.ensures) in
    let within : c.self.inside.end ≤ length c.self.inside.buffer.items = omega (arith, c.self.invariant.in_buffer, c.self.invariant.size) in
    let long = length-slice_range c.self.inside.buffer.items c.self.inside.start c.self.inside.end order.start_first within in
    rw (← c.self.view_is) (refl, too_long-unended _ order.no_end (omega (arith, c.if-self-gt-LINE_LIMIT.true)))

pub invariant_of-self-in_default : goal.invariant_of-self-in_default
invariant_of-self-in_default c = IsInOrder-searched c.self.inside c.self.invariant (rw c.deref.ensures.value at c.in_default.ensures)

pub returns-in_default : goal.returns-in_default
returns-in_default c =
    let order = IsInOrder-searched c.self.inside c.self.invariant (rw c.deref.ensures.value at c.in_default.ensures) in
    let within : c.self.inside.end ≤ length c.self.inside.buffer.items = omega (arith, c.self.invariant.in_buffer, c.self.invariant.size) in
    let long = length-slice_range c.self.inside.buffer.items c.self.inside.start c.self.inside.end order.start_first within in
    rw (← c.self.view_is) (refl, (order.no_end, omega (arith, c.if-self-gt-LINE_LIMIT.false)))

pub returns-then-line_end-self-gt-LINE_LIMIT : goal.returns-then-line_end-self-gt-LINE_LIMIT
returns-then-line_end-self-gt-LINE_LIMIT c =
    let order = c.self.invariant in
    let found = rw c.deref.ensures.value at c.in-Some.ensures in
    let within : c.self.inside.end ≤ length c.self.inside.buffer.items = omega (arith, order.in_buffer, order.size) in
    let cut = line_found c.self.inside.buffer.items c.self.inside.start c.self.inside.searched c.self.inside.end c.in-Some.place order.start_first order.searched_first within found.0.high found.1 in
    let none = none_before c.self.inside.buffer.items c.self.inside.start c.self.inside.searched c.self.inside.end c.in-Some.place order.start_first order.searched_first within found.0.high order.no_end found.0.before in
    let long = length-slice_range c.self.inside.buffer.items c.self.inside.searched c.self.inside.end order.searched_first within in
    let order_of_line : c.self.inside.start ≤ c.self.inside.searched + c.in-Some.place = omega (arith, order.start_first) in
    let in_buffer : c.self.inside.searched + c.in-Some.place ≤ length c.self.inside.buffer.items = omega (arith, found.0.high, long) in
    let line_len = length-slice_range c.self.inside.buffer.items c.self.inside.start (c.self.inside.searched + c.in-Some.place) order_of_line in_buffer in
    (refl, rw (← c.self.view_is) (too_long-ended _ _ _ cut none (omega (arith, line_len, c.if-line_end-self-gt-LINE_LIMIT.true))))

pub returns : goal.returns
returns c =
    let order = c.self.invariant in
    let found = rw c.deref.ensures.value at c.in-Some.ensures in
    let within : c.self.inside.end ≤ length c.self.inside.buffer.items = omega (arith, order.in_buffer, order.size) in
    let cut = line_found c.self.inside.buffer.items c.self.inside.start c.self.inside.searched c.self.inside.end c.in-Some.place order.start_first order.searched_first within found.0.high found.1 in
    let none = none_before c.self.inside.buffer.items c.self.inside.start c.self.inside.searched c.self.inside.end c.in-Some.place order.start_first order.searched_first within found.0.high order.no_end found.0.before in
    let long = length-slice_range c.self.inside.buffer.items c.self.inside.searched c.self.inside.end order.searched_first within in
    let order_of_line : c.self.inside.start ≤ c.self.inside.searched + c.in-Some.place = omega (arith, order.start_first) in
    let in_buffer : c.self.inside.searched + c.in-Some.place ≤ length c.self.inside.buffer.items = omega (arith, found.0.high, long) in
    let line_len = length-slice_range c.self.inside.buffer.items c.self.inside.start (c.self.inside.searched + c.in-Some.place) order_of_line in_buffer in
    rw (← c.self.view_is) (record {
      cut = cut;
      one_line = none;
      short = omega (arith, line_len, c.if-line_end-self-gt-LINE_LIMIT.false);
      number = refl;
      count = refl;
    })
