use Rattle.std.proofs.Common.{◌≡◌, ◌+◌, length, ap, ◌∙◌, arith}
use Rattle.std.proofs.lemmas.Grind.{elements}
use Rattle.std.proofs.lemmas.List.{length_push}
use Rattle.shards.specs.Shape.{PassShape}
use Rattle.shards.proofs.SplitLemmas.{none_more, pass_more, passes_more}
use Rattle.shards.proofs.shards.Shards.split.Goals as goal

pub loop-room-preserved : goal.loop-room-preserved
loop-room-preserved c =
    let was = c.loop-room.invariant in
    let pass : PassShape = c.args.pass.now in
    let now : PassShape = c.loop-room.pass in
    let passes = c.loop-room.passes.items in
    let n = length passes in
    let made = c.split_one.ensures in
    let items = c.push_reserved.ensures.items in
    let more : length c.push_reserved.new.self.items ≡ n + 1 = ap length items ∙ length_push passes c.split_one.result in
    let one_less : length c.loop-room.rooms.items ≡ length c.pop.new.self.items + 1 = ap length c.in-Some.ensures.items ∙ length_push c.pop.new.self.items c.in-Some.room in
    record {
      pass = rw more (pass_more pass now n was.pass c.split_one.new.pass made.pass);
      passes = rw more (items ∙ passes_more pass now n was.pass c.args.self.now passes c.split_one.result c.requires.pass was.passes made.new);
      left = (let so_far = was.left in omega arith);
      rooms = grind (arith, elements);
      capacity = rw c.push_reserved.ensures.capacity was.capacity;
      no_entry_yet = rw more (none_more pass now n was.pass was.no_entry_yet made.no_entry_yet);
    }
