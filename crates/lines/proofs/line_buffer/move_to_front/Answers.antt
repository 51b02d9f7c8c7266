use Rattle.lines.proofs.BufferLemmas.{moved_to_front}
use Rattle.lines.proofs.line_buffer.move_to_front.Goals as goal

pub returns-else-len-start : goal.returns-else-len-start
returns-else-len-start c = moved_to_front c.args.buffer.now c.rotate_left.new.self _ c.args.start c.args.end c.requires.order c.requires.within c.rotate_left.ensures.after
