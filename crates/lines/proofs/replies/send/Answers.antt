use Rattle.std.proofs.Common.{take, drop, sym, take-append-drop}
use Rattle.lines.proofs.replies.send.Goals as goal

pub returns-in-Failed-clause-lost : goal.returns-in-Failed-clause-lost
returns-in-Failed-clause-lost g c =
    let sent = c.in-Failed.ensures.sent in
    record {
      sent = take sent.0 c.args.bytes.now;
      lost = drop sent.0 c.args.bytes.now;
      gone = sent.2;
      front = sym (take-append-drop sent.0 c.args.bytes.now);
    }
