use Rattle.std.proofs.lemmas.List.{append_assoc}
use Rattle.bencode_text.proofs.KnownDecimals.{known_decimals}
use Rattle.bencode_text.proofs.tests.announcement.Goals as goal

pub returns : goal.returns
returns c =
    rw (
      c.finish.ensures.text,
      c.in_ok-end.ensures.ok,
      c.in_ok-bytes.ensures.ok,
      c.in_ok-key-6.ensures.ok,
      c.in_ok-int-5.ensures.ok,
      c.in_ok-key-5.ensures.ok,
      c.in_ok-int-4.ensures.ok,
      c.in_ok-key-4.ensures.ok,
      c.in_ok-int-3.ensures.ok,
      c.in_ok-key-3.ensures.ok,
      c.in_ok-int-2.ensures.ok,
      c.in_ok-key-2.ensures.ok,
      c.in_ok-int.ensures.ok,
      c.in_ok-key.ensures.ok,
      c.in_ok-begin_dict.ensures.ok,
      c.new-writer.ensures,
    )
    (simp (known_decimals, append_assoc))
