use Rattle.std.proofs.lemmas.List.{append_assoc}
use Rattle.tracker_core.specs.HttpText.{counts_text}
use Rattle.tracker_core.proofs.http_text.append_counts.Goals as goal

pub returns-clause-text : goal.returns-clause-text
unfolding counts_text
returns-clause-text c =
    rw (
      c.in_ok-push.ensures.items,
      c.in_ok-append_number-3.ensures,
      c.in_ok-extend_from_slice-3.ensures.items,
      c.in_ok-append_number-2.ensures,
      c.in_ok-extend_from_slice-2.ensures.items,
      c.in_ok-append_number.ensures,
      c.in_ok-extend_from_slice.ensures.items,
    )
    (simp append_assoc)
