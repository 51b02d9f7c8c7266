use Rattle.std.proofs.Common.{[], length, sym, ap, ◌∙◌, eq-eqb}
use Rattle.std.proofs.lemmas.Bool.{false≢true}
use Rattle.bencode_text.proofs.ReadLemmas.{canonical_from, canonical_to, zero_from_test, Reads_unique}
use Rattle.bencode_text.proofs.reader.is_canonical.Goals as goal

pub returns-in-Some : goal.returns-in-Some
returns-in-Some c =
    let bytes = c.args.bytes.now in
    let rest = c.in-Some.rest.now in (
      λ empty. canonical_from bytes rest (zero_from_test (length rest) (sym c.is_empty.ensures ∙ empty)) c.in-Some.ensures.read,
      λ canonical.
          c.is_empty.ensures
          ∙ eq-eqb (length rest) 0 (ap length (Reads_unique 64 bytes rest [] c.in-Some.ensures.read (canonical_to bytes canonical))),
    )

pub returns-in-None : goal.returns-in-None
returns-in-None c = (
  λ bad. absurd (false≢true bad),
  λ canonical. absurd (c.in-None.ensures.read [] (canonical_to c.args.bytes.now canonical)),
)
