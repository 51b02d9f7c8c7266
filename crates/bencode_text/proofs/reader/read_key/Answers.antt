use Rattle.std.proofs.Common.{◌≡◌, true, ◌∙◌, subst}
use Rattle.std.specs.Option.{option_copied}
use Rattle.std.proofs.lemmas.Bool.{false≢true}
use Rattle.bencode_text.specs.Bencode.{is_above}
use Rattle.bencode_text.proofs.ReadLemmas.{ReadsString_unique}
use Rattle.bencode_text.proofs.reader.read_key.Goals as goal

pub returns-in_err-key : goal.returns-in_err-key
returns-in_err-key c = rw c.from_residual.ensures (λ key rest read. c.in_err-key.ensures key rest read.string)

pub returns-else-is_above : goal.returns-else-is_above
returns-else-is_above c = λ key rest read.
    let same = ReadsString_unique c.args.bytes.now key c.in_ok-key.key.now rest c.in_ok-key.rest.now read.string c.in_ok-key.ensures in
    let above = subst (λ k. is_above (option_copied c.args.last) k ≡ true) same.0 read.above in
    false≢true (c.if-is_above.ensures ∙ above)
