use Rattle.std.proofs.Common.{length, refl, sym, ap, ◌∙◌, subst}
use Rattle.std.specs.Prelude.{IsTrue, decimal}
use Rattle.bencode_text.specs.Bencode.{string, value_text}
use Rattle.bencode_text.specs.Draft.{takes_value, with_value}
use Rattle.bencode_text.specs.declared.writer.Writer.TheInside.{Inside}
use Rattle.bencode_text.proofs.DraftLemmas.{IsString-decimal}
use Rattle.bencode_text.proofs.WriterLemmas.{value_step}
use Rattle.bencode_text.proofs.writer.Writer.bytes.Goals as goal

pub invariant_of-self-2 : goal.invariant_of-self-2
invariant_of-self-2 c =
    let bytes = c.args.value.now in
    let n : Inside = record { text = c.append_string.new.text; place = c.after_value-self-inside.result; outer = c.self.inside.outer } in
    (value_step c.self.inside n (string (decimal (length bytes)) bytes) c.self.invariant
    (subst (λ d. IsTrue (takes_value d.dicts d.whole)) (sym c.self.view_is) c.requires) (IsString-decimal bytes c.append_string.ensures.small) refl
    c.in_ok-append_string.ensures.ok c.after_value-self-inside.ensures refl).0

pub returns-clause-ok : goal.returns-clause-ok
returns-clause-ok c =
    let bytes = c.args.value.now in
    let n : Inside = record { text = c.append_string.new.text; place = c.after_value-self-inside.result; outer = c.self.inside.outer } in
    (value_step c.self.inside n (string (decimal (length bytes)) bytes) c.self.invariant
    (subst (λ d. IsTrue (takes_value d.dicts d.whole)) (sym c.self.view_is) c.requires) (IsString-decimal bytes c.append_string.ensures.small) refl
    c.in_ok-append_string.ensures.ok c.after_value-self-inside.ensures refl).1
    ∙ ap (λ d. with_value d (value_text (string (decimal (length bytes)) bytes))) c.self.view_is
