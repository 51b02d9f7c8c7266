use Rattle.std.proofs.Common.{◌-◌, true, length, Some, refl, sym, ap, ◌∙◌, subst}
use Rattle.std.specs.Prelude.{IsTrue}
use Rattle.bencode_text.specs.Draft.{takes_key, with_key}
use Rattle.bencode_text.specs.declared.writer.Place.TheVariants.{Dict}
use Rattle.bencode_text.specs.declared.writer.Writer.TheInside.{Inside}
use Rattle.bencode_text.proofs.WriterLemmas.{key_step}
use Rattle.bencode_text.proofs.writer.Writer.key.Goals as goal

pub invariant_of-self-2 : goal.invariant_of-self-2
invariant_of-self-2 c =
    let key = c.args.name.now in
    let to = c.len-to.result in
    let n : Inside = record {
      text = c.append_string.new.text;
      place = Dict (record { last = Some (record { from = to - length key; to = to }); value_due = true });
      outer = c.self.inside.outer;
    } in
    (key_step c.self.inside n key (to - length key) to c.self.invariant
    (subst (λ d. IsTrue (takes_key d.dicts key)) (sym c.self.view_is) c.requires) c.append_string.ensures.small
    c.in_ok-append_string.ensures.ok refl refl (c.len-to.ensures ∙ c.append_string.new.text.ok.0) refl).0

pub returns-clause-ok : goal.returns-clause-ok
returns-clause-ok c =
    let key = c.args.name.now in
    let to = c.len-to.result in
    let n : Inside = record {
      text = c.append_string.new.text;
      place = Dict (record { last = Some (record { from = to - length key; to = to }); value_due = true });
      outer = c.self.inside.outer;
    } in
    (key_step c.self.inside n key (to - length key) to c.self.invariant
    (subst (λ d. IsTrue (takes_key d.dicts key)) (sym c.self.view_is) c.requires) c.append_string.ensures.small
    c.in_ok-append_string.ensures.ok refl refl (c.len-to.ensures ∙ c.append_string.new.text.ok.0) refl).1
    ∙ ap (λ d. with_key d key) c.self.view_is
