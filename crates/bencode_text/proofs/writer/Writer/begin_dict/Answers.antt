use Rattle.std.proofs.Common.{◌<◌, ◌≡◌, ◌++◌, false, length, None, refl, sym, ap, ◌∙◌, subst, arith}
use Rattle.std.specs.Prelude.{IsTrue}
use Rattle.bencode_text.specs.Draft.{takes_value, with_dict}
use Rattle.bencode_text.specs.Writers.{dict_here}
use Rattle.bencode_text.specs.declared.writer.Place.TheVariants.{Dict}
use Rattle.bencode_text.specs.declared.writer.Writer.TheInside.{Inside}
use Rattle.bencode_text.proofs.WriterLemmas.{begun_step}
use Rattle.bencode_text.proofs.writer.Writer.begin_dict.Goals as goal

pub invariant_of-self-2 : goal.invariant_of-self-2
invariant_of-self-2 c =
    let n : Inside = record { text = c.push.new.self; place = Dict (record { last = None; value_due = false }); outer = c.enclose.new.outer } in
    let outer : c.enclose.new.outer.items ≡ c.self.inside.outer.items ++ dict_here c.self.inside.place = grind arith in
    (begun_step c.self.inside n c.self.invariant
    (subst (λ d. IsTrue (takes_value d.dicts d.whole)) (sym c.self.view_is) c.requires.due)
    (subst (λ d. length d.dicts < 64) (sym c.self.view_is) c.requires.room) c.in_ok-push.ensures.items refl outer).0

pub returns-clause-ok : goal.returns-clause-ok
returns-clause-ok c =
    let n : Inside = record { text = c.push.new.self; place = Dict (record { last = None; value_due = false }); outer = c.enclose.new.outer } in
    let outer : c.enclose.new.outer.items ≡ c.self.inside.outer.items ++ dict_here c.self.inside.place = grind arith in
    (begun_step c.self.inside n c.self.invariant
    (subst (λ d. IsTrue (takes_value d.dicts d.whole)) (sym c.self.view_is) c.requires.due)
    (subst (λ d. length d.dicts < 64) (sym c.self.view_is) c.requires.room) c.in_ok-push.ensures.items refl outer).1
    ∙ ap with_dict c.self.view_is
