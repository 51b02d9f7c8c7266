use Rattle.std.proofs.Common.{sym, ap, ◌∙◌, subst}
use Rattle.std.specs.Prelude.{IsTrue}
use Rattle.bencode_text.specs.Draft.{takes_end, with_end}
use Rattle.bencode_text.specs.declared.writer.Writer.TheInside.{Inside}
use Rattle.bencode_text.proofs.WriterLemmas.{end_step, popped_none}
use Rattle.bencode_text.proofs.writer.Writer.end.Goals as goal

pub invariant_of-self-2 : goal.invariant_of-self-2
invariant_of-self-2 c =
    let n : Inside = record { text = c.push.new.self; place = c.outside-self-inside.result; outer = c.pop.new.self } in
    (end_step c.self.inside n c.pop.result c.self.invariant (subst (λ d. IsTrue (takes_end d.dicts)) (sym c.self.view_is) c.requires)
    c.in_ok-push.ensures.items c.outside-self-inside.ensures c.pop.ensures.items
    (popped_none c.pop.result _ _ c.pop.new.self.items (sym c.pop.new.self.ok.0) c.pop.ensures.cases)).0

pub returns-clause-ok : goal.returns-clause-ok
returns-clause-ok c =
    let n : Inside = record { text = c.push.new.self; place = c.outside-self-inside.result; outer = c.pop.new.self } in
    (end_step c.self.inside n c.pop.result c.self.invariant (subst (λ d. IsTrue (takes_end d.dicts)) (sym c.self.view_is) c.requires)
    c.in_ok-push.ensures.items c.outside-self-inside.ensures c.pop.ensures.items
    (popped_none c.pop.result _ _ c.pop.new.self.items (sym c.pop.new.self.ok.0) c.pop.ensures.cases)).1
    ∙ ap with_end c.self.view_is
