use Rattle.std.proofs.Common.{◌∙◌, sym}
use Rattle.access_list.proofs.LineLemmas.{remark_accepted, remark_adds_none}
use Rattle.access_list.proofs.reader.ListReader.line.Goals as goal

pub returns-then-is_remark-clause-accepted : goal.returns-then-is_remark-clause-accepted
returns-then-is_remark-clause-accepted c =
    let remark = sym c.is_remark.ensures ∙ c.if-is_remark.true in
    remark_accepted c.args.self.now.hashes c.args.line.now remark

pub returns-then-is_remark-clause-read : goal.returns-then-is_remark-clause-read
returns-then-is_remark-clause-read c =
    let remark = sym c.is_remark.ensures ∙ c.if-is_remark.true in
    remark_adds_none c.args.self.now c.args.line.now remark
