use Rattle.std.proofs.Common.{◌∙◌, ap}
use Rattle.std.specs.List.Sorted.{IsStrictlySortedBy}
use Rattle.ot_base.specs.Order.{hash_cmp}
use Rattle.access_list.specs.Access.{Listing, is_named}
use Rattle.access_list.proofs.SearchLemmas.{searched_named}
use Rattle.access_list.proofs.access.AccessList.names.Goals as goal

pub returns : goal.returns
returns c =
    let hash = c.args.hash.now in
    let items = c.deref.ensures.value in
    let same = items ∙ ap (λ (l : Listing). l.hashes) c.self.view_is in
    let found = c.binary_search.ensures in
    let ascend : IsStrictlySortedBy hash_cmp c.deref.result.now = rw items c.self.invariant in
    c.is_ok.ensures.value
    ∙ searched_named c.deref.result.now hash c.binary_search.result ascend
    found.bound found.position
    ∙ ap (λ hashes. is_named hashes hash) same
