-- The map's change, in the words of the index.
use Rattle.std.proofs.Common.{◌≡◌, ℕ, Some, sym, ap, ◌∙◌, subst, Option, rules}
use Rattle.std.specs.Option.{option_map}
use Rattle.bucket.specs.Index.{Puts, place_in}
use Rattle.bucket.proofs.IndexLemmas.{puts_updated, same_get}
use Rattle.bucket.proofs.index.Index.move_to.Goals as goal

pub returns-in-Some : goal.returns-in-Some
returns-in-Some c =
    let held : place_in c.args.self.now c.args.hash.now ≡ Some c.in-Some.at.now = sym (same_get _ c.hashes_in_order.ensures c.args.self.now.places c.args.hash.now) ∙ sym c.in-Some.ensures.value in
    let P : Option ℕ → Type 0 = λ o. Puts (place_in c.args.self.now) (place_in (record { places = c.get_mut.follows.lender c.args.place })) c.args.hash.now o in
    let n = c.get_mut.follows.holds c.args.place in
    subst P (sym (ap (λ o. option_map (λ _. c.args.place) o) held)) (puts_updated _ c.hashes_in_order.ensures c.args.self.now.places (c.get_mut.follows.lender c.args.place) c.args.hash.now (Some c.args.place) (n.3 (search rules)).0)
