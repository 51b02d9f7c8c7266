use Rattle.std.proofs.Common.{◌≡◌, ◌-◌, List, ℕ, [], drop, map, sym, ◌∙◌, ap, arith}
use Rattle.std.specs.Prelude.{◌&&◌, Some, codes}
use Rattle.std.specs.List.{list_all}
use Rattle.std.proofs.Math.ListN.{drop_of_length-le}
use Rattle.std.proofs.lemmas.List.Folds.{list_all_at}
use Rattle.std.proofs.lemmas.Option.{get_or_from_slice_get, slice_get_within}
use Rattle.ot_base.specs.Order.{hash_cmp}
use Rattle.query_read.specs.Query.{values_of}
use Rattle.tracker_model.specs.Counted.{ascending, put_in_order}
use Rattle.tracker_core.specs.HttpPlan.{hash_of, is_hash}
use Rattle.tracker_core.proofs.NamedLemmas.{all_named, invalid_hash, next_values, none_named, valid_hash}
use Rattle.tracker_core.proofs.http_plan.hashes_named.Goals as goal

pub values-init : goal.values-init
values-init c =
    let values = values_of c.args.query.now (codes "info_hash") in
    let none : drop c.args.count values ≡ [] = drop_of_length-le values (omega arith) in
    record {
      valid = ap (list_all is_hash) none;
      ordered = c.in_ok-hashes.ensures.items ∙ sym (ap (λ (vs : List (List ℕ)). ascending hash_cmp (map hash_of vs)) none);
    }

pub values-preserved : goal.values-preserved
values-preserved c =
    let values = values_of c.args.query.now (codes "info_hash") in
    let rest = drop c.values.i values in
    let value = c.nth.result.now in
    let split = next_values values c.values.i value (omega arith) c.nth.ensures in
    let found = valid_hash c.in-Ok.hash value c.in-Ok.ensures in
    record {
      valid = ap (list_all is_hash) split ∙ (ap (λ b. b && list_all is_hash rest) found.0 ∙ c.values.invariant.valid);
      ordered =
          c.in_ok-put_in_order-in-Ok.ensures
          ∙ ap (put_in_order hash_cmp c.in-Ok.hash) c.values.invariant.ordered
          ∙ ap (λ h. put_in_order hash_cmp h (ascending hash_cmp (map hash_of rest))) found.1
          ∙ sym (ap (λ (vs : List (List ℕ)). ascending hash_cmp (map hash_of vs)) split);
    }

pub returns-in-Err : goal.returns-in-Err
returns-in-Err c =
    let values = values_of c.args.query.now (codes "info_hash") in
    let value = c.nth.result.now in
    let here = get_or_from_slice_get values (c.values.i - 1) value value c.nth.ensures in
    let bad = invalid_hash c.in-Err.field-0 value c.in-Err.ensures in
    sym (none_named values (list_all_at is_hash values (c.values.i - 1) value
    (slice_get_within values (c.values.i - 1) value c.nth.ensures) (ap is_hash here ∙ bad)))

pub returns : goal.returns
returns c =
    let values = values_of c.args.query.now (codes "info_hash") in
    let all : c.values.i ≡ 0 = omega arith in
    let whole : drop c.values.i values ≡ values = ap (λ n. drop n values) all in
    ap Some (c.from.ensures ∙ c.values.invariant.ordered ∙ ap (λ (vs : List (List ℕ)). ascending hash_cmp (map hash_of vs)) whole)
    ∙ sym (all_named values (ap (list_all is_hash) (sym whole) ∙ c.values.invariant.valid))
