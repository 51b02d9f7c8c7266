-- What a ring has become while items are dropped.
use Rattle.std.proofs.Common.{◌≡◌, ◌≢◌, ℕ, ◌+◌, ◌*◌, ◌<◌, ◌≤◌, arith, ◌∙◌, subst, get_or, length}
use Rattle.std.specs.List.{All, swap_remove}
use Rattle.node_table.specs.declared.table.TheConstants.{MOST_NODES}
use Rattle.age_ring.specs.Ring.{Ring, Drops, stamps_of}
use Rattle.age_ring.proofs.Pairs.{drops_one, drops_then, drops_later, drops_left, drops_length}

pub record HasDropped {T : Type 0} (due : ℕ) (old new : Ring T) (dropped steps steps' : ℕ) : Type 0 where
  pub drops : Drops old.ages due old.pairs new.pairs dropped
  pub spare : new.spare ≡ old.spare + dropped
  pub time : new.time ≡ old.time
  pub ages : new.ages ≡ old.ages
  pub cost : steps' ≤ steps + 16 * dropped
  pub few : dropped + length new.pairs ≤ MOST_NODES

pub more_dropped : {T : Type 0} (due later dropped n steps steps₁ steps₂ : ℕ) (old mid new : Ring T) → HasDropped later old mid dropped steps steps₁ → due ≤ later
    → Drops mid.ages due mid.pairs new.pairs n → new.spare ≡ mid.spare + n → new.time ≡ mid.time → new.ages ≡ mid.ages → steps₂ ≤ steps₁ + 16 * n
    → HasDropped later old new (dropped + n) steps steps₂
more_dropped {T} due later dropped n steps steps₁ steps₂ old mid new before soon drops spare time ages cost =
    let P : ℕ → Type 0 = λ a. Drops a later mid.pairs new.pairs n in
    record {
      drops = drops_then old.ages later dropped n old.pairs mid.pairs new.pairs before.drops (subst P before.ages (drops_later mid.ages due later n mid.pairs new.pairs soon drops));
      spare = omega (arith, before.spare);
      time = time ∙ before.time;
      ages = ages ∙ before.ages;
      cost = omega (arith, before.cost);
      few = omega (arith, before.few, drops_length mid.ages due n mid.pairs new.pairs drops);
    }

pub one_dropped : {T : Type 0} (due dropped i steps steps₁ steps₂ : ℕ) (old mid new : Ring T) (item : T) → HasDropped due old mid dropped steps steps₁
    → i < length mid.pairs → get_or (stamps_of mid.pairs) i 0 + mid.ages ≡ due → ((pair : T × ℕ) → new.pairs ≡ swap_remove mid.pairs i pair)
    → new.spare ≡ mid.spare + 1 → new.time ≡ mid.time → new.ages ≡ mid.ages → steps₂ ≤ steps₁ + 16
    → HasDropped due old new (dropped + 1) steps steps₂
one_dropped {T} due dropped i steps steps₁ steps₂ old mid new item before within at left spare time ages cost =
    more_dropped due due dropped 1 steps steps₁ steps₂ old mid new before (omega arith) (drops_one mid.ages due i mid.pairs new.pairs left item within (omega (arith, at))) spare time ages (omega (arith, cost))

-- so many lists were passed: what became due up to there was dropped
pub record HasPassed {T : Type 0} (time start k : ℕ) (old new : Ring T) (dropped steps steps' : ℕ) : Type 0 where
  pub so_far : HasDropped time old new dropped steps steps'
  pub began : start ≡ old.time
  pub passed : All (λ pair. start + k < pair.1 + old.ages) new.pairs

pub one_passed : {T : Type 0} (time start k dropped n steps steps₁ steps₂ : ℕ) (old mid new : Ring T) → HasPassed time start k old mid dropped steps steps₁ → start + k + 1 ≤ time
    → Drops mid.ages (start + k + 1) mid.pairs new.pairs n → All (λ pair. pair.1 + mid.ages ≢ start + k + 1) new.pairs
    → new.spare ≡ mid.spare + n → new.time ≡ mid.time → new.ages ≡ mid.ages → steps₂ ≤ steps₁ + 16 * n
    → HasPassed time start (k + 1) old new (dropped + n) steps steps₂
one_passed {T} time start k dropped n steps steps₁ steps₂ old mid new before soon drops none spare same_time ages cost = record {
  so_far = more_dropped (start + k + 1) time dropped n steps steps₁ steps₂ old mid new before.so_far soon drops spare same_time ages cost;
  began = before.began;
  passed = λ j d lt.
      let above = drops_left mid.ages (start + k + 1) n mid.pairs new.pairs (λ (p : T × ℕ). start + k < p.1 + old.ages) drops before.passed j d lt in
      let other = none j d lt in
      omega (arith, above, other, before.so_far.ages);
}
