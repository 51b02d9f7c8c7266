-- What holds of a turn between two calls, after each.
use Rattle.std.proofs.Common.{◌≡◌, ◌<◌, ◌≤◌, ℕ, suc, [], ◌∷◌, ◌++◌, Option, refl, sym, subst, le_refl, arith}
use mathlib.Core.Logic.{dite}
use native.Mathlib.Decide.{ℕ_discrete}
use Rattle.atomic_table.specs.Table.{Me}
use Rattle.tracker_model.specs.declared.entry.Entry.{Entry}
use Rattle.turn_lock.specs.declared.know.Know.{Know}
use Rattle.turn_lock.specs.declared.know.Stage.TheVariants.{Free}
use Rattle.turn_lock.specs.Seats.{IsTurn}
use Rattle.turn_lock.specs.Plays.{kept_part, new_part}
use Rattle.turn_lock.proofs.HistoryLemmas.{all_append, all_weaker}

module _ {T : Type 0} (me : Me (Option T) Know) (turn : IsTurn me) where
  pub given_turn : (entry : Entry) → entry.caller ≡ me.0.caller → IsTurn {T = T} (record me.0 { seen = me.0.seen ++ entry ∷ []; stage = Free }, [])
  given_turn entry own = record {
    rests = refl;
    not_free = turn.not_free;
    first_free = turn.first_free;
    none_free = turn.none_free;
    known = λ first. all_append (λ (x : Entry). x.caller < me.0.free) me.0.seen (entry ∷ []) (turn.known first) (subst (λ (c : ℕ). c < me.0.free) (sym own) turn.not_free, tt);
  }

  -- a turn that has a number free is caller 0's
  pub first_of_spare : (number : ℕ) → me.0.free ≤ number → number < me.0.callers → me.0.caller ≡ 0
  first_of_spare number from below = dite (ℕ_discrete me.0.caller 0) (λ e. e) (λ ne. let all = turn.none_free ne in absurd (omega arith))

  pub kept_turn : (number : ℕ) → me.0.free ≤ number → number < me.0.callers → IsTurn {T = T} (kept_part number me.0, me.1)
  kept_turn number from below = record {
    rests = turn.rests;
    not_free = (let mine = turn.not_free in omega arith);
    first_free = below;
    none_free = λ ne. absurd (ne (first_of_spare number from below));
    known = λ first. all_weaker (λ (x : Entry). x.caller < me.0.free) (λ (x : Entry). x.caller < suc number) (λ x lt. omega arith) me.0.seen (turn.known first);
  }

  pub cut_turn : (number : ℕ) → me.0.free ≤ number → number < me.0.callers → IsTurn {T = T} (new_part number me.0, [])
  cut_turn number from below = record {
    rests = refl;
    not_free = below;
    first_free = le_refl me.0.callers;
    none_free = λ _. refl;
    known = λ first. let mine = turn.not_free in absurd (omega arith);
  }
