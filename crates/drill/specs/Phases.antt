-- What caller 0 knows between the phases.
use Rattle.std.specs.Prelude.{◌≡◌, ◌≢◌, ℕ, ◌+◌, ◌*◌, ◌%◌, ◌^◌, ◌<◌, ◌≤◌, ◌==◌, List, ◌++◌, length, map, reverse}
use Rattle.std.specs.List.{AllByRecursion, filter, sum_by}
use Rattle.ot_base.specs.declared.minute.Minute.{Minute}
use Rattle.tracker_model.specs.Grows.{history_at}
use Rattle.tracker_model.specs.Placed.{bucket_for, bucket_in}
use Rattle.tracker_model.specs.declared.entry.Entry.{Entry}
use Rattle.shards.specs.Shape.{KnowsNumbers, PassShape, ShardsShape}
use Rattle.load_model.specs.Alike.{IsOfPhase, IsPart}
use Rattle.load_model.specs.Drawing.{IsLeft, IsNotNext, of_phase}
use Rattle.load_model.specs.Load.{call_of, caller_number, load_settings, past_after}
use Rattle.load_model.specs.declared.request.Request.{Request}
use Rattle.load_model.specs.declared.settings.DrillSettings.{DrillSettings}

-- shards of a drill, which have numbers for all workers of eight phases
pub record AreOfDrill (s : DrillSettings) (shards : ShardsShape) : Type 0 where
  pub settings : shards.settings ≡ load_settings
  pub bits : shards.bits ≡ s.bits
  pub callers : shards.callers ≡ 8 * s.workers + 1

-- a number isn't one of these
abbrev pub IsNoneOf : List ℕ → ℕ → Type 0
IsNoneOf numbers n = AllByRecursion (λ m. n ≢ m) numbers

-- caller 0's pass, to which all that were ever split are joined: there is no other caller
pub record IsAlone (pass : PassShape) : Type 0 where
  pub first : pass.caller ≡ 0
  pub none_out : pass.out ≡ 0
  pub some : 1 ≤ pass.free
  pub joined : (n : ℕ) → 1 ≤ n → n < pass.free → IsNoneOf pass.joined n → ⊥
  pub known : KnowsNumbers pass

-- A bucket's history goes on with calls of a phase that took effect: those of the requests on the
-- bucket. Each worker's stand in the order of its requests.
pub record HasMade (minute : Minute) (bits bucket workers : ℕ) (requests : List Request)
    (old new : List Entry) : Type 0 where
  pub entries : List Entry
  pub grown : new ≡ old ++ entries
  pub of_phase : AllByRecursion (IsOfPhase minute) entries
  pub agree : (worker : ℕ) →
      filter (λ c. caller_number c % workers == worker) (map (λ x. x.call) entries) ≡
      filter (λ c. caller_number c % workers == worker)
      (filter (λ c. bucket_for (bucket_in bits) c == bucket) (map call_of requests))

-- the workers made all requests of a phase, and their passes were joined
pub record HaveMade (phase : ℕ) (minute : Minute) (workers : ℕ) (load left : List (ℕ × Request))
    (old new : PassShape) : Type 0 where
  pub dealt : List Request
  pub drawn : load ≡ of_phase phase dealt ++ left
  pub ended : IsNotNext phase left
  pub pass : new ≡ record old {
    free = old.free + workers;
    joined = new.joined;
    seen = new.seen;
  }
  pub alone : IsAlone new
  pub buckets : length new.seen ≡ length old.seen
  pub made : (bucket : ℕ) → HasMade minute old.shards.bits bucket workers dealt
      (history_at old.seen bucket) (history_at new.seen bucket)

-- Caller 0's pass after so many phases, and the requests that are left: each bucket's history is
-- its part of the load, and so many calls were made.
pub record IsAfter (s : DrillSettings) (phases : ℕ) (left : List (ℕ × Request)) (pass : PassShape)
    : Type 0 where
  pub drew : ℕ
  pub drawn : IsLeft s phases drew left
  pub shards : AreOfDrill s pass.shards
  pub alone : IsAlone pass
  pub free : pass.free ≡ phases * s.workers + 1
  pub buckets : length pass.seen ≡ 2 ^ s.bits
  pub parts : (bucket : ℕ) → bucket < 2 ^ s.bits → IsPart s.bits bucket (15 * phases)
      (reverse (history_at pass.seen bucket)) (past_after s phases)
  pub calls : sum_by length pass.seen ≡ drew + phases * 2 ^ s.bits
