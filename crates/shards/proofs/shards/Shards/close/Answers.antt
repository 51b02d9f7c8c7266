use Rattle.std.proofs.Common.{◌≡◌, ◌^◌, All, map, sym, ap, ◌∙◌}
use Rattle.std.proofs.Math.Pow.{pow_mono}
use Rattle.std.proofs.lemmas.List.{length-map}
use Rattle.std.proofs.lemmas.List.Elements.{All-weaker}
use Rattle.tracker_model.specs.Settings.{Settings}
use Rattle.tracker_model.specs.Stands.{StandsFor}
use Rattle.turn_lock.specs.Shape.{LockShape}
use Rattle.shards.specs.Shape.{AreShards, IsLockFor, PassShape, ShardsShape, numbers_of}
use Rattle.shards.proofs.CloseLemmas.{zip_length}
use Rattle.shards.proofs.PassLemmas.{count_is}
use Rattle.shards.proofs.TurnLemmas.{seen_of}
use Rattle.shards.proofs.shards.Shards.close.Goals as goal

-- the settings of all locks
of_all : (shards : ShardsShape) → AreShards shards → All (λ lock. lock.settings ≡ numbers_of shards.settings) shards.locks
of_all shards are = All-weaker (IsLockFor shards.settings shards.callers) (λ (lock : LockShape). lock.settings ≡ numbers_of shards.settings) (λ lock is. is.settings_are) shards.locks are.each

pub close_all-buckets-requires-clause-few : goal.close_all-buckets-requires-clause-few
close_all-buckets-requires-clause-few g c =
    let shards = c.self.invariant.0 in
    rw shards.buckets (pow_mono {i = c.self.inside.bits} {j = 10} shards.few_bits)

pub of_buckets-requires-clause-full : goal.of_buckets-requires-clause-full
of_buckets-requires-clause-full g c =
    let turns = c.pass.inside.turns.items in
    let shards = ap (λ (q : PassShape). q.shards) c.pass.view_is ∙ c.requires.pass ∙ sym c.self.view_is in
    sym (zip_length StandsFor (map seen_of turns) c.close_all-buckets.result.0.items c.close_all-buckets.ensures.stands)
    ∙ length-map turns seen_of
    ∙ count_is _ _ _ _ _ c.pass.invariant.0
    ∙ ap (λ (s : ShardsShape). 2 ^ s.bits) shards

pub of_buckets-requires-clause-alike : goal.of_buckets-requires-clause-alike
of_buckets-requires-clause-alike g c =
    let settings : Settings = record { limits = c.self.inside.limits; sync = c.self.inside.sync } in
    record { settings = settings; same = c.close_all-buckets.ensures.settings settings (of_all _ c.self.invariant.0) }

pub returns-clause-settings : goal.returns-clause-settings
returns-clause-settings g c =
    let settings : Settings = record { limits = c.self.inside.limits; sync = c.self.inside.sync } in
    c.of_buckets.ensures.settings settings (c.close_all-buckets.ensures.settings settings (of_all _ c.self.invariant.0))
    ∙ ap (λ (s : ShardsShape). s.settings) c.self.view_is
