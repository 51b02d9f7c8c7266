-- The endpoint joins what is stored at the place, and the ring renews the torrent's touch.
use Rattle.std.proofs.Common.{ℕ, Result, refl, subst, sym, ap, arith, get_or, set}
use Rattle.bucket.specs.Calls.{JoinsAt}
use Rattle.bucket.specs.Index.{place_in}
use Rattle.bucket.specs.Stored.{IsFit, JoinsStored}
use Rattle.bucket.specs.declared.joining.JoinError.{JoinError}
use Rattle.bucket.specs.declared.stored.Stored.{Stored}
use Rattle.bucket.proofs.DropLemmas.{some_at}
use Rattle.bucket.proofs.PlaceLemmas.{kept_set, stands_at, stays_by, within_list}
use Rattle.bucket.proofs.PutLemmas.{gave_error, joins_at, kept_renewed}
use Rattle.bucket.proofs.SoundLemmas.{table_by}
use Rattle.bucket.proofs.torrents.Torrents.put.Goals as goal

pub index_mut-requires : goal.index_mut-requires
index_mut-requires g c =
    let k = c.self.inside in
    omega (arith, within_list c.args.self.now k.limits k.ring.time k.ring.pairs k.list.items c.args.place c.self.view_is c.self.invariant.as_many c.requires, k.list.ok.0)

pub join-requires-clause-past : goal.join-requires-clause-past
join-requires-clause-past g c =
    let k = c.self.inside in
    let stored = c.index_mut.result.now in
    let within = within_list c.args.self.now k.limits k.ring.time k.ring.pairs k.list.items c.args.place c.self.view_is c.self.invariant.as_many c.requires in
    omega (arith, (c.self.invariant.each c.args.place stored within).past, ap (λ (s : Stored). s.swarm.time) c.index_mut.ensures.value, c.time.ensures.time)

pub join-requires-clause-few : goal.join-requires-clause-few
join-requires-clause-few g c =
    let k = c.self.inside in
    let stored = c.index_mut.result.now in
    let within = within_list c.args.self.now k.limits k.ring.time k.ring.pairs k.list.items c.args.place c.self.view_is c.self.invariant.as_many c.requires in
    let P : Stored → Type 0 = λ s. IsFit k.limits.peers k.ring.time s in
    (subst P (sym c.index_mut.ensures.value) (c.self.invariant.each c.args.place stored within)).few

pub invariant_of-self : goal.invariant_of-self
invariant_of-self g c =
    let k = c.self.inside in
    let T : ℕ → Type 0 = λ t. IsFit k.limits.peers t c.join.new.self in
    kept_set k.limits k.ring (place_in k.index) k.list.items c.args.place c.join.new.self c.self.invariant (subst T c.time.ensures.time c.join.ensures.fit)

pub returns-in_err-join-clause-stays : goal.returns-in_err-join-clause-stays
returns-in_err-join-clause-stays g c =
    let k = c.self.inside in
    let T : ℕ → Type 0 = λ t. IsFit k.limits.peers t c.join.new.self in
    stays_by c.args.self.now k.limits k.ring k.ring (place_in k.index) k.list.items _ c.self.view_is refl
    (kept_set k.limits k.ring (place_in k.index) k.list.items c.args.place c.join.new.self c.self.invariant (subst T c.time.ensures.time c.join.ensures.fit))

pub returns-in_err-join-clause-joins : goal.returns-in_err-join-clause-joins
returns-in_err-join-clause-joins g c =
    let k = c.self.inside in
    let stored = c.index_mut.result.now in
    let within = within_list c.args.self.now k.limits k.ring.time k.ring.pairs k.list.items c.args.place c.self.view_is c.self.invariant.as_many c.requires in
    let it = stands_at k.ring.pairs k.list.items c.args.place stored c.self.invariant.as_many within c.index_mut.ensures.value in
    let T : ℕ → Type 0 = λ t. JoinsStored k.limits.peers t c.args.joining.now stored c.join.new.self c.join.result in
    let R : Result (Unit {0}) JoinError → Type 0 = λ r. JoinsStored k.limits.peers k.ring.time c.args.joining.now stored c.join.new.self r in
    let gave = c.from_residual.ensures in
    let is = gave_error c.from_residual.result c.in_err-join.field-0.0 gave.0 gave.1 in
    let P : Result (Unit {0}) JoinError → Type 0 = λ r. JoinsAt c.args.place c.args.joining.now (table_by k.limits k.ring.time k.ring.pairs k.list.items) (table_by k.limits k.ring.time k.ring.pairs (set k.list.items c.args.place c.join.new.self)) r in
    rw (← c.self.view_is) (subst P (sym is) (joins_at k.limits k.ring.time k.ring.time c.args.place k.ring.pairs k.ring.pairs k.list.items c.args.joining.now stored c.join.new.self _ it
    (subst R c.in_err-join.was (subst T c.time.ensures.time c.join.ensures.joins)) (λ pair. refl)))

pub renew-requires : goal.renew-requires
renew-requires g c =
    let k = c.self.inside in
    omega (arith, within_list c.args.self.now k.limits k.ring.time k.ring.pairs k.list.items c.args.place c.self.view_is c.self.invariant.as_many c.requires, c.self.invariant.as_many)

pub invariant_of-self-2 : goal.invariant_of-self-2
invariant_of-self-2 g c =
    let k = c.self.inside in
    let within = within_list c.args.self.now k.limits k.ring.time k.ring.pairs k.list.items c.args.place c.self.view_is c.self.invariant.as_many c.requires in
    let pair = some_at k.ring.pairs c.args.place (omega (arith, within, c.self.invariant.as_many)) in
    let T : ℕ → Type 0 = λ t. IsFit k.limits.peers t c.join.new.self in
    kept_renewed k.limits k.ring c.renew.new.self (place_in k.index) k.list.items c.args.place (get_or k.ring.pairs c.args.place pair.0).0 c.join.new.self c.self.invariant (c.renew.ensures.pairs pair.0) c.renew.ensures.items c.renew.ensures.time c.renew.ensures.ages
    (subst T c.time.ensures.time c.join.ensures.fit)

pub returns-clause-stays : goal.returns-clause-stays
returns-clause-stays g c =
    let k = c.self.inside in
    stays_by c.args.self.now k.limits k.ring c.renew.new.self (place_in k.index) k.list.items _ c.self.view_is c.renew.ensures.time (invariant_of-self-2 g c)

pub returns-clause-joins : goal.returns-clause-joins
returns-clause-joins g c =
    let k = c.self.inside in
    let stored = c.index_mut.result.now in
    let within = within_list c.args.self.now k.limits k.ring.time k.ring.pairs k.list.items c.args.place c.self.view_is c.self.invariant.as_many c.requires in
    let it = stands_at k.ring.pairs k.list.items c.args.place stored c.self.invariant.as_many within c.index_mut.ensures.value in
    let T : ℕ → Type 0 = λ t. JoinsStored k.limits.peers t c.args.joining.now stored c.join.new.self c.join.result in
    let R : Result (Unit {0}) JoinError → Type 0 = λ r. JoinsStored k.limits.peers k.ring.time c.args.joining.now stored c.join.new.self r in
    rw (← c.self.view_is) (joins_at k.limits k.ring.time c.renew.new.self.time c.args.place k.ring.pairs c.renew.new.self.pairs k.list.items c.args.joining.now stored c.join.new.self _ it
    (subst R c.in_ok-join.was (subst T c.time.ensures.time c.join.ensures.joins)) c.renew.ensures.pairs)
