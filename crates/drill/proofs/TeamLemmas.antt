-- The workers of a phase, from their passes' split to their join.
use Rattle.std.proofs.Common.{◌≡◌, ◌≢◌, ℕ, ◌+◌, ◌-◌, ◌<◌, ◌≤◌, true, List, [], ◌∷◌, ◌++◌, All, length, map, take, drop, refl, sym, ap, subst, ◌∙◌, ⊎_elim, get_or, arith}
use Rattle.std.specs.List.{AllByRecursion, range_with_len}
use Rattle.std.proofs.lemmas.Bool.{cases_lt}
use Rattle.std.proofs.lemmas.List.{append-nil, drop_all, get_or-map, get_or_past, length-map, take_all}
use Rattle.std.proofs.lemmas.List.Elements.{All-get_or, All-weaker}
use Rattle.std.proofs.lemmas.List.FromFn.{get_or-map-range_with_len, length-map-range_with_len}
use Rattle.ot_base.specs.declared.minute.Minute.{Minute}
use Rattle.tracker_model.specs.Grows.{OthersBetween, history_at}
use Rattle.tracker_model.specs.declared.entry.Entry.{Entry}
use Rattle.turn_lock.specs.Histories.{AllBelow, GoesOn, NoneBy}
use Rattle.turn_lock.proofs.HistoryLemmas.{all_left, all_right}
use Rattle.shards.specs.Shape.{KnowsNumbers, PassShape, ShardsShape, new_pass, new_passes}
use Rattle.load_model.specs.Drawing.{IsNotNext}
use Rattle.load_model.specs.declared.request.Request.{Request}
use Rattle.load_model.proofs.PartLemmas.{all_weaker}
use Rattle.drill.specs.Asking.{Asks, IsAsked}
use Rattle.drill.specs.Dealing.{Deals, share_of}
use Rattle.shards.specs.Joining.{AreJoined, HoldAllOf}
use Rattle.drill.specs.Phases.{HasMade, HaveMade, IsAlone, IsNoneOf}
use Rattle.drill.specs.Working.{AllWork}
use Rattle.drill.specs.declared.worker.Worker.{Worker}
use Rattle.drill.proofs.MergeLemmas.{AreFrom, all_at, merged, own_entries}

-- ---- what caller 0's pass tells

-- what holds of each history that was seen holds of a bucket's
pub seen_at : (P : List Entry → Type 0) (seen : List (List Entry)) → P [] → All P seen → (bucket : ℕ) → P (history_at seen bucket)
seen_at P seen nothing all bucket =
    ⊎_elim
    (λ (within : bucket < length seen). All-get_or P seen bucket [] within all)
    (λ (past : length seen ≤ bucket). subst P (sym (get_or_past seen bucket [] past)) nothing)
    (cases_lt bucket (length seen))

pub below_at : (pass : PassShape) → pass.caller ≡ 0 → KnowsNumbers pass → (bucket : ℕ) → AllBelow pass.free (history_at pass.seen bucket)
below_at pass first known bucket = seen_at (AllBelow pass.free) pass.seen tt (known.not_free first) bucket

-- of whom the first entry isn't
none_first : (callers : List ℕ) (x : Entry) (xs : List Entry) → NoneBy callers (x ∷ xs) → IsNoneOf callers x.caller
none_first callers x xs none = all_weaker (λ c. OthersBetween c (x ∷ xs)) (λ m. x.caller ≢ m) (λ c o. o.0) callers none

none_rest : (callers : List ℕ) (x : Entry) (xs : List Entry) → NoneBy callers (x ∷ xs) → NoneBy callers xs
none_rest callers x xs none = all_weaker (λ c. OthersBetween c (x ∷ xs)) (λ c. OthersBetween c xs) (λ c o. o.1) callers none

-- a number that isn't caller 0's nor one of those joined isn't below the free ones
apart_is_free : (pass : PassShape) → IsAlone pass → (n : ℕ) → n ≢ pass.caller → IsNoneOf pass.joined n → pass.free ≤ n
apart_is_free pass alone n other apart =
    ⊎_elim
    (λ (before : n < pass.free). let first = alone.first in absurd (alone.joined n (omega arith) before apart))
    (λ (after : pass.free ≤ n). after)
    (cases_lt n pass.free)

-- entries of others than those joined are of numbers that were free
pub free_entries : (pass : PassShape) → IsAlone pass → (workers : ℕ) (xs : List Entry) → NoneBy (pass.caller ∷ pass.joined) xs → AllBelow (pass.free + workers) xs → AreFrom pass.free workers xs
free_entries pass alone workers [] none below = tt
free_entries pass alone workers (x ∷ xs) none below =
    let apart = none_first (pass.caller ∷ pass.joined) x xs none in
    ((apart_is_free pass alone x.caller apart.0 apart.1, below.0), free_entries pass alone workers xs (none_rest (pass.caller ∷ pass.joined) x xs none) below.1)

-- where none is free there are none
pub no_entries : (pass : PassShape) → IsAlone pass → (xs : List Entry) → NoneBy (pass.caller ∷ pass.joined) xs → AllBelow pass.free xs → xs ≡ []
no_entries pass alone [] none below = refl
no_entries pass alone (x ∷ xs) none below =
    let apart = none_first (pass.caller ∷ pass.joined) x xs none in
    let from = apart_is_free pass alone x.caller apart.0 apart.1 in
    let less : x.caller < pass.free = below.0 in
    absurd (omega arith)

-- ---- a phase's workers

some_worker : (team : List Worker) → 1 ≤ length team → Worker
some_worker [] some = absurd (omega arith)
some_worker (worker ∷ team) some = worker

-- a pass that others were split from
pub still_knows : (n : ℕ) (old new : PassShape) → new ≡ record old { free = old.free + n; out = old.out + n } → old.free + n ≤ old.shards.callers → KnowsNumbers old → KnowsNumbers new
still_knows n old new splits fits known =
    subst KnowsNumbers (sym splits) (record {
      free_fits = fits;
      not_free = λ first. All-weaker (AllBelow old.free) (AllBelow (old.free + n)) (λ history below. all_weaker (λ (x : Entry). x.caller < old.free) (λ (x : Entry). x.caller < old.free + n) (λ x less. let e : x.caller < old.free = less in omega arith) history below) old.seen (known.not_free first);
    })

abbrev pub IsOthers : ShardsShape → Worker → Type 0
IsOthers shards worker = (worker.pass.shards ≡ shards) × (worker.pass.caller ≢ 0)

-- the passes of workers that requests were dealt to
pub passes_apart : (phase workers : ℕ) (load left : List (ℕ × Request)) (shards : ShardsShape) (old : PassShape) (team dealt : List Worker) → old.shards ≡ shards → 1 ≤ old.free →
    map (λ (worker : Worker). worker.pass) team ≡ new_passes old workers → Deals phase load left team dealt → All (IsOthers shards) dealt
passes_apart phase workers load left shards old team dealt of_shards from passes deals i d within =
    let count : length team ≡ workers = sym (length-map team (λ (worker : Worker). worker.pass)) ∙ ap length passes ∙ length-map-range_with_len (λ caller. new_pass old.shards caller old.seen) old.free workers in
    let before : i < length team = rw (← deals.requests.handed.count) within in
    let few : i < workers = rw (← count) before in
    let pass : (get_or dealt i d).pass ≡ new_pass old.shards (old.free + i) old.seen =
    deals.requests.handed.passes i d before
    ∙ sym (get_or-map (λ (worker : Worker). worker.pass) team i d d.pass before)
    ∙ ap (λ l. get_or l i d.pass) passes
    ∙ get_or-map-range_with_len (λ caller. new_pass old.shards caller old.seen) old.free workers i (old.free + i) d.pass few refl in
    (ap (λ (p : PassShape). p.shards) pass ∙ of_shards, (λ none. let e : (get_or dealt i d).pass.caller ≡ old.free + i = ap (λ (p : PassShape). p.caller) pass in absurd (omega arith)))

-- and once they have worked
pub passes_still : (minute : Minute) (shards : ShardsShape) (team worked : List Worker) → All (IsOthers shards) team → AllWork minute team worked → All (IsOthers shards) worked
passes_still minute shards team worked all work i d within =
    let before : i < length team = rw (← work.count) within in
    let was = All-get_or (IsOthers shards) team i d before all in
    let pass = (work.each i d before).pass in
    (ap (λ (p : PassShape). p.shards) pass ∙ was.0, (λ none. was.1 (sym (ap (λ (p : PassShape). p.caller) pass) ∙ none)))

-- a list that was written over as a slice
pub written_back : (n : ℕ) (team worked : List Worker) → length team ≡ n → length worked ≡ length team → take n (worked ++ drop (length worked) team) ≡ worked
written_back n team worked count same =
    ap (λ l. take n (worked ++ l)) (drop_all (length worked) team (omega arith))
    ∙ ap (take n) (append-nil worked)
    ∙ take_all n worked (omega arith)

module _ (minute : Minute) (phase workers : ℕ) (some : 1 ≤ workers) (load left : List (ℕ × Request)) (old split new : PassShape) (team dealt worked : List Worker)
    (alone : IsAlone old)
    (splits : split ≡ record old { free = old.free + workers; out = old.out + workers })
    (no_entry_yet : (number : ℕ) → old.free ≤ number → number < old.free + workers → All (OthersBetween number) old.seen)
    (passes : map (λ (worker : Worker). worker.pass) team ≡ new_passes old workers)
    (empty : All (λ worker. worker.requests.items ≡ []) team)
    (deals : Deals phase load left team dealt)
    (work : AllWork minute dealt worked)
    (took : All (λ worker. worker.took ≡ true) worked)
    (joins : AreJoined (map (λ (worker : Worker). worker.pass) worked) split new)
    (known : KnowsNumbers new) where
  abbrev requests : List Request
  requests = deals.requests.dealt

  count : length team ≡ workers
  count = sym (length-map team (λ (worker : Worker). worker.pass)) ∙ ap length passes ∙ length-map-range_with_len (λ caller. new_pass old.shards caller old.seen) old.free workers

  count_worked : length worked ≡ workers
  count_worked = work.count ∙ deals.requests.handed.count ∙ count

  any_worker : Worker
  any_worker = some_worker team (rw count some)

  -- a worker's pass before the phase
  first_pass_of : (i : ℕ) (d : Worker) → i < workers → (get_or team i d).pass ≡ new_pass old.shards (old.free + i) old.seen
  first_pass_of i d few =
      sym (get_or-map (λ (worker : Worker). worker.pass) team i d d.pass (rw count few))
      ∙ ap (λ l. get_or l i d.pass) passes
      ∙ get_or-map-range_with_len (λ caller. new_pass old.shards caller old.seen) old.free workers i (old.free + i) d.pass few refl

  dealt_pass_of : (i : ℕ) (d : Worker) → i < workers → (get_or dealt i d).pass ≡ new_pass old.shards (old.free + i) old.seen
  dealt_pass_of i d few = deals.requests.handed.passes i d (rw count few) ∙ first_pass_of i d few

  -- its requests
  share_is : (i : ℕ) (d : Worker) → i < workers → (get_or dealt i d).requests.items ≡ share_of workers i requests
  share_is i d few =
      deals.requests.handed.shares i d (rw count few)
      ∙ (λ k. All-get_or (λ (worker : Worker). worker.requests.items ≡ []) team i d (rw count few) empty k ++ share_of (count k) i requests)

  -- a worker's pass after the phase
  asks : (i : ℕ) (d : Worker) → i < workers → Asks minute (share_of workers i requests) (new_pass old.shards (old.free + i) old.seen) (get_or worked i d).pass
  asks i d few =
      let within : i < length worked = rw count_worked few in
      let there : i < length dealt = rw (deals.requests.handed.count ∙ count) few in
      let took_it = All-get_or (λ (worker : Worker). worker.took ≡ true) worked i d within took in
      let asked = (work.each i d there).asked took_it in
      let with_share : Asks minute (share_of workers i requests) (get_or dealt i d).pass (get_or worked i d).pass = subst (λ rs. Asks minute rs (get_or dealt i d).pass (get_or worked i d).pass) (share_is i d few) asked in
      subst (λ p. Asks minute (share_of workers i requests) p (get_or worked i d).pass) (dealt_pass_of i d few) with_share

  caller_of : (i : ℕ) (d : Worker) → i < workers → (get_or worked i d).pass.caller ≡ old.free + i
  caller_of i d few = ap (λ (p : PassShape). p.caller) (asks i d few).pass

  joined_of_all : (i : ℕ) (d : Worker) → i < workers → HoldAllOf new.seen (get_or worked i d).pass
  joined_of_all i d few =
      let within : i < length worked = rw count_worked few in
      let listed : i < length (map (λ (worker : Worker). worker.pass) worked) = rw (length-map worked (λ (worker : Worker). worker.pass)) within in
      subst (HoldAllOf new.seen) (get_or-map (λ (worker : Worker). worker.pass) worked i d d.pass within) (all_at (HoldAllOf new.seen) (map (λ (worker : Worker). worker.pass) worked) joins.others_seen i d.pass listed)

  -- ---- one bucket

  module _ (bucket : ℕ) where
    goes : GoesOn (old.caller ∷ old.joined) (history_at old.seen bucket) (history_at new.seen bucket)
    goes = subst (λ (p : PassShape). GoesOn (p.caller ∷ p.joined) (history_at p.seen bucket) (history_at new.seen bucket)) splits (joins.seen bucket)

    own : (i : ℕ) → i < workers → IsAsked minute old.shards.bits bucket (old.free + i) (share_of workers i requests) [] goes.others
    own i few =
        let d = any_worker in
        let p = (get_or worked i d).pass in
        let on = subst (λ n. GoesOn (n ∷ []) (history_at p.seen bucket) (history_at new.seen bucket)) (caller_of i d few) (joined_of_all i d few bucket) in
        let none_before = seen_at (OthersBetween (old.free + i)) old.seen tt (no_entry_yet (old.free + i) (omega arith) (omega arith)) bucket in
        own_entries minute old.shards.bits bucket (old.free + i) (share_of workers i requests)
        (history_at old.seen bucket) goes.others (history_at p.seen bucket) on.others (history_at new.seen bucket)
        goes.grown on.grown none_before on.apart.0 ((asks i d few).each bucket)

    new_first : new.caller ≡ 0
    new_first = ap (λ (p : PassShape). p.caller) joins.pass ∙ ap (λ (p : PassShape). p.caller) splits ∙ alone.first

    new_free : new.free ≡ old.free + workers
    new_free = ap (λ (p : PassShape). p.free) joins.pass ∙ ap (λ (p : PassShape). p.free) splits

    below : AllBelow (old.free + workers) goes.others
    below =
        let P : Entry → Type 0 = λ x. x.caller < old.free + workers in
        all_right P (history_at old.seen bucket) goes.others
        (subst (AllByRecursion P) goes.grown (subst (λ n. AllBelow n (history_at new.seen bucket)) new_free (below_at new new_first known bucket)))

    bucket_made : HasMade minute old.shards.bits bucket workers requests (history_at old.seen bucket) (history_at new.seen bucket)
    bucket_made = merged minute old.shards.bits bucket workers old.free some requests goes.others (free_entries old alone workers goes.others goes.apart below) own (history_at old.seen bucket) (history_at new.seen bucket) goes.grown

  -- ---- caller 0's pass afterwards

  joined_is : new.joined ≡ map (λ (other : PassShape). other.caller) (map (λ (worker : Worker). worker.pass) worked) ++ old.joined
  joined_is = ap (λ (p : PassShape). p.joined) joins.pass ∙ ap (λ (p : PassShape). map (λ (other : PassShape). other.caller) (map (λ (worker : Worker). worker.pass) worked) ++ p.joined) splits

  number_at : (i : ℕ) → i < workers → get_or (map (λ (other : PassShape). other.caller) (map (λ (worker : Worker). worker.pass) worked)) i 0 ≡ old.free + i
  number_at i few =
      let d = any_worker in
      let within : i < length worked = rw count_worked few in
      let listed : i < length (map (λ (worker : Worker). worker.pass) worked) = rw (length-map worked (λ (worker : Worker). worker.pass)) within in
      get_or-map (λ (other : PassShape). other.caller) (map (λ (worker : Worker). worker.pass) worked) i d.pass 0 listed
      ∙ ap (λ (p : PassShape). p.caller) (get_or-map (λ (worker : Worker). worker.pass) worked i d d.pass within)
      ∙ caller_of i d few

  all_joined : (n : ℕ) → 1 ≤ n → n < new.free → IsNoneOf new.joined n → ⊥
  all_joined n from less apart =
      let callers = map (λ (other : PassShape). other.caller) (map (λ (worker : Worker). worker.pass) worked) in
      let P : ℕ → Type 0 = λ m. n ≢ m in
      let both : AllByRecursion P (callers ++ old.joined) = subst (AllByRecursion P) joined_is apart in
      let less_by : n < old.free + workers = (let e = new_free 0 in omega arith) in
      ⊎_elim
      (λ (before : n < old.free). alone.joined n from before (all_right P callers old.joined both))
      (λ (after : old.free ≤ n).
      let i : ℕ = n - old.free in
      let few : i < workers = omega arith in
      let listed : i < length callers = rw (length-map (map (λ (worker : Worker). worker.pass) worked) (λ (other : PassShape). other.caller), length-map worked (λ (worker : Worker). worker.pass), count_worked) few in
      all_at P callers (all_left P callers old.joined both) i 0 listed (let e = number_at i few in omega arith))
      (cases_lt n old.free)

  new_out : new.out ≡ 0
  new_out =
      let out = joins.out in
      let was : split.out ≡ old.out + workers = ap (λ (p : PassShape). p.out) splits in
      let none = alone.none_out in
      let many : length (map (λ (worker : Worker). worker.pass) worked) ≡ workers = length-map worked (λ (worker : Worker). worker.pass) ∙ count_worked in
      omega arith

  pub have_made : HaveMade phase minute workers load left old new
  have_made = record {
    dealt = requests;
    drawn = deals.requests.drawn;
    ended = deals.ended;
    pass = λ k. record old {
      shards = (ap (λ (p : PassShape). p.shards) joins.pass ∙ ap (λ (p : PassShape). p.shards) splits) k;
      caller = (ap (λ (p : PassShape). p.caller) joins.pass ∙ ap (λ (p : PassShape). p.caller) splits) k;
      free = new_free 0 k;
      joined = new.joined;
      out = (new_out ∙ sym alone.none_out) k;
      seen = new.seen;
    };
    alone = record { first = new_first 0; none_out = new_out; some = (let e = new_free 0 in omega arith); joined = all_joined; known = known };
    buckets = joins.buckets ∙ ap (λ (p : PassShape). length p.seen) splits;
    made = bucket_made;
  }
