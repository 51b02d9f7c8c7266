-- A bucket that forgot what isn't known and then answered right by what was left stands for the
-- history with the entry.
use Rattle.std.proofs.Common.{◌≡◌, ℕ, ◌≤◌, max, Bool, true, false, not, ◌&&◌, ◌||◌, ◌==◌, List, [], ◌∷◌, ◌++◌, reverse, Option, None, refl, sym, ◌∙◌, ap, subst, arith, length, if◌then◌else◌}
use Rattle.std.specs.Bool.{MatchBool}
use Rattle.std.specs.Option.{is_some, option_map_or}
use Rattle.ot_base.specs.declared.hash.InfoHash.{InfoHash}
use Rattle.ot_base.specs.declared.address.Endpoint.{Endpoint}
use Rattle.ot_base.specs.declared.minute.Minute.{Minute}
use Rattle.ot_base.specs.declared.peer.Mark.TheVariants.{Leecher, Seed, Stopped}
use Rattle.ot_base.specs.declared.peer.Note.{Note}
use Rattle.ot_base.specs.declared.peer.Limits.{Limits}
use Rattle.tracker_model.specs.Calls.{IsWellFormed, joins}
use Rattle.tracker_model.specs.Entries.{took_effect}
use Rattle.tracker_model.specs.Judged.{has_live, has_known, meets_full_swarm, meets_full_bucket, could_want, AnswersFor, IsRightFor}
use Rattle.tracker_model.specs.Outbox.{is_drain, note_of}
use Rattle.tracker_model.specs.Right.{is_no_memory}
use Rattle.tracker_model.specs.Settings.{Settings}
use Rattle.tracker_model.specs.Shape.{Shape, Torrent, torrent_of, count_in, known_torrents}
use Rattle.tracker_model.specs.Stands.{AreTidy, Keeps, StandsFor}
use Rattle.tracker_model.specs.Steps.{SameAt, TorrentStep, StepsTo, notes_with, dropped_with}
use Rattle.tracker_model.specs.declared.answer.Answer.{Answer}
use Rattle.tracker_model.specs.declared.answer.Answer.TheVariants.{Drained}
use Rattle.tracker_model.specs.declared.call.Call.{Call}
use Rattle.tracker_model.specs.declared.call.Call.TheVariants.{Announce, Stop, Scrape, Scan, Clean, Sync, Drain}
use Rattle.tracker_model.specs.declared.entry.Entry.{Entry}
use Rattle.tracker_model.proofs.CountLemmas.{how_many-stored, known_count-stored}
use Rattle.tracker_model.proofs.JudgedLemmas.{stands_judged}
use Rattle.tracker_model.proofs.StandsLemmas.{time_after, keeps_now, same_then_step}
use Rattle.tracker_model.proofs.StepLemmas.{keeps_later}
use Rattle.bucket.specs.Outbox.{Gets, OutboxShape, empty_outbox, settings_with}
use Rattle.bucket.specs.Torrents.{if_known as kept_torrent}
use Rattle.bucket.proofs.KeptLemmas.{same_forgotten}

-- a bucket by its parts
abbrev pub shape_with : Limits → OutboxShape → ℕ → List Torrent → Shape
shape_with limits box time torrents = record { settings = settings_with limits box; time = time; torrents = torrents; notes = box.notes; dropped = box.dropped }

-- the same without notes
abbrev pub shape_of : Settings → ℕ → List Torrent → Shape
shape_of g time torrents = record { settings = g; time = time; torrents = torrents; notes = []; dropped = 0 }

-- an answer that is right by what was left, and the step that was made from there
pub record Settles (g : Settings) (now : ℕ) (call : Call) (answer : Answer) (kept new : List Torrent) : Type 0 where
  pub right : IsRightFor (shape_of g now kept) (shape_of g now new) call answer
  pub step : TorrentStep (took_effect answer) call now kept new

-- the note that a call makes with its answer
abbrev pub note_for : Call → Answer → Option Note
note_for call answer = if took_effect answer then note_of call else None

pub no_note : (call : Call) (answer : Answer) → note_of call ≡ None → note_for call answer ≡ None
no_note call answer none =
    ap (λ n. if took_effect answer then n else None) none
    ∙ elim (took_effect answer) as (λ b. ◌≡◌ {A = Option Note} (if b then None else None) None) [ true ↦ refl | false ↦ refl ]

-- room may be made before a note comes
pub gets_none : (box mid : OutboxShape) → mid ≡ record box { spare = mid.spare } → Gets None box mid
gets_none box mid same = record { sync = ap (λ (o : OutboxShape). o.sync) same; notes = λ l. ap (λ (o : OutboxShape). o.notes) same; dropped = λ l. ap (λ (o : OutboxShape). o.dropped) same }

pub gets_after : (note : Option Note) (box mid next : OutboxShape) → mid ≡ record box { spare = mid.spare } → Gets note mid next → Gets note box next
gets_after note box mid next same it = record {
  sync = it.sync ∙ ap (λ (o : OutboxShape). o.sync) same;
  notes = λ l. it.notes l ∙ ap (λ (o : OutboxShape). notes_with (settings_with l o) note o.notes) same;
  dropped = λ l. it.dropped l ∙ ap (λ (o : OutboxShape). dropped_with (settings_with l o) note o.notes o.dropped) same;
}

-- a choice of facts by a test, where the test is another one that agrees
matched : (a b : Bool) (P Q R : Type 0) → a ≡ b → (Q → R) → MatchBool a P Q → MatchBool b P R
matched a b P Q R same follows fact = let M : Bool → Type 0 = λ c. MatchBool c P R in subst M same (later a fact)
  where
    later : (c : Bool) → MatchBool c P Q → MatchBool c P R
    later true it = it
    later false it = follows it

either : (a : Bool) (P Q P' Q' : Type 0) → (P → P') → (Q → Q') → MatchBool a P Q → MatchBool a P' Q'
either true P Q P' Q' one other fact = one fact
either false P Q P' Q' one other fact = other fact

-- what is told doesn't go by what was stored before, and that of a drain alone by the notes
same_answers : (limits : Limits) (box next : OutboxShape) (before now : ℕ) (old kept new : List Torrent) (call : Call) (answer : Answer) → is_drain call ≡ false →
    AnswersFor (shape_of (settings_with limits box) now kept) (shape_of (settings_with limits box) now new) call answer → AnswersFor (shape_with limits box before old) (shape_with limits next now new) call answer
same_answers limits box next before now old kept new (Announce h who seed completed want) answer stays tells = tells
same_answers limits box next before now old kept new (Stop h who) answer stays tells = tells
same_answers limits box next before now old kept new (Scrape h) answer stays tells = tells
same_answers limits box next before now old kept new Scan answer stays tells = tells
same_answers limits box next before now old kept new Clean answer stays tells = tells
same_answers limits box next before now old kept new (Sync h who mark) answer stays tells = tells
same_answers limits box next before now old kept new Drain answer stays tells = absurd (let clash : true ≡ false = stays in cc)

-- the tests before the call are the same by what was left
module _ (past : List Entry) (now : ℕ) (old kept : List Torrent) (keeps_old : Keeps past now old) (keeps : Keeps past now kept) (same : SameAt now old kept) where
  live_same : (h : InfoHash) (e : Endpoint) → has_live now kept h e ≡ has_live now old h e
  live_same h e = ap is_some (same.peers h e)

  known_same : (h : InfoHash) → has_known now kept h ≡ has_known now old h
  known_same h = ap is_some (same.torrents h)

  size_same : (h : InfoHash) → count_in is_some now kept h ≡ count_in is_some now old h
  size_same h = sym (how_many-stored past now kept h is_some refl keeps) ∙ how_many-stored past now old h is_some refl keeps_old

  number_same : length (known_torrents now kept) ≡ length (known_torrents now old)
  number_same = sym (known_count-stored past now kept keeps) ∙ known_count-stored past now old keeps_old

  swarm_same : (g : Settings) (call : Call) → meets_full_swarm g now kept call ≡ meets_full_swarm g now old call
  swarm_same g call = λ i. option_map_or (λ s. not (live_same s.0 s.1 i) && known_same s.0 i && (size_same s.0 i == g.limits.peers)) (joins call) false

  bucket_same : (g : Settings) (call : Call) → meets_full_bucket g now kept call ≡ meets_full_bucket g now old call
  bucket_same g call = λ i. option_map_or (λ s. not (known_same s.0 i) && (number_same i == g.limits.torrents)) (joins call) false

  want_same : (g : Settings) (call : Call) → could_want g now kept call ≡ could_want g now old call
  want_same g (Announce h who seed completed want) = ap (λ b. g.sync || not b) (live_same h who)
  want_same g (Stop h who) = refl
  want_same g (Scrape h) = refl
  want_same g Scan = refl
  want_same g Clean = refl
  want_same g (Sync h who Leecher) = ap not (live_same h who)
  want_same g (Sync h who Seed) = ap not (live_same h who)
  want_same g (Sync h who Stopped) = refl
  want_same g Drain = refl

  right_before : (limits : Limits) (box next : OutboxShape) (before : ℕ) (new : List Torrent) (call : Call) (answer : Answer) → is_drain call ≡ false →
      IsRightFor (shape_of (settings_with limits box) now kept) (shape_of (settings_with limits box) now new) call answer → IsRightFor (shape_with limits box before old) (shape_with limits next now new) call answer
  right_before limits box next before new call answer stays right =
      let g = settings_with limits box in
      matched _ _ _ _ _ (swarm_same g call)
      (λ fact. matched _ _ _ _ _ (bucket_same g call)
      (λ deep. either (is_no_memory answer) _ _ _ _ (λ wants. sym (want_same g call) ∙ wants) (λ tells. same_answers limits box next before now old kept new call answer stays tells) deep)
      fact)
      right

-- a bucket that stood for a history stands for it with this entry
abbrev pub StandsOn : ℕ → Minute → Call → Answer → (old new : Shape) → Type 0
StandsOn caller minute call answer old new =
    (history : List Entry) → StandsFor history old →
    StandsFor (history ++ (let x : Entry = record { caller = caller; minute = minute; call = call; answer = answer } in x) ∷ []) new

-- the torrents that are left say what a history says that the bucket stood for
module _ (x : Entry) (history : List Entry) (was : Shape) (stands : StandsFor history was) (now : ℕ) (later : now ≡ max x.minute.0 was.time) (kept : List Torrent) (tidy : AreTidy kept)
    (found : (h : InfoHash) → torrent_of kept h ≡ kept_torrent now (torrent_of was.torrents h)) where
  keeps_old : Keeps (reverse history) now was.torrents
  keeps_old =
      let At : ℕ → Type 0 = λ n. Keeps (reverse history) n was.torrents in
      subst At (sym (later ∙ time_after x (reverse history) was stands.holds)) (keeps_now x (reverse history) was stands.holds)

  same_kept : SameAt now was.torrents kept
  same_kept = same_forgotten (reverse history) now was.torrents kept keeps_old tidy found

  keeps_kept : Keeps (reverse history) now kept
  keeps_kept = let le : now ≤ now = omega arith in keeps_later (reverse history) now now was.torrents kept le keeps_old same_kept

pub settled : (limits : Limits) (box next : OutboxShape) (caller : ℕ) (minute : Minute) (call : Call) (answer : Answer) (before now : ℕ) (old kept new : List Torrent) →
    is_drain call ≡ false → Gets (note_for call answer) box next → IsWellFormed call → now ≡ max minute.0 before → AreTidy kept → ((h : InfoHash) → torrent_of kept h ≡ kept_torrent now (torrent_of old h)) →
    Settles (settings_with limits box) now call answer kept new → StandsOn caller minute call answer (shape_with limits box before old) (shape_with limits next now new)
settled limits box next caller minute call answer before now old kept new stays gets formed later tidy found settles history stands =
    let x : Entry = record { caller = caller; minute = minute; call = call; answer = answer } in
    let was = shape_with limits box before old in
    let is = shape_with limits next now new in
    let g = settings_with limits box in
    let same = same_kept x history was stands now later kept tidy found in
    let step : StepsTo x was is = record {
      settings = λ i. (let s : Settings = record { limits = limits; sync = gets.sync i } in s);
      time = later;
      torrents = same_then_step (took_effect answer) call now old kept new same settles.step;
      notes = gets.notes limits ∙ sym (ap (λ b. if b then [] else notes_with g (note_for call answer) box.notes) stays);
      dropped = gets.dropped limits ∙ sym (ap (λ b. if b then 0 else dropped_with g (note_for call answer) box.notes box.dropped) stays);
    } in
    stands_judged history x was is stands formed
    (right_before (reverse history) now old kept (keeps_old x history was stands now later kept tidy found) (keeps_kept x history was stands now later kept tidy found) same limits box next before new call answer stays settles.right)
    step

-- a drain tells the notes, and leaves none
pub drained : (limits : Limits) (box next : OutboxShape) (caller : ℕ) (minute : Minute) (before now : ℕ) (old kept : List Torrent) →
    next ≡ empty_outbox box.sync → now ≡ max minute.0 before → AreTidy kept → ((h : InfoHash) → torrent_of kept h ≡ kept_torrent now (torrent_of old h)) →
    StandsOn caller minute Drain (Drained box.notes box.dropped) (shape_with limits box before old) (shape_with limits next now kept)
drained limits box next caller minute before now old kept empty later tidy found history stands =
    let x : Entry = record { caller = caller; minute = minute; call = Drain; answer = Drained box.notes box.dropped } in
    let was = shape_with limits box before old in
    let is = shape_with limits next now kept in
    let step : StepsTo x was is = record {
      settings = λ i. settings_with limits (empty i);
      time = later;
      torrents = same_kept x history was stands now later kept tidy found;
      notes = ap (λ (o : OutboxShape). o.notes) empty;
      dropped = ap (λ (o : OutboxShape). o.dropped) empty;
    } in
    stands_judged history x was is stands tt refl step
