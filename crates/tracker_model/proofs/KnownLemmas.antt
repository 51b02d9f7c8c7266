-- What is known now and later, and after an entry.
use Rattle.std.proofs.Common.{◌≡◌, ℕ, ◌+◌, ◌-◌, ◌≤◌, Bool, true, false, not, ◌&&◌, List, [], ◌∷◌, Option, Some, None, refl, sym, ◌∙◌, ap, arith, nat_lt, if◌then◌else◌, min, add-zero}
use Rattle.std.proofs.lemmas.Bool.Decides.{nat_tests}
use Rattle.std.specs.Option.{option_map}
use Rattle.ot_base.specs.declared.hash.InfoHash.{InfoHash}
use Rattle.tracker_model.specs.Entries.{time_of, is_effective}
use Rattle.tracker_model.specs.Known.{Standing, if_known, is_recent, is_known, is_seed, known, touch_of, touches, downloads, downloaded_of, is_download, counts_download}
use Rattle.tracker_model.specs.Shape.{downloads_in}
use Rattle.tracker_model.specs.Steps.{one_more}
use Rattle.tracker_model.specs.Calls.{is_joining}
use Rattle.tracker_model.specs.Live.{live}
use Rattle.tracker_model.specs.declared.call.Call.{Call}
use Rattle.tracker_model.specs.declared.call.Call.TheVariants.{Announce, Stop, Scrape, Scan, Clean, Sync, Drain}
use Rattle.tracker_model.specs.declared.entry.Entry.{Entry}
use Rattle.tracker_model.proofs.Cases.{by_test, and_false}
use Rattle.tracker_model.specs.declared.limits.TheConstants.{TORRENT_MINUTES}

pub if_known-later : (now later : ℕ) → now ≤ later → (o : Option Standing) → if_known later (if_known now o) ≡ if_known later o
if_known-later now later le None = refl
if_known-later now later le (Some s) = grind (arith, nat_tests)

-- what agrees now agrees later
pub known_agrees_later : (now later : ℕ) → now ≤ later → (a b : Option Standing) → if_known now a ≡ if_known now b → if_known later a ≡ if_known later b
known_agrees_later now later le a b e = sym (if_known-later now later le a) ∙ ap (λ o. if_known later o) e ∙ if_known-later now later le b

-- a test that chooses between something and nothing
pub if_some : {X : Type 0} (b : Bool) (x y : X) → (b ≡ true → x ≡ y) → ◌≡◌ {A = Option X} (if b then Some x else None) (if b then Some y else None)
if_some true x y same = ap Some (same refl)
if_some false x y same = refl

pub recent_before : (now later touch : ℕ) → now ≤ later → nat_lt (later - touch) TORRENT_MINUTES ≡ true → nat_lt (now - touch) TORRENT_MINUTES ≡ true
recent_before now later touch le h = grind (arith, nat_tests)

-- what stands of a torrent with this touch and these downloads
abbrev pub standing : ℕ → ℕ → Standing
standing touch count = record { touch = touch; downloaded = min 4294967295 count }

-- downloads that are kept as long as the touch is recent
pub kept_standing : (now later : ℕ) → now ≤ later → (count : ℕ) (o : Option ℕ) →
    if_known later (option_map (λ touch. standing touch ((if is_recent now o then count else 0) + 0)) o) ≡ if_known later (option_map (λ touch. standing touch count) o)
kept_standing now later le count None = refl
kept_standing now later le count (Some touch) =
    if_some (nat_lt (later - touch) TORRENT_MINUTES) (standing touch ((if nat_lt (now - touch) TORRENT_MINUTES then count else 0) + 0)) (standing touch count)
    (λ recent. ap (λ b. standing touch ((if b then count else 0) + 0)) (recent_before now later touch le recent) ∙ ap (λ n. standing touch n) (add-zero count))

-- an entry that neither touches a torrent nor counts a download leaves what is known of it
pub known-kept : (x : Entry) (past : List Entry) (h : InfoHash) (minute : ℕ) → touches x h ≡ false → counts_download x h past ≡ false → time_of (x ∷ past) ≤ minute → known (x ∷ past) h minute ≡ known past h minute
known-kept x past h minute untouched none le =
    ap (λ b. if_known minute (option_map (λ touch. standing touch (downloads (x ∷ past) h)) (if b then Some (time_of (x ∷ past)) else touch_of past h))) untouched
    ∙ ap (λ b. if_known minute (option_map (λ touch. standing touch ((if is_known past h (time_of (x ∷ past)) then downloads past h else 0) + (if b then 1 else 0))) (touch_of past h))) none
    ∙ kept_standing (time_of (x ∷ past)) minute le (downloads past h) (touch_of past h)

-- the downloads that are told of what is known
pub downloads_in-standing : (minute count : ℕ) (o : Option ℕ) → downloads_in (if_known minute (option_map (λ touch. standing touch count) o)) ≡ (if is_recent minute o then min 4294967295 count else 0)
downloads_in-standing minute count None = refl
downloads_in-standing minute count (Some touch) =
    elim (nat_lt (minute - touch) TORRENT_MINUTES) as (λ b. downloads_in (if b then Some (standing touch count) else None) ≡ (if b then min 4294967295 count else 0)) [ true ↦ refl | false ↦ refl ]

pub one_more-min : (is_one kept : Bool) (count : ℕ) → one_more is_one (if kept then min 4294967295 count else 0) ≡ min 4294967295 ((if kept then count else 0) + (if is_one then 1 else 0))
one_more-min true true count = omega arith
one_more-min true false count = omega arith
one_more-min false true count = ap (λ n. min 4294967295 n) (sym (add-zero count))
one_more-min false false count = omega arith

pub zero_recent : (now : ℕ) → nat_lt (now - now) TORRENT_MINUTES ≡ true
zero_recent now = grind (arith, nat_tests)

-- a torrent that an entry touches is known just then, with one more download if the entry counts
-- one
pub known-touched : (x : Entry) (past : List Entry) (h : InfoHash) (is_one : Bool) → touches x h ≡ true → counts_download x h past ≡ is_one →
    known (x ∷ past) h (time_of (x ∷ past)) ≡ Some (record { touch = time_of (x ∷ past); downloaded = one_more is_one (downloads_in (known past h (time_of (x ∷ past)))) })
known-touched x past h is_one touched counted =
    let now = time_of (x ∷ past) in
    ap (λ b. if_known now (option_map (λ touch. standing touch (downloads (x ∷ past) h)) (if b then Some now else touch_of past h))) touched
    ∙ ap (λ b. if b then Some (standing now (downloads (x ∷ past) h)) else None) (zero_recent now)
    ∙ ap (λ b. Some (standing now ((if is_known past h now then downloads past h else 0) + (if b then 1 else 0)))) counted
    ∙ ap (λ n. let s : Standing = record { touch = now; downloaded = n } in Some s)
    (sym (one_more-min is_one (is_known past h now) (downloads past h)) ∙ ap (λ n. one_more is_one n) (sym (downloads_in-standing now (downloads past h) (touch_of past h))))

-- what counts as a download touches the torrent
download_joins : (call : Call) (h : InfoHash) (past : List Entry) (minute : ℕ) → is_joining call h ≡ false → is_download call h past minute ≡ false
download_joins (Announce hash who seed completed want) h past minute apart =
    ap (λ b. completed && b && not (is_seed (live past h who minute))) apart ∙ ap (λ b. b && not (is_seed (live past h who minute))) (and_false completed)
download_joins (Stop hash who) h past minute apart = refl
download_joins (Scrape hash) h past minute apart = refl
download_joins Scan h past minute apart = refl
download_joins Clean h past minute apart = refl
download_joins (Sync hash who mark) h past minute apart = refl
download_joins Drain h past minute apart = refl

download_touches : (took joining download : Bool) → (joining ≡ false → download ≡ false) → (took && joining) ≡ false → (took && download) ≡ false
download_touches true joining download implies untouched = implies untouched
download_touches false joining download implies untouched = refl

-- of a torrent that isn't known no downloads are left
pub unknown_downloads : (past : List Entry) (h : InfoHash) → is_known past h (time_of past) ≡ false → downloads past h ≡ 0
unknown_downloads [] h unknown = refl
unknown_downloads (x ∷ past) h unknown =
    let now = time_of (x ∷ past) in
    let known_by = λ (b : Bool). is_recent now (if b then Some now else touch_of past h) in
    by_test (touches x h) (downloads (x ∷ past) h ≡ 0)
    (λ touched. let e : true ≡ false = sym (ap known_by touched ∙ zero_recent now) ∙ unknown in absurd (let p : ⊥ = cc in p))
    (λ untouched.
    let before : is_known past h now ≡ false = sym (ap known_by untouched) ∙ unknown in
    let none : counts_download x h past ≡ false = download_touches (is_effective x) (is_joining x.call h) (is_download x.call h past now) (download_joins x.call h past now) untouched in
    ap (λ b. (if b then downloads past h else 0) + (if counts_download x h past then 1 else 0)) before
    ∙ ap (λ b. 0 + (if b then 1 else 0)) none)

-- so what is told of them is what stands of the torrent, if it is known
pub downloaded_of-known : (past : List Entry) (h : InfoHash) → downloaded_of past h ≡ downloads_in (known past h (time_of past))
downloaded_of-known past h =
    let now = time_of past in
    by_test (is_known past h now) (downloaded_of past h ≡ downloads_in (known past h now))
    (λ still. sym (downloads_in-standing now (downloads past h) (touch_of past h) ∙ ap (λ b. if b then min 4294967295 (downloads past h) else 0) still))
    (λ unknown. ap (λ n. min 4294967295 n) (unknown_downloads past h unknown)
    ∙ sym (downloads_in-standing now (downloads past h) (touch_of past h) ∙ ap (λ b. if b then min 4294967295 (downloads past h) else 0) unknown))
