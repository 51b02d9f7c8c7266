-- What an entry says, touches and counts, by its call.
use Rattle.std.proofs.Common.{◌≡◌, ℕ, Bool, true, false, not, ◌&&◌, List, ◌∷◌, Some, refl, ◌∙◌, ap, if◌then◌else◌}
use Rattle.std.specs.Option.{option_map_or}
use Rattle.ot_base.specs.Same.{same_hash, same_endpoint}
use Rattle.ot_base.proofs.SameLemmas.{same_hash_decides}
use Rattle.ot_base.specs.declared.hash.InfoHash.{InfoHash}
use Rattle.ot_base.specs.declared.address.Endpoint.{Endpoint}
use Rattle.tracker_model.specs.Calls.{silent, subject, joins, call_word, is_about, is_joining}
use Rattle.tracker_model.specs.Counted.{same_subject}
use Rattle.tracker_model.specs.Entries.{time_of, is_effective, word_of}
use Rattle.tracker_model.specs.Known.{is_seed, touches, is_download, counts_download}
use Rattle.tracker_model.specs.Live.{live}
use Rattle.tracker_model.specs.declared.call.Call.{Call}
use Rattle.tracker_model.specs.declared.call.Call.TheVariants.{Announce}
use Rattle.tracker_model.specs.declared.entry.Entry.{Entry}
use Rattle.tracker_model.proofs.Cases.{and_true, and_false}
use Rattle.tracker_model.proofs.StepLemmas.{IsQuiet, Says, Touches, same_subject_decides}

-- an entry that took no effect is quiet
pub quiet_refused : (x : Entry) (past : List Entry) → is_effective x ≡ false → IsQuiet x past
quiet_refused x past refused = record {
  unsaid = λ h e. ap (λ b. if b && is_about x.call h e then call_word x.call else silent) refused;
  untouched = λ h. ap (λ b. b && is_joining x.call h) refused;
  uncounted = λ h. ap (λ b. b && is_download x.call h past (time_of (x ∷ past))) refused;
}

-- what the call of an effective entry says, touches and counts, the entry does
word_of-call : (x : Entry) (call : Call) → is_effective x ≡ true → x.call ≡ call → (h : InfoHash) (e : Endpoint) → word_of x h e ≡ (if is_about call h e then call_word call else silent)
word_of-call x call done is h e =
    ap (λ b. if b && is_about x.call h e then call_word x.call else silent) done
    ∙ ap (λ c. if is_about c h e then call_word c else silent) is

touches-call : (x : Entry) (call : Call) → is_effective x ≡ true → x.call ≡ call → (h : InfoHash) → touches x h ≡ is_joining call h
touches-call x call done is h = ap (λ b. b && is_joining x.call h) done ∙ ap (λ c. is_joining c h) is

counts_download-call : (x : Entry) (past : List Entry) (call : Call) → is_effective x ≡ true → x.call ≡ call → (h : InfoHash) → counts_download x h past ≡ is_download call h past (time_of (x ∷ past))
counts_download-call x past call done is h =
    ap (λ b. b && is_download x.call h past (time_of (x ∷ past))) done
    ∙ ap (λ c. is_download c h past (time_of (x ∷ past))) is

-- a call that reports that nobody takes part touches nothing, and one that is no completed announce
-- counts nothing
pub leaves_untouched : (x : Entry) (call : Call) → is_effective x ≡ true → x.call ≡ call → ((h : InfoHash) → is_joining call h ≡ false) → (h : InfoHash) → touches x h ≡ false
leaves_untouched x call done is joining h = touches-call x call done is h ∙ joining h

pub leaves_uncounted : (x : Entry) (past : List Entry) (call : Call) → is_effective x ≡ true → x.call ≡ call → ((h : InfoHash) → is_download call h past (time_of (x ∷ past)) ≡ false) → (h : InfoHash) → counts_download x h past ≡ false
leaves_uncounted x past call done is download h = counts_download-call x past call done is h ∙ download h

-- an entry whose call reports on no endpoint is quiet
pub quiet_asking : (x : Entry) (past : List Entry) (call : Call) → is_effective x ≡ true → x.call ≡ call →
    ((h : InfoHash) (e : Endpoint) → is_about call h e ≡ false) → ((h : InfoHash) → is_joining call h ≡ false) →
    ((h : InfoHash) → is_download call h past (time_of (x ∷ past)) ≡ false) → IsQuiet x past
quiet_asking x past call done is about joining download = record {
  unsaid = λ h e. word_of-call x call done is h e ∙ ap (λ b. if b then call_word call else silent) (about h e);
  untouched = leaves_untouched x call done is joining;
  uncounted = leaves_uncounted x past call done is download;
}

-- a call that reports on an endpoint says its word of that one alone
pub says_word : (x : Entry) (call : Call) (h : InfoHash) (e : Endpoint) → is_effective x ≡ true → x.call ≡ call → subject call ≡ Some (h, e) → Says x h e (call_word call)
says_word x call h e done is about =
    let at = λ (g : InfoHash) (d : Endpoint).
    let p : word_of x g d ≡ (if same_subject (h, e) (g, d) then call_word call else silent) =
    word_of-call x call done is g d ∙ ap (λ s. if option_map_or (λ s. same_hash s.0 g && same_endpoint s.1 d) s false then call_word call else silent) about in p in
    record {
      itself = at h e ∙ ap (λ b. if b then call_word call else silent) ((same_subject_decides (h, e) (h, e)).1 refl);
      others = λ g d apart. at g d ∙ ap (λ b. if b then call_word call else silent) apart;
    }

-- a call that reports that an endpoint takes part touches that torrent alone, and counts a download
-- of no other
pub touches_one : (x : Entry) (past : List Entry) (call : Call) (h : InfoHash) (e : Endpoint) (is_one : Bool) → is_effective x ≡ true → x.call ≡ call → joins call ≡ Some (h, e) →
    is_download call h past (time_of (x ∷ past)) ≡ is_one → ((g : InfoHash) → same_hash h g ≡ false → is_download call g past (time_of (x ∷ past)) ≡ false) → Touches x past h is_one
touches_one x past call h e is_one done is joined counted uncounted =
    let at = λ (g : InfoHash).
    let p : touches x g ≡ same_hash h g = touches-call x call done is g ∙ ap (λ s. option_map_or (λ s. same_hash s.0 g) s false) joined in p in
    record {
      itself = at h ∙ (same_hash_decides h h).1 refl;
      counted = counts_download-call x past call done is h ∙ counted;
      others = λ g apart. at g ∙ apart;
      uncounted = λ g apart. counts_download-call x past call done is g ∙ uncounted g apart;
    }

pub touches_announced : (x : Entry) (past : List Entry) (h : InfoHash) (e : Endpoint) (seed completed : Bool) (want : ℕ) → is_effective x ≡ true → x.call ≡ Announce h e seed completed want →
    Touches x past h (completed && not (is_seed (live past h e (time_of (x ∷ past)))))
touches_announced x past h e seed completed want done is =
    let now = time_of (x ∷ past) in
    touches_one x past (Announce h e seed completed want) h e _ done is refl
    (ap (λ b. (completed && b) && not (is_seed (live past h e now))) ((same_hash_decides h h).1 refl) ∙ ap (λ b. b && not (is_seed (live past h e now))) (and_true completed))
    (λ g apart. ap (λ b. (completed && b) && not (is_seed (live past g e now))) apart ∙ ap (λ b. b && not (is_seed (live past g e now))) (and_false completed))
