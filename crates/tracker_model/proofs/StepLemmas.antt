-- Steps of a bucket keep what it stands for.
use Rattle.std.proofs.Common.{◌≡◌, ℕ, ◌≤◌, Bool, true, false, not, ◌&&◌, List, ◌∷◌, Some, sym, ◌∙◌, ap, subst, arith}
use Rattle.std.specs.Bool.{Decides}
use Rattle.std.proofs.lemmas.Bool.Decides.{Decides-and}
use Rattle.ot_base.specs.Same.{same_hash, same_endpoint}
use Rattle.ot_base.proofs.SameLemmas.{same_hash_decides, same_endpoint_decides}
use Rattle.ot_base.specs.declared.hash.InfoHash.{InfoHash}
use Rattle.ot_base.specs.declared.address.Endpoint.{Endpoint}
use Rattle.tracker_model.specs.Calls.{Word, silent, gone, here}
use Rattle.tracker_model.specs.Counted.{same_subject}
use Rattle.tracker_model.specs.Entries.{time_of, word_of}
use Rattle.tracker_model.specs.Known.{known, is_seed, touches, counts_download}
use Rattle.tracker_model.specs.Live.{live}
use Rattle.tracker_model.specs.Shape.{Torrent, live_in, known_in, downloads_in}
use Rattle.tracker_model.specs.Stands.{Keeps}
use Rattle.tracker_model.specs.Steps.{SameAt, Puts, Takes, one_more}
use Rattle.tracker_model.specs.declared.entry.Entry.{Entry}
use Rattle.tracker_model.proofs.Cases.{by_test}
use Rattle.tracker_model.proofs.KnownLemmas.{known_agrees_later, known-kept, known-touched}
use Rattle.tracker_model.proofs.LiveLemmas.{live_agrees_later, live-kept, live-gone, live-here}

pub same_subject_decides : (s u : InfoHash × Endpoint) → Decides (same_subject s u) (s ≡ u)
same_subject_decides s u =
    let both = Decides-and (same_hash s.0 u.0) (same_endpoint s.1 u.1) (same_hash_decides s.0 u.0) (same_endpoint_decides s.1 u.1) in
    (λ h. let parts = both.0 h in λ i. (parts.0 i, parts.1 i), λ e. both.1 (ap (λ p. p.0) e, ap (λ p. p.1) e))

-- time passes
pub keeps_later : (past : List Entry) (now later : ℕ) (old new : List Torrent) → now ≤ later → Keeps past now old → SameAt later old new → Keeps past later new
keeps_later past now later old new le kept same = record {
  tidy = same.tidy;
  peers = λ h e. same.peers h e ∙ live_agrees_later now later le _ _ (kept.peers h e);
  torrents = λ h. same.torrents h ∙ known_agrees_later now later le _ _ (kept.torrents h);
}

-- an entry that says nothing of any endpoint, touches no torrent and counts no download: it was
-- refused, or asks only
pub record IsQuiet (x : Entry) (past : List Entry) : Type 0 where
  pub unsaid : (h : InfoHash) (e : Endpoint) → word_of x h e ≡ silent
  pub untouched : (h : InfoHash) → touches x h ≡ false
  pub uncounted : (h : InfoHash) → counts_download x h past ≡ false

pub keeps_quiet : (x : Entry) (past : List Entry) (minute : ℕ) (stored : List Torrent) → time_of (x ∷ past) ≤ minute → IsQuiet x past → Keeps past minute stored → Keeps (x ∷ past) minute stored
keeps_quiet x past minute stored le quiet kept = record {
  tidy = kept.tidy;
  peers = λ h e. kept.peers h e ∙ sym (live-kept x past h e minute (quiet.unsaid h e));
  torrents = λ h. kept.torrents h ∙ sym (known-kept x past h minute (quiet.untouched h) (quiet.uncounted h) le);
}

-- an entry says one word of one endpoint
pub record Says (x : Entry) (h : InfoHash) (e : Endpoint) (word : Word) : Type 0 where
  pub itself : word_of x h e ≡ word
  pub others : (g : InfoHash) (d : Endpoint) → same_subject (h, e) (g, d) ≡ false → word_of x g d ≡ silent

-- an entry touches one torrent, and counts a download of it or not
pub record Touches (x : Entry) (past : List Entry) (h : InfoHash) (is_one : Bool) : Type 0 where
  pub itself : touches x h ≡ true
  pub counted : counts_download x h past ≡ is_one
  pub others : (g : InfoHash) → same_hash h g ≡ false → touches x g ≡ false
  pub uncounted : (g : InfoHash) → same_hash h g ≡ false → counts_download x g past ≡ false

pub keeps_put : (x : Entry) (past : List Entry) (h : InfoHash) (e : Endpoint) (seed completed : Bool) (old new : List Torrent) →
    Says x h e (here seed) → Touches x past h (completed && not (is_seed (live past h e (time_of (x ∷ past))))) →
    Keeps past (time_of (x ∷ past)) old → Puts (time_of (x ∷ past)) h e seed completed old new → Keeps (x ∷ past) (time_of (x ∷ past)) new
keeps_put x past h e seed completed old new says touched kept puts =
    let now = time_of (x ∷ past) in
    record {
      tidy = puts.tidy;
      peers = λ g d. by_test (same_subject (h, e) (g, d)) (live_in now new g d ≡ live (x ∷ past) g d now)
          (λ yes. let P : InfoHash × Endpoint → Type 0 = λ s. live_in now new s.0 s.1 ≡ live (x ∷ past) s.0 s.1 now in
          subst P ((same_subject_decides (h, e) (g, d)).0 yes) (puts.peer ∙ sym (live-here x past h e seed says.itself)))
          (λ no. puts.other_peers g d no ∙ kept.peers g d ∙ sym (live-kept x past g d now (says.others g d no)));
      torrents = λ g. by_test (same_hash h g) (known_in now new g ≡ known (x ∷ past) g now)
          (λ yes. let P : InfoHash → Type 0 = λ k. known_in now new k ≡ known (x ∷ past) k now in
          subst P ((same_hash_decides h g).0 yes)
          (puts.torrent
          ∙ ap (λ l. Some (record { touch = now; downloaded = one_more (completed && not (is_seed l)) (downloads_in (known_in now old h)) })) (kept.peers h e)
          ∙ ap (λ k. Some (record { touch = now; downloaded = one_more (completed && not (is_seed (live past h e now))) (downloads_in k) })) (kept.torrents h)
          ∙ sym (known-touched x past h _ touched.itself touched.counted)))
          (λ no. puts.other_torrents g no ∙ kept.torrents g ∙ sym (let le : now ≤ now = omega arith in known-kept x past g now (touched.others g no) (touched.uncounted g no) le));
    }

pub keeps_taken : (x : Entry) (past : List Entry) (h : InfoHash) (e : Endpoint) (old new : List Torrent) →
    Says x h e gone → ((g : InfoHash) → touches x g ≡ false) → ((g : InfoHash) → counts_download x g past ≡ false) →
    Keeps past (time_of (x ∷ past)) old → Takes (time_of (x ∷ past)) h e old new → Keeps (x ∷ past) (time_of (x ∷ past)) new
keeps_taken x past h e old new says untouched uncounted kept takes =
    let now = time_of (x ∷ past) in
    record {
      tidy = takes.tidy;
      peers = λ g d. by_test (same_subject (h, e) (g, d)) (live_in now new g d ≡ live (x ∷ past) g d now)
          (λ yes. let P : InfoHash × Endpoint → Type 0 = λ s. live_in now new s.0 s.1 ≡ live (x ∷ past) s.0 s.1 now in
          subst P ((same_subject_decides (h, e) (g, d)).0 yes) (takes.peer ∙ sym (live-gone x past h e now says.itself)))
          (λ no. takes.other_peers g d no ∙ kept.peers g d ∙ sym (live-kept x past g d now (says.others g d no)));
      torrents = λ g. takes.torrents g ∙ kept.torrents g ∙ sym (let le : now ≤ now = omega arith in known-kept x past g now (untouched g) (uncounted g) le);
    }
