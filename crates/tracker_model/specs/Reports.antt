-- Where what is live comes from.
use Rattle.std.specs.Prelude.{◌≡◌, true, List, ◌∷◌, ◌++◌}
use Rattle.std.specs.List.{AllByRecursion}
use Rattle.ot_base.specs.declared.hash.InfoHash.{InfoHash}
use Rattle.ot_base.specs.declared.address.Endpoint.{Endpoint}
use Rattle.ot_base.specs.declared.peer.Held.{Held}
use Rattle.tracker_model.specs.Calls.{silent, here, call_word, is_about}
use Rattle.tracker_model.specs.Entries.{time_of, is_effective, word_of}
use Rattle.tracker_model.specs.declared.entry.Entry.{Entry}

-- an effective entry said that an endpoint takes part in a torrent, with this flag, the bucket's
-- time was the stamp then, and no newer entry says anything of it
pub record IsReported (past : List Entry) (h : InfoHash) (e : Endpoint) (held : Held) : Type 0 where
  pub newer : List Entry
  pub report : Entry
  pub older : List Entry
  pub among : past ≡ newer ++ report ∷ older
  pub effective : is_effective report ≡ true
  pub about : is_about report.call h e ≡ true
  pub says : call_word report.call ≡ here held.seed
  pub stamped : held.stamp.0 ≡ time_of (report ∷ older)
  pub since : AllByRecursion (λ x. word_of x h e ≡ silent) newer
