-- What a bucket stands for.
use Rattle.std.specs.Prelude.{◌≡◌, ℕ, Bool, IsTrue, List, map, reverse}
use Rattle.std.specs.List.{list_all, AllByRecursion, IsDistinct}
use Rattle.ot_base.specs.Address.{family_of}
use Rattle.ot_base.specs.Same.{same_hash, same_endpoint, same_family}
use Rattle.ot_base.specs.declared.hash.InfoHash.{InfoHash}
use Rattle.ot_base.specs.declared.address.Endpoint.{Endpoint}
use Rattle.ot_base.specs.declared.address.Family.{Family}
use Rattle.ot_base.specs.declared.address.Family.TheVariants.{Four, Six}
use Rattle.ot_base.specs.declared.peer.Held.{Held}
use Rattle.tracker_model.specs.Entries.{time_of}
use Rattle.tracker_model.specs.Known.{known}
use Rattle.tracker_model.specs.Legal.{IsLegalHistory}
use Rattle.tracker_model.specs.Live.{live}
use Rattle.tracker_model.specs.Outbox.{outbox_notes, outbox_dropped}
use Rattle.tracker_model.specs.Shape.{Shape, Torrent, peers_of, live_in, known_in}
use Rattle.tracker_model.specs.declared.entry.Entry.{Entry}

-- peers that are all of one family
abbrev pub are_of : Family → List Held → Bool
are_of family peers = list_all (λ held. same_family (family_of held.who.addr) family) peers

-- a stored torrent names no endpoint twice, and has each peer in the list of its family
pub record IsTidy (torrent : Torrent) : Type 0 where
  pub distinct : IsDistinct same_endpoint (map (λ held. held.who) (peers_of torrent))
  pub in_fours : IsTrue (are_of Four torrent.fours)
  pub in_sixes : IsTrue (are_of Six torrent.sixes)

-- no hash stands twice, and each torrent is tidy
pub record AreTidy (torrents : List Torrent) : Type 0 where
  pub distinct : IsDistinct same_hash (map (λ torrent. torrent.hash) torrents)
  pub each : AllByRecursion IsTidy torrents

-- stored torrents keep at a minute what a history says: of each endpoint what is live of it, and of
-- each torrent what is known of it. What is stored but isn't live or known says nothing
pub record Keeps (past : List Entry) (minute : ℕ) (stored : List Torrent) : Type 0 where
  pub tidy : AreTidy stored
  pub peers : (h : InfoHash) (e : Endpoint) → live_in minute stored h e ≡ live past h e minute
  pub torrents : (h : InfoHash) → known_in minute stored h ≡ known past h minute

-- a bucket holds what a history says: its time, its peers and torrents, and its outbox
pub record Holds (past : List Entry) (bucket : Shape) : Type 0 where
  pub on_time : bucket.time ≡ time_of past
  pub kept : Keeps past bucket.time bucket.torrents
  pub noted : bucket.notes ≡ outbox_notes bucket.settings past
  pub lost : bucket.dropped ≡ outbox_dropped bucket.settings past

-- a bucket stands for a history with the oldest entry first, which is legal by the bucket's
-- settings
pub record StandsFor (history : List Entry) (bucket : Shape) : Type 0 where
  pub legal : IsLegalHistory bucket.settings history
  pub holds : Holds (reverse history) bucket
