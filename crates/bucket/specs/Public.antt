-- What the public calls of a bucket promise beside the history.
use Rattle.std.specs.Prelude.{◌≡◌, ℕ, true, List, Some, All, MatchOption, is_some}
use Rattle.ot_base.specs.Address.{family_of}
use Rattle.tracker_model.specs.Shape.{Shape, Torrent, peers_of, held_of, torrent_of, is_known_in, is_live_in}
use Rattle.tracker_model.specs.declared.answer.Answer.{Answer}
use Rattle.tracker_model.specs.declared.answer.Answer.TheVariants.{Told}
use Rattle.tracker_model.specs.declared.call.Call.{Call}
use Rattle.tracker_model.specs.declared.call.Call.TheVariants.{Announce, Clean}
use Rattle.swarm.specs.Peers.{choice_of, endpoints_of}
use Rattle.bucket.specs.Torrents.{of_family}

-- the peers that an announce is told are those that the words choose, in the order that its torrent
-- and family have after the call
abbrev pub IsChosen : List ℕ → Shape → Call → Answer → Type 0
IsChosen words bucket (Announce h who seed completed want) (Told counts peers) =
    MatchOption (torrent_of bucket.torrents h) ⊥
    (λ torrent. peers ≡ choice_of words who want (of_family (family_of who.addr) torrent))
IsChosen words bucket call answer = Unit {0}

-- the peers of a torrent stand in the same order
pub record AreInOrder (old new : Torrent) : Type 0 where
  pub fours : endpoints_of new.fours ≡ endpoints_of old.fours
  pub sixes : endpoints_of new.sixes ≡ endpoints_of old.sixes

-- an announce by a peer of a torrent that is known and whose peers are all live leaves their order
abbrev pub KeepsOrder : Call → (old new : Shape) → Type 0
KeepsOrder (Announce h who seed completed want) old new =
    (before : Torrent) → torrent_of old.torrents h ≡ Some before →
    is_known_in new.time before ≡ true →
    All (λ held. is_live_in new.time held ≡ true) (peers_of before) →
    is_some (held_of (peers_of before) who) ≡ true →
    MatchOption (torrent_of new.torrents h) ⊥ (AreInOrder before)
KeepsOrder call old new = Unit {0}

-- what is stored is live and known
pub record IsFresh (bucket : Shape) : Type 0 where
  pub known : All (λ torrent. is_known_in bucket.time torrent ≡ true) bucket.torrents
  pub live : All (λ torrent. All (λ held. is_live_in bucket.time held ≡ true) (peers_of torrent))
      bucket.torrents

-- after a cleaning what is stored is live and known
abbrev pub IsCleaned : Call → Shape → Type 0
IsCleaned Clean bucket = IsFresh bucket
IsCleaned call bucket = Unit {0}
