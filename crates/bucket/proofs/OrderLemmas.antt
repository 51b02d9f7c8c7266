-- An endpoint that takes part again stays at its place, where no peer has gone.
use Rattle.std.proofs.Common.{◌≡◌, ℕ, true, false, List, [], ◌∷◌, ◌++◌, Option, Some, None, refl, sym, ◌∙◌, ap, length, get_or}
use Rattle.std.specs.List.{All}
use Rattle.std.specs.Option.{is_some, option_map_or}
use Rattle.std.proofs.Math.ListN.{set}
use Rattle.std.proofs.Math.Seq.{map-set_same}
use Rattle.std.proofs.lemmas.List.Quantifiers.{position-Some}
use Rattle.ot_base.specs.Address.{family_of}
use Rattle.ot_base.proofs.SameLemmas.{same_endpoint_decides}
use Rattle.ot_base.specs.declared.address.Family.{Family}
use Rattle.ot_base.specs.declared.address.Family.TheVariants.{Four, Six}
use Rattle.ot_base.specs.declared.peer.Held.{Held}
use Rattle.tracker_model.specs.Shape.{Torrent, peers_of, held_of, is_live_in}
use Rattle.swarm.specs.Members.{Expires}
use Rattle.swarm.specs.Peers.{endpoints_of, is_of, is_young, put_peer}
use Rattle.swarm.specs.Peers as peers
use Rattle.swarm.proofs.PlaceLemmas.{find_nowhere}
use Rattle.bucket.specs.Public.{AreInOrder}
use Rattle.bucket.specs.Torrents.{Freshens, of_family, with_family, with_peer}
use Rattle.bucket.specs.declared.joining.Joining.{Joining}
use Rattle.bucket.proofs.LivePeers.{filter_all, live_left}
use Rattle.bucket.proofs.ToldLemmas.{AreLive}
use Rattle.bucket.proofs.Settling.{live_of_family}

-- where all are live none goes
unexpired : (now : ℕ) (old new : List Held) → Expires now old new → All (λ h. is_young now h ≡ true) new → AreLive now old → new ≡ old
unexpired now old new it young live = it.still (sym (live_left now old new it young) ∙ ap (λ l. length l) (filter_all (is_live_in now) old live))

pub unchanged : (now : ℕ) (old new : Torrent) → Freshens now old new → AreLive now (peers_of old) → (f : Family) → of_family f new ≡ of_family f old
unchanged now old new it live Four = unexpired now old.fours new.fours it.fours it.young_fours (live_of_family now Four old live)
unchanged now old new it live Six = unexpired now old.sixes new.sixes it.sixes it.young_sixes (live_of_family now Six old live)

-- a peer that is put again
put_again : (held : Held) (l : List Held) → is_some (held_of l held.who) ≡ true → endpoints_of (put_peer held l) ≡ endpoints_of l
put_again held l stored = by_place (peers.place_of held.who l) refl
  where
    by_place : (o : Option ℕ) → peers.place_of held.who l ≡ o → endpoints_of (option_map_or (λ i. set l i held) o (l ++ held ∷ [])) ≡ endpoints_of l
    by_place None none = absurd (let clash : true ≡ false = sym stored ∙ ap (λ o. is_some o) (find_nowhere (is_of held.who) l none) in cc)
    by_place (Some i) at = map-set_same (λ (h : Held). h.who) l i held held ((same_endpoint_decides held.who (get_or l i held).who).0 (position-Some (is_of held.who) l i held at).1)

pub order_joined : (now : ℕ) (j : Joining) (t : Torrent) → is_some (held_of (of_family (family_of j.who.addr) t) j.who) ≡ true → AreInOrder t (with_peer now j t)
order_joined now j t stored = by_family (family_of j.who.addr) stored _
  where
    by_family : (f : Family) → is_some (held_of (of_family f t) j.who) ≡ true → (count : ℕ) → AreInOrder t (with_family f (put_peer (record { who = j.who; seed = j.seed; stamp = record { 0 = now } }) (of_family f t)) (record t { touch = now; downloaded = count }))
    by_family Four stored count = record { fours = put_again (record { who = j.who; seed = j.seed; stamp = record { 0 = now } }) t.fours stored; sixes = refl }
    by_family Six stored count = record { fours = refl; sixes = put_again (record { who = j.who; seed = j.seed; stamp = record { 0 = now } }) t.sixes stored }
