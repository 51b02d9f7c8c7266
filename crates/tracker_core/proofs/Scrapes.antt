-- What is read as a scrape names a torrent at least, and scrapes are well formed.
use Rattle.std.specs.List.{AllByRecursion}
use Rattle.std.proofs.Common.{map, ◌≡◌, ℕ, zero, suc, ◌+◌, ◌-◌, ◌*◌, ◌/◌, ◌≤◌, Bool, true, false, List, [], ◌∷◌, length, min, nat_lt, refl, sym, subst, arith, length-append}
use Rattle.std.specs.Prelude.{◌==◌, if◌then◌else◌}
use Rattle.std.proofs.lemmas.Bool.{ltb-false}
use Rattle.udp_wire.proofs.HashLemmas.{length-hashes_of}
use Rattle.udp_wire.specs.Packets.{action_of, connection_of, transaction_of, fields_of, connect_of, announce_of, scrape_of, request_of}
use Rattle.ot_base.specs.declared.hash.InfoHash.{InfoHash}
use Rattle.tracker_model.specs.Calls.{IsWellFormed}
use Rattle.tracker_model.specs.declared.call.Call.TheVariants.{Scrape}
use Rattle.tracker_core.specs.UdpPlan.{Names}
use Rattle.udp_wire.specs.declared.request.Quiet.TheVariants as quiet
use Rattle.udp_wire.specs.declared.request.Request.{Request}
use Rattle.udp_wire.specs.declared.request.Request.TheVariants.{Connect, Announce, Silent}

chosen : (b : Bool) (x y : Request) → (b ≡ true → Names x) → (b ≡ false → Names y) → Names (if b then x else y)
chosen true x y names_x names_y = names_x refl
chosen false x y names_x names_y = names_y refl

names_scrape : (bytes : List ℕ) → Names (scrape_of bytes)
unfolding scrape_of
names_scrape bytes = chosen (nat_lt (length bytes) 36) _ _ (λ short. tt) (λ b.
    let long : 36 ≤ length bytes = ltb-false (length bytes) 36 b in
    let count = min ((length bytes - 16) / 20) 74 in
    let some : 1 ≤ count = omega arith in
    subst (λ (n : ℕ). 1 ≤ n) (sym (length-hashes_of count bytes)) some)

names_connect : (bytes : List ℕ) → Names (connect_of bytes)
unfolding connect_of
names_connect bytes =
    chosen (connection_of bytes == 0x41727101980) (Connect (transaction_of bytes)) (Silent quiet.Protocol) (λ h. tt) (λ h. tt)

names_announce : (bytes : List ℕ) → Names (announce_of bytes)
unfolding announce_of
names_announce bytes =
    chosen (nat_lt (length bytes) 98) (Silent quiet.Announce) (Announce (fields_of bytes)) (λ h. tt) (λ h. tt)

pub names_request : (bytes : List ℕ) → Names (request_of bytes)
unfolding request_of
names_request bytes =
    chosen (nat_lt (length bytes) 16) _ _ (λ h. tt) (λ h.
    chosen (action_of bytes == 0) _ _ (λ h. names_connect bytes) (λ h.
    chosen (action_of bytes == 1) _ _ (λ h. names_announce bytes) (λ h.
    chosen (action_of bytes == 2) _ _ (λ h. names_scrape bytes) (λ h. tt))))

-- each scrape is well formed, whatever its hash
pub scrapes-well-formed : (hashes : List InfoHash) → AllByRecursion IsWellFormed (map Scrape hashes)
scrapes-well-formed [] = tt
scrapes-well-formed (hash ∷ hashes) = (tt, scrapes-well-formed hashes)
