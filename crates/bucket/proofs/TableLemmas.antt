-- The torrents of a ring's pairs and of what is stored beside them, after each kind of change.
use Rattle.std.proofs.Common.{◌≡◌, ℕ, zero, suc, ◌-◌, ◌<◌, List, [], ◌∷◌, ◌++◌, Some, refl, sym, ◌∙◌, ap, length, map, take, arith, get_or}
use Rattle.std.specs.List.{slice_get, sum_by, swap_remove}
use Rattle.std.proofs.Math.ListN.{set}
use Rattle.std.proofs.lemmas.List.{length-append}
use Rattle.std.proofs.lemmas.List.Sums.{sum_by-cons}
use Rattle.std.proofs.lemmas.Option.{none-some, same_Some}
use Rattle.ot_base.specs.declared.hash.InfoHash.{InfoHash}
use Rattle.age_ring.specs.Ring.{items_of}
use Rattle.tracker_model.specs.Shape.{Torrent, peers_of}
use Rattle.swarm.specs.Shape.{peer_count}
use Rattle.bucket.specs.Stored.{torrent_by}
use Rattle.bucket.specs.Table.{torrents_by, pairs_of}
use Rattle.bucket.specs.declared.stored.Stored.{Stored}

-- as many torrents as pairs
pub length_by : (pairs : List (InfoHash × ℕ)) (list : List Stored) → length list ≡ length pairs → length (torrents_by pairs list) ≡ length pairs
length_by [] list as_many = refl
length_by (p ∷ pairs) [] as_many = absurd (omega arith)
length_by (p ∷ pairs) (s ∷ list) as_many = ap suc (length_by pairs list (omega arith))

by_none : (pairs : List (InfoHash × ℕ)) → torrents_by pairs [] ≡ []
by_none [] = refl
by_none (p ∷ pairs) = refl

pub by_push : (pairs : List (InfoHash × ℕ)) (list : List Stored) (p : InfoHash × ℕ) (s : Stored) → length list ≡ length pairs → torrents_by (pairs ++ p ∷ []) (list ++ s ∷ []) ≡ torrents_by pairs list ++ torrent_by p s ∷ []
by_push [] [] p s as_many = refl
by_push [] (y ∷ list) p s as_many = absurd (omega arith)
by_push (x ∷ pairs) [] p s as_many = absurd (omega arith)
by_push (x ∷ pairs) (y ∷ list) p s as_many = ap (λ l. torrent_by x y ∷ l) (by_push pairs list p s (omega arith))

pub by_set : (pairs : List (InfoHash × ℕ)) (list : List Stored) (i : ℕ) (p : InfoHash × ℕ) (s : Stored) → torrents_by (set pairs i p) (set list i s) ≡ set (torrents_by pairs list) i (torrent_by p s)
by_set [] list i p s = refl
by_set (x ∷ pairs) [] i p s = by_none (set (x ∷ pairs) i p)
by_set (x ∷ pairs) (y ∷ list) zero p s = refl
by_set (x ∷ pairs) (y ∷ list) (suc i) p s = ap (λ l. torrent_by x y ∷ l) (by_set pairs list i p s)

by_take : (n : ℕ) (pairs : List (InfoHash × ℕ)) (list : List Stored) → torrents_by (take n pairs) (take n list) ≡ take n (torrents_by pairs list)
by_take zero pairs list = refl
by_take (suc n) [] list = refl
by_take (suc n) (p ∷ pairs) [] = refl
by_take (suc n) (p ∷ pairs) (s ∷ list) = ap (λ l. torrent_by p s ∷ l) (by_take n pairs list)

pub by_get_or : (pairs : List (InfoHash × ℕ)) (list : List Stored) (i : ℕ) (p : InfoHash × ℕ) (s : Stored) (t : Torrent) → length list ≡ length pairs → i < length pairs → get_or (torrents_by pairs list) i t ≡ torrent_by (get_or pairs i p) (get_or list i s)
by_get_or [] list i p s t as_many within = absurd (omega arith)
by_get_or (x ∷ pairs) [] i p s t as_many within = absurd (omega arith)
by_get_or (x ∷ pairs) (y ∷ list) zero p s t as_many within = refl
by_get_or (x ∷ pairs) (y ∷ list) (suc i) p s t as_many within = by_get_or pairs list i p s t (omega arith) (omega arith)

pub by_swap_remove : (pairs : List (InfoHash × ℕ)) (list : List Stored) (i : ℕ) (p : InfoHash × ℕ) (s : Stored) (t : Torrent) → length list ≡ length pairs → i < length pairs → torrents_by (swap_remove pairs i p) (swap_remove list i s) ≡ swap_remove (torrents_by pairs list) i t
by_swap_remove pairs list i p s t as_many within =
    let last = length pairs - 1 in
    let pair = get_or pairs last p in
    let stored = get_or list last s in
    let moved : get_or (torrents_by pairs list) last t ≡ torrent_by pair stored = by_get_or pairs list last p s t as_many (omega arith) in
    ap (λ m. torrents_by (swap_remove pairs i p) (take (m - 1) (set list i (get_or list (m - 1) s)))) as_many
    ∙ by_take last (set pairs i pair) (set list i stored)
    ∙ ap (λ l. take last l) (by_set pairs list i pair stored)
    ∙ ap (λ x. take last (set (torrents_by pairs list) i x)) (sym moved)
    ∙ ap (λ m. take (m - 1) (set (torrents_by pairs list) i (get_or (torrents_by pairs list) (m - 1) t))) (sym (length_by pairs list as_many))

-- the torrent at a place is that of its pair
pub by_at : (pairs : List (InfoHash × ℕ)) (list : List Stored) (i : ℕ) (p : InfoHash × ℕ) (s : Stored) → slice_get pairs i ≡ Some p → slice_get list i ≡ Some s → slice_get (torrents_by pairs list) i ≡ Some (torrent_by p s)
by_at [] list i p s at_p at_s = absurd (none-some p at_p)
by_at (x ∷ pairs) [] i p s at_p at_s = absurd (none-some s at_s)
by_at (x ∷ pairs) (y ∷ list) zero p s at_p at_s = λ i. Some (torrent_by (same_Some x p at_p i) (same_Some y s at_s i))
by_at (x ∷ pairs) (y ∷ list) (suc i) p s at_p at_s = by_at pairs list i p s at_p at_s

pub hashes_by : (pairs : List (InfoHash × ℕ)) (list : List Stored) → length list ≡ length pairs → map (λ t. t.hash) (torrents_by pairs list) ≡ items_of pairs
hashes_by [] list as_many = refl
hashes_by (p ∷ pairs) [] as_many = absurd (omega arith)
hashes_by (p ∷ pairs) (s ∷ list) as_many = ap (λ l. p.0 ∷ l) (hashes_by pairs list (omega arith))

pub pairs_by : (pairs : List (InfoHash × ℕ)) (list : List Stored) → length list ≡ length pairs → pairs_of (torrents_by pairs list) ≡ pairs
pairs_by [] list as_many = refl
pairs_by (p ∷ pairs) [] as_many = absurd (omega arith)
pairs_by (p ∷ pairs) (s ∷ list) as_many = ap (λ l. p ∷ l) (pairs_by pairs list (omega arith))

-- as many peers as are stored
pub held_by : (pairs : List (InfoHash × ℕ)) (list : List Stored) → length list ≡ length pairs → sum_by (λ (s : Stored). peer_count s.swarm) list ≡ sum_by (λ (t : Torrent). length (peers_of t)) (torrents_by pairs list)
held_by [] [] as_many = refl
held_by [] (s ∷ list) as_many = absurd (omega arith)
held_by (p ∷ pairs) [] as_many = absurd (omega arith)
held_by (p ∷ pairs) (s ∷ list) as_many =
    omega (arith, sum_by-cons (λ (x : Stored). peer_count x.swarm) s list, sum_by-cons (λ (t : Torrent). length (peers_of t)) (torrent_by p s) (torrents_by pairs list), held_by pairs list (omega arith), length-append s.swarm.fours s.swarm.sixes)
