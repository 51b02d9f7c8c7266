-- Batches of notes, and the datagrams that hold them.
use Rattle.std.specs.Prelude.{ℕ, zero, suc, Bool, List, [], ◌∷◌, ◌++◌, ◌^◌, ◌≡◌, ◌≢◌, ◌<◌, ◌≤◌, All, map, length, take, drop}
use Rattle.std.specs.Int.{w32, to_be_bytes}
use Rattle.std.specs.List.{flat_map, prefix_len}
use Rattle.ot_base.specs.Address.{family_of}
use Rattle.ot_base.specs.Same.{same_family}
use Rattle.ot_base.specs.declared.address.Family.{Family}
use Rattle.ot_base.specs.declared.peer.Note.{Note}
use Rattle.sync_wire.specs.Notes.{note_bytes, IsHeld}

-- what a node tells the others at once: its number, and notes in order
pub record Batch : Type 0 where
  pub node : ℕ
  pub notes : List Note

-- notes of endpoints of one family
abbrev pub AreOfOneFamily : List Note → Type 0
AreOfOneFamily notes = (family : Family) × All (λ note. family_of note.who.addr ≡ family) notes

-- whether a note tells of an endpoint of a family
abbrev pub is_of_family : Family → Note → Bool
is_of_family family note = same_family (family_of note.who.addr) family

-- how many of the first 50 notes, from the front on, are of a family
abbrev pub front_len : Family → List Note → ℕ
front_len family notes = prefix_len (λ note. is_of_family family note) (take 50 notes)

-- how many notes the next batch has: as many as are of the family of the first
abbrev pub batch_len_of : List Note → ℕ
batch_len_of [] = 0
batch_len_of (first ∷ rest) = front_len (family_of first.who.addr) (first ∷ rest)

-- notes cut, in order, into at most so many batches, each as long as the next may be
abbrev pub cut : ℕ → List Note → List (List Note)
cut zero notes = []
cut (suc n) [] = []
cut (suc n) (first ∷ rest) =
    let len = batch_len_of (first ∷ rest) in
    take len (first ∷ rest) ∷ cut n (drop len (first ∷ rest))

-- all batches of some notes
unfoldable pub batches_of : List Note → List (List Note)
batches_of notes = cut (length notes) notes

-- a batch that another node than the one of this number sends: its own number is another, of 32
-- bits, and it has 1 to 50 notes
pub record IsFromAnother (own : ℕ) (batch : Batch) : Type 0 where
  pub another : batch.node ≢ own
  pub node_of_32_bits : batch.node < 2 ^ 32
  pub some : 1 ≤ length batch.notes
  pub room : length batch.notes ≤ 50
  pub held : All IsHeld batch.notes

-- node id (4), kind 4 (4)
abbrev pub head_bytes : ℕ → List ℕ
head_bytes node = to_be_bytes w32 node ++ to_be_bytes w32 4

-- the datagram of a node's notes: node id (4), kind 4 (4), then the notes' records
unfoldable pub batch_bytes : ℕ → List Note → List ℕ
batch_bytes node notes = head_bytes node ++ flat_map note_bytes notes

-- what a node sends for some notes: the datagrams of their batches, in order
unfoldable pub datagrams_of : ℕ → List Note → List (List ℕ)
datagrams_of node notes = map (λ batch. batch_bytes node batch) (batches_of notes)
