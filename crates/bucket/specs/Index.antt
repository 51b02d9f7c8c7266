-- The index of the torrents, as a function from hashes.
use Rattle.std.specs.Prelude.{◌≡◌, ◌≢◌, ℕ, List, Option, Some, slice_get}
use Rattle.std.specs.BTreeMap as tree
use Rattle.ot_base.specs.Order.{hash_cmp}
use Rattle.ot_base.specs.declared.hash.InfoHash.{InfoHash}
use Rattle.bucket.specs.declared.index.Index.{Index}

-- where the torrent of a hash stands
abbrev pub place_in : Index → InfoHash → Option ℕ
place_in index hash = tree.get hash_cmp index.places hash

-- a hash has another place, or none, and the others keep theirs
pub record Puts (old new : InfoHash → Option ℕ) (hash : InfoHash) (place : Option ℕ) : Type 0 where
  pub here : new hash ≡ place
  pub others : (h : InfoHash) → h ≢ hash → new h ≡ old h

-- the index tells where each hash stands: so each stands at one place alone
pub record IsIndexed (hashes : List InfoHash) (look : InfoHash → Option ℕ) : Type 0 where
  pub found : (h : InfoHash) (i : ℕ) → slice_get hashes i ≡ Some h → look h ≡ Some i
  pub there : (h : InfoHash) (i : ℕ) → look h ≡ Some i → slice_get hashes i ≡ Some h
