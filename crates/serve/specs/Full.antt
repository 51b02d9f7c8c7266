-- A full scrape that is written bucket by bucket, each from one scan.
use Rattle.std.specs.Prelude.{◌≡◌, ◌⊎◌, ℕ, ◌+◌, ◌<◌, ◌≤◌, ◌^◌, List, [], ◌∷◌, ◌++◌, length, take, map}
use Rattle.std.specs.Prelude.{Option, Some, None, Result, Ok, Err, codes, flat_map}
use Rattle.std.specs.List.{range_with_len}
use Rattle.std.specs.Io.KnownBytes.{Appends}
use Rattle.full_scrape.specs.FullScrape.{full_body}
use Rattle.http_wire.specs.Reply.{long_head}
use Rattle.ot_base.specs.declared.minute.Minute.{Minute}
use Rattle.ot_base.specs.declared.peer.Row.{Row}
use Rattle.ot_io.specs.Counts.{Rose}
use Rattle.request_handler.specs.Connection.{scan_rows}
use Rattle.tracker_core.specs.HttpText.{row_text}
use Rattle.tracker_model.specs.Making.{Makes, MakingRelation}
use Rattle.tracker_model.specs.Placed.{on_each_bucket}
use Rattle.tracker_model.specs.declared.answer.Answer.{Answer}
use Rattle.tracker_model.specs.declared.answer.Answer.TheVariants.{Rows}
use Rattle.tracker_model.specs.declared.call.Call.{Call}
use Rattle.tracker_model.specs.declared.call.Call.TheVariants.{Scan}
use Rattle.serve.specs.declared.full.Stop.{Stop}
use Rattle.serve.specs.declared.full.Stop.TheVariants as stop

-- what was written to a connection, where it is told
abbrev pub Written : Type 0
Written = Option (List ℕ)

-- the text of the rows of some lists, in order
abbrev pub rows_text : List (List Row) → List ℕ
rows_text lists = flat_map (λ rows. flat_map row_text rows) lists

-- what is written before the first row
abbrev pub full_front : List ℕ
full_front = long_head ++ codes "d5:filesd"

-- of some bytes a front that isn't all of them was written
abbrev pub SendsFront : Written → Written → List ℕ → Type 0
SendsFront held held' bytes = (n : ℕ) × (n < length bytes) × Appends held held' (take n bytes)

-- All of the bytes were written; or the outside failed, and a front of them was.
abbrev pub Sends : Written → Written → List ℕ → Result (Unit {0}) Stop → Type 0
Sends held held' bytes (Ok u) = Appends held held' bytes
Sends held held' bytes (Err stop.NoMemory) = ⊥
Sends held held' bytes (Err stop.WriteFault) = SendsFront held held' bytes

-- a count of faults doesn't fall, and it rises where the outside failed
abbrev pub StopsAreCounted : ℕ → ℕ → Result (Unit {0}) Stop → Type 0
StopsAreCounted old new (Ok u) = old ≤ new
StopsAreCounted old new (Err stop.NoMemory) = old ≤ new
StopsAreCounted old new (Err stop.WriteFault) = (old ≤ new) × Rose old new

-- a front of the text of the rows that a scan found; where it found none for want of memory there
-- is no text
abbrev pub IsFrontOfRows : Option (List Row) → List ℕ → Type 0
IsFrontOfRows None part = part ≡ []
IsFrontOfRows (Some rows) part = (n : ℕ) × (part ≡ take n (flat_map row_text rows))

-- a scan of each of the first buckets
abbrev pub first_scans : (count : ℕ) → List (ℕ × Call)
first_scans count = map (λ bucket. (bucket, Scan)) (range_with_len 0 count)

-- A bucket was scanned, and the text of its rows written; or of that text a front.
abbrev pub TellsPart : {T : Type 0} → MakingRelation T → Minute → (old : T) → (bucket : ℕ)
    → (new : T) → Written → Written → Result (Unit {0}) Stop → Type 0
TellsPart made minute old bucket new held held' (Ok u) =
    (rows : List Row)
    × made old bucket minute Scan (Rows rows) new
    × Appends held held' (flat_map row_text rows)
TellsPart made minute old bucket new held held' (Err why) =
    (found : Answer) × (part : List ℕ)
    × made old bucket minute Scan found new
    × IsFrontOfRows (scan_rows found) part
    × Appends held held' part

-- The first buckets were scanned, in order, and the text of all their rows was written.
pub record TellsFirst {T : Type 0}
    (made : MakingRelation T) (minute : Minute) (count : ℕ) (old new : T) (held held' : Written)
    : Type 0 where
  pub lists : List (List Row)
  pub many : length lists ≡ count
  pub scanned : Makes made minute old (first_scans count) (map Rows lists) new
  pub told : Appends held held' (rows_text lists)

-- The first buckets were scanned, in order, and the text of their rows was written, but of the last
-- one's a front.
pub record TellsSome {T : Type 0}
    (made : MakingRelation T) (minute : Minute) (bits : ℕ) (old new : T) (held held' : Written)
    : Type 0 where
  pub lists : List (List Row)
  pub found : Answer
  pub part : List ℕ
  pub within : length lists < 2 ^ bits
  pub scanned : Makes made minute old (first_scans (length lists + 1))
      (map Rows lists ++ found ∷ []) new
  pub front : IsFrontOfRows (scan_rows found) part
  pub told : Appends held held' (rows_text lists ++ part)

-- The rows of all buckets were written, or those of some.
abbrev pub TellsParts : {T : Type 0} → MakingRelation T → Minute → (bits : ℕ) → (old new : T)
    → Written → Written → Result (Unit {0}) Stop → Type 0
TellsParts made minute bits old new held held' (Ok u) =
    TellsFirst made minute (2 ^ bits) old new held held'
TellsParts made minute bits old new held held' (Err why) =
    TellsSome made minute bits old new held held'

-- nothing was scanned, and of what stands before the first row a front was written
abbrev pub IsCutInFront : List Answer → (text : List ℕ) → Type 0
IsCutInFront answers text =
    (answers ≡ []) × (n : ℕ) × (n < length full_front) × (text ≡ take n full_front)

-- some of the buckets were scanned, each once, and the rows of all but the last one were written,
-- and of its rows' text a front
pub record IsCutInRows (bits : ℕ) (answers : List Answer) (text : List ℕ) : Type 0 where
  pub lists : List (List Row)
  pub found : Answer
  pub part : List ℕ
  pub within : length lists < 2 ^ bits
  pub scanned : answers ≡ map Rows lists ++ found ∷ []
  pub front : IsFrontOfRows (scan_rows found) part
  pub told : text ≡ full_front ++ (rows_text lists ++ part)

-- all buckets were scanned, each once, and all rows were written, but not all that stands behind
-- the last one
pub record IsCutInBack (bits : ℕ) (answers : List Answer) (text : List ℕ) : Type 0 where
  pub lists : List (List Row)
  pub all : length lists ≡ 2 ^ bits
  pub scanned : answers ≡ map Rows lists
  pub count : ℕ
  pub some : count < length (codes "ee")
  pub told : text ≡ full_front ++ (rows_text lists ++ take count (codes "ee"))

-- What is written of the reply to a full scrape that stops after scans with these answers. So no
-- bucket is scanned before the rows of all buckets before it are written.
abbrev pub IsCutFull : (bits : ℕ) → List Answer → (text : List ℕ) → Type 0
IsCutFull bits answers text =
    IsCutInFront answers text ⊎ (IsCutInRows bits answers text ⊎ IsCutInBack bits answers text)

-- a full scrape stopped after scans of the first buckets
pub record StopsFull {T : Type 0}
    (made : MakingRelation T) (minute : Minute) (bits : ℕ) (old new : T) (held held' : Written)
    : Type 0 where
  pub count : ℕ
  pub answers : List Answer
  pub text : List ℕ
  pub scanned : Makes made minute old (take count (on_each_bucket bits Scan)) answers new
  pub cut : IsCutFull bits answers text
  pub told : Appends held held' text

-- The whole reply to a full scrape was written, or it stopped.
abbrev pub TellsAll : {T : Type 0} → MakingRelation T → Minute → (bits : ℕ) → (old new : T)
    → Written → Written → Result (Unit {0}) Stop → Type 0
TellsAll made minute bits old new held held' (Ok u) =
    (lists : List (List Row))
    × Makes made minute old (on_each_bucket bits Scan) (map Rows lists) new
    × Appends held held' (long_head ++ full_body lists)
TellsAll made minute bits old new held held' (Err why) =
    StopsFull made minute bits old new held held'
