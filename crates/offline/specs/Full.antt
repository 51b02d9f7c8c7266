-- A full scrape that is written bucket by bucket.
use Rattle.std.specs.Prelude.{◌≡◌, ℕ, ◌≤◌, ◌^◌, List, [], ◌∷◌, ◌++◌, Result, Ok, Err}
use Rattle.std.specs.Prelude.{codes, flat_map, map}
use Rattle.std.specs.List.{range_with_len}
use Rattle.bucket.specs.Shelf.{MadeOnShelf, ShelfShape}
use Rattle.full_scrape.specs.FullScrape.{full_body}
use Rattle.hex.specs.Hex.{encode_lower}
use Rattle.http_wire.specs.Reply.{long_head}
use Rattle.lines.specs.Replies.{Adds, Loses}
use Rattle.lines.specs.Streams.{Stream}
use Rattle.lines.specs.Text.{line_end}
use Rattle.lines.specs.declared.responder.Trouble.{Trouble}
use Rattle.lines.specs.declared.responder.Trouble.TheVariants as trouble
use Rattle.ot_base.specs.declared.minute.Minute.{Minute}
use Rattle.ot_base.specs.declared.peer.Row.{Row}
use Rattle.tracker_core.specs.HttpText.{row_text}
use Rattle.tracker_model.specs.Making.{Makes}
use Rattle.tracker_model.specs.Placed.{on_each_bucket}
use Rattle.tracker_model.specs.declared.answer.Answer.TheVariants.{Rows}
use Rattle.tracker_model.specs.declared.call.Call.{Call}
use Rattle.tracker_model.specs.declared.call.Call.TheVariants.{Scan}
use Rattle.offline.specs.Records.{reply_line}
use Rattle.offline.specs.declared.command.Fault.{Fault}

-- All torrents of a shelf are told: each bucket is scanned once, in order, and the text is the
-- output line of the reply with their rows.
pub record TellsAll (minute : Minute) (old : ShelfShape) (text : List ℕ) (new : ShelfShape)
    : Type 0 where
  pub lists : List (List Row)
  pub scanned : Makes MadeOnShelf minute old (on_each_bucket old.bits Scan) (map Rows lists) new
  pub told : text ≡ reply_line (long_head ++ full_body lists)

-- the same as what a line may be answered with
abbrev pub TellsAllAt : Minute → ShelfShape → List ℕ → List ℕ → ShelfShape → Type 0
TellsAllAt minute old line text new = TellsAll minute old text new

-- a scan of each of the first buckets
abbrev pub first_scans : (count : ℕ) → List (ℕ × Call)
first_scans count = map (λ bucket. (bucket, Scan)) (range_with_len 0 count)

-- The first buckets of a shelf were scanned, in order, and the text is the digits of their rows.
pub record TellsFirst (minute : Minute) (count : ℕ) (old : ShelfShape) (text : List ℕ)
    (new : ShelfShape) : Type 0 where
  pub lists : List (List Row)
  pub scanned : Makes MadeOnShelf minute old (first_scans count) (map Rows lists) new
  pub told : text ≡ encode_lower (flat_map (λ rows. flat_map row_text rows) lists)

-- The text is the digits of the rows of some of the first buckets, which were scanned.
pub record IsFrontOfParts (minute : Minute) (old : ShelfShape) (text : List ℕ) : Type 0 where
  pub count : ℕ
  pub reached : ShelfShape
  pub within : count ≤ 2 ^ old.bits
  pub told : TellsFirst minute count old text reached

-- what the output line has before its first row
abbrev pub full_front : List ℕ
full_front = codes "R " ++ encode_lower (long_head ++ codes "d5:filesd")

-- what it has behind its last
abbrev pub full_back : List ℕ
full_back = encode_lower (codes "ee") ++ line_end ∷ []

-- The front was added, or nothing for want of memory, or it was lost in part.
abbrev pub AddsFront : Stream → Stream → List ℕ → List ℕ
    → Result (Unit {0}) (Trouble Fault) → Type 0
AddsFront held held' waiting waiting' (Ok u) = Adds held held' waiting waiting' full_front
AddsFront held held' waiting waiting' (Err (trouble.Refused why)) = ⊥
AddsFront held held' waiting waiting' (Err trouble.NoMemory) = Adds held held' waiting waiting' []
AddsFront held held' waiting waiting' (Err trouble.WriteFault) =
    Loses held held' (waiting ++ full_front)

-- The rows of all buckets were added, or those of some of the first ones, or these were lost in
-- part.
abbrev pub AddsParts : Minute → ShelfShape → ShelfShape → Stream → Stream → List ℕ → List ℕ
    → Result (Unit {0}) (Trouble Fault) → Type 0
AddsParts minute old new held held' waiting waiting' (Ok u) =
    (text : List ℕ) × TellsFirst minute (2 ^ old.bits) old text new
    × Adds held held' waiting waiting' text
AddsParts minute old new held held' waiting waiting' (Err (trouble.Refused why)) = ⊥
AddsParts minute old new held held' waiting waiting' (Err trouble.NoMemory) =
    (text : List ℕ) × IsFrontOfParts minute old text × Adds held held' waiting waiting' text
AddsParts minute old new held held' waiting waiting' (Err trouble.WriteFault) =
    (text : List ℕ) × IsFrontOfParts minute old text × Loses held held' (waiting ++ text)
