-- The calls of a plan in their buckets, and the moves that they are once they are answered.
use Rattle.std.specs.Prelude.{ℕ, ◌^◌, List, [], ◌∷◌, map}
use Rattle.std.specs.List.{range_with_len}
use Rattle.ot_base.specs.Hash.{first_bits}
use Rattle.ot_base.specs.declared.hash.InfoHash.{InfoHash}
use Rattle.ot_base.specs.declared.minute.Minute.{Minute}
use Rattle.tracker_model.specs.Grows.{Move}
use Rattle.tracker_model.specs.declared.answer.Answer.{Answer}
use Rattle.tracker_model.specs.declared.call.Call.{Call}
use Rattle.tracker_model.specs.declared.call.Call.TheVariants.{Announce, Stop, Scrape, Scan, Clean, Sync, Drain}

-- the bucket of a torrent, where the first bits of its hash tell it
abbrev pub bucket_in : (bits : ℕ) → InfoHash → ℕ
bucket_in bits hash = first_bits hash.0 bits

-- the bucket of a call that names a torrent, where each hash has its bucket; the others name none
abbrev pub bucket_for : (InfoHash → ℕ) → Call → ℕ
bucket_for bucket (Announce hash who seed completed want) = bucket hash
bucket_for bucket (Stop hash who) = bucket hash
bucket_for bucket (Scrape hash) = bucket hash
bucket_for bucket Scan = 0
bucket_for bucket Clean = 0
bucket_for bucket (Sync hash who mark) = bucket hash
bucket_for bucket Drain = 0

-- calls, each with the number of its bucket
abbrev pub placed_calls : (InfoHash → ℕ) → List Call → List (ℕ × Call)
placed_calls bucket calls = map (λ call. (bucket_for bucket call, call)) calls

-- one call on each bucket, from bucket 0 on
abbrev pub on_each_bucket : (bits : ℕ) → Call → List (ℕ × Call)
on_each_bucket bits call = map (λ bucket. (bucket, call)) (range_with_len 0 (2 ^ bits))

-- the moves that calls of a caller at a minute are, with these answers, in order
abbrev pub moves_of : (caller : ℕ) → Minute → List (ℕ × Call) → List Answer → List Move
moves_of caller minute [] answers = []
moves_of caller minute (placed ∷ others) [] = []
moves_of caller minute (placed ∷ others) (answer ∷ answers) =
    record {
      bucket = placed.0;
      entry = record { caller = caller; minute = minute; call = placed.1; answer = answer };
    } ∷ moves_of caller minute others answers
