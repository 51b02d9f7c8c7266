-- Ranges of a buffer, and the line ends in them.
use Rattle.std.proofs.Common.{◌≡◌, ℕ, ◌+◌, ◌-◌, ◌<◌, ◌≤◌, false, List, [], ◌∷◌, ◌++◌, length, take, drop, sym, ap, ◌∙◌, append_assoc, append-nil, length-drop, take_all, arith}
use Rattle.std.specs.Prelude.{slice_range, Option}
use borrow.Rule.Slice.PartMut.{put_mid, post_of}
use Rattle.std.proofs.Math.Seq.{take-add, take-append-add, take-append_seam}
use Rattle.std.proofs.lemmas.List.{drop-drop, drop-take, take-take, take-append-le, length-take-le}
use Rattle.memchr.specs.Find.{Nowhere, Passes, is_byte}
use Rattle.lines.specs.Text.{line_end, line_limit, has_end}
use Rattle.lines.specs.Reading.{BeginsTooLong}
use Rattle.lines.specs.Buffer.{IsInOrder, ReadsBehind}
use Rattle.ot_io.specs.Pieces.{GivesPiece}
use Rattle.ot_io.specs.declared.source.Piece.{Piece}
use Rattle.ot_io.specs.declared.source.Piece.TheVariants.{Got, End, Failed}
use Rattle.lines.specs.declared.line_buffer.Lines.TheInside.{Inside}
use Rattle.lines.proofs.TextLemmas.{has_end-joined, has_end-passed, has_end-passed_all, cut_at_end}

pub length-slice_range : (xs : List ℕ) (a b : ℕ) → a ≤ b → b ≤ length xs
    → length (slice_range xs a b) ≡ b - a
length-slice_range xs a b order within =
    let back = length-drop a xs in
    let fits : b - a ≤ length (drop a xs) = omega arith in
    length-take-le (b - a) (drop a xs) fits

-- two ranges, one after the other
pub slice_range-joined : (xs : List ℕ) (a b c : ℕ) → a ≤ b → b ≤ c
    → slice_range xs a b ++ slice_range xs b c ≡ slice_range xs a c
slice_range-joined xs a b c first second =
    let sum : c - a ≡ (b - a) + (c - b) = omega arith in
    let at : a + (b - a) ≡ b = omega arith in
    let cut = take-add (b - a) (c - b) (drop a xs) in
    let rest : drop (b - a) (drop a xs) ≡ drop b xs = drop-drop (b - a) a xs ∙ ap (λ n. drop n xs) at in
    sym (ap (λ n. take n (drop a xs)) sum ∙ cut ∙ ap (λ l. take (b - a) (drop a xs) ++ take (c - b) l) rest)

-- the front of a range is a range
pub take-slice_range : (xs : List ℕ) (a b n : ℕ) → n ≤ b - a
    → take n (slice_range xs a b) ≡ slice_range xs a (a + n)
take-slice_range xs a b n small =
    let same : n ≡ a + n - a = omega arith in
    take-take n (b - a) (drop a xs) small ∙ ap (λ k. take k (drop a xs)) same

-- and what follows it is one
pub drop-slice_range : (xs : List ℕ) (a b n : ℕ) → n ≤ b - a
    → drop n (slice_range xs a b) ≡ slice_range xs (a + n) b
drop-slice_range xs a b n small =
    let sum : b - a ≡ n + (b - (a + n)) = omega arith in
    ap (λ k. drop n (take k (drop a xs))) sum ∙ drop-take n (b - (a + n)) (drop a xs) ∙ ap (take (b - (a + n))) (drop-drop n a xs)

-- what a search found in the range from b to c, of which a line began at a
pub line_found : (xs : List ℕ) (a b c n : ℕ) → a ≤ b → b ≤ c → c ≤ length xs
    → n < length (slice_range xs b c) → Passes (is_byte line_end) (slice_range xs b c) n
    → slice_range xs a c ≡ slice_range xs a (b + n) ++ line_end ∷ slice_range xs (b + n + 1) c
line_found xs a b c n first second within inside passes =
    let long = length-slice_range xs b c second within in
    let low : n ≤ c - b = omega arith in
    let low1 : n + 1 ≤ c - b = omega arith in
    let cut = cut_at_end (slice_range xs b c) n inside passes in
    let front = take-slice_range xs b c n low in
    let back : drop 1 (drop n (slice_range xs b c)) ≡ slice_range xs (b + n + 1) c =
    drop-drop 1 n (slice_range xs b c) ∙ drop-slice_range xs b c (n + 1) low1 ∙ ap (λ k. slice_range xs k c) (let same : b + (n + 1) ≡ b + n + 1 = omega arith in same) in
    let joined = slice_range-joined xs a b (b + n) first (omega arith) in
    sym (slice_range-joined xs a b c first second)
    ∙ ap (λ l. slice_range xs a b ++ l) (cut ∙ ap (λ l. l ++ line_end ∷ drop 1 (drop n (slice_range xs b c))) front ∙ ap (λ l. slice_range xs b (b + n) ++ line_end ∷ l) back)
    ∙ sym (append_assoc (slice_range xs a b) (slice_range xs b (b + n)) (line_end ∷ slice_range xs (b + n + 1) c))
    ∙ ap (λ l. l ++ line_end ∷ slice_range xs (b + n + 1) c) joined

-- no line ends before the place that was found
pub none_before : (xs : List ℕ) (a b c n : ℕ) → a ≤ b → b ≤ c → c ≤ length xs
    → n < length (slice_range xs b c) → has_end (slice_range xs a b) ≡ false
    → Nowhere (Passes (is_byte line_end) (slice_range xs b c)) 0 n
    → has_end (slice_range xs a (b + n)) ≡ false
none_before xs a b c n first second within inside searched none =
    let long = length-slice_range xs b c second within in
    let low : n ≤ c - b = omega arith in
    let passed = sym (ap has_end (take-slice_range xs b c n low)) ∙ has_end-passed (slice_range xs b c) n none in
    sym (ap has_end (slice_range-joined xs a b (b + n) first (omega arith))) ∙ has_end-joined (slice_range xs a b) (slice_range xs b (b + n)) searched passed

-- a search that found nothing
pub none_found : (xs : List ℕ) (a b c : ℕ) → a ≤ b → b ≤ c → has_end (slice_range xs a b) ≡ false
    → Nowhere (Passes (is_byte line_end) (slice_range xs b c)) 0 (length (slice_range xs b c))
    → has_end (slice_range xs a c) ≡ false
none_found xs a b c first second searched none =
    sym (ap has_end (slice_range-joined xs a b c first second))
    ∙ has_end-joined (slice_range xs a b) (slice_range xs b c) searched (has_end-passed_all (slice_range xs b c) none)

-- a line is too long that hasn't ended
pub too_long-unended : (bytes : List ℕ) → has_end bytes ≡ false → line_limit < length bytes
    → BeginsTooLong bytes
too_long-unended bytes none long = record { front = bytes; rest = []; cut = sym (append-nil bytes); one_line = none; long = long }

-- a line is too long that has ended
pub too_long-ended : (bytes line more : List ℕ) → bytes ≡ line ++ line_end ∷ more
    → has_end line ≡ false → line_limit < length line → BeginsTooLong bytes
too_long-ended bytes line more cut none long = record { front = line; rest = line_end ∷ more; cut = cut; one_line = none; long = long }

-- a part of a buffer that was moved to its front
pub moved_to_front : (xs part after : List ℕ) (a b : ℕ) → a ≤ b → b ≤ length xs
    → part ≡ drop a (take b xs) ++ take a (take b xs) → take (b - a)
    (part ++ after) ≡ slice_range xs a b
moved_to_front xs part after a b order within rotated =
    let sum : b ≡ a + (b - a) = omega arith in
    let first : drop a (take b xs) ≡ slice_range xs a b = ap (λ n. drop a (take n xs)) sum ∙ drop-take a (b - a) xs in
    let long = length-slice_range xs a b order within in
    let whole : part ++ after ≡ slice_range xs a b ++ (take a (take b xs) ++ after) = ap (λ l. l ++ after) (rotated ∙ ap (λ l. l ++ take a (take b xs)) first) ∙ append_assoc (slice_range xs a b) (take a (take b xs)) after in
    ap (take (b - a)) whole ∙ take-append-le (b - a) (slice_range xs a b) (take a (take b xs) ++ after) (omega arith) ∙ take_all (b - a) (slice_range xs a b) (omega arith)

-- the whole of what is ahead was searched, and no line ends there
pub IsInOrder-searched : (lines : Inside) → IsInOrder lines
    → Nowhere (Passes (is_byte line_end) (slice_range lines.buffer.items lines.searched lines.end)) 0 (length (slice_range lines.buffer.items lines.searched lines.end))
    → IsInOrder (record lines { searched = lines.end })
IsInOrder-searched lines order none = record {
  size = order.size;
  start_first = omega arith;
  searched_first = omega arith;
  in_buffer = order.in_buffer;
  line_order = order.line_order;
  line_in_buffer = order.line_in_buffer;
  no_end = none_found lines.buffer.items lines.start lines.searched lines.end order.start_first order.searched_first order.no_end none;
  few_lines = order.few_lines;
  few_bytes = order.few_bytes;
}

-- Bytes were read into the buffer behind those at its front.
read_behind : (ahead moved read : List ℕ) (at room n : ℕ) → at ≤ length moved → n ≤ length read
    → take at moved ≡ ahead → take (at + n) (put_mid at room moved read) ≡ ahead ++ take n read
read_behind ahead moved read at room n within fits front =
    let long = length-take-le at moved within in
    ap (λ k. take (k + n) (take at moved ++ (read ++ post_of at room moved))) (sym long)
    ∙ take-append-add (take at moved) (read ++ post_of at room moved) n
    ∙ ap (λ l. take at moved ++ l) (take-append-le n read (post_of at room moved) fits)
    ∙ ap (λ l. l ++ take n read) front

-- what stood at the front before stays there
kept_front : (ahead moved read : List ℕ) (at room : ℕ) → at ≤ length moved → take at moved ≡ ahead
    → take at (put_mid at room moved read) ≡ ahead
kept_front ahead moved read at room within front =
    let long = length-take-le at moved within in
    ap (λ k. take k (take at moved ++ (read ++ post_of at room moved))) (sym long)
    ∙ take-append_seam (take at moved) (read ++ post_of at room moved) ∙ front

-- what a read behind the bytes at the front of the buffer left
pub ReadsBehind-read : (left left' : Option (List ℕ)) (ahead moved read : List ℕ) (at room : ℕ)
    (piece : Piece) → at ≤ length moved → length read ≤ room → take at moved ≡ ahead
    → GivesPiece left left' piece read
    → ReadsBehind left left' ahead at (put_mid at room moved read) room piece
ReadsBehind-read left left' ahead moved read at room (Got n) within few front given =
    (take n read, length-take-le n read given.1, given.0, omega (arith, given.1), given.2, kept_front ahead moved read at room within front, read_behind ahead moved read at room n within given.1 front)
ReadsBehind-read left left' ahead moved read at room End within few front given = (given.0, given.1, kept_front ahead moved read at room within front)
ReadsBehind-read left left' ahead moved read at room Failed within few front given = (given, kept_front ahead moved read at room within front)
