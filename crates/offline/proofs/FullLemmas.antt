-- The output line of a full scrape, and that a part of it is a front of a whole one.
use Rattle.std.proofs.Common.{◌≡◌, ℕ, ◌+◌, ◌-◌, ◌<◌, ◌≤◌, ◌^◌, List, [], ◌∷◌, ◌++◌, append_assoc, append-nil, inl, inr, map, refl, sym, suc, zero, ◌∙◌, ap, subst, arith}
use Rattle.std.specs.Prelude.{Result, Ok, Err, OnErr, OnOk, codes, flat_map}
use Rattle.std.specs.List.{All, range_with_len}
use Rattle.std.proofs.lemmas.Grind.{flat_map-append}
use Rattle.std.proofs.lemmas.List.{flat_map_more, map-append}
use Rattle.std.proofs.lemmas.List.Elements.{All-from_get_or}
use Rattle.std.proofs.lemmas.List.FromFn.{get_or-range_with_len, length-range_with_len, map-range_with_len_more}
use Rattle.bucket.specs.Shelf.{MadeOnShelf, ShelfShape}
use Rattle.bucket.proofs.ScanLemmas.{scans_can_be_answered}
use Rattle.full_scrape.specs.FullScrape.{full_body}
use Rattle.hex.specs.Hex.{encode_lower, encode_with, lower_digits}
use Rattle.http_wire.specs.Reply.{long_head}
use Rattle.lines.specs.Replies.{Adds, Loses}
use Rattle.lines.specs.Responses.{IsAnswerFront, Responds}
use Rattle.lines.specs.Streams.{Stream}
use Rattle.lines.specs.Text.{line_end}
use Rattle.lines.specs.declared.responder.Trouble.{Trouble}
use Rattle.lines.specs.declared.responder.Trouble.TheVariants as trouble
use Rattle.lines.proofs.ReplyLemmas.{Adds-trans, Adds-Loses}
use Rattle.ot_base.specs.declared.minute.Minute.{Minute}
use Rattle.ot_base.specs.declared.peer.Row.{Row}
use Rattle.tracker_core.specs.HttpText.{row_text}
use Rattle.tracker_model.specs.Making.{Makes}
use Rattle.tracker_model.specs.declared.answer.Answer.{Answer}
use Rattle.tracker_model.specs.declared.answer.Answer.TheVariants.{Rows}
use Rattle.tracker_model.specs.declared.call.Call.{Call}
use Rattle.tracker_model.specs.declared.call.Call.TheVariants.{Scan}
use Rattle.request_handler.proofs.EachBucket.{makes_next}
use Rattle.request_handler.proofs.Made.{Makes-append}
use Rattle.offline.specs.Full.{AddsFront, AddsParts, IsFrontOfParts, TellsAll, TellsAllAt, TellsFirst, first_scans, full_back, full_front}
use Rattle.offline.specs.Records.{reply_line}
use Rattle.offline.specs.declared.command.Fault.{Fault}
use Rattle.offline.proofs.Adding.{Loses-more, encode_with-append}

-- ---- the line, put together

-- the text of all rows of some lists
abbrev rows_text : List (List Row) → List ℕ
rows_text lists = flat_map (λ rows. flat_map row_text rows) lists

-- digits that are told in three parts are those of the whole
three_parts : (label head front rows back end : List ℕ)
    → (label ++ encode_lower (head ++ front)) ++ (encode_lower rows ++ (encode_lower back ++ end)) ≡ label ++ (encode_lower (head ++ (front ++ (rows ++ back))) ++ end)
three_parts label head front rows back end =
    append_assoc label (encode_lower (head ++ front)) (encode_lower rows ++ (encode_lower back ++ end))
    ∙ ap (λ xs. label ++ (encode_lower (head ++ front) ++ xs)) (sym (append_assoc (encode_lower rows) (encode_lower back) end))
    ∙ ap (λ xs. label ++ (encode_lower (head ++ front) ++ (xs ++ end))) (sym (encode_with-append lower_digits rows back))
    ∙ ap (λ xs. label ++ xs) (sym (append_assoc (encode_lower (head ++ front)) (encode_lower (rows ++ back)) end))
    ∙ ap (λ xs. label ++ (xs ++ end)) (sym (encode_with-append lower_digits (head ++ front) (rows ++ back)))
    ∙ ap (λ xs. label ++ (encode_lower xs ++ end)) (append_assoc head front (rows ++ back))

whole_line : (lists : List (List Row)) → full_front ++ (encode_lower (rows_text lists) ++ full_back) ≡ reply_line (long_head ++ full_body lists)
whole_line lists = three_parts (codes "R ") long_head (codes "d5:filesd") (rows_text lists) (codes "ee") (line_end ∷ [])

-- the rows of some lists were told, and then those of others
in_two_parts : (lists others : List (List Row)) (text : List ℕ) → text ≡ encode_lower (rows_text lists)
    → (full_front ++ text) ++ (encode_lower (rows_text others) ++ full_back) ≡ reply_line (long_head ++ full_body (lists ++ others))
in_two_parts lists others text told =
    let both : encode_lower (rows_text lists) ++ encode_lower (rows_text others) ≡ encode_lower (rows_text (lists ++ others)) =
    sym (encode_with-append lower_digits (rows_text lists) (rows_text others))
    ∙ ap encode_lower (sym (flat_map-append (λ (rows : List Row). flat_map row_text rows) lists others)) in
    append_assoc full_front text (encode_lower (rows_text others) ++ full_back)
    ∙ ap (λ xs. full_front ++ (xs ++ (encode_lower (rows_text others) ++ full_back))) told
    ∙ ap (λ xs. full_front ++ xs) (sym (append_assoc (encode_lower (rows_text lists)) (encode_lower (rows_text others)) full_back))
    ∙ ap (λ xs. full_front ++ (xs ++ full_back)) both
    ∙ whole_line (lists ++ others)

-- ---- the scans

-- the calls on the first buckets, and on those that follow
scans_split : {X : Type 0} (f : ℕ → X) (count more : ℕ) → map f (range_with_len 0 (count + more)) ≡ map f (range_with_len 0 count) ++ map f (range_with_len count more)
scans_split f count zero =
    let same : count + 0 ≡ count = omega arith in
    ap (λ n. map f (range_with_len 0 n)) same ∙ sym (append-nil (map f (range_with_len 0 count)))
scans_split f count (suc more) =
    let next : count + suc more ≡ (count + more) + 1 = omega arith in
    let one_more : more + 1 ≡ suc more = omega arith in
    ap (λ n. map f (range_with_len 0 n)) next
    ∙ map-range_with_len_more f 0 (count + more) (count + more) (omega arith)
    ∙ ap (λ xs. xs ++ f (count + more) ∷ []) (scans_split f count more)
    ∙ append_assoc (map f (range_with_len 0 count)) (map f (range_with_len count more)) (f (count + more) ∷ [])
    ∙ ap (λ xs. map f (range_with_len 0 count) ++ xs) (sym (map-range_with_len_more f count more (count + more) refl))
    ∙ ap (λ n. map f (range_with_len 0 count) ++ map f (range_with_len count n)) one_more

-- they are buckets
range_within : (start more limit : ℕ) → start + more ≤ limit → All (λ bucket. bucket < limit) (range_with_len start more)
range_within start more limit within =
    All-from_get_or (λ bucket. bucket < limit) (range_with_len start more) 0
    (λ i below. omega (arith, get_or-range_with_len start more i 0 (omega (arith, length-range_with_len start more)), length-range_with_len start more))

-- calls leave how many buckets there are
Makes-bits : (minute : Minute) (old new : ShelfShape) (placed : List (ℕ × Call)) (answers : List Answer) → Makes MadeOnShelf minute old placed answers new → new.bits ≡ old.bits
Makes-bits minute old new [] [] makes = ap (λ (shelf : ShelfShape). shelf.bits) makes
Makes-bits minute old new [] (answer ∷ answers) makes = absurd makes
Makes-bits minute old new (one ∷ placed) [] makes = absurd makes
Makes-bits minute old new (one ∷ placed) (answer ∷ answers) makes =
    Makes-bits minute makes.0 new placed answers makes.2 ∙ ap (λ (shelf : ShelfShape). shelf.bits) makes.1.changed

-- before the first scan
pub tells_none : (minute : Minute) (shelf : ShelfShape) → TellsFirst minute 0 shelf [] shelf
unfolding encode_with
tells_none minute shelf = record { lists = []; scanned = refl; told = refl }

-- one more bucket was scanned
pub tells_next : (minute : Minute) (count : ℕ) (old middle new : ShelfShape) (text part : List ℕ) (rows : List Row) → TellsFirst minute count old text middle
    → MadeOnShelf middle count minute Scan (Rows rows) new → part ≡ flat_map row_text rows → TellsFirst minute (count + 1) old (text ++ encode_lower part) new
tells_next minute count old middle new text part rows before one is =
    let Made : List Answer → Type 0 = λ answers. Makes MadeOnShelf minute old (first_scans (count + 1)) answers new in record {
      lists = before.lists ++ rows ∷ [];
      scanned = subst Made (sym (map-append Rows before.lists (rows ∷ [])))
          (makes_next MadeOnShelf minute old middle new count Scan (map Rows before.lists) (Rows rows) before.scanned one);
      told = ap (λ xs. xs ++ encode_lower part) before.told
          ∙ ap (λ xs. encode_lower (rows_text before.lists) ++ encode_lower xs) is
          ∙ sym (encode_with-append lower_digits (rows_text before.lists) (flat_map row_text rows))
          ∙ ap encode_lower (flat_map_more (λ (xs : List Row). flat_map row_text xs) [] before.lists rows);
    }

-- all of them were
pub tells_all : (minute : Minute) (old new : ShelfShape) (text : List ℕ) → TellsFirst minute (2 ^ old.bits) old text new → TellsAll minute old (full_front ++ (text ++ full_back)) new
tells_all minute old new text first = record {
  lists = first.lists;
  scanned = first.scanned;
  told = ap (λ xs. full_front ++ (xs ++ full_back)) first.told ∙ whole_line first.lists;
}

-- Where some of the first were, the others can be, and what they tell makes the line whole.
finishes : (minute : Minute) (count : ℕ) (old reached : ShelfShape) (text : List ℕ) → count ≤ 2 ^ old.bits → TellsFirst minute count old text reached
    → (rest : List ℕ) × (next : ShelfShape) × TellsAll minute old ((full_front ++ text) ++ rest) next
finishes minute count old reached text within first =
    let more = 2 ^ old.bits - count in
    let all : count + more ≡ 2 ^ old.bits = omega arith in
    let bits : reached.bits ≡ old.bits = Makes-bits minute old reached (first_scans count) (map Rows first.lists) first.scanned in
    let limit : 2 ^ reached.bits ≡ 2 ^ old.bits = ap (λ n. 2 ^ n) bits in
    let can = scans_can_be_answered minute reached (range_with_len count more) (range_within count more (2 ^ reached.bits) (omega arith)) in
    let scan : ℕ → ℕ × Call = λ bucket. (bucket, Scan) in
    let Placed : List (ℕ × Call) → Type 0 = λ placed. Makes MadeOnShelf minute old placed (map Rows (first.lists ++ can.lists)) can.new in
    let Answered : List Answer → Type 0 = λ answers. Makes MadeOnShelf minute old (first_scans count ++ map scan (range_with_len count more)) answers can.new in (
      encode_lower (rows_text can.lists) ++ full_back,
      can.new,
      record {
        lists = first.lists ++ can.lists;
        scanned = subst Placed (sym (scans_split scan count more) ∙ ap (λ n. map scan (range_with_len 0 n)) all)
            (subst Answered (sym (map-append Rows first.lists can.lists))
            (Makes-append MadeOnShelf minute old reached can.new (first_scans count) (map scan (range_with_len count more)) (map Rows first.lists) (map Rows can.lists) first.scanned can.made));
        told = in_two_parts first.lists can.lists text first.told;
      },
    )

-- ---- fronts of a line

-- what comes before the first row, and some of the first rows
pub parts_front : (minute : Minute) (old : ShelfShape) (line text : List ℕ) → IsFrontOfParts minute old text → IsAnswerFront (TellsAllAt minute) old line (full_front ++ text)
parts_front minute old line text parts = inr (finishes minute parts.count old parts.reached text parts.within parts.told)

-- the first of it alone
pub front_alone : (minute : Minute) (old : ShelfShape) (line : List ℕ) → IsAnswerFront (TellsAllAt minute) old line full_front
front_alone minute old line =
    let Front : List ℕ → Type 0 = λ text. IsAnswerFront (TellsAllAt minute) old line text in
    subst Front (append-nil full_front) (inr (finishes minute 0 old old [] (omega arith) (tells_none minute old)))

-- the whole line
pub whole_front : (minute : Minute) (old new : ShelfShape) (line text : List ℕ) → TellsAll minute old text new → IsAnswerFront (TellsAllAt minute) old line text
whole_front minute old new line text whole =
    let Told : List ℕ → Type 0 = λ xs. TellsAll minute old xs new in
    inr ([], new, subst Told (sym (append-nil text)) whole)

-- ---- its pieces

-- where the outside failed in one part, the next is lost too
loses_more : (a b : Stream) (waiting text more : List ℕ) → Loses a b (waiting ++ text) → Loses a b (waiting ++ (text ++ more))
loses_more a b waiting text more loses =
    let Lost : List ℕ → Type 0 = λ xs. Loses a b xs in
    subst Lost (append_assoc waiting text more) (Loses-more a b (waiting ++ text) more loses)

front_pieces : (head begin : List ℕ) → head ≡ long_head → begin ≡ codes "d5:filesd" → 82 ∷ 32 ∷ (encode_lower head ++ encode_lower begin) ≡ full_front
front_pieces head begin is_head is_begin =
    ap (λ xs. 82 ∷ 32 ∷ xs) (sym (encode_with-append lower_digits head begin) ∙ ap (λ xs. encode_lower (xs ++ begin)) is_head ∙ ap (λ xs. encode_lower (long_head ++ xs)) is_begin)

-- what comes behind the last row was added, or lost in its digits or in the line's end
pub back_added : {A E : Type 0} (a b c : Stream) (waiting waiting' waiting'' end : List ℕ) (r : Result A E) → end ≡ codes "ee"
    → Adds a b waiting waiting' (encode_lower end) → OnOk r (Adds b c waiting' waiting'' (line_end ∷ [])) → OnOk r (Adds a c waiting waiting'' full_back)
back_added a b c waiting waiting' waiting'' end (Ok x) is first second =
    let Added : List ℕ → Type 0 = λ xs. Adds a c waiting waiting'' (encode_lower xs ++ line_end ∷ []) in
    subst Added is (Adds-trans a b c waiting waiting' waiting'' (encode_lower end) (line_end ∷ []) first second)
back_added a b c waiting waiting' waiting'' end (Err e) is first second = tt

pub back_lost : (a b : Stream) (waiting end : List ℕ) → end ≡ codes "ee" → Loses a b (waiting ++ encode_lower end) → Loses a b (waiting ++ full_back)
back_lost a b waiting end is loses =
    let Lost : List ℕ → Type 0 = λ xs. Loses a b (waiting ++ (encode_lower xs ++ line_end ∷ [])) in
    subst Lost is (loses_more a b waiting (encode_lower end) (line_end ∷ []) loses)

pub back_lost_late : {A E : Type 0} (a b c : Stream) (waiting waiting' end : List ℕ) (r : Result A E) → end ≡ codes "ee"
    → Adds a b waiting waiting' (encode_lower end) → OnErr r (Loses b c (waiting' ++ line_end ∷ [])) → OnErr r (Loses a c (waiting ++ full_back))
back_lost_late a b c waiting waiting' end (Ok x) is first loses = tt
back_lost_late a b c waiting waiting' end (Err e) is first loses =
    let Lost : List ℕ → Type 0 = λ xs. Loses a c (waiting ++ (encode_lower xs ++ line_end ∷ [])) in
    subst Lost is (Adds-Loses a b c waiting waiting' (encode_lower end) (line_end ∷ []) first loses)

-- what comes before the first row was added
pub front_added : (a b c d : Stream) (waiting waiting' waiting'' waiting''' head begin : List ℕ) → head ≡ long_head → begin ≡ codes "d5:filesd"
    → Adds a b waiting waiting' (82 ∷ 32 ∷ []) → Adds b c waiting' waiting'' (encode_lower head) → Adds c d waiting'' waiting''' (encode_lower begin)
    → Adds a d waiting waiting''' full_front
front_added a b c d waiting waiting' waiting'' waiting''' head begin is_head is_begin first second third =
    let Added : List ℕ → Type 0 = λ xs. Adds a d waiting waiting''' xs in
    subst Added (front_pieces head begin is_head is_begin)
    (Adds-trans a b d waiting waiting' waiting''' (82 ∷ 32 ∷ []) (encode_lower head ++ encode_lower begin) first
    (Adds-trans b c d waiting' waiting'' waiting''' (encode_lower head) (encode_lower begin) second third))

-- it was lost in its first two bytes, in the digits of the head, or in those of the body
pub front_lost : (a b : Stream) (waiting : List ℕ) → Loses a b (waiting ++ 82 ∷ 32 ∷ []) → Loses a b (waiting ++ full_front)
front_lost a b waiting loses = loses_more a b waiting (82 ∷ 32 ∷ []) (encode_lower (long_head ++ codes "d5:filesd")) loses

pub front_lost_in_head : (a b c : Stream) (waiting waiting' head : List ℕ) → head ≡ long_head
    → Adds a b waiting waiting' (82 ∷ 32 ∷ []) → Loses b c (waiting' ++ encode_lower head) → Loses a c (waiting ++ full_front)
front_lost_in_head a b c waiting waiting' head is first loses =
    let Lost : List ℕ → Type 0 = λ xs. Loses a c (waiting ++ xs) in
    subst Lost (front_pieces head (codes "d5:filesd") is refl)
    (Adds-Loses a b c waiting waiting' (82 ∷ 32 ∷ []) (encode_lower head ++ encode_lower (codes "d5:filesd")) first
    (loses_more b c waiting' (encode_lower head) (encode_lower (codes "d5:filesd")) loses))

pub front_lost_in_body : (a b c d : Stream) (waiting waiting' waiting'' head begin : List ℕ) → head ≡ long_head → begin ≡ codes "d5:filesd"
    → Adds a b waiting waiting' (82 ∷ 32 ∷ []) → Adds b c waiting' waiting'' (encode_lower head) → Loses c d (waiting'' ++ encode_lower begin)
    → Loses a d (waiting ++ full_front)
front_lost_in_body a b c d waiting waiting' waiting'' head begin is_head is_begin first second loses =
    let Lost : List ℕ → Type 0 = λ xs. Loses a d (waiting ++ xs) in
    subst Lost (front_pieces head begin is_head is_begin)
    (Adds-Loses a b d waiting waiting' (82 ∷ 32 ∷ []) (encode_lower head ++ encode_lower begin) first
    (Adds-Loses b c d waiting' waiting'' (encode_lower head) (encode_lower begin) second loses))

pub front_write_failed : (a b : Stream) (waiting waiting' : List ℕ) (r : Result (Unit {0}) (Trouble Fault)) (e : Trouble Fault) → r ≡ Err e → e ≡ trouble.WriteFault
    → Loses a b (waiting ++ full_front) → AddsFront a b waiting waiting' r
front_write_failed a b waiting waiting' r e is fault loses =
    let Added : Result (Unit {0}) (Trouble Fault) → Type 0 = λ result. AddsFront a b waiting waiting' result in
    subst Added (sym (is ∙ ap Err fault)) loses

-- the digits of one more bucket were lost in part
pub parts_write_failed : (minute : Minute) (count : ℕ) (old middle new : ShelfShape) (a b c : Stream) (waiting waiting' waiting'' text part : List ℕ) (rows : List Row)
    (r : Result (Unit {0}) (Trouble Fault)) (e : Trouble Fault) → TellsFirst minute count old text middle → Adds a b waiting waiting' text
    → MadeOnShelf middle count minute Scan (Rows rows) new → part ≡ flat_map row_text rows → Loses b c (waiting' ++ encode_lower part) → r ≡ Err e → e ≡ trouble.WriteFault
    → AddsParts minute old new a c waiting waiting'' r
parts_write_failed minute count old middle new a b c waiting waiting' waiting'' text part rows r e before adds one told loses is fault =
    let Added : Result (Unit {0}) (Trouble Fault) → Type 0 = λ result. AddsParts minute old new a c waiting waiting'' result in
    let limit : 2 ^ middle.bits ≡ 2 ^ old.bits = ap (λ n. 2 ^ n) (Makes-bits minute old middle (first_scans count) (map Rows before.lists) before.scanned) in
    let below : count < 2 ^ middle.bits = one.within in
    subst Added (sym (is ∙ ap Err fault)) (
      text ++ encode_lower part,
      record {
        count = count + 1;
        reached = new;
        within = omega arith;
        told = tells_next minute count old middle new text part rows before one told;
      },
      Adds-Loses a b c waiting waiting' text (encode_lower part) adds loses,
    )

-- ---- the whole of it

module _ (minute : Minute) (old new : ShelfShape) (line : List ℕ) where
  abbrev Told : Stream → Stream → List ℕ → List ℕ → Result (Unit {0}) (Trouble Fault) → Type 0
  Told = Responds {F = Fault} (TellsAllAt minute) (λ state line why. ⊥) old new line

  -- it stopped before the first row
  stopped_in_front : (a b : Stream) (waiting waiting' : List ℕ) (e : Trouble Fault) → AddsFront a b waiting waiting' (Err e) → Told a b waiting waiting' (Err e)
  stopped_in_front a b waiting waiting' (trouble.Refused why) adds = absurd adds
  stopped_in_front a b waiting waiting' trouble.NoMemory adds = ([], inl refl, adds)
  stopped_in_front a b waiting waiting' trouble.WriteFault loses = (full_front, front_alone minute old line, loses)

  pub front_failed : (a b : Stream) (waiting waiting' : List ℕ) (r r' : Result (Unit {0}) (Trouble Fault)) (e e' : Trouble Fault)
      → r ≡ Err e → AddsFront a b waiting waiting' r → r' ≡ Err e' → e' ≡ e → Told a b waiting waiting' r'
  front_failed a b waiting waiting' r r' e e' is adds is' same =
      let Added : Result (Unit {0}) (Trouble Fault) → Type 0 = λ result. AddsFront a b waiting waiting' result in
      let Ends : Result (Unit {0}) (Trouble Fault) → Type 0 = λ result. Told a b waiting waiting' result in
      subst Ends (sym (is' ∙ ap Err same)) (stopped_in_front a b waiting waiting' e (subst Added is adds))

  -- it stopped at one of the buckets
  stopped_in_parts : (a b c : Stream) (waiting waiting' waiting'' : List ℕ) (e : Trouble Fault) → Adds a b waiting waiting' full_front
      → AddsParts minute old new b c waiting' waiting'' (Err e) → Told a c waiting waiting'' (Err e)
  stopped_in_parts a b c waiting waiting' waiting'' (trouble.Refused why) first parts = absurd parts
  stopped_in_parts a b c waiting waiting' waiting'' trouble.NoMemory first parts =
      (full_front ++ parts.0, parts_front minute old line parts.0 parts.1, Adds-trans a b c waiting waiting' waiting'' full_front parts.0 first parts.2)
  stopped_in_parts a b c waiting waiting' waiting'' trouble.WriteFault first parts =
      (full_front ++ parts.0, parts_front minute old line parts.0 parts.1, Adds-Loses a b c waiting waiting' full_front parts.0 first parts.2)

  pub parts_failed : (a b c : Stream) (waiting waiting' waiting'' : List ℕ) (r r' : Result (Unit {0}) (Trouble Fault)) (e e' : Trouble Fault) → Adds a b waiting waiting' full_front
      → r ≡ Err e → AddsParts minute old new b c waiting' waiting'' r → r' ≡ Err e' → e' ≡ e → Told a c waiting waiting'' r'
  parts_failed a b c waiting waiting' waiting'' r r' e e' first is parts is' same =
      let Added : Result (Unit {0}) (Trouble Fault) → Type 0 = λ result. AddsParts minute old new b c waiting' waiting'' result in
      let Ends : Result (Unit {0}) (Trouble Fault) → Type 0 = λ result. Told a c waiting waiting'' result in
      subst Ends (sym (is' ∙ ap Err same)) (stopped_in_parts a b c waiting waiting' waiting'' e first (subst Added is parts))

  -- it stopped behind the last row
  pub back_failed : (a b c d : Stream) (waiting waiting' waiting'' waiting''' text : List ℕ) (r : Result (Unit {0}) (Trouble Fault)) (e : Trouble Fault) → Adds a b waiting waiting' full_front
      → TellsFirst minute (2 ^ old.bits) old text new → Adds b c waiting' waiting'' text → Loses c d (waiting'' ++ full_back) → r ≡ Err e → e ≡ trouble.WriteFault
      → Told a d waiting waiting''' r
  back_failed a b c d waiting waiting' waiting'' waiting''' text r e first told second loses is fault =
      let Ends : Result (Unit {0}) (Trouble Fault) → Type 0 = λ result. Told a d waiting waiting''' result in
      subst Ends (sym (is ∙ ap Err fault)) (
        full_front ++ (text ++ full_back),
        whole_front minute old new line (full_front ++ (text ++ full_back)) (tells_all minute old new text told),
        Adds-Loses a b d waiting waiting' full_front (text ++ full_back) first (Adds-Loses b c d waiting' waiting'' text full_back second loses),
      )

  -- all of it was added
  pub all_added : (a b c d : Stream) (waiting waiting' waiting'' waiting''' text : List ℕ) → Adds a b waiting waiting' full_front
      → TellsFirst minute (2 ^ old.bits) old text new → Adds b c waiting' waiting'' text → Adds c d waiting'' waiting''' full_back
      → (text : List ℕ) × TellsAll minute old text new × Adds a d waiting waiting''' text
  all_added a b c d waiting waiting' waiting'' waiting''' text first told second third = (
    full_front ++ (text ++ full_back),
    tells_all minute old new text told,
    Adds-trans a b d waiting waiting' waiting''' full_front (text ++ full_back) first (Adds-trans b c d waiting' waiting'' waiting''' text full_back second third),
  )
