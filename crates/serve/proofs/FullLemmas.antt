-- A full scrape that is written bucket by bucket.
use Rattle.std.proofs.Common.{◌≡◌, ◌∙◌, ℕ, ◌+◌, ◌<◌, ◌≤◌, ◌^◌, List, [], ◌∷◌, ◌++◌, ap, append_assoc, arith, inl, inr, length, length-append, map, refl, subst, sym, take}
use Rattle.std.specs.Prelude.{Option, Some, None, Result, Ok, Err, codes, flat_map}
use Rattle.std.specs.Io.KnownBytes.{Appends}
use Rattle.std.proofs.KnownBytes.{Appends-nil, Appends-trans}
use Rattle.std.proofs.lemmas.List.{flat_map_more, map-append}
use Rattle.std.proofs.lemmas.List.FromFn.{take-map-range_with_len}
use Rattle.http_wire.specs.Reply.{long_head}
use Rattle.ot_base.specs.declared.minute.Minute.{Minute}
use Rattle.ot_base.specs.declared.peer.Row.{Row}
use Rattle.request_handler.specs.Connection.{scan_rows}
use Rattle.request_handler.proofs.EachBucket.{makes_next}
use Rattle.tracker_core.specs.HttpText.{row_text}
use Rattle.tracker_model.specs.Making.{Makes, MakingRelation}
use Rattle.tracker_model.specs.Placed.{on_each_bucket}
use Rattle.tracker_model.specs.declared.answer.Answer.{Answer}
use Rattle.tracker_model.specs.declared.answer.Answer.TheVariants.{Rows}
use Rattle.tracker_model.specs.declared.call.Call.{Call}
use Rattle.tracker_model.specs.declared.call.Call.TheVariants.{Scan}
use Rattle.serve.specs.Full.{IsFrontOfRows, Sends, SendsFront, StopsAreCounted, StopsFull, TellsAll, TellsFirst, TellsPart, TellsParts, TellsSome, Written, first_scans, full_front, rows_text}
use Rattle.serve.specs.declared.full.Stop.{Stop}
use Rattle.serve.specs.declared.full.Stop.TheVariants as stop

-- ---- faults

-- later faults are counted since an earlier moment
pub counted_since : (a b c : ℕ) (r : Result (Unit {0}) Stop) → a ≤ b → StopsAreCounted b c r → StopsAreCounted a c r
counted_since a b c (Ok u) earlier counted = omega (arith, earlier, counted)
counted_since a b c (Err stop.NoMemory) earlier counted = omega (arith, earlier, counted)
counted_since a b c (Err stop.WriteFault) earlier counted =
    (omega (arith, earlier, counted.0), omega (arith, earlier, counted.1))

-- the same where a stop is handed on
pub counted_on : (a b c : ℕ) (r r' : Result (Unit {0}) Stop) (e e' : Stop) → a ≤ b → r ≡ Err e → StopsAreCounted b c r → r' ≡ Err e' → e' ≡ e → StopsAreCounted a c r'
counted_on a b c r r' e e' earlier is counted is' same =
    let Counted : Result (Unit {0}) Stop → Type 0 = λ result. StopsAreCounted a c result in
    subst Counted (is ∙ sym (is' ∙ ap Err same)) (counted_since a b c r earlier counted)

-- want of memory is no fault
pub short_counted : (a : ℕ) (r : Result (Unit {0}) Stop) (e : Stop) → r ≡ Err e → e ≡ stop.NoMemory → StopsAreCounted a a r
short_counted a r e is short =
    let Counted : Result (Unit {0}) Stop → Type 0 = λ result. StopsAreCounted a a result in
    let none : a ≤ a = omega arith in
    subst Counted (sym (is ∙ ap Err short)) none

-- ---- one bucket

-- no text is a front of what a scan found
no_part : (found : Option (List Row)) → IsFrontOfRows found []
no_part None = refl
no_part (Some rows) = (0, refl)

module _ {T : Type 0} (made : MakingRelation T) (minute : Minute) (old : T) (bucket : ℕ) (new : T) where
  -- there was no memory for its rows or for their text
  pub part_short : (held : Written) (r : Result (Unit {0}) Stop) (e : Stop) → r ≡ Err e → (found : Answer) × made old bucket minute Scan found new
      → TellsPart made minute old bucket new held held r
  part_short held r e is scanned =
      let Told : Result (Unit {0}) Stop → Type 0 = λ result. TellsPart made minute old bucket new held held result in
      subst Told (sym is) (scanned.0, [], scanned.1, no_part (scan_rows scanned.0), Appends-nil held)

  -- its rows' text was handed to the outside
  pub part_sent : (held held' : Written) (bytes : List ℕ) (rows : List Row) (r : Result (Unit {0}) Stop) → made old bucket minute Scan (Rows rows) new → bytes ≡ flat_map row_text rows
      → Sends held held' bytes r → TellsPart made minute old bucket new held held' r
  part_sent held held' bytes rows (Ok u) scanned is sent =
      let Told : List ℕ → Type 0 = λ xs. Appends held held' xs in
      (rows, scanned, subst Told is sent)
  part_sent held held' bytes rows (Err stop.NoMemory) scanned is sent = absurd sent
  part_sent held held' bytes rows (Err stop.WriteFault) scanned is sent =
      (Rows rows, take sent.0 bytes, scanned, (sent.0, ap (take sent.0) is), sent.2)

-- ---- bucket after bucket

module _ {T : Type 0} (made : MakingRelation T) (minute : Minute) (old : T) where
  -- before the first one
  pub first_none : (held : Written) → TellsFirst made minute 0 old old held held
  first_none held = record { lists = []; many = refl; scanned = refl; told = Appends-nil held }

  -- one more was told
  pub first_next : (count : ℕ) (middle new : T) (held held' held'' : Written) → TellsFirst made minute count old middle held held' → TellsPart made minute middle count new held' held'' (Ok tt)
      → TellsFirst made minute (count + 1) old new held held''
  first_next count middle new held held' held'' before part =
      let Made : List Answer → Type 0 = λ answers. Makes made minute old (first_scans (count + 1)) answers new in
      let Told : List ℕ → Type 0 = λ xs. Appends held held'' xs in record {
        lists = before.lists ++ part.0 ∷ [];
        many = length-append before.lists (part.0 ∷ []) ∙ ap (λ n. n + 1) before.many;
        scanned = subst Made (sym (map-append Rows before.lists (part.0 ∷ [])))
            (makes_next made minute old middle new count Scan (map Rows before.lists) (Rows part.0) before.scanned part.1);
        told = subst Told (flat_map_more (λ (xs : List Row). flat_map row_text xs) [] before.lists part.0)
            (Appends-trans held held' held'' (rows_text before.lists) (flat_map row_text part.0) before.told part.2);
      }

  -- it stopped at the next one
  some_told : (bits count : ℕ) (middle new : T) (held held' held'' : Written) (e : Stop) → count < 2 ^ bits → TellsFirst made minute count old middle held held'
      → TellsPart made minute middle count new held' held'' (Err e) → TellsSome made minute bits old new held held''
  some_told bits count middle new held held' held'' e below before part =
      let Made : ℕ → Type 0 = λ n. Makes made minute old (first_scans (n + 1)) (map Rows before.lists ++ part.0 ∷ []) new in record {
        lists = before.lists;
        found = part.0;
        part = part.1;
        within = omega (arith, before.many, below);
        scanned = subst Made (sym before.many) (makes_next made minute old middle new count Scan (map Rows before.lists) part.0 before.scanned part.2);
        front = part.3;
        told = Appends-trans held held' held'' (rows_text before.lists) part.1 before.told part.4;
      }

  pub parts_stopped : (bits count : ℕ) (middle new : T) (held held' held'' : Written) (r r' : Result (Unit {0}) Stop) (e e' : Stop) → count < 2 ^ bits
      → TellsFirst made minute count old middle held held' → r ≡ Err e → TellsPart made minute middle count new held' held'' r → r' ≡ Err e'
      → TellsParts made minute bits old new held held'' r'
  parts_stopped bits count middle new held held' held'' r r' e e' below before is part is' =
      let Told : Result (Unit {0}) Stop → Type 0 = λ result. TellsPart made minute middle count new held' held'' result in
      let Ends : Result (Unit {0}) Stop → Type 0 = λ result. TellsParts made minute bits old new held held'' result in
      subst Ends (sym is') (some_told bits count middle new held held' held'' e below before (subst Told is part))

-- ---- the whole of it

-- what a stop leaves written is a front
sends_front : (held held' : Written) (bytes : List ℕ) (e : Stop) → Sends held held' bytes (Err e) → SendsFront held held' bytes
sends_front held held' bytes stop.NoMemory sent = absurd sent
sends_front held held' bytes stop.WriteFault sent = sent

module _ {T : Type 0} (made : MakingRelation T) (minute : Minute) (bits : ℕ) (old new : T) where
  -- scans of the first buckets are the first scans of all
  first_of_all : (count : ℕ) (answers : List Answer) → count ≤ 2 ^ bits → Makes made minute old (first_scans count) answers new
      → Makes made minute old (take count (on_each_bucket bits Scan)) answers new
  first_of_all count answers within makes =
      let Made : List (ℕ × Call) → Type 0 = λ placed. Makes made minute old placed answers new in
      subst Made (sym (take-map-range_with_len (λ bucket. (bucket, Scan)) 0 (2 ^ bits) count within)) makes

  -- it stopped before the first scan
  cut_in_front : (held held' : Written) (n : ℕ) → n < length full_front → Appends held held' (take n full_front) → StopsFull made minute bits old old held held'
  cut_in_front held held' n some told = record {
    count = 0;
    answers = [];
    text = take n full_front;
    scanned = refl;
    cut = inl (refl, n, some, refl);
    told = told;
  }

  pub front_short : (held : Written) (r : Result (Unit {0}) Stop) (e : Stop) → r ≡ Err e → TellsAll made minute bits old old held held r
  front_short held r e is =
      let Ends : Result (Unit {0}) Stop → Type 0 = λ result. TellsAll made minute bits old old held held result in
      let long : length full_front ≡ 73 = refl in
      subst Ends (sym is) (cut_in_front held held 0 (omega (arith, long)) (Appends-nil held))

  pub front_lost : (held held' : Written) (front : List ℕ) (r r' : Result (Unit {0}) Stop) (e e' : Stop) → front ≡ full_front → r ≡ Err e → Sends held held' front r → r' ≡ Err e'
      → TellsAll made minute bits old old held held' r'
  front_lost held held' front r r' e e' whole is sent is' =
      let Sent : Result (Unit {0}) Stop → Type 0 = λ result. Sends held held' front result in
      let Front : List ℕ → Type 0 = λ xs. SendsFront held held' xs in
      let Ends : Result (Unit {0}) Stop → Type 0 = λ result. TellsAll made minute bits old old held held' result in
      let lost = subst Front whole (sends_front held held' front e (subst Sent is sent)) in
      subst Ends (sym is') (cut_in_front held held' lost.0 lost.1 lost.2)

  -- it stopped at a bucket
  cut_in_rows : (held held' held'' : Written) → Appends held held' full_front → TellsSome made minute bits old new held' held'' → StopsFull made minute bits old new held held''
  cut_in_rows held held' held'' front some = record {
    count = length some.lists + 1;
    answers = map Rows some.lists ++ some.found ∷ [];
    text = full_front ++ (rows_text some.lists ++ some.part);
    scanned = first_of_all (length some.lists + 1) (map Rows some.lists ++ some.found ∷ []) (omega (arith, some.within)) some.scanned;
    cut = inr (inl (record {
      lists = some.lists;
      found = some.found;
      part = some.part;
      within = some.within;
      scanned = refl;
      front = some.front;
      told = refl;
    }));
    told = Appends-trans held held' held'' full_front (rows_text some.lists ++ some.part) front some.told;
  }

  pub parts_lost : (held held' held'' : Written) (front : List ℕ) (r r' : Result (Unit {0}) Stop) (e e' : Stop) → front ≡ full_front → Appends held held' front → r ≡ Err e
      → TellsParts made minute bits old new held' held'' r → r' ≡ Err e' → TellsAll made minute bits old new held held'' r'
  parts_lost held held' held'' front r r' e e' whole sent is parts is' =
      let Told : List ℕ → Type 0 = λ xs. Appends held held' xs in
      let Parts : Result (Unit {0}) Stop → Type 0 = λ result. TellsParts made minute bits old new held' held'' result in
      let Ends : Result (Unit {0}) Stop → Type 0 = λ result. TellsAll made minute bits old new held held'' result in
      subst Ends (sym is') (cut_in_rows held held' held'' (subst Told whole sent) (subst Parts is parts))

  -- all rows were written, and what stands behind them was handed to the outside
  behind_rows : (held held' held'' held''' : Written) (r : Result (Unit {0}) Stop) → Appends held held' full_front → TellsFirst made minute (2 ^ bits) old new held' held''
      → Sends held'' held''' (codes "ee") r → TellsAll made minute bits old new held held''' r
  behind_rows held held' held'' held''' (Ok u) front all sent =
      let Told : List ℕ → Type 0 = λ xs. Appends held held''' xs in (
        all.lists,
        all.scanned,
        subst Told (append_assoc long_head (codes "d5:filesd") (rows_text all.lists ++ codes "ee"))
            (Appends-trans held held' held''' full_front (rows_text all.lists ++ codes "ee") front
            (Appends-trans held' held'' held''' (rows_text all.lists) (codes "ee") all.told sent)),
      )
  behind_rows held held' held'' held''' (Err stop.NoMemory) front all sent = absurd sent
  behind_rows held held' held'' held''' (Err stop.WriteFault) front all sent = record {
    count = 2 ^ bits;
    answers = map Rows all.lists;
    text = full_front ++ (rows_text all.lists ++ take sent.0 (codes "ee"));
    scanned = first_of_all (2 ^ bits) (map Rows all.lists) (omega arith) all.scanned;
    cut = inr (inr (record {
      lists = all.lists;
      all = all.many;
      scanned = refl;
      count = sent.0;
      some = sent.1;
      told = refl;
    }));
    told = Appends-trans held held' held''' full_front (rows_text all.lists ++ take sent.0 (codes "ee")) front
        (Appends-trans held' held'' held''' (rows_text all.lists) (take sent.0 (codes "ee")) all.told sent.2);
  }

  pub back_sent : (held held' held'' held''' : Written) (front back : List ℕ) (r : Result (Unit {0}) Stop) → front ≡ full_front → back ≡ codes "ee" → Appends held held' front
      → TellsFirst made minute (2 ^ bits) old new held' held'' → Sends held'' held''' back r → TellsAll made minute bits old new held held''' r
  back_sent held held' held'' held''' front back r whole is first all sent =
      let Told : List ℕ → Type 0 = λ xs. Appends held held' xs in
      let Sent : List ℕ → Type 0 = λ xs. Sends held'' held''' xs r in
      behind_rows held held' held'' held''' r (subst Told whole first) all (subst Sent is sent)
