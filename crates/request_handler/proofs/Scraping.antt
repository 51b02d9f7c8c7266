-- Torrents that are scraped one after another.
use Rattle.std.proofs.Common.{◌≡◌, ℕ, ◌+◌, ◌<◌, Bool, List, [], ◌∷◌, ◌++◌, length, map, take, get_or, sym, ◌∙◌, ap, subst}
use Rattle.std.specs.Prelude.{Some}
use Rattle.std.proofs.lemmas.List.{map_more, take-map, take_more}
use Rattle.ot_base.specs.declared.hash.InfoHash.{InfoHash}
use Rattle.ot_base.specs.declared.minute.Minute.{Minute}
use Rattle.ot_base.specs.declared.peer.Counts.{Counts}
use Rattle.ot_base.specs.declared.peer.Row.{Row}
use Rattle.tracker_core.proofs.Moves.{all_counts-push, placed_calls-push}
use Rattle.tracker_core.proofs.ScrapedRows.{scraped_rows-push}
use Rattle.tracker_core.specs.HttpText.{scraped_row, scraped_rows}
use Rattle.tracker_core.specs.UdpText.{all_counts}
use Rattle.tracker_model.specs.Making.{Makes, MakingRelation}
use Rattle.tracker_model.specs.Placed.{bucket_for, bucket_in, placed_calls}
use Rattle.tracker_model.specs.declared.answer.Answer.{Answer}
use Rattle.tracker_model.specs.declared.answer.Answer.TheVariants.{Stats}
use Rattle.tracker_model.specs.declared.call.Call.{Call}
use Rattle.tracker_model.specs.declared.call.Call.TheVariants.{Scrape}
use Rattle.request_handler.specs.Making.{Gives, MakesFront}
use Rattle.request_handler.proofs.Made.{Makes-push}

-- a scrape of each torrent, in its bucket
abbrev pub scrapes : (bits : ℕ) → List InfoHash → List (ℕ × Call)
scrapes bits hashes = placed_calls (bucket_in bits) (map Scrape hashes)

-- one more comes last
scrapes_more : (bits : ℕ) (hashes : List InfoHash) (i : ℕ) (none : InfoHash) → i < length hashes
    → scrapes bits (take (i + 1) hashes) ≡ scrapes bits (take i hashes) ++ (bucket_in bits (get_or hashes i none), Scrape (get_or hashes i none)) ∷ []
scrapes_more bits hashes i none within =
    ap (placed_calls (bucket_in bits)) (map_more Scrape hashes i none within)
    ∙ placed_calls-push (bucket_in bits) (map Scrape (take i hashes)) (Scrape (get_or hashes i none))

-- the first scrapes are those of the first torrents
take-scrapes : (bits : ℕ) (hashes : List InfoHash) (n : ℕ) → take n (scrapes bits hashes) ≡ scrapes bits (take n hashes)
take-scrapes bits hashes n =
    take-map (λ call. (bucket_for (bucket_in bits) call, call)) n (map Scrape hashes) ∙ ap (placed_calls (bucket_in bits)) (take-map Scrape n hashes)

module _ {T : Type 0} (made : MakingRelation T) where
  -- after the first torrents one more was scraped, of a tracker that has as many bits as before
  makes_more : (minute : Minute) (old middle new : T) (bits now : ℕ) (hashes : List InfoHash) (i : ℕ) (none : InfoHash) (answers : List Answer) (answer : Answer)
      → i < length hashes → now ≡ bits → Makes made minute old (scrapes bits (take i hashes)) answers middle
      → made middle (bucket_in now (get_or hashes i none)) minute (Scrape (get_or hashes i none)) answer new
      → Makes made minute old (scrapes bits (take (i + 1) hashes)) (answers ++ answer ∷ []) new
  makes_more minute old middle new bits now hashes i none answers answer within same makes one =
      let hash = get_or hashes i none in
      let One : ℕ → Type 0 = λ b. made middle (bucket_in b hash) minute (Scrape hash) answer new in
      let All : List (ℕ × Call) → Type 0 = λ placed. Makes made minute old placed (answers ++ answer ∷ []) new in
      subst All (sym (scrapes_more bits hashes i none within))
      (Makes-push made minute old middle new (scrapes bits (take i hashes)) (bucket_in bits hash) (Scrape hash) answers answer makes (subst One same one))

  -- its counts come last
  pub counts_more : (minute : Minute) (old middle new : T) (bits now : ℕ) (hashes : List InfoHash) (i : ℕ) (none : InfoHash) (counts longer : List Counts) (c : Counts) (known : Bool)
      → i < length hashes → now ≡ bits → Gives made minute old (scrapes bits (take i hashes)) all_counts middle counts
      → made middle (bucket_in now (get_or hashes i none)) minute (Scrape (get_or hashes i none)) (Stats c known) new → longer ≡ counts ++ c ∷ []
      → Gives made minute old (scrapes bits (take (i + 1) hashes)) all_counts new longer
  counts_more minute old middle new bits now hashes i none counts longer c known within same gives one is = record {
    answers = gives.answers ++ Stats c known ∷ [];
    makes = makes_more minute old middle new bits now hashes i none gives.answers (Stats c known) within same gives.makes one;
    came = all_counts-push gives.answers counts c known gives.came ∙ ap Some (sym is);
  }

  -- its row comes last, if it has one
  pub rows_more : (minute : Minute) (old middle new : T) (bits now : ℕ) (hashes : List InfoHash) (i : ℕ) (none : InfoHash) (rows row longer : List Row)
      → i < length hashes → now ≡ bits → Gives made minute old (scrapes bits (take i hashes)) (scraped_rows (take i hashes)) middle rows
      → (answer : Answer) × made middle (bucket_in now (get_or hashes i none)) minute (Scrape (get_or hashes i none)) answer new × (scraped_row (get_or hashes i none) answer ≡ Some row)
      → longer ≡ rows ++ row
      → Gives made minute old (scrapes bits (take (i + 1) hashes)) (scraped_rows (take (i + 1) hashes)) new longer
  rows_more minute old middle new bits now hashes i none rows row longer within same gives one is =
      let hash = get_or hashes i none in
      let Came : List InfoHash → Type 0 = λ hs. scraped_rows hs (gives.answers ++ one.0 ∷ []) ≡ Some longer in record {
        answers = gives.answers ++ one.0 ∷ [];
        makes = makes_more minute old middle new bits now hashes i none gives.answers one.0 within same gives.makes one.1;
        came = subst Came (sym (take_more hashes i none within)) (scraped_rows-push (take i hashes) gives.answers hash one.0 rows row gives.came one.2 ∙ ap Some (sym is));
      }

  -- of all scrapes the first ones were made
  pub front_more : (minute : Minute) (old middle new : T) (bits now : ℕ) (hashes : List InfoHash) (i : ℕ) (none : InfoHash) (answers : List Answer) (answer : Answer)
      → i < length hashes → now ≡ bits → Makes made minute old (scrapes bits (take i hashes)) answers middle
      → made middle (bucket_in now (get_or hashes i none)) minute (Scrape (get_or hashes i none)) answer new
      → MakesFront made minute old (scrapes bits hashes) new
  front_more minute old middle new bits now hashes i none answers answer within same makes one =
      let Made : List (ℕ × Call) → Type 0 = λ placed. Makes made minute old placed (answers ++ answer ∷ []) new in record {
        count = i + 1;
        answers = answers ++ answer ∷ [];
        makes = subst Made (sym (take-scrapes bits hashes (i + 1))) (makes_more minute old middle new bits now hashes i none answers answer within same makes one);
      }
