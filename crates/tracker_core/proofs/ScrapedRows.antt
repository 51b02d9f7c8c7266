-- What callers need of the replies to announces and scrapes: the family of who asks, one more
-- scraped torrent, and that the rows of ascending torrents ascend.
use Rattle.std.proofs.Common.{◌≡◌, true, false, List, [], ◌∷◌, ◌++◌, ◌⊎◌, inl, inr, map, refl, sym, ◌∙◌, ap, subst}
use Rattle.std.specs.Prelude.{Option, Some, None}
use Rattle.std.specs.Option.{option_and_then, option_map}
use Rattle.std.specs.List.Sorted.{IsStrictlySortedBy}
use Rattle.std.specs.declared.cmp.Ordering.TheVariants.{Less}
use Rattle.std.proofs.lemmas.List.{append-nil, append_assoc}
use Rattle.ot_base.specs.Order.{hash_cmp}
use Rattle.ot_base.specs.declared.address.Family.TheVariants.{Four}
use Rattle.ot_base.specs.declared.hash.InfoHash.{InfoHash}
use Rattle.ot_base.specs.declared.peer.Counts.{Counts}
use Rattle.ot_base.specs.declared.peer.Row.{Row}
use Rattle.tracker_model.specs.Calls.{IsWellFormed}
use Rattle.tracker_model.specs.declared.answer.Answer.{Answer}
use Rattle.tracker_model.specs.declared.answer.Answer.TheVariants.{Told, Stats, Rows, Cleaned, Applied, Drained, SwarmFull, BucketFull, NoMemory}
use Rattle.tracker_model.specs.declared.call.Call.{Call}
use Rattle.tracker_model.specs.declared.call.Call.TheVariants.{Announce, Stop, Scrape, Scan, Clean, Sync, Drain}
use Rattle.tracker_core.specs.HttpText.{family_asking, scraped_row, scraped_rows}
use Rattle.tracker_model.specs.Calls.{IsReport}
use Rattle.tracker_core.proofs.OrderLemmas.{AreAbove}

-- for now a peer that reports has an address of IPv4
pub four_asks : (call : Call) → IsReport call → IsWellFormed call → family_asking call ≡ Four
four_asks (Announce hash who seed completed want) report formed = formed.2.1
four_asks (Stop hash who) report formed = formed.1
four_asks (Scrape hash) report formed = absurd report
four_asks Scan report formed = absurd report
four_asks Clean report formed = absurd report
four_asks (Sync hash who mark) report formed = absurd report
four_asks Drain report formed = absurd report

row_of : InfoHash → Counts → Row
row_of hash counts = record { hash = hash; counts = counts }

-- the same of a first answer and the others
with_first : (first : Option (List Row)) (others longer : Option (List Row)) (rows more : List Row)
    → ((rest : List Row) → others ≡ Some rest → longer ≡ Some (rest ++ more))
    → option_and_then (λ x. option_map (λ xs. x ++ xs) others) first ≡ Some rows
    → option_and_then (λ x. option_map (λ xs. x ++ xs) longer) first ≡ Some (rows ++ more)
with_first None others longer rows more push same = absurd (cc)
with_first (Some x) None longer rows more push same = absurd (cc)
with_first (Some x) (Some xs) longer rows more push same =
    let all : x ++ xs ≡ rows = cc in
    ap (option_map (λ ys. x ++ ys)) (push xs refl) ∙ ap Some (sym (append_assoc x xs more) ∙ ap (λ ys. ys ++ more) all)

-- the row of one more scrape, if it has one, comes last
pub scraped_rows-push : (hashes : List InfoHash) (answers : List Answer) (hash : InfoHash) (answer : Answer) (rows more : List Row)
    → scraped_rows hashes answers ≡ Some rows → scraped_row hash answer ≡ Some more
    → scraped_rows (hashes ++ hash ∷ []) (answers ++ answer ∷ []) ≡ Some (rows ++ more)
scraped_rows-push [] [] hash answer rows more before row =
    let none : [] ≡ rows = cc in
    ap (λ (first : Option (List Row)). option_and_then (λ x. option_map (λ xs. x ++ xs) (Some [])) first) row
    ∙ ap Some (append-nil more ∙ ap (λ rs. rs ++ more) none)
scraped_rows-push [] (a ∷ answers) hash answer rows more before row = absurd (cc)
scraped_rows-push (h ∷ hashes) [] hash answer rows more before row = absurd (cc)
scraped_rows-push (h ∷ hashes) (a ∷ answers) hash answer rows more before row =
    with_first (scraped_row h a) (scraped_rows hashes answers) (scraped_rows (hashes ++ hash ∷ []) (answers ++ answer ∷ [])) rows more
    (λ rest is. scraped_rows-push hashes answers hash answer rest more is row) before

-- the rows of more answers are those after the first, with the row of the first or without
record Follows (hash : InfoHash) (others : Option (List Row)) (rows : List Row) : Type 0 where
  tail : List Row
  are : others ≡ Some tail
  is_first : (rows ≡ tail) ⊎ ((counts : Counts) × (rows ≡ row_of hash counts ∷ tail))

no_row : (hash : InfoHash) (others : Option (List Row)) (rows : List Row) → option_and_then (λ x. option_map (λ xs. x ++ xs) others) None ≡ Some rows → Follows hash others rows
no_row hash others rows same = absurd (let p : ⊥ = cc in p)

with_row : (hash : InfoHash) (counts : Counts) (others : Option (List Row)) (rows : List Row)
    → option_map (λ xs. row_of hash counts ∷ [] ++ xs) others ≡ Some rows → Follows hash others rows
with_row hash counts None rows same = absurd (let p : ⊥ = cc in p)
with_row hash counts (Some xs) rows same =
    let all : row_of hash counts ∷ xs ≡ rows = cc in
    record { tail = xs; are = refl; is_first = inr (counts, sym all) }

without_row : (hash : InfoHash) (others : Option (List Row)) (rows : List Row) → option_map (λ xs. [] ++ xs) others ≡ Some rows → Follows hash others rows
without_row hash None rows same = absurd (let p : ⊥ = cc in p)
without_row hash (Some xs) rows same = let all : xs ≡ rows = cc in record { tail = xs; are = refl; is_first = inl (sym all) }

follows : (hash : InfoHash) (answer : Answer) (others : Option (List Row)) (rows : List Row)
    → option_and_then (λ x. option_map (λ xs. x ++ xs) others) (scraped_row hash answer) ≡ Some rows → Follows hash others rows
unfolding row_of
follows hash (Stats counts true) others rows same = with_row hash counts others rows same
follows hash (Stats counts false) others rows same = without_row hash others rows same
follows hash (Told counts peers) others rows same = no_row hash others rows same
follows hash (SwarmFull count) others rows same = no_row hash others rows same
follows hash (BucketFull count) others rows same = no_row hash others rows same
follows hash NoMemory others rows same = no_row hash others rows same
follows hash (Rows all) others rows same = no_row hash others rows same
follows hash (Cleaned held) others rows same = no_row hash others rows same
follows hash Applied others rows same = no_row hash others rows same
follows hash (Drained notes dropped) others rows same = no_row hash others rows same

hashes_in : List Row → List InfoHash
hashes_in rows = map (λ (row : Row). row.hash) rows

-- what is above a hash stays so
above_by : (z hash : InfoHash) (others : Option (List Row)) (rows : List Row) (f : Follows hash others rows) → hash_cmp z hash ≡ Less
    → AreAbove z (hashes_in f.tail) → AreAbove z (hashes_in rows)
unfolding hashes_in row_of
above_by z hash others rows f first rest =
    let Above : List Row → Type 0 = λ rs. AreAbove z (map (λ (row : Row). row.hash) rs) in
    elim f.is_first [ inl same ↦ subst Above (sym same) rest | inr found ↦ subst Above (sym found.1) (first, rest) ]

rows_above : (z : InfoHash) (hashes : List InfoHash) (answers : List Answer) (rows : List Row) → AreAbove z hashes → scraped_rows hashes answers ≡ Some rows
    → AreAbove z (hashes_in rows)
unfolding hashes_in
rows_above z [] [] rows above same = let Above : List Row → Type 0 = λ rs. AreAbove z (map (λ (row : Row). row.hash) rs) in let none : [] ≡ rows = cc in subst Above none tt
rows_above z [] (a ∷ answers) rows above same = absurd (let p : ⊥ = cc in p)
rows_above z (h ∷ hashes) [] rows above same = absurd (let p : ⊥ = cc in p)
rows_above z (h ∷ hashes) (a ∷ answers) rows above same =
    let f = follows h a (scraped_rows hashes answers) rows same in
    above_by z h (scraped_rows hashes answers) rows f above.0 (rows_above z hashes answers f.tail above.1 f.are)

ascend_by : (hash : InfoHash) (others : Option (List Row)) (rows : List Row) (f : Follows hash others rows) → AreAbove hash (hashes_in f.tail)
    → IsStrictlySortedBy hash_cmp (hashes_in f.tail) → IsStrictlySortedBy hash_cmp (hashes_in rows)
unfolding hashes_in row_of IsStrictlySortedBy
ascend_by hash others rows f above rest =
    let Sorted : List Row → Type 0 = λ rs. IsStrictlySortedBy hash_cmp (map (λ (row : Row). row.hash) rs) in
    elim f.is_first [ inl same ↦ subst Sorted (sym same) rest | inr found ↦ subst Sorted (sym found.1) (above, rest) ]

-- the rows of ascending torrents ascend
pub scraped_rows-ascend : (hashes : List InfoHash) (answers : List Answer) (rows : List Row) → IsStrictlySortedBy hash_cmp hashes
    → scraped_rows hashes answers ≡ Some rows → IsStrictlySortedBy hash_cmp (map (λ row. row.hash) rows)
unfolding hashes_in IsStrictlySortedBy
scraped_rows-ascend [] [] rows sorted same =
    let Sorted : List Row → Type 0 = λ rs. IsStrictlySortedBy hash_cmp (map (λ (row : Row). row.hash) rs) in
    let none : [] ≡ rows = cc in subst Sorted none tt
scraped_rows-ascend [] (a ∷ answers) rows sorted same = absurd (let p : ⊥ = cc in p)
scraped_rows-ascend (h ∷ hashes) [] rows sorted same = absurd (let p : ⊥ = cc in p)
scraped_rows-ascend (h ∷ hashes) (a ∷ answers) rows sorted same =
    let f = follows h a (scraped_rows hashes answers) rows same in
    ascend_by h (scraped_rows hashes answers) rows f (rows_above h hashes answers f.tail sorted.0 f.are)
    (scraped_rows-ascend hashes answers f.tail sorted.1 f.are)
