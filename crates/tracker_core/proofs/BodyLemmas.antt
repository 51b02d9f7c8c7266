-- The bodies are canonical: their trees, and that these are valid.
use Rattle.std.proofs.Common.{◌≡◌, ℕ, ◌^◌, ◌*◌, ◌<◌, ◌≤◌, false, List, [], ◌∷◌, ◌++◌, ◌+◌, All, length, get_or, take, map, refl, sym, ◌∙◌, ap, subst, arith, lit<, lit≤}
use Rattle.std.specs.Prelude.{IsTrue, Option, Some, None, codes, decimal, flat_map, ⊤}
use Rattle.std.specs.List.{AllByRecursion}
use Rattle.std.specs.List.Sorted.{IsStrictlySortedBy}
use Rattle.std.specs.Fmt.{digits}
use Rattle.std.specs.Ordering.{is_lt}
use Rattle.std.specs.declared.cmp.Ordering.TheVariants.{Less}
use Rattle.std.proofs.lemmas.List.{append-nil, append_assoc, take_more}
use Rattle.std.proofs.lemmas.List.Concat.{flat_map-cons}
use Rattle.std.proofs.lemmas.List.Elements.{All-append, All-cons, All-head, All-nil, All-tail}
use Rattle.ot_base.specs.Order.{hash_cmp}
use Rattle.ot_base.specs.Refusal.{refusal_text}
use Rattle.ot_base.specs.declared.address.Endpoint.{Endpoint}
use Rattle.ot_base.specs.declared.address.Family.{Family}
use Rattle.ot_base.specs.declared.address.Family.TheVariants.{Four, Six}
use Rattle.ot_base.specs.declared.peer.Counts.{Counts}
use Rattle.ot_base.specs.declared.peer.Row.{Row}
use Rattle.ot_base.specs.declared.refusal.Refusal.{Refusal}
use Rattle.ot_base.specs.declared.refusal.Refusal.TheVariants.{ConnectionId, Action, MissingHash, BadHash, MissingPort, BadPort, Denied, SwarmFull, TrackerFull}
use Rattle.udp_wire.specs.Packets.{peer_bytes}
use Rattle.udp_wire.specs.Replies.{IsOf32Bits}
use Rattle.bencode_text.specs.Bencode.{Value, Entries, integer, string, dictionary, no_entries, entry, entries_text, entries_depth, value_text, value_depth, is_above, Ascend, IsCanonical, IsValid, string_text}
use Rattle.bencode_text.proofs.DraftLemmas.{IsInteger-decimal, IsString-decimal}
use Rattle.bencode_text.proofs.KnownDecimals.{known_decimals, decimal_5, decimal_20}
use Rattle.tracker_core.specs.HttpText.{IsRow, counts_text, failure_body, peer_len_of, peers_key, peers_text, row_text, scrape_body, string_of, told_body}

number : ℕ → Value
number n = integer false (decimal n)

text : List ℕ → Value
text bytes = string (decimal (length bytes)) bytes

-- an entry before others
put : List ℕ → Value → Entries → Entries
put key v more = entry (decimal (length key)) key v more

counts_entries : Counts → Entries → Entries
counts_entries counts more =
    put (codes "complete") (number counts.complete)
    (put (codes "downloaded") (number counts.downloaded)
    (put (codes "incomplete") (number counts.incomplete) more))

counts_entries-text : (counts : Counts) (more : Entries) → entries_text (counts_entries counts more) ≡ counts_text counts ++ entries_text more
unfolding counts_entries counts_text put number
counts_entries-text counts more = simp (known_decimals, append_assoc)

counts_entries-ascend : (counts : Counts) (more : Entries) → IsOf32Bits counts → Ascend more (Some (codes "incomplete")) → Ascend (counts_entries counts more) None
unfolding counts_entries put number
counts_entries-ascend counts more small rest = (
  IsString-decimal (codes "complete") (lit< tt),
  refl,
  IsInteger-decimal counts.complete (omega (arith, small.complete)),
  (
    IsString-decimal (codes "downloaded") (lit< tt),
    refl,
    IsInteger-decimal counts.downloaded (omega (arith, small.downloaded)),
    (IsString-decimal (codes "incomplete") (lit< tt), refl, IsInteger-decimal counts.incomplete (omega (arith, small.incomplete)), rest),
  ),
)

-- why a request is refused
refusal_small : (why : Refusal) → length (refusal_text why) < 2 ^ 64
refusal_small ConnectionId = lit< tt
refusal_small Action = lit< tt
refusal_small MissingHash = lit< tt
refusal_small BadHash = lit< tt
refusal_small MissingPort = lit< tt
refusal_small BadPort = lit< tt
refusal_small Denied = lit< tt
refusal_small SwarmFull = lit< tt
refusal_small TrackerFull = lit< tt

pub failure_canonical : (why : Refusal) → IsCanonical (failure_body why)
unfolding failure_body put text
failure_canonical why = record {
  tree = dictionary (put (codes "failure reason") (text (refusal_text why)) no_entries);
  valid = (IsString-decimal (codes "failure reason") (lit< tt), refl, IsString-decimal (refusal_text why) (refusal_small why), tt);
  depth = lit≤ tt;
  text = simp (known_decimals, append_assoc);
}

decimal_0 : decimal 0 ≡ 48 ∷ []
unfolding digits
decimal_0 = refl

decimal_6 : decimal 6 ≡ 54 ∷ []
unfolding digits
decimal_6 = refl

-- when a peer is to announce again, and other peers, after the counts
peers_entries : Family → List ℕ → Entries
peers_entries Four bytes = put (codes "peers") (text bytes) no_entries
peers_entries Six bytes = put (codes "peers") (text []) (put (codes "peers6") (text bytes) no_entries)

rest_entries : Family → List ℕ → Entries
rest_entries family bytes = put (codes "interval") (number 1800) (put (codes "min interval") (number 900) (peers_entries family bytes))

rest_entries-text : (family : Family) (bytes : List ℕ)
    → entries_text (rest_entries family bytes) ≡ codes "8:intervali1800e12:min intervali900e" ++ (peers_key family ++ string_of bytes)
unfolding rest_entries peers_entries put number text
rest_entries-text Four bytes = simp (known_decimals, append_assoc, append-nil)
rest_entries-text Six bytes = simp (known_decimals, decimal_0, decimal_6, append_assoc, append-nil)

peers_entries-ascend : (family : Family) (bytes : List ℕ) → length bytes < 2 ^ 64 → Ascend (peers_entries family bytes) (Some (codes "min interval"))
unfolding peers_entries put text
peers_entries-ascend Four bytes short = (IsString-decimal (codes "peers") (lit< tt), refl, IsString-decimal bytes short, tt)
peers_entries-ascend Six bytes short = (
  IsString-decimal (codes "peers") (lit< tt),
  refl,
  IsString-decimal [] (lit< tt),
  (IsString-decimal (codes "peers6") (lit< tt), refl, IsString-decimal bytes short, tt),
)

rest_entries-ascend : (family : Family) (bytes : List ℕ) → length bytes < 2 ^ 64 → Ascend (rest_entries family bytes) (Some (codes "incomplete"))
unfolding rest_entries put number
rest_entries-ascend family bytes short = (
  IsString-decimal (codes "interval") (lit< tt),
  refl,
  IsInteger-decimal 1800 (lit< tt),
  (IsString-decimal (codes "min interval") (lit< tt), refl, IsInteger-decimal 900 (lit< tt), peers_entries-ascend family bytes short),
)

rest_entries-depth : (family : Family) (bytes : List ℕ) → entries_depth (rest_entries family bytes) ≡ 0
unfolding rest_entries peers_entries put number text
rest_entries-depth Four bytes = refl
rest_entries-depth Six bytes = refl

told_depth : (counts : Counts) (more : Entries) → entries_depth more ≡ 0 → value_depth (dictionary (counts_entries counts more)) ≤ 64
unfolding counts_entries put number
told_depth counts more flat = omega arith

told_text : (counts : Counts) (family : Family) (bytes : List ℕ)
    → codes "d" ++ (counts_text counts ++ (codes "8:intervali1800e12:min intervali900e" ++ ((peers_key family ++ string_of bytes) ++ codes "e")))
    ≡ value_text (dictionary (counts_entries counts (rest_entries family bytes)))
told_text counts family bytes =
    let rest = rest_entries family bytes in
    sym (ap (λ t. 100 ∷ (t ++ 101 ∷ [])) (counts_entries-text counts rest ∙ ap (λ t. counts_text counts ++ t) (rest_entries-text family bytes))
    ∙ simp append_assoc)

pub told_canonical : (family : Family) (counts : Counts) (peers : List Endpoint) → IsOf32Bits counts → length (flat_map peer_bytes peers) < 2 ^ 64
    → IsCanonical (told_body family counts peers)
unfolding told_body peers_text
told_canonical family counts peers small short =
    let bytes = flat_map peer_bytes peers in
    let rest = rest_entries family bytes in
    record {
      tree = dictionary (counts_entries counts rest);
      valid = counts_entries-ascend counts rest small (rest_entries-ascend family bytes short);
      depth = told_depth counts rest (rest_entries-depth family bytes);
      text = told_text counts family bytes;
    }

-- so few peers take few bytes
pub short_peers : (family : Family) (peers : List Endpoint) → length peers ≤ 200 → length (flat_map peer_bytes peers) ≡ peer_len_of family * length peers
    → length (flat_map peer_bytes peers) < 2 ^ 64
short_peers Four peers few long = omega arith
short_peers Six peers few long = omega arith

-- the rows of a scrape, each a key with a dictionary
row_value : Counts → Value
row_value counts = dictionary (counts_entries counts no_entries)

rows_entries : List Row → Entries
rows_entries [] = no_entries
rows_entries (row ∷ rows) = put row.hash.0 (row_value row.counts) (rows_entries rows)

row_value-text : (counts : Counts) → value_text (row_value counts) ≡ codes "d" ++ (counts_text counts ++ codes "e")
unfolding row_value
row_value-text counts = ap (λ t. 100 ∷ (t ++ 101 ∷ [])) (counts_entries-text counts no_entries ∙ append-nil (counts_text counts))

row_entry-text : (row : Row) (more : List ℕ) → IsRow row
    → string_text (decimal (length row.hash.0)) row.hash.0 ++ (value_text (row_value row.counts) ++ more) ≡ row_text row ++ more
unfolding row_text
row_entry-text row more typed =
    ap (λ n. string_text (decimal n) row.hash.0 ++ (value_text (row_value row.counts) ++ more)) typed.hash
    ∙ ap (λ digits. string_text digits row.hash.0 ++ (value_text (row_value row.counts) ++ more)) decimal_20
    ∙ ap (λ t. string_text (50 ∷ 48 ∷ []) row.hash.0 ++ (t ++ more)) (row_value-text row.counts)
    ∙ simp append_assoc

rows_entries-text : (rows : List Row) → AllByRecursion IsRow rows → entries_text (rows_entries rows) ≡ flat_map row_text rows
unfolding rows_entries put
rows_entries-text [] typed = refl
rows_entries-text (row ∷ rows) typed =
    row_entry-text row (entries_text (rows_entries rows)) typed.0
    ∙ ap (λ t. row_text row ++ t) (rows_entries-text rows typed.1)
    ∙ sym (flat_map-cons row_text row rows)

row_value-depth : (counts : Counts) → value_depth (row_value counts) ≡ 1
unfolding row_value counts_entries put number
row_value-depth counts = refl

rows_entries-depth : (rows : List Row) → entries_depth (rows_entries rows) ≤ 1
unfolding rows_entries put
rows_entries-depth [] = lit≤ tt
rows_entries-depth (row ∷ rows) =
    let rest = rows_entries-depth rows in
    let here = row_value-depth row.counts in
    omega arith

row_value-valid : (counts : Counts) → IsOf32Bits counts → IsValid (row_value counts)
unfolding row_value
row_value-valid counts small = counts_entries-ascend counts no_entries small tt

-- a first row is above the last key
abbrev FirstAbove : Option (List ℕ) → List Row → Type 0
FirstAbove last [] = ⊤
FirstAbove last (row ∷ rows) = IsTrue (is_above last row.hash.0)

next_above : (row : Row) (rows : List Row) → AllByRecursion (λ h. hash_cmp row.hash h ≡ Less) (map (λ (r : Row). r.hash) rows)
    → FirstAbove (Some row.hash.0) rows
next_above row [] below = tt
next_above row (next ∷ rows) below = ap is_lt below.0

rows_entries-ascend : (rows : List Row) (last : Option (List ℕ)) → AllByRecursion IsRow rows → IsStrictlySortedBy hash_cmp (map (λ (row : Row). row.hash) rows)
    → FirstAbove last rows → Ascend (rows_entries rows) last
unfolding rows_entries put IsStrictlySortedBy
rows_entries-ascend [] last typed sorted above = tt
rows_entries-ascend (row ∷ rows) last typed sorted above = (
  IsString-decimal row.hash.0 (omega (arith, typed.0.hash)),
  above,
  row_value-valid row.counts typed.0.counts,
  rows_entries-ascend rows (Some row.hash.0) typed.1 sorted.1 (next_above row rows sorted.0),
)

first_above : (rows : List Row) → FirstAbove None rows
first_above [] = tt
first_above (row ∷ rows) = refl

scrape_depth : (rows : List Row) → value_depth (dictionary (put (codes "files") (dictionary (rows_entries rows)) no_entries)) ≤ 64
unfolding put
scrape_depth rows = let rest = rows_entries-depth rows in omega arith

files_text : (files rows : List ℕ) → files ≡ 53 ∷ []
    → codes "d5:filesd" ++ (rows ++ codes "ee")
    ≡ 100 ∷ ((string_text files (codes "files") ++ ((100 ∷ (rows ++ 101 ∷ [])) ++ [])) ++ 101 ∷ [])
files_text files rows e = rw e (simp (append_assoc, append-nil))

-- one more row
pub typed_more : (rows : List Row) (i : ℕ) (d : Row) → i < length rows → All IsRow (take i rows) → IsRow (get_or rows i d) → All IsRow (take (i + 1) rows)
typed_more rows i d inside before one =
    subst (All IsRow) (sym (take_more rows i d inside))
    (All-append IsRow (take i rows) (get_or rows i d ∷ []) before (All-cons IsRow (get_or rows i d) [] one (All-nil IsRow)))

each_row : (rows : List Row) → All IsRow rows → AllByRecursion IsRow rows
each_row [] all = tt
each_row (row ∷ rows) all = (All-head IsRow row rows all, each_row rows (All-tail IsRow row rows all))

pub scrape_canonical : (rows : List Row) → All IsRow rows → IsStrictlySortedBy hash_cmp (map (λ row. row.hash) rows) → IsCanonical (scrape_body rows)
unfolding scrape_body put
scrape_canonical rows all sorted =
    let typed = each_row rows all in
    record {
      tree = dictionary (put (codes "files") (dictionary (rows_entries rows)) no_entries);
      valid = (IsString-decimal (codes "files") (lit< tt), refl, rows_entries-ascend rows None typed sorted (first_above rows), tt);
      depth = scrape_depth rows;
      text =
          ap (λ t. codes "d5:filesd" ++ (t ++ codes "ee")) (sym (rows_entries-text rows typed))
          ∙ files_text (decimal 5) (entries_text (rows_entries rows)) decimal_5;
    }
