-- Path and pairs of a request target (BEP 3, BEP 48), and decimal numbers.
use Rattle.std.specs.Prelude.{ℕ, ◌^◌, ◌==◌, ◌&&◌, nat_lt, if◌then◌else◌, List, [], ◌∷◌, length, map, filter, codes, Option, Some, None}
use Rattle.std.specs.Char.{is_ascii_digit}
use Rattle.std.specs.List.{before_first, after_first, slice_split, flat_map, list_all}
use Rattle.std.specs.Str.{bytes_eq}
use Rattle.std.specs.Str.Parse.{digits_value}
use Rattle.percent_encoding.specs.Percent.{percent_decode}
use Rattle.query_read.specs.declared.target.Target.{Target}
use Rattle.query_read.specs.declared.target.Target.TheVariants.{Announce, Scrape, Other}

-- a decoded name and its decoded value
abbrev pub Pair : Type 0
Pair = List ℕ × List ℕ

-- the name is what stands before the first `=` (61), the value what follows, nothing where none
-- does
abbrev pub pair_of : List ℕ → Pair
pair_of piece = (
  percent_decode (before_first (λ b. b == 61) piece),
  percent_decode (after_first (λ b. b == 61) piece),
)

-- an empty piece is skipped
abbrev pub pairs_of_piece : List ℕ → List Pair
pairs_of_piece [] = []
pairs_of_piece (b ∷ piece) = pair_of (b ∷ piece) ∷ []

-- a query is cut at each `&` (38)
abbrev pub pairs_of : List ℕ → List Pair
pairs_of query = flat_map pairs_of_piece (slice_split (λ b. b == 38) query)

-- the path is what stands before the first `?` (63), the query what follows
abbrev pub path_of : List ℕ → List ℕ
path_of target = before_first (λ b. b == 63) target

abbrev pub query_of : List ℕ → List Pair
query_of target = pairs_of (after_first (λ b. b == 63) target)

abbrev pub target_of : List ℕ → Target
target_of target =
    if bytes_eq (path_of target) (codes "/announce") then Announce (query_of target)
    else if bytes_eq (path_of target) (codes "/scrape") then Scrape (query_of target)
    else Other

-- the values of the pairs of a name, in order
abbrev pub values_of : List Pair → List ℕ → List (List ℕ)
values_of pairs name = map (λ (p : Pair). p.1) (filter (λ (p : Pair). bytes_eq p.0 name) pairs)

-- the number that decimal digits write, where it has at most 64 bits
abbrev pub number_of : List ℕ → Option ℕ
number_of text =
    if nat_lt 0 (length text) && list_all is_ascii_digit text
    && nat_lt (digits_value 10 text) (2 ^ 64)
    then Some (digits_value 10 text)
    else None
