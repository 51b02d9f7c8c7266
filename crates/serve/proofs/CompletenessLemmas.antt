-- What is sent to a server is taken up where the outside doesn't fail.
use Rattle.std.proofs.Common.{◌≡◌, ◌∙◌, ℕ, suc, ◌+◌, ◌<◌, ◌≤◌, ◌⊎◌, ◌==◌, ◌&&◌, ◌||◌, Bool, true, false, cond, List, [], ◌∷◌, ◌++◌, ap, append-nil, arith, drop, inl, inr, length, refl, subst, sym, take}
use Rattle.std.specs.Prelude.{Option, Some, None, count_by, if◌then◌else◌, not}
use Rattle.std.specs.List.{list_any, position_or_len}
use Rattle.std.specs.Io.KnownBytes.{Consumes, IsAtEnd}
use Rattle.std.proofs.lemmas.Bool.{cases_lt, false≢true}
use Rattle.std.proofs.lemmas.Bool.Decides.{leb_tells}
use Rattle.std.proofs.lemmas.List.{take-append-le, take_all}
use Rattle.std.proofs.lemmas.List.Folds.{list_any-append}
use Rattle.std.proofs.lemmas.List.Sums.{sum_by-append}
use Rattle.access_list.specs.Access.{Listing}
use Rattle.http_wire.specs.Head.{HasNoHead, IsAnswer, after_empty_lines, answer_without_head, first_line, has_line_end, has_version, is_bad, is_many, without_return}
use Rattle.http_wire.specs.declared.head.Head.{Head}
use Rattle.http_wire.specs.declared.head.Head.TheVariants as head
use Rattle.http_wire.specs.declared.reply.Code.TheVariants.{TooLarge}
use Rattle.httparse.specs.Grammar.{print_request}
use Rattle.ot_base.specs.Address.{family_of}
use Rattle.ot_base.specs.declared.address.Endpoint.{Endpoint}
use Rattle.ot_base.specs.declared.address.Family.TheVariants.{Four, Six}
use Rattle.ot_io.specs.Counts.{Rose}
use Rattle.ot_io.specs.Tales.{Tale}
use Rattle.ot_io.specs.Traffic.{Datagram, Moves, NoneWaits, Traffic, datagram}
use Rattle.shards.specs.Shape.{PassShape}
use Rattle.tracker_core.specs.ConnectionPlan.{head_front, plan_of_head}
use Rattle.tracker_core.specs.declared.connection_plan.ConnectionPlan.{ConnectionPlan}
use Rattle.tracker_core.specs.declared.connection_plan.ConnectionPlan.TheVariants.{More, Rejected}
use Rattle.tracker_core.specs.declared.udp_plan.UdpPlan.TheVariants as planned
use Rattle.serve.specs.Completeness.{BeginsWithHead, IsPlanOfHead, IsRepliedTo, TakesUp, WaitsFirst}
use Rattle.serve.specs.Connection as connection
use Rattle.serve.specs.Connection.{AreFaultsCounted, Asks, ConnectionTerms, code_of}
use Rattle.serve.specs.Datagram.{FaultsAreCounted, Serves, Terms, plan_of}
use Rattle.serve.specs.Reading.{Left}
use Rattle.serve.specs.declared.connection.ConnEnd.{ConnEnd}
use Rattle.serve.specs.declared.connection.ConnEnd.TheVariants as end
use Rattle.serve.specs.declared.datagram.Served.{Served}
use Rattle.serve.specs.declared.datagram.Served.TheVariants as served
use Rattle.serve.proofs.ConnectionLemmas.{has_code}

-- ---- datagrams

some_waits : (wire : Traffic) (wire' : Option Traffic) (came : Datagram) → Moves (Some wire) wire' [] [] → NoneWaits wire' → WaitsFirst wire came → ⊥
some_waits wire None came moves none waits = absurd moves
some_waits wire (Some next) came moves none waits =
    let empty : came ∷ waits.0 ≡ [] = sym waits.1 ∙ moves.0 ∙ none in
    cc

-- the datagram that came is the one that waited first
first_came : (wire : Traffic) (wire' : Option Traffic) (first came : Datagram) (outs : List Datagram) → Moves (Some wire) wire' (came ∷ []) outs → WaitsFirst wire first → came ≡ first
first_came wire None first came outs moves waits = absurd moves
first_came wire (Some next) first came outs moves waits =
    let same : came ∷ next.waiting ≡ first ∷ waits.0 = sym moves.0 ∙ waits.1 in
    cc

two_families : (came first : Datagram) → family_of came.peer.addr ≡ Six → came ≡ first → family_of first.peer.addr ≡ Four → ⊥
two_families came first six same four =
    let both : Six ≡ Four = sym six ∙ ap (λ (d : Datagram). family_of d.peer.addr) same ∙ four in
    cc

pub taken_up : (terms : Terms) (old new : PassShape) (wire : Traffic) (wire' : Option Traffic) (came : Datagram) (faults faults' : ℕ) (served : Served)
    → Serves terms old new (Some wire) wire' served → FaultsAreCounted faults faults' served → (Rose faults faults' → ⊥) → WaitsFirst wire came → family_of came.peer.addr ≡ Four
    → TakesUp terms old new came (Some wire) wire' served
taken_up terms old new wire wire' came faults faults' served.Idle serves counted well waits four = absurd (some_waits wire wire' came serves.1 serves.2 waits)
taken_up terms old new wire wire' came faults faults' served.RecvFault serves counted well waits four = absurd (well counted.1)
taken_up terms old new wire wire' came faults faults' served.Unbuilt serves counted well waits four =
    absurd (two_families serves.0 came serves.1 (first_came wire wire' came serves.0 [] serves.3 waits) four)
taken_up terms old new wire wire' came faults faults' (served.Silent quiet) serves counted well waits four =
    let Quiet : Datagram → Type 0 = λ d. plan_of terms d ≡ planned.Silent quiet in
    subst Quiet (first_came wire wire' came serves.0 [] serves.3 waits) serves.1
taken_up terms old new wire wire' came faults faults' served.Sent serves counted well waits four =
    let Taken : Datagram → Type 0 = λ d. TakesUp terms old new d (Some wire) wire' served.Sent in
    subst Taken (first_came wire wire' came serves.0 (datagram serves.0.peer serves.2 ∷ []) serves.5 waits) (serves.1, serves.2, serves.3, serves.4, serves.5)
taken_up terms old new wire wire' came faults faults' served.SendFault serves counted well waits four = absurd (well counted.1)
taken_up terms old new wire wire' came faults faults' served.NoMemory serves counted well waits four =
    let Taken : Datagram → Type 0 = λ d. TakesUp terms old new d (Some wire) wire' served.NoMemory in
    subst Taken (first_came wire wire' came serves.0 [] serves.5 waits) (serves.1, serves.2, serves.3)

-- ---- lines of a front

abbrev is_end : ℕ → Bool
is_end b = b == 10

-- what follows whole lines changes nothing before them
lines-append : (front rest : List ℕ) → list_any is_end (after_empty_lines front) ≡ true → after_empty_lines (front ++ rest) ≡ after_empty_lines front ++ rest
lines-append [] rest some = absurd (false≢true some)
lines-append (b ∷ []) rest some =
    elim (b == 10) as (λ p. list_any is_end (if p then [] else b ∷ []) ≡ true → p ≡ (b == 10) → after_empty_lines (b ∷ rest) ≡ (if p then [] else b ∷ []) ++ rest) [
      | true ↦ λ any is. absurd (false≢true any)
      | false ↦ λ any is. absurd (false≢true (ap (λ p. p || false) is ∙ any))
    ] some refl
lines-append (b ∷ c ∷ bytes) rest some =
    let one = lines-append (c ∷ bytes) rest in
    let two = lines-append bytes rest in
    elim (b == 10) as (λ p. list_any is_end (if p then after_empty_lines (c ∷ bytes) else if b == 13 then (if c == 10 then after_empty_lines bytes else b ∷ c ∷ bytes) else b ∷ c ∷ bytes) ≡ true
    → (if p then after_empty_lines (c ∷ (bytes ++ rest)) else if b == 13 then (if c == 10 then after_empty_lines (bytes ++ rest) else b ∷ c ∷ (bytes ++ rest)) else b ∷ c ∷ (bytes ++ rest))
    ≡ (if p then after_empty_lines (c ∷ bytes) else if b == 13 then (if c == 10 then after_empty_lines bytes else b ∷ c ∷ bytes) else b ∷ c ∷ bytes) ++ rest) [
      | true ↦ one
      | false ↦ elim (b == 13) as (λ q. list_any is_end (if q then (if c == 10 then after_empty_lines bytes else b ∷ c ∷ bytes) else b ∷ c ∷ bytes) ≡ true
          → (if q then (if c == 10 then after_empty_lines (bytes ++ rest) else b ∷ c ∷ (bytes ++ rest)) else b ∷ c ∷ (bytes ++ rest))
          ≡ (if q then (if c == 10 then after_empty_lines bytes else b ∷ c ∷ bytes) else b ∷ c ∷ bytes) ++ rest) [
            | true ↦ elim (c == 10) as (λ r. list_any is_end (if r then after_empty_lines bytes else b ∷ c ∷ bytes) ≡ true
                → (if r then after_empty_lines (bytes ++ rest) else b ∷ c ∷ (bytes ++ rest)) ≡ (if r then after_empty_lines bytes else b ∷ c ∷ bytes) ++ rest) [
                  | true ↦ two
                  | false ↦ λ any. refl
                ]
            | false ↦ λ any. refl
          ]
    ] some

place-append : (lines rest : List ℕ) → list_any is_end lines ≡ true
    → (position_or_len is_end (lines ++ rest) ≡ position_or_len is_end lines) × (position_or_len is_end lines < length lines)
place-append [] rest some = absurd (false≢true some)
place-append (b ∷ lines) rest some =
    elim (b == 10) as (λ p. (p || list_any is_end lines) ≡ true
    → (cond (not p) (1 + position_or_len is_end (lines ++ rest)) 0 ≡ cond (not p) (1 + position_or_len is_end lines) 0)
    × (cond (not p) (1 + position_or_len is_end lines) 0 < suc (length lines))) [
      | true ↦ λ h. (refl, omega arith)
      | false ↦ λ h. let more = place-append lines rest h in (ap (λ n. 1 + n) more.0, omega (arith, more.1))
    ] some

first_line-append : (lines rest : List ℕ) → list_any is_end lines ≡ true → first_line (lines ++ rest) ≡ first_line lines
first_line-append lines rest some =
    let place = place-append lines rest some in
    ap without_return
    (ap (λ n. take n (lines ++ rest)) place.0 ∙ take-append-le (position_or_len is_end lines) lines rest (omega (arith, place.1)))

and_first : (a b : Bool) → (a && b) ≡ true → a ≡ true
and_first true b h = refl
and_first false b h = absurd (false≢true h)

-- where a front's first line is no request's, the whole's isn't
bad-kept : (lines rest : List ℕ) → is_bad lines ≡ true → is_bad (lines ++ rest) ≡ true
bad-kept lines rest bad =
    let some : list_any is_end lines ≡ true = and_first (has_line_end lines) (not (has_version (first_line lines))) bad in
    let more : list_any is_end (lines ++ rest) ≡ list_any is_end lines = list_any-append is_end lines rest ∙ ap (λ p. p || list_any is_end rest) some ∙ sym some in
    ap (λ p. p && not (has_version (first_line (lines ++ rest)))) more
    ∙ ap (λ l. list_any is_end lines && not (has_version l)) (first_line-append lines rest some)
    ∙ bad

-- where lines are counted there is one
none_counted : (bytes : List ℕ) → list_any is_end bytes ≡ false → count_by is_end bytes ≡ 0
none_counted [] none = refl
none_counted (b ∷ bytes) none =
    let one : cond (b == 10) 1 0 + count_by is_end bytes ≡ 0 =
    elim (b == 10) as (λ p. (p || list_any is_end bytes) ≡ false → cond p 1 0 + count_by is_end bytes ≡ 0) [
      | true ↦ λ h. absurd (false≢true (sym h))
      | false ↦ λ h. omega (arith, none_counted bytes h)
    ] none in
    omega (arith, sum_by-append (λ x. cond (x == 10) 1 0) (b ∷ []) bytes, one)

many_lines : (lines : List ℕ) → is_many lines ≡ true → 67 ≤ count_by is_end lines
many_lines lines many =
    elim (leb_tells 67 (count_by is_end lines)) as (λ t. 67 ≤ count_by is_end lines) [
      | inl many ↦ many.1
      | inr few ↦ absurd (false≢true (sym few.0 ∙ many))
    ]

any_of_many : (lines : List ℕ) → is_many lines ≡ true → list_any is_end lines ≡ true
any_of_many lines many =
    let counted = many_lines lines many in
    elim (list_any is_end lines) as (λ p. list_any is_end lines ≡ p → p ≡ true) [
      | true ↦ λ is. refl
      | false ↦ λ is. absurd (omega (arith, counted, none_counted lines is))
    ] refl

many-kept : (lines rest : List ℕ) → is_many lines ≡ true → is_many (lines ++ rest) ≡ true
many-kept lines rest many =
    elim (leb_tells 67 (count_by is_end (lines ++ rest))) as (λ t. is_many (lines ++ rest) ≡ true) [
      | inl more ↦ more.0
      | inr few ↦ absurd (omega (arith, few.1, many_lines lines many, sum_by-append (λ b. cond (b == 10) 1 0) lines rest))
    ]

-- ---- a front of bytes that begin with a head

-- of two fronts of the same bytes the shorter one begins the longer
shorter_front : (xs ys ms ns : List ℕ) → xs ++ ms ≡ ys ++ ns → length xs ≤ length ys → ys ≡ xs ++ drop (length xs) ys
shorter_front [] ys ms ns same short = refl
shorter_front (x ∷ xs) [] ms ns same short = absurd (omega (arith, short))
shorter_front (x ∷ xs) (y ∷ ys) ms ns same short =
    let heads : x ≡ y = cc in
    let tails : xs ++ ms ≡ ys ++ ns = cc in
    ap (λ b. b ∷ ys) (sym heads) ∙ ap (λ l. x ∷ l) (shorter_front xs ys ms ns tails (omega (arith, short)))

module _ (bytes read left : List ℕ) (all : bytes ≡ read ++ left) (begins : BeginsWithHead bytes) where
  abbrev first : List ℕ
  first = print_request begins.head

  -- where no head was read, less was read than the head that came
  less_read : HasNoHead read → length read < length first
  less_read none =
      elim (cases_lt (length read) (length first)) as (λ t. length read < length first) [
        | inl less ↦ less
        | inr more ↦
            let front = shorter_front first read begins.rest left (sym begins.reads.1 ∙ all) more in
            absurd (none begins.head (drop (length first) read) (begins.reads.0, front) begins.few_fields)
      ]

  head_goes_on : HasNoHead read → first ≡ read ++ drop (length read) first
  head_goes_on none =
      let less = less_read none in
      shorter_front read first left begins.rest (sym all ∙ begins.reads.1) (omega (arith, less))

  not_bad : HasNoHead read → is_bad (after_empty_lines read) ≡ true → ⊥
  not_bad none bad =
      let lines = after_empty_lines read in
      let rest = drop (length read) first in
      let some : list_any is_end lines ≡ true = and_first (has_line_end lines) (not (has_version (first_line lines))) bad in
      let whole : after_empty_lines first ≡ lines ++ rest = ap after_empty_lines (head_goes_on none) ∙ lines-append read rest some in
      false≢true (sym begins.version ∙ ap is_bad whole ∙ bad-kept lines rest bad)

  not_many : HasNoHead read → is_many (after_empty_lines read) ≡ true → ⊥
  not_many none many =
      let lines = after_empty_lines read in
      let rest = drop (length read) first in
      let whole : after_empty_lines first ≡ lines ++ rest = ap after_empty_lines (head_goes_on none) ∙ lines-append read rest (any_of_many lines many) in
      false≢true (sym begins.few_lines ∙ ap is_many whole ∙ many-kept lines rest many)

  -- what no head is awaits more of it
  awaits : (answer : Head) → HasNoHead read → answer_without_head read ≡ answer → answer ≡ head.More
  awaits answer none same =
      let lines = after_empty_lines read in
      elim (is_bad lines) as (λ p. is_bad lines ≡ p → (if p then head.Bad else if is_many lines then head.Many else head.More) ≡ answer → answer ≡ head.More) [
        | true ↦ λ bad is. absurd (not_bad none bad)
        | false ↦ λ bad. elim (is_many lines) as (λ q. is_many lines ≡ q → (if q then head.Many else head.More) ≡ answer → answer ≡ head.More) [
          | true ↦ λ many is. absurd (not_many none many)
          | false ↦ λ many is. sym is
        ] refl
      ] refl same

  -- it isn't long enough to be refused
  plan_awaits : (access : Option Listing) (client : Endpoint) (full : Bool) → HasNoHead read → plan_of_head read access client full head.More ≡ More
  plan_awaits access client full none =
      elim (leb_tells 8192 (length read)) as (λ t. plan_of_head read access client full head.More ≡ More) [
        | inl long ↦ absurd (omega (arith, long.1, less_read none, begins.short))
        | inr short ↦ ap (λ p. if p then Rejected TooLarge else More) short.0
      ]

  -- where nothing is left, the head was read
  all_read : HasNoHead read → left ≡ [] → ⊥
  all_read none empty =
      none begins.head begins.rest (begins.reads.0, sym (all ∙ ap (λ l. read ++ l) empty ∙ append-nil read) ∙ begins.reads.1) begins.few_fields

-- a whole head doesn't await more
whole_plan : (bytes : List ℕ) (access : Option Listing) (client : Endpoint) (full get : Bool) (start stop len : ℕ) → plan_of_head bytes access client full (head.Whole get start stop len) ≡ More → ⊥
whole_plan bytes access client full true start stop len same = cc
whole_plan bytes access client full false start stop len same = cc

-- ---- connections

abbrev Found : List ℕ → Option Listing → Endpoint → Bool → ConnectionPlan → Type 0
Found read access client full plan =
    (get : Bool) × (start : ℕ) × (stop : ℕ) × (len : ℕ)
    × IsAnswer read (head.Whole get start stop len)
    × (plan ≡ plan_of_head read access client full (head.Whole get start stop len))

-- a plan is that of the head, or no head was read and it awaits more
found_or_more : (bytes read left : List ℕ) (access : Option Listing) (client : Endpoint) (full : Bool) (plan : ConnectionPlan) (answer : Head) → bytes ≡ read ++ left → BeginsWithHead bytes
    → IsAnswer read answer → plan ≡ plan_of_head read access client full answer → Found read access client full plan ⊎ (HasNoHead read × (plan ≡ More))
found_or_more bytes read left access client full plan (head.Whole get start stop len) all begins is planned = inl (get, start, stop, len, is, planned)
found_or_more bytes read left access client full plan head.Bad all begins is planned =
    let more : head.Bad ≡ head.More = awaits bytes read left all begins head.Bad is.0 is.1 in
    absurd (cc)
found_or_more bytes read left access client full plan head.Many all begins is planned =
    let more : head.Many ≡ head.More = awaits bytes read left all begins head.Many is.0 is.1 in
    absurd (cc)
found_or_more bytes read left access client full plan head.More all begins is planned =
    inr (is.0, planned ∙ plan_awaits bytes read left all begins access client full is.0)

consumed_all : (bytes read : List ℕ) (left : Left) → Consumes (Some bytes) left read → (rest : List ℕ) × (left ≡ Some rest) × (bytes ≡ read ++ rest)
consumed_all bytes read None consumed = absurd consumed
consumed_all bytes read (Some rest) consumed = (rest, refl, consumed)

-- what was asked is the head's plan, or it awaits more though not all was read
asked : (terms : ConnectionTerms) (link link' : Tale) (plan : ConnectionPlan) (bytes : List ℕ) → Asks terms link link' plan → link.left ≡ Some bytes → BeginsWithHead bytes
    → IsPlanOfHead terms link link' plan ⊎ ((plan ≡ More) × (IsAtEnd link'.left → ⊥))
asked terms link link' plan bytes asks told begins =
    let read = asks.0 in
    let front : head_front read ≡ read = take_all 8192 read asks.2 in
    let From : Left → Type 0 = λ l. Consumes l link'.left read in
    let kept = consumed_all bytes read link'.left (subst From told asks.1) in
    let it = asks.3 in
    let Answer' : List ℕ → Type 0 = λ l. IsAnswer l it.head in
    let Plan : List ℕ → Type 0 = λ l. plan ≡ plan_of_head l terms.access link.client terms.full it.head in
    let Head' : List ℕ → Type 0 = λ l. Found l terms.access link.client terms.full plan in
    elim (found_or_more bytes read kept.0 terms.access link.client terms.full plan it.head kept.2 begins (subst Answer' front it.found) (subst Plan front it.planned))
    as (λ t. IsPlanOfHead terms link link' plan ⊎ ((plan ≡ More) × (IsAtEnd link'.left → ⊥))) [
      | inl found ↦
          let whole = subst Head' (sym front) found in
          inl (record {
            read = read;
            consumed = asks.1;
            get = whole.0;
            start = whole.1;
            stop = whole.2;
            len = whole.3;
            whole = whole.4;
            planned = whole.5;
          })
      | inr more ↦
          inr (
            more.1,
            λ ended.
                let End : Left → Type 0 = λ l. IsAtEnd l in
                all_read bytes read kept.0 kept.2 begins more.0 (subst End kept.1 ended),
          )
    ]

pub replied_to : (terms : ConnectionTerms) (old new : PassShape) (link link' : Tale) (bytes : List ℕ) (ended : ConnEnd) → connection.Serves terms old new link link' ended
    → AreFaultsCounted link.faults link'.faults ended → (Rose link.faults link'.faults → ⊥) → link.left ≡ Some bytes → BeginsWithHead bytes → family_of link.client.addr ≡ Four
    → IsRepliedTo terms old new link link' ended
replied_to terms old new link link' bytes end.Unbuilt serves counted well told begins four =
    let both : Six ≡ Four = sym serves.0 ∙ four in
    absurd (cc)
replied_to terms old new link link' bytes (end.Replied status) serves counted well told begins four =
    elim (asked terms link link' serves.0 bytes serves.1 told begins) as (λ t. IsRepliedTo terms old new link link' (end.Replied status)) [
      | inl plan ↦ (serves.0, plan, serves.2)
      | inr more ↦ absurd (has_code serves.0 status serves.2.2 more.0)
    ]
replied_to terms old new link link' bytes end.Cut serves counted well told begins four =
    elim (asked terms link link' serves.0.0 bytes serves.0.1 told begins) as (λ t. ⊥) [
      | inl plan ↦
          whole_plan (head_front plan.read) terms.access link.client terms.full plan.get plan.start plan.stop plan.len (sym plan.planned ∙ serves.0.2.0)
      | inr more ↦ more.1 serves.1
    ]
replied_to terms old new link link' bytes end.ReadFault serves counted well told begins four = absurd (well counted.1)
replied_to terms old new link link' bytes end.WriteFault serves counted well told begins four = absurd (well counted.1)
replied_to terms old new link link' bytes end.NoMemory serves counted well told begins four = tt
