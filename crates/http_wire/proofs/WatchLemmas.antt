-- Nothing but empty lines is no head yet.
use Rattle.std.proofs.Common.{◌≡◌, ℕ, ◌+◌, ◌==◌, ◌<◌, Bool, true, false, List, [], ◌∷◌, ◌++◌, length, take, get_or, refl, sym, ap, ◌∙◌, subst, ◌⊎◌, inl, inr, fold, arith}
use Rattle.std.specs.Prelude.{if◌then◌else◌, ◌||◌}
use Rattle.std.proofs.lemmas.Bool.{false≢true, cases_Bool}
use Rattle.std.proofs.lemmas.Bool.Decides.{nat_tests}
use Rattle.std.proofs.lemmas.List.{append_assoc, take_more}
use Rattle.std.proofs.lemmas.List.Sums.{fold-append}
use Rattle.std.proofs.lemmas.List.Folds.{list_any-append}
use Rattle.std.specs.List.{list_any}
use Rattle.std.proofs.lemmas.List.Elements.{All-head}
use Rattle.httparse.specs.Grammar.{LineEnd, crlf, lf, print_end, is_token_byte, IsToken, print_blank, print_version, print_section}
use Rattle.httparse.proofs.GrammarLemmas.{print_request-append}
use Rattle.http_wire.specs.Head.{after_empty_lines, is_bad, is_many, HasNoHead, IsAnswer}
use Rattle.http_wire.specs.Watch.{watch_after, watch_of, ends_line}
use Rattle.http_wire.proofs.WaitLemmas.{waits}
use Rattle.http_wire.specs.declared.head.Head.TheVariants.{More, Bad, Many}
use Rattle.http_wire.specs.declared.watch.Watch.{Watch}
use Rattle.http_wire.specs.declared.watch.Watch.TheVariants.{Empty, Return, Begun}

begun_stays : (bytes : List ℕ) → fold watch_after Begun bytes ≡ Begun
begun_stays [] = refl
begun_stays (b ∷ bytes) = begun_stays bytes

is_thirteen : (b : ℕ) → (b == 13) ≡ true → b ≡ 13
is_thirteen b h = grind (arith, nat_tests)

-- what is left of bytes that are empty lines alone
abbrev IsBlank : List ℕ → Type 0
IsBlank left = (left ≡ []) ⊎ (left ≡ 13 ∷ [])

one_blank : (p q : Bool) (b : ℕ) → (q ≡ true → b ≡ 13) → ((if p then Empty else if q then Return else Begun) ≡ Begun → ⊥)
    → IsBlank (if p then [] else b ∷ [])
one_blank true q b is h = inl refl
one_blank false true b is h = inr (ap (λ x. x ∷ []) (is refl))
one_blank false false b is h = absurd (h refl)

left_by : (p q r : Bool) (c : ℕ) (bytes x y z : List ℕ) → ((fold watch_after Empty (c ∷ bytes) ≡ Begun → ⊥) → IsBlank x)
    → ((fold watch_after Empty bytes ≡ Begun → ⊥) → IsBlank y) → r ≡ (c == 10)
    → (fold watch_after (if p then Empty else if q then Return else Begun) (c ∷ bytes) ≡ Begun → ⊥)
    → IsBlank (if p then x else (if q then (if r then y else z) else z))
left_by true q r c bytes x y z one two e h = one h
left_by false true true c bytes x y z one two e h = two (λ k. h (ap (λ t. fold watch_after (if t then Empty else Begun) bytes) (sym e) ∙ k))
left_by false true false c bytes x y z one two e h =
    absurd (h (ap (λ t. fold watch_after (if t then Empty else Begun) bytes) (sym e) ∙ begun_stays bytes))
left_by false false r c bytes x y z one two e h = absurd (h (begun_stays (c ∷ bytes)))

blank_left : (bytes : List ℕ) → (watch_of bytes ≡ Begun → ⊥) → IsBlank (after_empty_lines bytes)
blank_left [] h = inl refl
blank_left (b ∷ []) h = one_blank (b == 10) (b == 13) b (is_thirteen b) h
blank_left (b ∷ c ∷ bytes) h =
    left_by (b == 10) (b == 13) (c == 10) c bytes (after_empty_lines (c ∷ bytes)) (after_empty_lines bytes) (b ∷ c ∷ bytes)
    (blank_left (c ∷ bytes)) (blank_left bytes) refl h

-- ---- a head begins after empty lines

after-feed : (x : List ℕ) → after_empty_lines (10 ∷ x) ≡ after_empty_lines x
after-feed [] = refl
after-feed (b ∷ x) = refl

after-blank : (ends : List LineEnd) (x : List ℕ) → after_empty_lines (print_blank ends ++ x) ≡ after_empty_lines x
after-blank [] x = refl
after-blank (crlf ∷ ends) x = after-blank ends x
after-blank (lf ∷ ends) x = after-feed (print_blank ends ++ x) ∙ after-blank ends x

is_ten : (b : ℕ) → (b == 10) ≡ true → b ≡ 10
is_ten b h = grind (arith, nat_tests)

token_other : (m c : ℕ) → is_token_byte c ≡ false → ((m == c) ≡ true → m ≡ c) → is_token_byte m ≡ true → (m == c) ≡ false
token_other m c other same token = elim (cases_Bool (m == c)) [
  | inl yes' ↦ absurd (false≢true (sym other ∙ ap is_token_byte (sym (same yes')) ∙ token))
  | inr no' ↦ no'
]

ten_other : is_token_byte 10 ≡ false
unfolding is_token_byte
ten_other = refl

thirteen_other : is_token_byte 13 ≡ false
unfolding is_token_byte
thirteen_other = refl

neither : (p q : Bool) (x z : List ℕ) (y : List ℕ) → p ≡ false → q ≡ false → (if p then x else (if q then y else z)) ≡ z
neither true q x z y e f = absurd (false≢true (sym e))
neither false true x z y e f = absurd (false≢true (sym f))
neither false false x z y e f = refl

after-token : (m n : ℕ) (rest : List ℕ) → is_token_byte m ≡ true → after_empty_lines (m ∷ n ∷ rest) ≡ m ∷ n ∷ rest
after-token m n rest token =
    neither (m == 10) (m == 13) (after_empty_lines (n ∷ rest)) (m ∷ n ∷ rest) (if n == 10 then after_empty_lines rest else m ∷ n ∷ rest)
    (token_other m 10 ten_other (is_ten m) token) (token_other m 13 thirteen_other (is_thirteen m) token)

long_no_blank : (m n : ℕ) (rest left : List ℕ) → left ≡ m ∷ n ∷ rest → IsBlank left → ⊥
long_no_blank m n rest left e (inl none) = let l = ap length (sym e ∙ none) in omega arith
long_no_blank m n rest left e (inr one) = let l = ap length (sym e ∙ one) in omega arith

start_no_blank : (method tail : List ℕ) → IsToken method → IsBlank (after_empty_lines (method ++ 32 ∷ tail)) → ⊥
start_no_blank [] tail h blank = omega (arith, h.0)
start_no_blank (m ∷ []) tail h blank =
    long_no_blank m 32 tail _ (after-token m 32 tail (All-head (λ b. is_token_byte b ≡ true) m [] h.1)) blank
start_no_blank (m ∷ n ∷ method) tail h blank =
    long_no_blank m n (method ++ 32 ∷ tail) _ (after-token m n (method ++ 32 ∷ tail) (All-head (λ b. is_token_byte b ≡ true) m (n ∷ method) h.1)) blank

no_head-blank : (bytes : List ℕ) → IsBlank (after_empty_lines bytes) → HasNoHead bytes
no_head-blank bytes blank = λ head rest reads few.
    let tail = head.target ++ 32 ∷ (print_version head.minor ++ (print_end head.line_end ++ (print_section head.fields head.last ++ rest))) in
    let whole : bytes ≡ print_blank head.blank ++ (head.method ++ 32 ∷ tail) = reads.1 ∙ print_request-append head rest in
    let begins : after_empty_lines bytes ≡ after_empty_lines (head.method ++ 32 ∷ tail) =
    ap after_empty_lines whole ∙ after-blank head.blank (head.method ++ 32 ∷ tail) in
    start_no_blank head.method tail reads.0.method (subst IsBlank begins blank)

answer_blank : (left : List ℕ) → IsBlank left → (if is_bad left then Bad else if is_many left then Many else More) ≡ More
answer_blank left (inl none) = ap (λ l. if is_bad l then Bad else if is_many l then Many else More) none
answer_blank left (inr one) = ap (λ l. if is_bad l then Bad else if is_many l then Many else More) one

-- where no line that isn't empty has begun there is nothing but more to come
not_begun : (bytes : List ℕ) → (watch_of bytes ≡ Begun → ⊥) → IsAnswer bytes More
not_begun bytes h =
    let blank = blank_left bytes h in
    (no_head-blank bytes blank, answer_blank (after_empty_lines bytes) blank)

-- ---- byte by byte

-- these bytes change nothing after those that a watch has taken
abbrev pub Stays : Watch → List ℕ → Type 0
Stays initial piece = (before : List ℕ) → initial ≡ watch_of before → IsAnswer before More → IsAnswer (before ++ piece) More

no_line_end : (w : Watch) (b : ℕ) → (b == 10) ≡ true → ends_line w b ≡ false → w ≡ Begun → ⊥
no_line_end w b line none begun = false≢true (sym none ∙ ap (λ v. ends_line v b) begun ∙ line)

pub watch-piece : (before piece : List ℕ) (initial : Watch) → initial ≡ watch_of before → fold watch_after initial piece ≡ watch_of (before ++ piece)
watch-piece before piece initial e = ap (λ w. fold watch_after w piece) e ∙ sym (fold-append watch_after Empty before piece)

stays_byte : (initial w : Watch) (piece : List ℕ) (b : ℕ) → fold watch_after initial (piece ++ b ∷ []) ≡ w → ends_line w b ≡ false
    → Stays initial piece → Stays initial (piece ++ b ∷ [])
stays_byte initial w piece b is none stays = λ before e h.
    elim (cases_Bool (b == 10)) [
      | inl line ↦ not_begun (before ++ (piece ++ b ∷ [])) (λ begun. no_line_end w b line none (sym is ∙ watch-piece before (piece ++ b ∷ []) initial e ∙ begun))
      | inr other ↦
          subst (λ t. IsAnswer t More) (append_assoc before piece (b ∷ []))
          (waits (before ++ piece) (b ∷ []) (ap (λ p. p || false) other) (stays before e h))
    ]

either : (may ended : Bool) → (may || ended) ≡ false → (may ≡ false) × (ended ≡ false)
either true ended h = absurd (false≢true (sym h))
either false ended h = (refl, h)

pub watch_step : (initial w next : Watch) (piece : List ℕ) (i : ℕ) (may ended now : Bool) → i < length piece → w ≡ fold watch_after initial (take i piece)
    → next ≡ watch_after w (get_or piece i 0) → ended ≡ ends_line next (get_or piece i 0) → now ≡ (may || ended)
    → (may ≡ false → Stays initial (take i piece))
    → (next ≡ fold watch_after initial (take (i + 1) piece)) × (now ≡ false → Stays initial (take (i + 1) piece))
watch_step initial w next piece i may ended now inside so_far is_next is_ended is_now stays =
    let b = get_or piece i 0 in
    let grown = take_more piece i 0 inside in
    let folded : fold watch_after initial (take i piece ++ b ∷ []) ≡ next =
    fold-append watch_after initial (take i piece) (b ∷ []) ∙ ap (λ v. watch_after v b) (sym so_far) ∙ sym is_next in (
      sym folded ∙ ap (fold watch_after initial) (sym grown),
      λ no_change.
          let parts = either may ended (sym is_now ∙ no_change) in
          subst (Stays initial) (sym grown) (stays_byte initial next (take i piece) b folded (sym is_ended ∙ parts.1) (stays parts.0)),
    )

-- a line has ended in these bytes, and the first one has begun
pub record Ended (w : Watch) (piece : List ℕ) : Type 0 where
  pub begun : w ≡ Begun
  pub line_end : list_any (λ b. b == 10) piece ≡ true

ends_begun : (w : Watch) (b : ℕ) → ends_line w b ≡ true → (w ≡ Begun) × ((b == 10) ≡ true)
ends_begun Empty b h = absurd (false≢true h)
ends_begun Return b h = absurd (false≢true h)
ends_begun Begun b h = (refl, h)

or_last : (p q : Bool) → q ≡ true → (p || q) ≡ true
or_last true q h = refl
or_last false q h = h

any_push : (piece : List ℕ) (b : ℕ) → list_any (λ x. x == 10) piece ≡ true → list_any (λ x. x == 10) (piece ++ b ∷ []) ≡ true
any_push piece b h = list_any-append (λ x. x == 10) piece (b ∷ []) ∙ ap (λ p. p || list_any (λ x. x == 10) (b ∷ [])) h

any_last : (piece : List ℕ) (b : ℕ) → (b == 10) ≡ true → list_any (λ x. x == 10) (piece ++ b ∷ []) ≡ true
any_last piece b h =
    list_any-append (λ x. x == 10) piece (b ∷ []) ∙ or_last (list_any (λ x. x == 10) piece) (list_any (λ x. x == 10) (b ∷ [])) (ap (λ p. p || false) h)

ended_byte : (may : Bool) (w next : Watch) (piece : List ℕ) (b : ℕ) → next ≡ watch_after w b → (may || ends_line next b) ≡ true
    → (may ≡ true → Ended w piece) → Ended next (piece ++ b ∷ [])
ended_byte true w next piece b is h was =
    let e = was refl in record { begun = is ∙ ap (λ v. watch_after v b) e.begun; line_end = any_push piece b e.line_end }
ended_byte false w next piece b is h was =
    let e = ends_begun next b h in record { begun = e.0; line_end = any_last piece b e.1 }

pub ended_step : (w next : Watch) (piece : List ℕ) (i : ℕ) (may ended : Bool) → i < length piece → next ≡ watch_after w (get_or piece i 0)
    → ended ≡ ends_line next (get_or piece i 0) → (may ≡ true → Ended w (take i piece)) → (may || ended) ≡ true → Ended next (take (i + 1) piece)
ended_step w next piece i may ended inside is_next is_ended was now =
    subst (Ended next) (sym (take_more piece i 0 inside))
    (ended_byte may w next (take i piece) (get_or piece i 0) is_next (ap (λ p. may || p) (sym is_ended) ∙ now) was)
