-- Output lines that are added in pieces.
use Rattle.std.proofs.Common.{◌≡◌, ◌/◌, ◌%◌, ℕ, List, [], ◌∷◌, ◌++◌, append_assoc, refl, sym, ◌∙◌, ap, subst, arith, take, drop}
use Rattle.std.specs.Prelude.{Option, Result, Ok, Err, OnOk, OnErr, slice_index}
use Rattle.std.proofs.lemmas.List.{take-append-drop}
use Rattle.hex.specs.Hex.{encode_lower, encode_with, lower_digits}
use Rattle.lines.specs.Replies.{Adds, Loses}
use Rattle.lines.proofs.ReplyLemmas.{Adds-trans, Adds-Loses, Adds-none}
use Rattle.lines.specs.Streams.{IsLaterSink}
use Rattle.ot_io.specs.Content.{Aside}
use Rattle.lines.specs.Text.{line_end}
use Rattle.offline.specs.Records.{reply_line}

-- the digits of some bytes and then of others
pub encode_with-append : (digits xs ys : List ℕ) → encode_with digits (xs ++ ys) ≡ encode_with digits xs ++ encode_with digits ys
unfolding encode_with
encode_with-append digits [] ys = refl
encode_with-append digits (x ∷ xs) ys =
    ap (λ more. slice_index digits (x / 16) ∷ slice_index digits (x % 16) ∷ more) (encode_with-append digits xs ys)

-- where the outside failed, what was to come is lost too
pub Loses-more : (a b : Option (List ℕ)) (bytes more : List ℕ) → Loses a b bytes → Loses a b (bytes ++ more)
Loses-more a b bytes more loses = record {
  sent = loses.sent;
  lost = loses.lost ++ more;
  gone = loses.gone;
  front = ap (λ xs. xs ++ more) loses.front ∙ append_assoc loses.sent loses.lost more;
}

pub on_err : {A E P : Type 0} (r : Result A E) → P → OnErr r P
on_err (Ok x) p = tt
on_err (Err e) p = p

-- a sink later than another, and no later
pub later_none : {O : Type 0} (faults : O → ℕ) (aside : O → Aside) (a : O) → IsLaterSink faults aside a a
later_none faults aside a = record { counted = omega arith; stays = refl }

pub later_trans : {O : Type 0} (faults : O → ℕ) (aside : O → Aside) (a b c : O) → IsLaterSink faults aside a b → IsLaterSink faults aside b c → IsLaterSink faults aside a c
later_trans faults aside a b c first second = record { counted = omega (arith, first.counted, second.counted); stays = second.stays ∙ first.stays }

-- the bytes are those before, a piece of the rest, and what is left of it
pub cut_again : (bytes done rest piece after : List ℕ) (n : ℕ) → bytes ≡ done ++ rest → piece ≡ take n rest → after ≡ drop n rest → bytes ≡ done ++ (piece ++ after)
cut_again bytes done rest piece after n all front back =
    all ∙ ap (λ xs. done ++ xs) (sym (take-append-drop n rest) ∙ ap (λ xs. xs ++ drop n rest) (sym front) ∙ ap (λ xs. piece ++ xs) (sym back))

-- no digits were added
pub none_added : (a : Option (List ℕ)) (waiting : List ℕ) → Adds a a waiting waiting (encode_lower [])
unfolding encode_with
none_added a waiting = Adds-none a waiting

-- the digits of one more piece were added
pub digits_added : (a b c : Option (List ℕ)) (waiting waiting' waiting'' done piece digits : List ℕ)
    → Adds a b waiting waiting' (encode_lower done) → digits ≡ encode_lower piece → Adds b c waiting' waiting'' digits
    → Adds a c waiting waiting'' (encode_lower (done ++ piece))
digits_added a b c waiting waiting' waiting'' done piece digits first is second =
    let Added : List ℕ → Type 0 = λ xs. Adds a c waiting waiting'' xs in
    subst Added (ap (λ xs. encode_lower done ++ xs) is ∙ sym (encode_with-append lower_digits done piece))
    (Adds-trans a b c waiting waiting' waiting'' (encode_lower done) digits first second)

-- the outside failed while those of one more piece were added
pub digits_lost : (a b c : Option (List ℕ)) (waiting waiting' bytes done piece rest digits : List ℕ)
    → bytes ≡ done ++ (piece ++ rest) → Adds a b waiting waiting' (encode_lower done) → digits ≡ encode_lower piece → Loses b c (waiting' ++ digits)
    → Loses a c (waiting ++ encode_lower bytes)
digits_lost a b c waiting waiting' bytes done piece rest digits cut first is second =
    let Lost : List ℕ → Type 0 = λ xs. Loses a c (waiting ++ xs) in
    let all : (encode_lower done ++ digits) ++ encode_lower rest ≡ encode_lower bytes =
    append_assoc (encode_lower done) digits (encode_lower rest)
    ∙ ap (λ xs. encode_lower done ++ (xs ++ encode_lower rest)) is
    ∙ ap (λ xs. encode_lower done ++ xs) (sym (encode_with-append lower_digits piece rest))
    ∙ sym (encode_with-append lower_digits done (piece ++ rest))
    ∙ ap encode_lower (sym cut) in
    let Whole : List ℕ → Type 0 = λ xs. Loses a c xs in
    subst Lost all (subst Whole (append_assoc waiting (encode_lower done ++ digits) (encode_lower rest))
    (Loses-more a c (waiting ++ (encode_lower done ++ digits)) (encode_lower rest)
    (Adds-Loses a b c waiting waiting' (encode_lower done) digits first second)))

-- the whole line of a reply was added
pub line_added : {A E : Type 0} (a b c d : Option (List ℕ)) (waiting waiting' waiting'' waiting''' reply : List ℕ) (r : Result A E)
    → Adds a b waiting waiting' (82 ∷ 32 ∷ []) → Adds b c waiting' waiting'' (encode_lower reply) → OnOk r (Adds c d waiting'' waiting''' (line_end ∷ []))
    → OnOk r (Adds a d waiting waiting''' (reply_line reply))
line_added a b c d waiting waiting' waiting'' waiting''' reply (Ok x) first second third =
    Adds-trans a b d waiting waiting' waiting''' (82 ∷ 32 ∷ []) (encode_lower reply ++ line_end ∷ []) first
    (Adds-trans b c d waiting' waiting'' waiting''' (encode_lower reply) (line_end ∷ []) second third)
line_added a b c d waiting waiting' waiting'' waiting''' reply (Err e) first second third = tt

-- the outside failed in the first part, in the digits, or in the end
pub first_lost : (a b : Option (List ℕ)) (waiting reply : List ℕ) → Loses a b (waiting ++ 82 ∷ 32 ∷ []) → Loses a b (waiting ++ reply_line reply)
first_lost a b waiting reply loses =
    let Whole : List ℕ → Type 0 = λ xs. Loses a b xs in
    subst Whole (append_assoc waiting (82 ∷ 32 ∷ []) (encode_lower reply ++ line_end ∷ [])) (Loses-more a b (waiting ++ 82 ∷ 32 ∷ []) (encode_lower reply ++ line_end ∷ []) loses)

pub middle_lost : (a b c : Option (List ℕ)) (waiting waiting' reply : List ℕ) → Adds a b waiting waiting' (82 ∷ 32 ∷ []) → Loses b c (waiting' ++ encode_lower reply) → Loses a c (waiting ++ reply_line reply)
middle_lost a b c waiting waiting' reply first loses =
    let Whole : List ℕ → Type 0 = λ xs. Loses b c xs in
    Adds-Loses a b c waiting waiting' (82 ∷ 32 ∷ []) (encode_lower reply ++ line_end ∷ []) first
    (subst Whole (append_assoc waiting' (encode_lower reply) (line_end ∷ [])) (Loses-more b c (waiting' ++ encode_lower reply) (line_end ∷ []) loses))

pub last_lost : {A E : Type 0} (a b c d : Option (List ℕ)) (waiting waiting' waiting'' reply : List ℕ) (r : Result A E)
    → Adds a b waiting waiting' (82 ∷ 32 ∷ []) → Adds b c waiting' waiting'' (encode_lower reply) → OnErr r (Loses c d (waiting'' ++ line_end ∷ []))
    → OnErr r (Loses a d (waiting ++ reply_line reply))
last_lost a b c d waiting waiting' waiting'' reply (Ok x) first second third = tt
last_lost a b c d waiting waiting' waiting'' reply (Err e) first second third =
    Adds-Loses a b d waiting waiting' (82 ∷ 32 ∷ []) (encode_lower reply ++ line_end ∷ []) first
    (Adds-Loses b c d waiting' waiting'' (encode_lower reply) (line_end ∷ []) second third)
