-- What one line of an access list names, and when it is refused.
use Rattle.std.proofs.Common.{◌≡◌, ℕ, ◌≤◌, ◌+◌, List, [], ◌∷◌, ◌++◌, Bool, true, false, length, inl}
use Rattle.std.proofs.Common.{inr, refl, sym, ap, subst, ◌∙◌, arith}
use Rattle.std.specs.Prelude.{Result, Ok, Err, Option, Some, None, IsOk, IsSome, ◌↔◌, ◌&&◌, not}
use Rattle.std.specs.Prelude.{is_some, nat_le, if◌then◌else◌}
use Rattle.std.specs.List.{AllPass}
use Rattle.std.specs.Option.{option_map, option_to_list}
use Rattle.std.specs.Result.{result_ok}
use Rattle.std.proofs.lemmas.Bool.{eqb-true, lt-leb}
use Rattle.std.proofs.lemmas.Bool.Decides.{leb_tells}
use Rattle.std.proofs.lemmas.Grind.{flat_map-append}
use Rattle.std.proofs.lemmas.List.{append-nil, length-append}
use Rattle.std.proofs.lemmas.List.Elements.{All-pop, All-push}
use Rattle.hex.specs.Hex.{decode_sized, is_hex_digit}
use Rattle.hex.specs.declared.error.FromHexError.{FromHexError}
use Rattle.hex.proofs.HexLemmas.{IsOk-decode_sized}
use Rattle.ot_base.specs.declared.hash.InfoHash.{InfoHash}
use Rattle.access_list.specs.Access.{AreAccessLines, Listing, fault_of, hash_named, hash_of}
use Rattle.access_list.specs.Access.{hashes_named, is_line, is_remark, most_hashes}
use Rattle.ot_base.specs.declared.access.AccessFault.{AccessFault}
use Rattle.ot_base.specs.declared.access.AccessFault.TheVariants.{Line, Many}

some_from_ok : (r : Result (List ℕ) FromHexError)
    → IsSome (option_map hash_of (result_ok r)) ↔ IsOk r
some_from_ok (Ok bytes) = (λ h. refl, λ h. refl)
some_from_ok (Err e) = (λ h. cc h, λ h. cc h)

-- a line names a hash exactly where it is 40 hex digits
pub hash_digits : (line : List ℕ)
    → IsSome (hash_named line) ↔ ((length line ≡ 40) × AllPass is_hex_digit line)
hash_digits line =
    let some = some_from_ok (decode_sized line 20) in
    let digits = IsOk-decode_sized line 20 in
    (λ h. digits.0 (some.0 h), λ h. some.1 (digits.1 h))

none_named : (o : Option InfoHash) → (IsSome o → ⊥) → o ≡ None
none_named (Some hash) h = absurd (h refl)
none_named None h = refl

-- what names nothing names no hash
pub remark_names_none : (line : List ℕ) → is_remark line ≡ true → hash_named line ≡ None
remark_names_none [] remark = refl
remark_names_none (first ∷ rest) remark =
    none_named (hash_named (first ∷ rest)) (λ h.
    let digit = ((hash_digits (first ∷ rest)).0 h).1 0 first (omega arith) in
    let sign = eqb-true first 35 remark in
    let none : is_hex_digit 35 ≡ true = subst (λ n. is_hex_digit n ≡ true) sign digit in
    cc none)

pub remark_accepted : (before : List InfoHash) (line : List ℕ) → is_remark line ≡ true
    → fault_of before line ≡ None
remark_accepted before line remark = rw (remark, remark_names_none line remark) refl

-- so its reading adds nothing
pub remark_adds_none : (list : Listing) (line : List ℕ) → is_remark line ≡ true
    → list ≡ record { mode = list.mode; hashes = list.hashes ++ option_to_list (hash_named line) }
remark_adds_none list line remark =
    let none = ap (λ o. list.hashes ++ option_to_list o) (remark_names_none line remark) in
    let with : List InfoHash → Listing = λ hashes. record { mode = list.mode; hashes = hashes } in
    ap with (sym (none ∙ append-nil list.hashes))

-- a line by what it is, the hash that it names and how many were named before it
abbrev judged : Bool → Option InfoHash → ℕ → Option AccessFault
judged formed hash count =
    if not formed then Some Line
    else if is_some hash && nat_le most_hashes count then Some Many
    else None

judged_accepts : (formed : Bool) (hash : Option InfoHash) (count : ℕ) → formed ≡ true
    → count + length (option_to_list hash) ≤ most_hashes → judged formed hash count ≡ None
judged_accepts formed None count is few = rw is refl
judged_accepts formed (Some hash) count is few =
    rw (is, lt-leb most_hashes count (omega arith)) refl

judged_accepted : (formed : Bool) (hash : Option InfoHash) (count : ℕ)
    → judged formed hash count ≡ None → count ≤ most_hashes
    → (formed ≡ true) × (count + length (option_to_list hash) ≤ most_hashes)
judged_accepted false hash count accepted few = cc accepted
judged_accepted true None count accepted few = (refl, omega arith)
judged_accepted true (Some hash) count accepted few =
    elim (leb_tells most_hashes count) [
      | inl full ↦
          let refused = ap (λ b. if b then Some Many else None) full.0 in
          let many : Some Many ≡ None = sym refused ∙ accepted in
          cc many
      | inr room ↦ (refl, omega arith)
    ]

pub named_more : (lines : List (List ℕ)) (line : List ℕ)
    → hashes_named (lines ++ line ∷ []) ≡ hashes_named lines ++ option_to_list (hash_named line)
named_more lines line =
    flat_map-append (λ l. option_to_list (hash_named l)) lines (line ∷ [])
    ∙ ap (λ t. hashes_named lines ++ t) (append-nil (option_to_list (hash_named line)))

-- one line more, and it isn't refused
pub one_more : (lines : List (List ℕ)) (line : List ℕ)
    → AreAccessLines (lines ++ line ∷ [])
    ↔ (AreAccessLines lines × (fault_of (hashes_named lines) line ≡ None))
one_more lines line =
    let P : List ℕ → Type 0 = λ l. is_line l ≡ true in
    let last = option_to_list (hash_named line) in
    let count = length (hashes_named lines) in
    let more = ap length (named_more lines line) ∙ length-append (hashes_named lines) last in
    let accepts = judged_accepts (is_line line) (hash_named line) count in
    let accepted = judged_accepted (is_line line) (hash_named line) count in (
      λ all.
          let parts = All-pop P (lines ++ line ∷ []) lines (Some line) refl all.each in (
            record { each = parts.0; few = omega (arith, more, all.few) },
            accepts parts.1 (omega (arith, more, all.few)),
          ),
      λ both.
          let good = accepted both.1 both.0.few in
          record {
            each = All-push P lines line both.0.each good.0;
            few = omega (arith, more, good.1);
          },
    )
