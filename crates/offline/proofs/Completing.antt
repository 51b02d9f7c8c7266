-- An input none of whose lines is refused where it stands: a whole access list, where there is to
-- be one, and records.
use Rattle.std.proofs.Common.{◌≡◌, ℕ, ◌+◌, ◌≤◌, List, [], ◌∷◌, ◌++◌, Bool, true, false, length, refl, sym, ◌∙◌, ap, subst, arith, length-append}
use Rattle.std.specs.Prelude.{All, Option, Some, None, Result, Ok, Err, IsOk, is_some, nat_le, not, ◌&&◌, if◌then◌else◌}
use Rattle.std.specs.List.{AllByRecursion}
use Rattle.std.specs.Option.{option_to_list}
use Rattle.std.proofs.lemmas.Bool.{lt-leb}
use Rattle.std.proofs.lemmas.List.Elements.{All-head, All-tail}
use Rattle.access_list.specs.Access.{AreAccessLines, Listing, fault_of, hash_named, hashes_named, is_line, most_hashes}
use Rattle.lines.proofs.Complete.{IsShortLine}
use Rattle.ot_base.specs.declared.access.AccessFault.{AccessFault}
use Rattle.ot_base.specs.declared.access.AccessFault.TheVariants.{Line, Many}
use Rattle.ot_base.specs.declared.access.Mode.{Mode}
use Rattle.ot_base.specs.declared.fault.TraceFault.{TraceFault}
use Rattle.ot_base.specs.declared.hash.InfoHash.{InfoHash}
use Rattle.ot_io.specs.declared.settings.ReplaySettings.{ReplaySettings}
use Rattle.ot_io.specs.declared.status.LineFault.TheVariants.{Trace}
use Rattle.trace_text.specs.Trace.{line_of}
use Rattle.trace_text.specs.declared.line.TraceLine.{TraceLine}
use Rattle.tracker_model.specs.declared.entry.Entry.{Entry}
use Rattle.offline.specs.Command.{AreInput, IsRecord}
use Rattle.offline.specs.Replay.{IsAnswered, IsEndRefused, IsRefused, ListsLine, ReplayState, listing, answering, list_end, state_before}
use Rattle.offline.specs.declared.command.Fault.{Fault}
use Rattle.offline.specs.declared.command.Fault.TheVariants as because

IsFalse : Bool → Type 0
IsFalse false = Unit {0}
IsFalse true = ⊥

different : false ≡ true → ⊥
unfolding IsFalse
different e = subst IsFalse e tt

IsEmpty : List (List ℕ) → Type 0
IsEmpty [] = Unit {0}
IsEmpty (line ∷ lines) = ⊥

not_empty : (line : List ℕ) (lines : List (List ℕ)) → [] ≡ line ∷ lines → ⊥
unfolding IsEmpty
not_empty line lines e = subst IsEmpty e tt

-- what is left of an access list behind these hashes, its end, and records
pub record ListGoesOn (read : List InfoHash) (lines : List (List ℕ)) : Type 0 where
  pub list : List (List ℕ)
  pub trace : List (List ℕ)
  pub cut : lines ≡ list ++ list_end ∷ trace
  pub each : All (λ line. is_line line ≡ true) list
  pub few : length read + length (hashes_named list) ≤ most_hashes
  pub recorded : AllByRecursion IsRecord trace

-- none of these lines is refused from this state on
abbrev pub IsGoodFrom : ReplayState → List (List ℕ) → Type 0
IsGoodFrom (listing list) lines = ListGoesOn list.hashes lines
IsGoodFrom (answering access histories) lines = AllByRecursion IsRecord lines

-- a line by what it is, the hash that it names and how many were named before it
judged_accepts : (formed : Bool) (hash : Option InfoHash) (count : ℕ) → formed ≡ true → count + length (option_to_list hash) ≤ most_hashes
    → (if not formed then Some Line else if is_some hash && nat_le most_hashes count then Some Many else None) ≡ None
judged_accepts formed None count is few = rw is refl
judged_accepts formed (Some hash) count is few = rw (is, lt-leb most_hashes count (omega arith)) refl

accepted : (read : List InfoHash) (line : List ℕ) → is_line line ≡ true → length read + length (option_to_list (hash_named line)) ≤ most_hashes → fault_of read line ≡ None
accepted read line is few = judged_accepts (is_line line) (hash_named line) (length read) is few

named_first : (line : List ℕ) (lines : List (List ℕ)) → length (hashes_named (line ∷ lines)) ≡ length (option_to_list (hash_named line)) + length (hashes_named lines)
named_first line lines = length-append (option_to_list (hash_named line)) (hashes_named lines)

-- the end of a list is none of its lines
end_is_no_line : is_line list_end ≡ false
end_is_no_line = refl

head_of : List (List ℕ) → List ℕ
head_of [] = []
head_of (line ∷ lines) = line

tail_of : List (List ℕ) → List (List ℕ)
tail_of [] = []
tail_of (line ∷ lines) = lines

same_head : (a b : List ℕ) (xs ys : List (List ℕ)) → a ∷ xs ≡ b ∷ ys → a ≡ b
unfolding head_of
same_head a b xs ys e = ap head_of e

same_tail : (a b : List ℕ) (xs ys : List (List ℕ)) → a ∷ xs ≡ b ∷ ys → xs ≡ ys
unfolding tail_of
same_tail a b xs ys e = ap tail_of e

-- the list goes on behind a line of it
list_goes_on : (read : Listing) (longer : Listing) (line : List ℕ) (lines list trace : List (List ℕ)) → line ∷ lines ≡ list ++ list_end ∷ trace → All (λ l. is_line l ≡ true) list
    → length read.hashes + length (hashes_named list) ≤ most_hashes → AllByRecursion IsRecord trace → ListsLine read line longer → ListGoesOn longer.hashes lines
list_goes_on read longer line lines [] trace cut each few recorded lists = absurd (lists.goes_on (same_head line list_end lines trace cut))
list_goes_on read longer line lines (first ∷ list) trace cut each few recorded lists =
    let same = same_head line first lines (list ++ list_end ∷ trace) cut in
    let count : length longer.hashes ≡ length read.hashes + length (option_to_list (hash_named line)) =
    ap (λ (l : Listing). length l.hashes) lists.listed ∙ length-append read.hashes (option_to_list (hash_named line)) in
    let named : length (option_to_list (hash_named line)) ≡ length (option_to_list (hash_named first)) = ap (λ l. length (option_to_list (hash_named l))) same in
    record {
      list = list;
      trace = trace;
      cut = same_tail line first lines (list ++ list_end ∷ trace) cut;
      each = All-tail (λ l. is_line l ≡ true) first list each;
      few = omega (arith, count, named, named_first first list, few);
      recorded = recorded;
    }

-- the records follow behind its end
records_follow : (line : List ℕ) (lines list trace : List (List ℕ)) → line ∷ lines ≡ list ++ list_end ∷ trace → All (λ l. is_line l ≡ true) list → AllByRecursion IsRecord trace → line ≡ list_end → AllByRecursion IsRecord lines
records_follow line lines [] trace cut each recorded is =
    let Recorded : List (List ℕ) → Type 0 = λ xs. AllByRecursion IsRecord xs in
    subst Recorded (sym (same_tail line list_end lines trace cut)) recorded
records_follow line lines (first ∷ list) trace cut each recorded is =
    let formed : is_line first ≡ true = All-head (λ l. is_line l ≡ true) first list each in
    let ends : first ≡ list_end = sym (same_head line first lines (list ++ list_end ∷ trace) cut) ∙ is in
    absurd (different (sym end_is_no_line ∙ ap is_line (sym ends) ∙ formed))

pub goes_on : (s : ReplaySettings) (state next : ReplayState) (line text : List ℕ) (lines : List (List ℕ)) → IsGoodFrom state (line ∷ lines) → IsAnswered s state line text next → IsGoodFrom next lines
goes_on s (listing read) (listing longer) line text lines good answered = list_goes_on read longer line lines good.list good.trace good.cut good.each good.few good.recorded answered.1
goes_on s (listing read) (answering access histories) line text lines good answered = records_follow line lines good.list good.trace good.cut good.each good.recorded answered.1
goes_on s (answering access histories) (listing read) line text lines good answered = absurd answered
goes_on s (answering access histories) (answering access' next) line text lines good answered = good.1

-- neither a line of the list nor its end is refused
list_unrefused : (read : List InfoHash) (line : List ℕ) (lines list trace : List (List ℕ)) (why : AccessFault) → line ∷ lines ≡ list ++ list_end ∷ trace → All (λ l. is_line l ≡ true) list
    → length read + length (hashes_named list) ≤ most_hashes → (line ≡ list_end → ⊥) → fault_of read line ≡ Some why → ⊥
list_unrefused read line lines [] trace why cut each few goes refused = goes (same_head line list_end lines trace cut)
list_unrefused read line lines (first ∷ list) trace why cut each few goes refused =
    let same = same_head line first lines (list ++ list_end ∷ trace) cut in
    let room : length read + length (option_to_list (hash_named first)) ≤ most_hashes = omega (arith, named_first first list, few) in
    let none : fault_of read first ≡ None = accepted read first (All-head (λ l. is_line l ≡ true) first list each) room in
    let both : Some why ≡ None = sym refused ∙ ap (λ l. fault_of read l) same ∙ none in
    cc both

-- a record isn't refused
record_unrefused : (r : Result TraceLine TraceFault) (fault : TraceFault) → IsOk r → r ≡ Err fault → ⊥
record_unrefused (Ok p) fault ok is = let Holds : Result TraceLine TraceFault → Type 0 = λ x. IsOk x in different (subst Holds is ok)
record_unrefused (Err e) fault ok is = different ok

pub unrefused : (state : ReplayState) (line : List ℕ) (lines : List (List ℕ)) (why : Fault) → IsGoodFrom state (line ∷ lines) → IsRefused state line why → ⊥
unrefused (listing read) line lines (because.List fault) good refused = list_unrefused read.hashes line lines good.list good.trace fault good.cut good.each good.few refused.0 refused.1
unrefused (listing read) line lines (because.Line fault) good refused = refused
unrefused (answering access histories) line lines (because.List fault) good refused = refused
unrefused (answering access histories) line lines (because.Line (Trace fault)) good refused = record_unrefused (line_of line) fault good.0.1 refused

list_ended : (list trace : List (List ℕ)) → [] ≡ list ++ list_end ∷ trace → ⊥
list_ended [] trace cut = not_empty list_end trace cut
list_ended (first ∷ list) trace cut = not_empty first (list ++ list_end ∷ trace) cut

pub closes : (state : ReplayState) (why : Fault) → IsGoodFrom state [] → IsEndRefused state why → ⊥
closes (listing read) why good refused = list_ended good.list good.trace good.cut
closes (answering access histories) why good refused = refused

-- the lines of an input are good from the first state on
pub good_input : (bits : ℕ) (access : Option Mode) (lines : List (List ℕ)) → AreInput access lines → IsGoodFrom (state_before bits access) lines
good_input bits None lines input = input
good_input bits (Some mode) lines input = record {
  list = input.list;
  trace = input.trace;
  cut = input.cut;
  each = input.listed.each;
  few = omega (arith, input.listed.few);
  recorded = input.recorded;
}

short_records : (lines : List (List ℕ)) → AllByRecursion IsRecord lines → AllByRecursion IsShortLine lines
short_records [] records = tt
short_records (line ∷ lines) records = (records.0.0, short_records lines records.1)

short_lists : (list trace : List (List ℕ)) → AllByRecursion IsShortLine list → AllByRecursion IsRecord trace → AllByRecursion IsShortLine (list ++ list_end ∷ trace)
short_lists [] trace short records = ((omega arith), short_records trace records)
short_lists (line ∷ list) trace short records = (short.0, short_lists list trace short.1 records)

-- and none of them is too long
pub short_input : (access : Option Mode) (lines : List (List ℕ)) → AreInput access lines → AllByRecursion IsShortLine lines
short_input None lines input = short_records lines input
short_input (Some mode) lines input =
    let Short : List (List ℕ) → Type 0 = λ xs. AllByRecursion IsShortLine xs in
    subst Short (sym input.cut) (short_lists input.list input.trace input.short input.recorded)
