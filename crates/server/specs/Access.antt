-- How the access list is read that a server's input begins with.
use Rattle.std.specs.Prelude.{◌≡◌, ◌≢◌, ℕ, List, [], ◌++◌, codes, Option, Some, None}
use Rattle.std.specs.Prelude.{Result, Ok, Err}
use Rattle.std.specs.Option.{option_to_list}
use Rattle.access_list.specs.Access.{Listing, fault_of, hash_named, is_admitted}
use Rattle.lines.specs.Run.{RunsLines}
use Rattle.lines.specs.declared.responder.Trouble.{Trouble}
use Rattle.lines.specs.declared.responder.Trouble.TheVariants as trouble
use Rattle.lines.specs.declared.run.Ending.{Ending}
use Rattle.lines.specs.declared.run.Ending.TheVariants as ending
use Rattle.ot_base.specs.declared.access.AccessFault.TheVariants as fault
use Rattle.ot_base.specs.declared.access.Mode.{Mode}
use Rattle.ot_base.specs.declared.hash.InfoHash.{InfoHash}
use Rattle.ot_io.specs.Counts.{Rose}
use Rattle.ot_io.specs.declared.status.Status.{Status}
use Rattle.ot_io.specs.declared.status.Status.TheVariants as status
use Rattle.server.specs.declared.access.ListEnd.{ListEnd}
use Rattle.server.specs.declared.access.ListEnd.TheVariants.{Whole, Refused}

-- the line that ends the list
abbrev pub list_end : List ℕ
list_end = codes "end"

-- a list of which no line has been read
abbrev pub empty_list : Mode → Listing
empty_list mode = record { mode = mode; hashes = [] }

-- another line is one of the list, which is longer then by the hash that it names, if any; nothing
-- is written
abbrev pub ListsLine : Listing → List ℕ → List ℕ → Listing → Type 0
ListsLine list line text longer =
    (text ≡ []) × (line ≢ list_end) × (fault_of list.hashes line ≡ None)
    × (longer ≡ record list { hashes = list.hashes ++ option_to_list (hash_named line) })

-- the line ends the list, or it is refused with this fault
abbrev pub RefusesListLine : Listing → List ℕ → ListEnd → Type 0
RefusesListLine list line Whole = line ≡ list_end
RefusesListLine list line (Refused why) =
    (line ≢ list_end) × (fault_of list.hashes line ≡ Some why)

-- a line was read, or it ends the list, or it is refused, or there was no memory for it
abbrev pub ReadsLine : Listing → List ℕ → Listing → Result (Unit {0}) (Trouble ListEnd) → Type 0
ReadsLine list line longer (Ok u) = ListsLine list line [] longer
ReadsLine list line longer (Err (trouble.Refused why)) = RefusesListLine list line why
ReadsLine list line longer (Err trouble.NoMemory) = Unit {0}
ReadsLine list line longer (Err trouble.WriteFault) = ⊥

-- the input can't end in the list
abbrev pub MayListEnd : Listing → Type 0
MayListEnd list = ⊥

abbrev pub RefusesEnd : Listing → ListEnd → Type 0
RefusesEnd list Whole = ⊥
RefusesEnd list (Refused why) = why ≡ fault.Line

-- the status of a list whose reading ended so, where there is no list
abbrev pub list_status : Ending ListEnd → Status
list_status ending.Done = status.NoMemory
list_status (ending.Refused n Whole) = status.NoMemory
list_status (ending.Refused n (Refused why)) = status.List n why
list_status (ending.TooLong n) = status.TooLong n
list_status ending.TooMuch = status.TooMuch
list_status ending.ReadFault = status.ReadFault
list_status ending.WriteFault = status.NoMemory
list_status ending.NoMemory = status.NoMemory

-- The whole list was read, and admits what its lines say; or there is none, and the status says
-- why.
abbrev pub IsListOf : Listing → Ending ListEnd → Result Listing Status → Type 0
IsListOf read end (Ok list) =
    (n : ℕ) × (end ≡ ending.Refused n Whole)
    × ((hash : InfoHash) → is_admitted list hash ≡ is_admitted read hash)
IsListOf read end (Err why) = why ≡ list_status end

-- The lines of the input were read one after another as those of a list of this mode, however the
-- source cut them, up to the list's end or to what ended the reading.
abbrev pub ReadsList : (Ended : Type 0) → Mode → (left left' : Option (List ℕ))
    → Result Listing Status → Type 0
ReadsList Ended mode left left' result =
    (read : Listing) × (end : Ending ListEnd)
    × RunsLines Ended ListsLine RefusesListLine MayListEnd RefusesEnd left left' None None
    (empty_list mode) read end
    × IsListOf read end result

-- Why there is no list: where the input failed its count rose.
abbrev pub IsListCaused : (reads reads' : ℕ) → Status → Type 0
IsListCaused reads reads' status.ReadFault = Rose reads reads'
IsListCaused reads reads' status.NoMemory = Unit {0}
IsListCaused reads reads' (status.TooLong n) = Unit {0}
IsListCaused reads reads' status.TooMuch = Unit {0}
IsListCaused reads reads' (status.List n why) = Unit {0}
IsListCaused reads reads' status.Done = ⊥
IsListCaused reads reads' (status.Words at) = ⊥
IsListCaused reads reads' status.WriteFault = ⊥
IsListCaused reads reads' (status.Line n why) = ⊥
IsListCaused reads reads' status.Device = ⊥
