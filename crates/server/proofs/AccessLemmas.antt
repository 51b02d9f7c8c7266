-- How the lines of an access list are answered: with nothing.
use Rattle.std.proofs.Common.{ℕ, List, [], refl, subst, inl}
use Rattle.std.specs.Prelude.{◌≡◌, Result, Ok, Err}
use Rattle.access_list.specs.Access.{Listing}
use Rattle.lines.proofs.ReplyLemmas.{Adds-none}
use Rattle.lines.specs.Responses.{Responds}
use Rattle.lines.specs.Streams.{Stream}
use Rattle.lines.specs.declared.responder.Trouble.{Trouble}
use Rattle.lines.specs.declared.responder.Trouble.TheVariants as trouble
use Rattle.server.specs.Access.{ListsLine, ReadsLine, RefusesListLine}
use Rattle.server.specs.declared.access.ListEnd.{ListEnd}

line_responds : (old new : Listing) (line : List ℕ) (held : Stream) (waiting : List ℕ) (result : Result (Unit {0}) (Trouble ListEnd)) → ReadsLine old line new result
    → Responds ListsLine RefusesListLine old new line held held waiting waiting result
line_responds old new line held waiting (Ok u) reads = ([], reads, Adds-none held waiting)
line_responds old new line held waiting (Err (trouble.Refused why)) reads = (reads, Adds-none held waiting)
line_responds old new line held waiting (Err trouble.NoMemory) reads = ([], inl refl, Adds-none held waiting)
line_responds old new line held waiting (Err trouble.WriteFault) reads = absurd reads

-- the same, where the list that is seen is the reader's
pub list_responds : (seen inside new : Listing) (line : List ℕ) (held : Stream) (waiting : List ℕ) (result : Result (Unit {0}) (Trouble ListEnd)) → inside ≡ seen → ReadsLine inside line new result
    → Responds ListsLine RefusesListLine seen new line held held waiting waiting result
list_responds seen inside new line held waiting result is reads =
    let Before : Listing → Type 0 = λ x. Responds ListsLine RefusesListLine x new line held held waiting waiting result in
    subst Before is (line_responds inside new line held waiting result reads)
