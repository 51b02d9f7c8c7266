-- The run of the whole program.
use Rattle.std.specs.Prelude.{◌≡◌, ◌≢◌, ℕ, ◌⊎◌, List, Option, Result, MatchResult}
use Rattle.std.specs.Io.KnownBytes.{IsAtEnd}
use Rattle.std.specs.declared.io.ErrorKind.{ErrorKind}
use Rattle.std.specs.declared.io.ErrorKind.TheVariants as kinds
use Rattle.command_line.specs.Words.{command_of}
use Rattle.command_line.specs.declared.words.Command.{Command}
use Rattle.command_line.specs.declared.words.Command.TheVariants as command
use Rattle.command_line.specs.declared.words.WordsFault.{WordsFault}
use Rattle.command_line.specs.declared.words.WordsFault.TheVariants.{At}
use Rattle.drill.specs.Run.{Writes}
use Rattle.load_model.specs.Text.{load_text}
use Rattle.offline.specs.Command.{ReplayRun, settings_of}
use Rattle.ot_io.specs.Counts.{Rose}
use Rattle.ot_io.specs.Lending.{Lent}
use Rattle.ot_io.specs.Tales.{ListenerTale}
use Rattle.ot_io.specs.Traffic.{WireTale}
use Rattle.ot_io.specs.declared.settings.ServeSettings.{ServeSettings}
use Rattle.ot_io.specs.declared.status.Status.{Status}
use Rattle.ot_io.specs.declared.status.Status.TheVariants as ended
use Rattle.server.specs.Devices.{IsShut}
use Rattle.server.specs.Run.{IsServeCaused, RunsServer, TellsList}

-- the status of words that can't be read
abbrev pub words_status : WordsFault → Status
words_status (At at) = ended.Words at

module _ {S O N : Type 0} (left : S → Option (List ℕ)) (ends reads : S → ℕ)
    (written : O → Option (List ℕ)) (writes : O → ℕ)
    (wires_lent : N → Option (Lent WireTale)) (listeners_lent : N → Option (Lent ListenerTale))
    (makes : N → ℕ) where
  -- Words are refused, and nothing else is done.
  abbrev IsRefusal : WordsFault → S → S → O → O → N → N → Status → Type 0
  IsRefusal fault input input' out out' outside outside' status =
      (status ≡ words_status fault) × (input' ≡ input) × (out' ≡ out) × (outside' ≡ outside)

  -- all that is promised of a server
  pub record ServerRun (settings : ServeSettings) (input input' : S) (out out' : O)
      (outside outside' : N) (status : Status) : Type 0 where
    pub caused :
        IsServeCaused (ends input) (ends input') (reads input) (reads input')
        (writes out) (writes out') (makes outside) (makes outside') status
    pub served :
        RunsServer settings (ends input) (ends input') (left input)
        (wires_lent outside) (wires_lent outside')
        (listeners_lent outside) (listeners_lent outside') (written out) (written out') status
    pub listed :
        TellsList (Rose (ends input) (ends input') × IsAtEnd (left input'))
        settings.replay.access (left input) (left input') status
    pub wires : IsShut (wires_lent outside) (wires_lent outside')
    pub listeners : IsShut (listeners_lent outside) (listeners_lent outside')

  -- All is promised that the command promises. A drill doesn't touch the input, and only a server
  -- touches the outside.
  abbrev pub RunsCommand : Command → S → S → O → O → N → N → Status → Type 0
  RunsCommand (command.Offline offline) input input' out out' outside outside' status =
      ReplayRun left ends reads written writes (settings_of offline) input input' out out' status
      × (outside' ≡ outside)
  RunsCommand (command.Drill settings) input input' out out' outside outside' status =
      Writes (written out) (written out') (writes out) (writes out') (load_text settings) status
      × (input' ≡ input) × (outside' ≡ outside)
  RunsCommand (command.Serve settings) input input' out out' outside outside' status =
      ServerRun settings input input' out out' outside outside' status

  -- Words that can't be read are refused; else the command that they ask for ran.
  abbrev pub IsRun : Result Command WordsFault → S → S → O → O → N → N → Status → Type 0
  IsRun asked input input' out out' outside outside' status =
      MatchResult asked
      (λ command. RunsCommand command input input' out out' outside outside' status)
      (λ fault. IsRefusal fault input input' out out' outside outside' status)

  -- the program ran with these words; or there was no memory for them
  abbrev pub IsWordsRun : List (List ℕ) → S → S → O → O → N → N → Status → Type 0
  IsWordsRun words input input' out out' outside outside' status =
      IsRun (command_of words) input input' out out' outside outside' status
      ⊎ ((status ≡ ended.NoMemory) × (input' ≡ input) × (out' ≡ out) × (outside' ≡ outside))

-- the status of arguments that can't be read: for want of memory, or since one isn't UTF-8
pub record IsUnread (kind : ErrorKind) (status : Status) : Type 0 where
  pub memory : kind ≡ kinds.OutOfMemory → status ≡ ended.NoMemory
  pub other : kind ≢ kinds.OutOfMemory → status ≡ ended.Words 0
