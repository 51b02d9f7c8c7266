-- All that is promised of a replay follows from its run.
use Rattle.std.proofs.Common.{◌≡◌, ℕ, List, [], append-nil, refl, sym, ap, subst, inl, inr, arith}
use Rattle.std.specs.Prelude.{Option, Some, None}
use Rattle.std.specs.Io.KnownBytes.{Appends, Consumes, IsAtEnd}
use Rattle.bucket.specs.Shelf.{AllStand}
use Rattle.lines.specs.Run.{RunsLines}
use Rattle.lines.specs.Text.{all_lines}
use Rattle.lines.specs.declared.run.Ending.{Ending}
use Rattle.lines.specs.declared.run.Ending.TheVariants as ending
use Rattle.lines.proofs.Along.{RunsLines-along}
use Rattle.lines.proofs.Complete.{complete}
use Rattle.ot_io.specs.Counts.{Rose}
use Rattle.ot_io.specs.declared.settings.ReplaySettings.{ReplaySettings}
use Rattle.ot_io.specs.declared.status.Status.{Status}
use Rattle.ot_io.specs.declared.status.Status.TheVariants as ended
use Rattle.offline.specs.Command.{ReplayRun, status_of}
use Rattle.offline.specs.Follows.{EndRefusedAt, Follows, IsShelfOf, MayEndAt, RefusesLine, Situation, phase_before}
use Rattle.offline.specs.Replay.{IsAnswered, IsEndRefused, IsRefused, MayEnd, ReplayState, first_state, no_calls}
use Rattle.offline.specs.declared.command.Fault.{Fault}
use Rattle.offline.specs.declared.command.Fault.TheVariants as because
use Rattle.offline.proofs.Completing.{IsGoodFrom, closes, goes_on, good_input, short_input, unrefused}
use Rattle.offline.proofs.Meeting.{Meets, may_end, meets_first, step, stop, stop_end}

-- which ending has which status
ended_done : (end : Ending Fault) → status_of end ≡ ended.Done → end ≡ ending.Done
ended_done ending.Done e = refl
ended_done (ending.Refused n (because.List fault)) e = cc
ended_done (ending.Refused n (because.Line fault)) e = cc
ended_done (ending.TooLong n) e = cc
ended_done ending.TooMuch e = cc
ended_done ending.ReadFault e = cc
ended_done ending.WriteFault e = cc
ended_done ending.NoMemory e = cc

ended_read : (end : Ending Fault) → status_of end ≡ ended.ReadFault → end ≡ ending.ReadFault
ended_read ending.Done e = cc
ended_read (ending.Refused n (because.List fault)) e = cc
ended_read (ending.Refused n (because.Line fault)) e = cc
ended_read (ending.TooLong n) e = cc
ended_read ending.TooMuch e = cc
ended_read ending.ReadFault e = refl
ended_read ending.WriteFault e = cc
ended_read ending.NoMemory e = cc

ended_write : (end : Ending Fault) → status_of end ≡ ended.WriteFault → end ≡ ending.WriteFault
ended_write ending.Done e = cc
ended_write (ending.Refused n (because.List fault)) e = cc
ended_write (ending.Refused n (because.Line fault)) e = cc
ended_write (ending.TooLong n) e = cc
ended_write ending.TooMuch e = cc
ended_write ending.ReadFault e = cc
ended_write ending.WriteFault e = refl
ended_write ending.NoMemory e = cc

-- a status that a replay may have
abbrev IsOfReplay : Status → Type 0
IsOfReplay ended.Done = Unit {0}
IsOfReplay (ended.Words at) = ⊥
IsOfReplay ended.NoMemory = Unit {0}
IsOfReplay ended.ReadFault = Unit {0}
IsOfReplay ended.WriteFault = Unit {0}
IsOfReplay (ended.Line line fault) = Unit {0}
IsOfReplay (ended.TooLong line) = Unit {0}
IsOfReplay ended.TooMuch = Unit {0}
IsOfReplay (ended.List line fault) = Unit {0}
IsOfReplay ended.Device = ⊥

of_replay : (end : Ending Fault) → IsOfReplay (status_of end)
of_replay ending.Done = tt
of_replay (ending.Refused n (because.List fault)) = tt
of_replay (ending.Refused n (because.Line fault)) = tt
of_replay (ending.TooLong n) = tt
of_replay ending.TooMuch = tt
of_replay ending.ReadFault = tt
of_replay ending.WriteFault = tt
of_replay ending.NoMemory = tt

ended_words : (end : Ending Fault) (at : ℕ) → status_of end ≡ ended.Words at → ⊥
ended_words end at e = subst IsOfReplay e (of_replay end)

ended_device : (end : Ending Fault) → status_of end ≡ ended.Device → ⊥
ended_device end e = subst IsOfReplay e (of_replay end)

-- the two endings differ
abbrev IsNoMemory : Ending Fault → Type 0
IsNoMemory ending.Done = Unit {0}
IsNoMemory (ending.Refused n fault) = Unit {0}
IsNoMemory (ending.TooLong n) = Unit {0}
IsNoMemory ending.TooMuch = ⊥
IsNoMemory ending.ReadFault = Unit {0}
IsNoMemory ending.WriteFault = Unit {0}
IsNoMemory ending.NoMemory = Unit {0}

ended_memory : (end : Ending Fault) → end ≡ ending.NoMemory → end ≡ ending.TooMuch → ⊥
ended_memory end e much = subst IsNoMemory much (subst IsNoMemory (sym e) tt)

module _ {S O : Type 0} (left : S → Option (List ℕ)) (ends reads : S → ℕ) (written : O → Option (List ℕ)) (writes : O → ℕ) where
  -- all that is promised of a replay follows from its run and the causes of its ending
  pub replay_run : (s : ReplaySettings) (input input' : S) (out out' : O) (old new : Situation) (end : Ending Fault)
      → old.settings ≡ s → old.phase ≡ phase_before s.access → IsShelfOf s old.shelf → AllStand (no_calls s.bits) old.shelf
      → RunsLines (Rose (ends input) (ends input') × IsAtEnd (left input')) Follows RefusesLine MayEndAt EndRefusedAt
      (left input) (left input') (written out) (written out') old new end
      → (end ≡ ending.Done → Rose (ends input) (ends input')) → (end ≡ ending.ReadFault → Rose (reads input) (reads input')) → (end ≡ ending.WriteFault → Rose (writes out) (writes out'))
      → ReplayRun left ends reads written writes s input input' out out' (status_of end)
  replay_run s input input' out out' old new end same begins of stand run done read_fault write_fault =
      let Ended : Type 0 = Rose (ends input) (ends input') × IsAtEnd (left input') in
      let lawful : (t : ReplayState) × RunsLines Ended (IsAnswered s) IsRefused MayEnd IsEndRefused (left input) (left input') (written out) (written out') (first_state s) t end =
      RunsLines-along Ended Follows RefusesLine MayEndAt EndRefusedAt (IsAnswered s) IsRefused MayEnd IsEndRefused (Meets s)
      (step s) (stop s) (may_end s) (stop_end s)
      (left input) (left input') (written out) (written out') old new (first_state s) end (meets_first s old same begins of stand) run in
      record {
        replays = record { end = end; status_is = refl; state = lawful.0; run = lawful.1 };
        caused = record {
          done = λ e. done (ended_done end e);
          read_fault = λ e. read_fault (ended_read end e);
          write_fault = λ e. write_fault (ended_write end e);
          no_words = ended_words end;
          no_device = ended_device end;
        };
        complete = λ bytes known few inputs reads_well writes_well.
            let Known : Option (List ℕ) → Type 0 = λ x. RunsLines Ended (IsAnswered s) IsRefused MayEnd IsEndRefused
            x (left input') (written out) (written out') (first_state s) lawful.0 end in
            elim (complete (Rose (ends input) (ends input')) (IsAnswered s) IsRefused MayEnd IsEndRefused IsGoodFrom (goes_on s) unrefused closes
            bytes (left input') (written out) (written out') (first_state s) lawful.0 end
            (short_input s.access (all_lines bytes) inputs) (good_input s.bits s.access (all_lines bytes) inputs) few
            (λ e. reads_well (read_fault e)) (λ e. writes_well (write_fault e)) (subst Known known lawful.1)) [
              | inl e ↦ inl (ap status_of e)
              | inr e ↦ inr (ap status_of e)
            ];
      }

  nothing_taken : (known : Option (List ℕ)) → Consumes known known []
  nothing_taken None = tt
  nothing_taken (Some xs) = refl

  nothing_added : (known : Option (List ℕ)) → Appends known known []
  nothing_added None = tt
  nothing_added (Some xs) = sym (append-nil xs)

  -- without memory for its tracker a replay does nothing
  pub no_run : (s : ReplaySettings) (input : S) (out : O) → ReplayRun left ends reads written writes s input input out out ended.NoMemory
  no_run s input out = record {
    replays = record {
      end = ending.NoMemory;
      status_is = refl;
      state = first_state s;
      run = record {
        read = [];
        text = [];
        taken = nothing_taken (left input);
        written = nothing_added (written out);
        too_much = (λ e. absurd (ended_memory ending.NoMemory refl e), λ much. absurd (omega arith));
        outcome = inl (record { before = []; after = []; at = first_state s; unwritten = []; cut = refl; answered = (refl, refl) });
      };
    };
    caused = record {
      done = λ e. absurd (cc);
      read_fault = λ e. absurd (cc);
      write_fault = λ e. absurd (cc);
      no_words = λ at e. absurd (cc);
      no_device = λ e. absurd (cc);
    };
    complete = λ bytes known few inputs reads_well writes_well. inr refl;
  }
