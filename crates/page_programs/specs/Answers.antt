-- What a program answers to an option that is not known, to `--help` and to `--version`.
use Rattle.std.specs.Prelude.{ℕ, ◌≡◌, List, [], Option, Result, IfSome, IsSome}
use Rattle.std.specs.Borrow.{Bor}
use Rattle.std.specs.Io.KnownBytes.{Appends}
use Rattle.program_faults.specs.Faults.{AppendsPrefix}
use Rattle.program_faults.specs.Steps.{AreGiven, CantWrite}
use Rattle.program_faults.specs.declared.reasons.Reason.{Reason}
use Rattle.page_programs.specs.Stops.{stop_parts, unknown_parts}
use Rattle.page_programs.specs.Arguments.{request_of, unknown_of}
use Rattle.page_programs.specs.Tried.{IsReported}
use Rattle.page_programs.specs.declared.program.Command.{Command}
use Rattle.page_programs.specs.declared.streams.Streams.{Streams}
use Rattle.page_programs.specs.declared.stops.Stop.TheVariants.{Write}
use Rattle.page_programs.specs.declared.arguments.Request.TheVariants.{Help, Version}

-- what a command says of itself, as `Command` has it
pub record OwnTexts : Type 0 where
  pub usage : List ℕ
  pub help : List ℕ
  pub version : List ℕ

abbrev pub texts_of : List ℕ → List ℕ → List ℕ → OwnTexts
texts_of usage help version = record { usage = usage; help = help; version = version }

abbrev pub own_texts : Command → OwnTexts
own_texts says = texts_of says.usage.now says.help.now says.version.now

module _ {R F W V : Type 0} (contents : W → Option (List ℕ)) (writes : W → List ℕ → Result ℕ Reason → W → Type 0)
    (fault_writes : V → List ℕ → Result ℕ Reason → V → Type 0) (texts : OwnTexts) where
  -- At status 0 this text is printed, and the faults are given nothing; at status 3 they are given why it can't be written. At any status no
  -- more than a part at its front is printed, and nothing is read.
  pub record PrintsOwn (text : List ℕ) (status : ℕ) (old new : Streams R F W V) : Type 0 where
    pub whole : status ≡ 0 → Appends (contents old.outputs.output) (contents new.outputs.output) text
    pub front : AppendsPrefix (contents old.outputs.output) (contents new.outputs.output) text
    pub silent : status ≡ 0 → new.outputs.faults ≡ old.outputs.faults
    pub unwritten : status ≡ 3 → (why : Reason) × CantWrite writes why new.outputs.output
        × AreGiven fault_writes old.outputs.faults (stop_parts [] (Write why)) new.outputs.faults
    pub same_input : new.input ≡ old.input
    pub same_files : new.outputs.files ≡ old.outputs.files

  -- The status is 2 where one of the arguments is an option that is not known, and only there: the faults are given that word, and nothing else
  -- is done. The help is printed where it is asked for, and the version likewise.
  pub record Answers (options : List (List ℕ)) (arguments : List (Bor (List ℕ))) (status : ℕ) (old new : Streams R F W V) : Type 0 where
    pub unknown : IfSome (unknown_of options arguments) (λ word. (status ≡ 2)
        × IsReported fault_writes (unknown_parts word.now texts.usage) old new)
    pub only_unknown : status ≡ 2 → IsSome (unknown_of options arguments)
    pub help : request_of arguments ≡ Help → PrintsOwn texts.help status old new
    pub version : request_of arguments ≡ Version → PrintsOwn texts.version status old new
