-- What comes of the pages of names, one after another.
use Rattle.std.specs.Prelude.{ℕ, Bool, true, false, ◌≡◌, ◌≢◌, List, [], ◌∷◌, Option, Result, Ok, Err}
use Rattle.std.specs.Str.{bytes_eq}
use Rattle.program_faults.specs.Steps.{AreGiven, CantWrite}
use Rattle.program_faults.specs.declared.reasons.Reason.{Reason}
use Rattle.page_programs.specs.Arguments.{dash}
use Rattle.page_programs.specs.Came.{came_at, came_of, worse}
use Rattle.page_programs.specs.Files.{AreKept}
use Rattle.page_programs.specs.Reads.{IsRead}
use Rattle.page_programs.specs.Stops.{IfWrite, stop_parts}
use Rattle.page_programs.specs.declared.came.Came.{Came}
use Rattle.page_programs.specs.declared.came.Came.TheVariants.{Done, IsNotDone, HasNoOutput}
use Rattle.page_programs.specs.declared.stops.Stop.{Stop}
use Rattle.page_programs.specs.declared.stops.Stop.TheVariants.{Read, Memory}
use Rattle.page_programs.specs.declared.streams.Outputs.{Outputs}
use Rattle.page_programs.specs.declared.streams.Streams.{Streams}

-- These parts were given to the faults, and nothing else was done.
pub record IsReported {R F W V : Type 0} (fault_writes : V → List ℕ → Result ℕ Reason → V → Type 0) (parts : List (List ℕ))
    (old new : Streams R F W V) : Type 0 where
  pub is_given : AreGiven fault_writes old.outputs.faults parts new.outputs.faults
  pub same_input : new.input ≡ old.input
  pub same_files : new.outputs.files ≡ old.outputs.files
  pub same_output : new.outputs.output ≡ old.outputs.output

-- The file of this name was opened: what it has to be read is what it holds.
pub record IsOpened {F O W V : Type 0} (opens : F → List ℕ → Result O Reason → F → Type 0) (holds : F → List ℕ → Option (List ℕ))
    (file_remaining : O → Option (List ℕ)) (name : List ℕ) (old new : Outputs F W V) (file : O) : Type 0 where
  pub opened : opens old.files name (Ok file) new.files
  pub bytes : file_remaining file ≡ holds old.files name
  pub kept : AreKept holds old.files new.files
  pub same_output : new.output ≡ old.output
  pub same_faults : new.faults ≡ old.faults

-- It can't be, for this reason.
pub record IsNotOpened {F O W V : Type 0} (opens : F → List ℕ → Result O Reason → F → Type 0) (holds : F → List ℕ → Option (List ℕ))
    (name : List ℕ) (old new : Outputs F W V) (why : Reason) : Type 0 where
  pub refused : opens old.files name (Err why) new.files
  pub kept : AreKept holds old.files new.files
  pub same_output : new.output ≡ old.output
  pub same_faults : new.faults ≡ old.faults

module _ {R O F W V : Type 0}
    (does : List ℕ → Option (List ℕ) → Option (List ℕ) → Outputs F W V → Outputs F W V → Result Bool Stop → Type 0)
    (remaining : R → Option (List ℕ)) (reads : R → Result (List ℕ) Reason → R → Type 0)
    (opens : F → List ℕ → Result O Reason → F → Type 0) (holds : F → List ℕ → Option (List ℕ))
    (file_remaining : O → Option (List ℕ)) (file_reads : O → Result (List ℕ) Reason → O → Type 0) where
  -- What is done with the page of a name, or how far: `-` is standard input, and any other name that of a file.
  pub data IsHandled (name : List ℕ) (old new : Streams R F W V) (end : Result Bool Stop) : Type 0 where
    of_input : bytes_eq name dash ≡ true → IsRead remaining reads old.input new.input end
        → does name (remaining old.input) (remaining new.input) old.outputs new.outputs end → IsHandled name old new end
    of_file : bytes_eq name dash ≡ false → new.input ≡ old.input → (opened last : O) (middle : Outputs F W V)
        → IsOpened opens holds file_remaining name old.outputs middle opened → IsRead file_remaining file_reads opened last end
        → does name (file_remaining opened) (file_remaining last) middle new.outputs end → IsHandled name old new end
    not_opened : bytes_eq name dash ≡ false → new.input ≡ old.input → (why : Reason) → IsNotOpened opens holds name old.outputs new.outputs why
        → end ≡ Err (Read why) → IsHandled name old new end

  module _ (writes : W → List ℕ → Result ℕ Reason → W → Type 0) (fault_writes : V → List ℕ → Result ℕ Reason → V → Type 0) where
    -- What came of it. Where it is not done the faults are given why. Memory may be refused before it.
    pub data IsTried (name : List ℕ) (old new : Streams R F W V) : Came → Type 0 where
      is_done : (found : Bool) → IsHandled name old new (Ok found) → IsTried name old new (came_of found)
      not_done : (stop : Stop) (middle : Streams R F W V) → IsHandled name old middle (Err stop)
          → IfWrite stop (λ why. CantWrite writes why middle.outputs.output) → IsReported fault_writes (stop_parts name stop) middle new
          → IsTried name old new (came_at stop)
      not_begun : IsReported fault_writes (stop_parts [] Memory) old new → IsTried name old new IsNotDone

    -- What came of the pages of names: each is tried, one after another, up to the first at which the output can't be written. What came of
    -- all is the worst that came of one.
    pub data AreTried : List (List ℕ) → Streams R F W V → Streams R F W V → Came → Type 0 where
      none_left : (at : Streams R F W V) → AreTried [] at at Done
      tried : (name : List ℕ) (names : List (List ℕ)) (old middle new : Streams R F W V) (one more : Came) → one ≢ HasNoOutput
          → IsTried name old middle one → AreTried names middle new more → AreTried (name ∷ names) old new (worse one more)
      last_tried : (name : List ℕ) (names : List (List ℕ)) (old new : Streams R F W V)
          → IsTried name old new HasNoOutput → AreTried (name ∷ names) old new HasNoOutput

    -- Memory may be refused before them, and that is reported.
    pub data AreHandled (names : List (List ℕ)) (old new : Streams R F W V) : Came → Type 0 where
      in_turn : (came : Came) → AreTried names old new came → AreHandled names old new came
      none_begun : IsReported fault_writes (stop_parts [] Memory) old new → AreHandled names old new IsNotDone
