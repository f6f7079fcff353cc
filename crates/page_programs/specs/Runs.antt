-- What a run of a command comes to.
use Rattle.std.specs.Prelude.{ℕ, Bool, true, false, ◌≡◌, ◌≢◌, ◌⊎◌, List, length, Option, Result}
use Rattle.std.specs.Borrow.{Bor}
use Rattle.program_faults.specs.declared.reasons.Reason.{Reason}
use Rattle.page_programs.specs.Answers.{Answers, OwnTexts}
use Rattle.page_programs.specs.Arguments.{pages_of, request_of}
use Rattle.page_programs.specs.Came.{status_of}
use Rattle.page_programs.specs.Tried.{AreHandled}
use Rattle.page_programs.specs.declared.arguments.Request.TheVariants.{Pages}
use Rattle.page_programs.specs.declared.came.Came.{Came}
use Rattle.page_programs.specs.declared.stops.Stop.{Stop}
use Rattle.page_programs.specs.declared.streams.Outputs.{Outputs}
use Rattle.page_programs.specs.declared.streams.Streams.{Streams}

-- where this is done with the page of a name, of so many pages
module _ {R O F W V : Type 0}
    (does : ℕ → List ℕ → Option (List ℕ) → Option (List ℕ) → Outputs F W V → Outputs F W V → Result Bool Stop → Type 0)
    (remaining : R → Option (List ℕ)) (reads : R → Result (List ℕ) Reason → R → Type 0)
    (opens : F → List ℕ → Result O Reason → F → Type 0) (holds : F → List ℕ → Option (List ℕ))
    (file_remaining : O → Option (List ℕ)) (file_reads : O → Result (List ℕ) Reason → O → Type 0)
    (writes : W → List ℕ → Result ℕ Reason → W → Type 0) (fault_writes : V → List ℕ → Result ℕ Reason → V → Type 0)
    (contents : W → Option (List ℕ)) where
  -- The run of a command that says this of itself, and has these options; whether it checks pages, and may say something of one that is done.
  -- 0: done. 1: something is found in pages that are checked. 2: an option that is not known, and nothing is read. 3: a page that is not done,
  -- after which it goes on with the next; or output that can't be written, where it stops.
  pub record IsRun (texts : OwnTexts) (options : List (List ℕ)) (checks notes : Bool) (arguments : List (Bor (List ℕ))) (status : ℕ)
      (old new : Streams R F W V) : Type 0 where
    pub is_status : (status ≡ 0) ⊎ ((status ≡ 1) ⊎ ((status ≡ 2) ⊎ (status ≡ 3)))
    -- an option that is not known, the help and the version
    pub answered : Answers contents writes fault_writes texts options arguments status old new
    -- else the pages: each is tried, one after another
    pub handled : status ≢ 2 → request_of arguments ≡ Pages → (came : Came) × (status ≡ status_of came)
        × AreHandled (does (length (pages_of arguments))) remaining reads opens holds file_remaining file_reads writes fault_writes
        (pages_of arguments) old new came
    pub found : status ≡ 1 → (request_of arguments ≡ Pages) × (checks ≡ true)
    pub silent : (status ≡ 0) ⊎ (status ≡ 1) → notes ≡ false → new.outputs.faults ≡ old.outputs.faults
