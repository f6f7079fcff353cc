-- What becomes of a page.
use Rattle.std.specs.Prelude.{ℕ, Bool, true, false, ◌≡◌, ⊤, List, Option, Result, Ok, Err, if◌then◌else◌}
use Rattle.std.specs.Io.KnownBytes.{Appends}
use Rattle.program_faults.specs.Faults.{AppendsPrefix}
use Rattle.program_faults.specs.Steps.{IsGiven}
use Rattle.program_faults.specs.declared.reasons.Reason.{Reason}
use Rattle.page_programs.specs.Came.{is_reported}
use Rattle.page_programs.specs.Cuts.{IsAllOf, RefusesAllOf}
use Rattle.page_programs.specs.Names.{shown}
use Rattle.page_programs.specs.Texts.{IsRefused}
use Rattle.page_programs.specs.declared.stops.Stop.{Stop}
use Rattle.page_programs.specs.declared.stops.Stop.TheVariants.{Read, NotText, Write, Memory, NotReplaced}
use Rattle.page_programs.specs.declared.streams.Outputs.{Outputs}
use Rattle.page_tables.specs.Files.{IsReplaced, IsUnreplaced}
use Rattle.page_tables.specs.Looks.{IsLook}
use Rattle.page_tables.specs.Arguments.{is_check, task_for}
use Rattle.page_tables.specs.declared.arguments.Task.{Task}
use Rattle.page_tables.specs.declared.arguments.Task.TheVariants.{Print, Check, Replace}

-- Why a page can't be read: the reader failed; or it is not UTF-8; or memory is refused.
abbrev pub CantRead : Option (List ℕ) → Result Bool Stop → Type 0
CantRead input (Err (Read why)) = ⊤
CantRead input (Err (NotText offset)) = RefusesAllOf (IsRefused false) input offset
CantRead input (Err Memory) = ⊤
CantRead input end = ⊥

-- what is printed of a page: its text, or where its tables change or are left as they are
abbrev pub printed : Task → List ℕ → List ℕ → List ℕ
printed task text lines = if is_check task then lines else text

module _ {F O N W V : Type 0} (contents : W → Option (List ℕ))
    (fault_writes : V → List ℕ → Result ℕ Reason → V → Type 0) (refuses : F → Reason → F → Type 0)
    (file_reads : O → Result (List ℕ) Reason → O → Type 0) (copy_writes : N → List ℕ → Result ℕ Reason → N → Type 0)
    (holds : F → List ℕ → Option (List ℕ)) (is_beside : F → List ℕ → List ℕ → Type 0) where
  -- This is made and said of a page, and what is said of what is left as it is is given to the faults.
  pub record IsNoted (checks : Bool) (name page text lines : List ℕ) (old new : Outputs F W V) : Type 0 where
    pub notes : List ℕ
    pub is_said : IsLook checks (shown name) page text notes lines
    pub is_given : IsGiven fault_writes old.faults notes new.faults

  -- What is done with a page of this name: its text is printed; or the lines of its tables are, and something is found if there is one; or its
  -- file is replaced.
  abbrev pub IsDone : Task → List ℕ → List ℕ → List ℕ → List ℕ → Outputs F W V → Outputs F W V → Bool → Type 0
  IsDone Print name page text lines old new found =
      IsNoted false name page text lines old new × Appends (contents old.output) (contents new.output) text
      × (new.files ≡ old.files) × (found ≡ false)
  IsDone Check name page text lines old new found =
      IsNoted true name page text lines old new × Appends (contents old.output) (contents new.output) lines
      × (new.files ≡ old.files) × (found ≡ is_reported lines)
  IsDone Replace name page text lines old new found =
      IsNoted false name page text lines old new × (new.output ≡ old.output)
      × IsReplaced holds name page text old.files new.files × (found ≡ false)

  -- Why a page is not done: memory is refused, and nothing is changed; or only a part at the front can be written of what is printed, and no
  -- file is changed; or the file is not replaced.
  abbrev pub IsStopped : Task → List ℕ → List ℕ → List ℕ → List ℕ → Outputs F W V → Outputs F W V → Stop → Type 0
  IsStopped task name page text lines old new (Read why) = ⊥
  IsStopped task name page text lines old new (NotText offset) = ⊥
  IsStopped task name page text lines old new Memory = new ≡ old
  IsStopped task name page text lines old new (Write why) =
      IsNoted (is_check task) name page text lines old new
      × AppendsPrefix (contents old.output) (contents new.output) (printed task text lines) × (new.files ≡ old.files)
  IsStopped task name page text lines old new (NotReplaced refusal) =
      IsNoted false name page text lines old new × (new.output ≡ old.output)
      × IsUnreplaced refuses file_reads copy_writes holds is_beside name page old.files new.files refusal

  abbrev pub IsUsed : Task → List ℕ → List ℕ → Outputs F W V → Outputs F W V → Result Bool Stop → Type 0
  IsUsed task name page old new (Ok found) =
      (text : List ℕ) × (lines : List ℕ) × IsDone task name page text lines old new found
  IsUsed task name page old new (Err why) =
      (text : List ℕ) × (lines : List ℕ) × IsStopped task name page text lines old new why

  -- What comes of the page of this name: it is used; or it can't be read, and nothing is changed.
  pub data IsHandled (task : Task) (pages : ℕ) (name : List ℕ) (input left : Option (List ℕ)) (old new : Outputs F W V) (end : Result Bool Stop)
      : Type 0 where
    used : (page : List ℕ) → IsAllOf input page → IsUsed (task_for task name) name page old new end → IsHandled task pages name input left old new end
    unread : CantRead input end → new ≡ old → IsHandled task pages name input left old new end
