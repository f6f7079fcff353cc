-- What comes of a page that is read whole and used.
use Rattle.std.proofs.lemmas.Bool.{false≢true}
use Rattle.std.proofs.Common.{ℕ, Bool, true, false, ◌≡◌, ◌≢◌, List, Option, Result, Ok, Err, IfOk, refl, sym, ◌∙◌}
use Rattle.std.specs.Io.KnownBytes.{IsAtEnd}
use Rattle.std.specs.Result.{IsErrAnd}
use Rattle.std.specs.Str.{bytes_eq}
use Rattle.program_faults.specs.Steps.{HasEnded}
use Rattle.program_faults.specs.declared.reasons.Reason.{Reason}
use Rattle.page_programs.specs.Arguments.{dash}
use Rattle.page_programs.specs.Cuts.{RefusesAllOf}
use Rattle.page_programs.specs.Reads.{EndsReading}
use Rattle.page_programs.specs.Texts.{IsRefused}
use Rattle.page_programs.specs.declared.stops.Refusal.{Refusal}
use Rattle.page_programs.specs.declared.stops.Stop.{Stop}
use Rattle.page_programs.specs.declared.stops.Stop.TheVariants.{Read, NotText, Write, Memory, NotReplaced}
use Rattle.page_programs.specs.declared.streams.Outputs.{Outputs}
use Rattle.page_tables.specs.Arguments.{is_check, task_for}
use Rattle.page_tables.specs.Runs.{CantRead, IsUsed}
use Rattle.page_tables.specs.declared.arguments.Task.{Task}
use Rattle.page_tables.specs.declared.arguments.Task.TheVariants.{Print, Check, Replace}

-- a page that can't be read
pub cant_read : (input : Option (List ℕ)) (r : Result Bool Stop) (error : Stop) → IsErrAnd r (λ stop. stop ≡ error)
    → ((why : Reason) → error ≢ Write why) → ((offset : ℕ) → error ≡ NotText offset → RefusesAllOf (IsRefused false) input offset)
    → ((refusal : Refusal) → error ≢ NotReplaced refusal) → CantRead input r
cant_read input (Ok found) error is unwritten refused unreplaced = absurd is
cant_read input (Err (Read why)) error is unwritten refused unreplaced = tt
cant_read input (Err (NotText offset)) error is unwritten refused unreplaced = refused offset (sym is)
cant_read input (Err (Write why)) error is unwritten refused unreplaced = absurd (unwritten why (sym is))
cant_read input (Err Memory) error is unwritten refused unreplaced = tt
cant_read input (Err (NotReplaced refusal)) error is unwritten refused unreplaced = absurd (unreplaced refusal (sym is))

not_found : (found : Bool) → found ≡ false → found ≡ true → ⊥
not_found found none is = false≢true (sym none ∙ is)

-- with a page of standard input nothing is checked that is not with a file
checks_for : (task : Task) (name : List ℕ) (is : Bool) → bytes_eq name dash ≡ is → is_check (task_for task name) ≡ true → is_check task ≡ true
checks_for Print name is same checks = checks
checks_for Check name is same checks = refl
checks_for Replace name true same checks = absurd (false≢true (rw same at checks))
checks_for Replace name false same checks = absurd (false≢true (rw same at checks))

module _ {F O N W V : Type 0} (contents : W → Option (List ℕ)) (fault_writes : V → List ℕ → Result ℕ Reason → V → Type 0)
    (refuses : F → Reason → F → Type 0) (file_reads : O → Result (List ℕ) Reason → O → Type 0)
    (copy_writes : N → List ℕ → Result ℕ Reason → N → Type 0) (holds : F → List ℕ → Option (List ℕ))
    (is_beside : F → List ℕ → List ℕ → Type 0) (name page : List ℕ) (old new : Outputs F W V) where
  -- it was read to its end
  pub used_ends : {R : Type 0} (remaining : R → Option (List ℕ)) (reads : R → Result (List ℕ) Reason → R → Type 0) (before after : R)
      (task : Task) (r : Result Bool Stop) → IsUsed contents fault_writes refuses file_reads copy_writes holds is_beside task name page old new r
      → IsAtEnd (remaining after) → HasEnded reads after → EndsReading remaining reads before after r
  used_ends remaining reads before after task (Ok found) used end ended = (end, ended)
  used_ends remaining reads before after task (Err (Read why)) used end ended = absurd used.2
  used_ends remaining reads before after task (Err (NotText offset)) used end ended = absurd used.2
  used_ends remaining reads before after task (Err (Write why)) used end ended = tt
  used_ends remaining reads before after task (Err Memory) used end ended = tt
  used_ends remaining reads before after task (Err (NotReplaced refusal)) used end ended = tt

  found_checks : (task : Task) (found : Bool)
      → IsUsed contents fault_writes refuses file_reads copy_writes holds is_beside task name page old new (Ok found)
      → found ≡ true → is_check task ≡ true
  found_checks Print found used is = absurd (not_found found used.2.3 is)
  found_checks Check found used is = refl
  found_checks Replace found used is = absurd (not_found found used.2.3 is)

  -- something is found where it is checked alone
  pub used_checks : (task : Task) (r : Result Bool Stop)
      → IsUsed contents fault_writes refuses file_reads copy_writes holds is_beside (task_for task name) name page old new r
      → IfOk r (λ found. found ≡ true → is_check task ≡ true)
  used_checks task (Ok found) used = λ is. checks_for task name (bytes_eq name dash) refl (found_checks (task_for task name) found used is)
  used_checks task (Err stop) used = tt
