-- What a run comes to where an option is not known.
use Rattle.std.proofs.Common.{ℕ, Bool, ◌≡◌, inl, inr, List, Option, Some, Result, arith, refl}
use Rattle.std.specs.Borrow.{Bor}
use Rattle.program_faults.specs.declared.reasons.Reason.{Reason}
use Rattle.page_programs.proofs.AnswerLemmas.{answers_unknown}
use Rattle.page_programs.specs.Answers.{OwnTexts}
use Rattle.page_programs.specs.Arguments.{unknown_of}
use Rattle.page_programs.specs.Runs.{IsRun}
use Rattle.page_programs.specs.Stops.{unknown_parts}
use Rattle.page_programs.specs.Tried.{IsReported}
use Rattle.page_programs.specs.declared.stops.Stop.{Stop}
use Rattle.page_programs.specs.declared.streams.Outputs.{Outputs}
use Rattle.page_programs.specs.declared.streams.Streams.{Streams}

module _ {R O F W V : Type 0}
    {does : ℕ → List ℕ → Option (List ℕ) → Option (List ℕ) → Outputs F W V → Outputs F W V → Result Bool Stop → Type 0}
    {remaining : R → Option (List ℕ)} {reads : R → Result (List ℕ) Reason → R → Type 0}
    {opens : F → List ℕ → Result O Reason → F → Type 0} {holds : F → List ℕ → Option (List ℕ)}
    {file_remaining : O → Option (List ℕ)} {file_reads : O → Result (List ℕ) Reason → O → Type 0}
    {writes : W → List ℕ → Result ℕ Reason → W → Type 0} {fault_writes : V → List ℕ → Result ℕ Reason → V → Type 0}
    {contents : W → Option (List ℕ)} {texts : OwnTexts} {options : List (List ℕ)} {checks notes : Bool} {arguments : List (Bor (List ℕ))}
    {old new : Streams R F W V} where
  -- an option that is not known was reported
  pub unknown_run : (word : Bor (List ℕ)) → unknown_of options arguments ≡ Some word
      → IsReported fault_writes (unknown_parts word.now texts.usage) old new
      → IsRun does remaining reads opens holds file_remaining file_reads writes fault_writes contents texts options checks notes arguments 2 old new
  unknown_run word is given = record {
    is_status = inr (inr (inl refl));
    answered = answers_unknown contents writes fault_writes texts old new options arguments word is given;
    handled = λ known. absurd (known refl);
    found = λ one. absurd (omega (arith, one));
    silent = λ done. elim done [
      | inl none ↦ absurd (omega (arith, none))
      | inr one ↦ absurd (omega (arith, one))
    ];
  }
