-- What is answered to an option that is not known.
use Rattle.std.proofs.Common.{ℕ, ◌≡◌, ◌⊎◌, inl, inr, List, Option, Some, None, Result, IfSome, IsSome, arith, refl}
use Rattle.std.specs.Borrow.{Bor}
use Rattle.program_faults.proofs.StepLemmas.{printed-none}
use Rattle.program_faults.specs.declared.reasons.Reason.{Reason}
use Rattle.page_programs.specs.Answers.{Answers, OwnTexts, PrintsOwn}
use Rattle.page_programs.specs.Stops.{unknown_parts}
use Rattle.page_programs.specs.Arguments.{request_of, unknown_of}
use Rattle.page_programs.specs.Tried.{IsReported}
use Rattle.page_programs.specs.declared.streams.Streams.{Streams}
use Rattle.page_programs.specs.declared.arguments.Request.TheVariants.{Help, Version}

module _ {R F W V : Type 0} (contents : W → Option (List ℕ)) (writes : W → List ℕ → Result ℕ Reason → W → Type 0)
    (fault_writes : V → List ℕ → Result ℕ Reason → V → Type 0) (texts : OwnTexts) (old new : Streams R F W V) where
  -- nothing is printed
  prints_none : (text : List ℕ) (parts : List (List ℕ)) → IsReported fault_writes parts old new
      → PrintsOwn contents writes fault_writes texts text 2 old new
  prints_none text parts given = record {
    whole = λ none. absurd (omega (arith, none));
    front = (text, rw given.same_output (printed-none (contents old.outputs.output) text));
    silent = λ none. absurd (omega (arith, none));
    unwritten = λ three. absurd (omega (arith, three));
    same_input = given.same_input;
    same_files = given.same_files;
  }

  -- an option that is not known was reported
  pub answers_unknown : (options : List (List ℕ)) (arguments : List (Bor (List ℕ))) (word : Bor (List ℕ)) → unknown_of options arguments ≡ Some word
      → IsReported fault_writes (unknown_parts word.now texts.usage) old new
      → Answers contents writes fault_writes texts options arguments 2 old new
  answers_unknown options arguments word is given = record {
    unknown = rw is (refl, given);
    only_unknown = λ two. rw is refl;
    help = λ asked. prints_none texts.help _ given;
    version = λ asked. prints_none texts.version _ given;
  }

  reported : (parts_of : Bor (List ℕ) → List (List ℕ)) (status : ℕ) (found : Option (Bor (List ℕ)))
      → IfSome found (λ word. (status ≡ 2) × IsReported fault_writes (parts_of word) old new) → IsSome found
      → (parts : List (List ℕ)) × IsReported fault_writes parts old new
  reported parts_of status None unknown is = absurd cc
  reported parts_of status (Some word) unknown is = (parts_of word, unknown.1)

  -- at status 2 nothing else was done
  pub is_reported : (options : List (List ℕ)) (arguments : List (Bor (List ℕ))) (status : ℕ)
      → Answers contents writes fault_writes texts options arguments status old new → status ≡ 2
      → (parts : List (List ℕ)) × IsReported fault_writes parts old new
  is_reported options arguments status answers two =
      reported (λ word. unknown_parts word.now texts.usage) status (unknown_of options arguments) answers.unknown (answers.only_unknown two)

  -- where the help or the version is printed the faults are given nothing
  pub own_silent : (options : List (List ℕ)) (arguments : List (Bor (List ℕ))) (status : ℕ)
      → Answers contents writes fault_writes texts options arguments status old new → status ≡ 0 → request_of arguments ≡ Help ⊎ request_of arguments ≡ Version
      → new.outputs.faults ≡ old.outputs.faults
  own_silent options arguments status answers none (inl help) = (answers.help help).silent none
  own_silent options arguments status answers none (inr version) = (answers.version version).silent none
