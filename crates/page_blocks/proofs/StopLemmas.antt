-- What comes of a page of blocks at which it stops.
use Rattle.std.proofs.Common.{ℕ, Bool, ◌≡◌, ◌≢◌, inl, inr, List, Option, Result, Ok, Err, refl, sym, subst}
use Rattle.std.specs.Result.{IsErrAnd}
use Rattle.markdown_values.specs.declared.values.extensions.Extensions.{Extensions}
use Rattle.program_faults.specs.Steps.{no_read}
use Rattle.program_faults.specs.declared.reasons.Reason.{Reason}
use Rattle.page_programs.specs.Cuts.{PrintsPart}
use Rattle.page_programs.specs.Reads.{IsRead}
use Rattle.page_programs.specs.Stops.{IsWrite}
use Rattle.page_programs.specs.declared.stops.Refusal.{Refusal}
use Rattle.page_programs.specs.declared.stops.Stop.{Stop}
use Rattle.page_programs.specs.declared.stops.Stop.TheVariants.{Read, NotText, Write, Memory, NotReplaced}
use Rattle.page_programs.specs.declared.streams.Outputs.{Outputs}
use Rattle.page_blocks.specs.declared.arguments.Form.{Form}
use Rattle.page_blocks.specs.Pages.{PrintsBlocks}
use Rattle.page_blocks.specs.Printed.{IsBegunTo, IsPrintedTo, title_of}

-- memory is refused before anything is read
pub nothing_read : {R : Type 0} (remaining : R → Option (List ℕ)) (reads : R → Result (List ℕ) Reason → R → Type 0) (at : R) (r : Result Bool Stop)
    → IsErrAnd r (λ stop. stop ≡ Memory) → IsRead remaining reads at at r
nothing_read remaining reads at (Ok found) is = absurd is
nothing_read remaining reads at (Err (Read why)) is = absurd cc
nothing_read remaining reads at (Err (NotText offset)) is = absurd cc
nothing_read remaining reads at (Err (Write why)) is = absurd cc
nothing_read remaining reads at (Err Memory) is = record { ended = tt; reads_alone = (0, no_read at) }
nothing_read remaining reads at (Err (NotReplaced refusal)) is = absurd cc

module _ (asked : Extensions) (form : Form) {F W V : Type 0} (contents : W → Option (List ℕ)) (pages : ℕ) (name : List ℕ)
    (input left : Option (List ℕ)) (old : Outputs F W V) where
  -- memory is refused before the title
  pub not_titled : (r : Result Bool Stop) → IsErrAnd r (λ stop. stop ≡ Memory) → PrintsBlocks asked form contents pages name input left old old r
  not_titled (Ok found) is = absurd is
  not_titled (Err (Read why)) is = absurd cc
  not_titled (Err (NotText offset)) is = absurd cc
  not_titled (Err (Write why)) is = absurd cc
  not_titled (Err Memory) is = (inr refl, (refl, refl))
  not_titled (Err (NotReplaced refusal)) is = absurd cc

  abbrev Begun : W → Type 0
  Begun new = IsBegunTo asked form (title_of form pages name) input left (contents old.output) (contents new)

  abbrev Cut : W → Type 0
  Cut new =
      PrintsPart (IsPrintedTo asked form (title_of form pages name)) (IsBegunTo asked form (title_of form pages name)) input left (contents old.output)
      (contents new)

  pub not_printed : (new : W) (r : Result Bool Stop) (error : Stop) → IsErrAnd r (λ stop. stop ≡ error) → (¬ IsWrite error → Begun new)
      → (IsWrite error → Cut new) → ((offset : ℕ) → error ≢ NotText offset) → ((refusal : Refusal) → error ≢ NotReplaced refusal)
      → PrintsBlocks asked form contents pages name input left old record { files = old.files; output = new; faults = old.faults } r
  not_printed new (Ok found) error is begun cut taken unreplaced = absurd is
  not_printed new (Err (Read why)) error is begun cut taken unreplaced = (begun (λ write. subst IsWrite (sym is) write), (refl, refl))
  not_printed new (Err (NotText offset)) error is begun cut taken unreplaced = absurd (taken offset (sym is))
  not_printed new (Err (Write why)) error is begun cut taken unreplaced = (cut (subst IsWrite is tt), (refl, refl))
  not_printed new (Err Memory) error is begun cut taken unreplaced = (inl (begun (λ write. subst IsWrite (sym is) write)), (refl, refl))
  not_printed new (Err (NotReplaced refusal)) error is begun cut taken unreplaced = absurd (unreplaced refusal (sym is))
