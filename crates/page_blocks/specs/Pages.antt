-- What comes of a page of which blocks are printed while it is read.
use Rattle.std.specs.Prelude.{ℕ, Bool, false, ◌≡◌, ◌⊎◌, List, Option, Result, Ok, Err}
use Rattle.markdown_values.specs.declared.values.extensions.Extensions.{Extensions}
use Rattle.page_programs.specs.Cuts.{PrintsAllOf, PrintsPart}
use Rattle.page_programs.specs.Wholes.{AreKeptBeside}
use Rattle.page_programs.specs.declared.stops.Stop.{Stop}
use Rattle.page_programs.specs.declared.stops.Stop.TheVariants.{Read, NotText, Write, Memory, NotReplaced}
use Rattle.page_programs.specs.declared.streams.Outputs.{Outputs}
use Rattle.page_blocks.specs.declared.arguments.Form.{Form}
use Rattle.page_blocks.specs.Printed.{IsBegunTo, IsPrintedTo, title_of}

module _ (asked : Extensions) (form : Form) {F W V : Type 0} (contents : W → Option (List ℕ)) where
  -- The lines of its blocks are printed after its title. Where it stops those of the first blocks are; or where a write failed a part at the
  -- front of what is due. Memory may be refused before the title. No page is refused: its bytes need not be UTF-8.
  abbrev pub PrintsBlocks : ℕ → List ℕ → Option (List ℕ) → Option (List ℕ) → Outputs F W V → Outputs F W V → Result Bool Stop → Type 0
  PrintsBlocks pages name input left old new (Ok found) =
      PrintsAllOf (IsPrintedTo asked form (title_of form pages name)) input (contents old.output) (contents new.output)
      × AreKeptBeside old new × (found ≡ false)
  PrintsBlocks pages name input left old new (Err (Read why)) =
      IsBegunTo asked form (title_of form pages name) input left (contents old.output) (contents new.output) × AreKeptBeside old new
  PrintsBlocks pages name input left old new (Err (NotText offset)) = ⊥
  PrintsBlocks pages name input left old new (Err (Write why)) =
      PrintsPart (IsPrintedTo asked form (title_of form pages name)) (IsBegunTo asked form (title_of form pages name)) input left
      (contents old.output) (contents new.output) × AreKeptBeside old new
  PrintsBlocks pages name input left old new (Err Memory) =
      (IsBegunTo asked form (title_of form pages name) input left (contents old.output) (contents new.output) ⊎ (new ≡ old))
      × AreKeptBeside old new
  PrintsBlocks pages name input left old new (Err (NotReplaced refusal)) = ⊥
