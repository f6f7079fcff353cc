-- What comes of a page that is read whole before anything is printed of it.
use Rattle.std.specs.Prelude.{ℕ, Bool, ◌&&◌, ◌≡◌, List, Option, Result, Ok, Err}
use Rattle.std.specs.Io.KnownBytes.{Appends}
use Rattle.program_faults.specs.Faults.{AppendsPrefix}
use Rattle.page_programs.specs.Came.{is_reported}
use Rattle.page_programs.specs.Cuts.{IsAllOf, RefusesAllOf}
use Rattle.page_programs.specs.Texts.{IsReadAs, IsRefused}
use Rattle.page_programs.specs.declared.stops.Stop.{Stop}
use Rattle.page_programs.specs.declared.stops.Stop.TheVariants.{Read, NotText, Write, Memory, NotReplaced}
use Rattle.page_programs.specs.declared.streams.Outputs.{Outputs}

-- Nothing but the output is changed.
abbrev pub AreKeptBeside : {F W V : Type 0} → Outputs F W V → Outputs F W V → Type 0
AreKeptBeside old new = (new.files ≡ old.files) × (new.faults ≡ old.faults)

-- where a page that is not UTF-8 is mended or not, and this text is printed of the page of a name that is read as a text
module _ (mends : Bool) (is_printed : List ℕ → List ℕ → List ℕ → Type 0) where
  -- This text is what is printed of all of the input.
  pub record IsDue (name : List ℕ) (input : Option (List ℕ)) (text : List ℕ) : Type 0 where
    pub page : List ℕ
    pub is_all : IsAllOf input page
    pub read : List ℕ
    pub is_read : IsReadAs mends page read
    pub printed : is_printed name read text

  module _ (checks : Bool) {F W V : Type 0} (contents : W → Option (List ℕ)) where
    -- The text is printed, and a check finds something if it is not empty. Or nothing is printed; or where a write failed a part at the front of
    -- the text.
    abbrev pub PrintsWhole : ℕ → List ℕ → Option (List ℕ) → Option (List ℕ) → Outputs F W V → Outputs F W V → Result Bool Stop → Type 0
    PrintsWhole pages name input left old new (Ok found) =
        (text : List ℕ) × IsDue name input text × Appends (contents old.output) (contents new.output) text × AreKeptBeside old new
        × (found ≡ checks && is_reported text)
    PrintsWhole pages name input left old new (Err (Read why)) = new ≡ old
    PrintsWhole pages name input left old new (Err (NotText offset)) = RefusesAllOf (IsRefused mends) input offset × (new ≡ old)
    PrintsWhole pages name input left old new (Err (Write why)) =
        (text : List ℕ) × IsDue name input text × AppendsPrefix (contents old.output) (contents new.output) text × AreKeptBeside old new
    PrintsWhole pages name input left old new (Err Memory) = new ≡ old
    PrintsWhole pages name input left old new (Err (NotReplaced refusal)) = ⊥
