-- What is printed of a page that was read whole, and of one of which a write failed.
use Rattle.std.specs.Prelude.{ℕ, ◌≡◌, ◌⊎◌, List, Option, IfSome}
use Rattle.std.specs.Io.KnownBytes.{Appends}
use Rattle.program_faults.specs.Faults.{AppendsPrefix}

-- These bytes are all that is left to read, where that is known.
abbrev pub IsAllOf : Option (List ℕ) → List ℕ → Type 0
IsAllOf input page = IfSome input (λ bytes. page ≡ bytes)

-- Known bytes grow by a part at the front of what they would grow by.
abbrev pub IsCutShort : Option (List ℕ) → Option (List ℕ) → Option (List ℕ) → Type 0
IsCutShort old new whole = (bytes : List ℕ) × Appends old whole bytes × AppendsPrefix old new bytes

-- all of the input is a page that is refused at this offset
abbrev pub RefusesAllOf : (List ℕ → ℕ → Type 0) → Option (List ℕ) → ℕ → Type 0
RefusesAllOf refuses input offset = (page : List ℕ) × IsAllOf input page × refuses page offset

module _ (prints : List ℕ → Option (List ℕ) → Option (List ℕ) → Type 0) where
  -- Known bytes grow by what is printed of all of the input.
  abbrev pub PrintsAllOf : Option (List ℕ) → Option (List ℕ) → Option (List ℕ) → Type 0
  PrintsAllOf input old new = (page : List ℕ) × IsAllOf input page × prints page old new

  module _ (begins : Option (List ℕ) → Option (List ℕ) → Option (List ℕ) → Option (List ℕ) → Type 0) where
    -- Known bytes would grow by what is printed of all of the input, or before a stop where this was left to read at first, and this in the
    -- end.
    abbrev pub IsDue : Option (List ℕ) → Option (List ℕ) → Option (List ℕ) → Option (List ℕ) → Type 0
    IsDue input left old whole = PrintsAllOf input old whole ⊎ begins input left old whole

    -- A part at the front of that is printed.
    abbrev pub PrintsPart : Option (List ℕ) → Option (List ℕ) → Option (List ℕ) → Option (List ℕ) → Type 0
    PrintsPart input left old new = (whole : Option (List ℕ)) × IsDue input left old whole × IsCutShort old new whole
