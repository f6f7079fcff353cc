-- What is printed of a stop.
use Rattle.std.specs.Prelude.{ℕ, Bool, true, false, List, [], ◌∷◌, ◌++◌, ⊤, codes, if◌then◌else◌}
use Rattle.std.specs.Fmt.{decimal}
use Rattle.program_faults.specs.Reasons.{reason_line}
use Rattle.program_faults.specs.declared.reasons.Reason.{Reason}
use Rattle.program_faults.specs.declared.reasons.Reason.TheVariants as reason
use Rattle.page_programs.specs.Names.{shown_name}
use Rattle.page_programs.specs.declared.stops.Stop.{Stop}
use Rattle.page_programs.specs.declared.stops.Stop.TheVariants.{Read, NotText, Write, Memory, NotReplaced}
use Rattle.page_programs.specs.declared.stops.Refusal.{Refusal}
use Rattle.page_programs.specs.declared.stops.Refusal.TheVariants.{Stands, HasChanged, IsCopied}

-- the reader of the output has left
abbrev pub is_left : Reason → Bool
is_left reason.NotRead = true
is_left _ = false

-- the name of the program
abbrev pub program : List ℕ
program = codes "fillaqut"

-- the parts of the line that tells why it can't write its output
abbrev pub write_parts : Reason → List (List ℕ)
write_parts why = if is_left why then [] else program ∷ codes ": write error" ∷ reason_line why ∷ []

-- what is said after the name of a file that is not replaced
abbrev pub refusal_parts : Refusal → List (List ℕ)
refusal_parts (Stands why) = codes ": not replaced" ∷ reason_line why ∷ []
refusal_parts HasChanged = codes ": not replaced: it has changed since it was read\n" ∷ []
refusal_parts (IsCopied why) = codes ": written in part; what it held is in a file beside it" ∷ reason_line why ∷ []

-- The parts of the line that tells why the page that is called so is not done. Nothing is printed where the reader of the output has left.
abbrev pub parts_for : List ℕ → Stop → List (List ℕ)
parts_for called (Read why) = program ∷ codes ": " ∷ called ∷ reason_line why ∷ []
parts_for called (NotText offset) =
    program ∷ codes ": " ∷ called ∷ codes ": not UTF-8: wrong byte at offset " ∷ decimal offset ∷ (10 ∷ []) ∷ []
parts_for called (Write why) = write_parts why
parts_for called Memory = program ∷ (codes ": out of memory" ++ 10 ∷ []) ∷ []
parts_for called (NotReplaced refusal) = codes "fillaqut: " ∷ called ∷ refusal_parts refusal

-- the same of the page of this name
abbrev pub stop_parts : List ℕ → Stop → List (List ℕ)
stop_parts name stop = parts_for (shown_name name) stop

-- the parts of the lines that tell of a word that is no option, and how the command is used
abbrev pub unknown_parts : List ℕ → List ℕ → List (List ℕ)
unknown_parts word usage = program ∷ codes ": unknown option " ∷ word ∷ usage ∷ []

-- what holds of the reason for which a write failed
abbrev pub IfWrite : Stop → (Reason → Type 0) → Type 0
IfWrite (Read why) P = ⊤
IfWrite (NotText offset) P = ⊤
IfWrite (Write why) P = P why
IfWrite Memory P = ⊤
IfWrite (NotReplaced refusal) P = ⊤

abbrev pub IsWrite : Stop → Type 0
IsWrite (Read why) = ⊥
IsWrite (NotText offset) = ⊥
IsWrite (Write why) = ⊤
IsWrite Memory = ⊥
IsWrite (NotReplaced refusal) = ⊥
