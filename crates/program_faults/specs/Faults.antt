-- What a program tells of a fault.
use Rattle.std.specs.Prelude.{ℕ, List, [], ◌∷◌, ◌++◌, ◌≡◌, ◌≢◌, ⊤, Option, None, Some, codes}
use Rattle.program_faults.specs.declared.Fault.{Fault}
use Rattle.program_faults.specs.declared.Fault.TheVariants.{Read, Write, Memory}

-- the line that tells of a fault, with its line feed
abbrev pub fault_line : Fault → List ℕ
fault_line Read = codes "read fault" ++ 10 ∷ []
fault_line Write = codes "write fault" ++ 10 ∷ []
fault_line Memory = codes "out of memory" ++ 10 ∷ []

-- a fault of the reader or of memory, which comes before anything is written
abbrev pub IsBeforeWriting : Fault → Type 0
IsBeforeWriting fault = fault ≢ Write

-- known bytes grow by what bs has before rest
abbrev pub AppendsBefore : Option (List ℕ) → Option (List ℕ) → List ℕ → List ℕ → Type 0
AppendsBefore None new bs rest = ⊤
AppendsBefore (Some xs) None bs rest = ⊥
AppendsBefore (Some xs) (Some ys) bs rest =
    (prefix : List ℕ) × (bs ≡ prefix ++ rest) × (ys ≡ xs ++ prefix)

-- known bytes grow by a prefix of bs
abbrev pub AppendsPrefix : Option (List ℕ) → Option (List ℕ) → List ℕ → Type 0
AppendsPrefix old new bs = (rest : List ℕ) × AppendsBefore old new bs rest

-- the bytes are known, and they grew by bs
abbrev pub Prints : Option (List ℕ) → Option (List ℕ) → List ℕ → Type 0
Prints None new bs = ⊥
Prints (Some xs) None bs = ⊥
Prints (Some xs) (Some ys) bs = ys ≡ xs ++ bs

-- the line that tells of this fault was printed
abbrev pub PrintsFault : Fault → Option (List ℕ) → Option (List ℕ) → Type 0
PrintsFault fault old new = Prints old new (fault_line fault)
