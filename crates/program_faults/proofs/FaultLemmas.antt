-- What was printed of a fault says which fault it was.
use Rattle.std.proofs.Common.{◌≡◌, ℕ, List, ◌∷◌, ◌++◌, ◌+◌, length, Option, Some, None, refl, sym, ap, ◌∙◌, arith, length-append}
use Rattle.std.proofs.lemmas.List.{append_cancel_left}
use Rattle.program_faults.specs.Faults.{AppendsPrefix, Prints, PrintsFault, IsBeforeWriting, fault_line}
use Rattle.program_faults.specs.declared.Fault.{Fault}
use Rattle.program_faults.specs.declared.Fault.TheVariants as fault

-- nothing was printed where the bytes are as they were
pub nothing_printed : (known : Option (List ℕ)) (b : ℕ) (bs : List ℕ) → Prints known known (b ∷ bs) → ⊥
nothing_printed None b bs printed = printed
nothing_printed (Some xs) b bs printed =
    let longer : length xs ≡ length xs + length (b ∷ bs) = ap length printed ∙ length-append xs (b ∷ bs) in
    omega arith

same_first : (xs prefix rest tail bs : List ℕ) (a b : ℕ) → a ∷ tail ≡ prefix ++ rest → xs ++ prefix ≡ xs ++ (b ∷ bs) → a ≡ b
same_first xs prefix rest tail bs a b all same =
    let first : prefix ≡ b ∷ bs = append_cancel_left xs prefix (b ∷ bs) same in
    let whole : a ∷ tail ≡ b ∷ (bs ++ rest) = all ∙ ap (λ f. f ++ rest) first in
    cc

-- a prefix of one line is another line only if they begin alike
pub printed_first : (old new : Option (List ℕ)) (a b : ℕ) (tail bs : List ℕ) → AppendsPrefix old new (a ∷ tail) → Prints old new (b ∷ bs) → a ≡ b
printed_first None new a b tail bs prefix printed = absurd printed
printed_first (Some xs) None a b tail bs prefix printed = absurd printed
printed_first (Some xs) (Some ys) a b tail bs (rest, (prefix, all, grown)) printed = same_first xs prefix rest tail bs a b all (sym grown ∙ printed)

-- the line that was printed is that of the fault
pub printed_fault : (old new : Option (List ℕ)) (f g : Fault) → AppendsPrefix old new (fault_line f) → PrintsFault g old new → f ≡ g
printed_fault old new fault.Read fault.Read line printed = refl
printed_fault old new fault.Write fault.Write line printed = refl
printed_fault old new fault.Memory fault.Memory line printed = refl
printed_fault old new fault.Read fault.Write line printed = absurd (omega (arith, printed_first old new 114 119 _ _ line printed))
printed_fault old new fault.Read fault.Memory line printed = absurd (omega (arith, printed_first old new 114 111 _ _ line printed))
printed_fault old new fault.Write fault.Read line printed = absurd (omega (arith, printed_first old new 119 114 _ _ line printed))
printed_fault old new fault.Write fault.Memory line printed = absurd (omega (arith, printed_first old new 119 111 _ _ line printed))
printed_fault old new fault.Memory fault.Read line printed = absurd (omega (arith, printed_first old new 111 114 _ _ line printed))
printed_fault old new fault.Memory fault.Write line printed = absurd (omega (arith, printed_first old new 111 119 _ _ line printed))

-- where another fault's line was printed, the fault came before anything was written
pub before_writing : (old new : Option (List ℕ)) (f : Fault) (b : ℕ) (bs : List ℕ) → (119 ≡ b → ⊥)
    → AppendsPrefix old new (fault_line f) → Prints old new (b ∷ bs) → IsBeforeWriting f
before_writing old new fault.Read b bs other line printed = λ same. cc
before_writing old new fault.Memory b bs other line printed = λ same. cc
before_writing old new fault.Write b bs other line printed = absurd (other (printed_first old new 119 b _ bs line printed))
