-- A fault that comes before anything is written isn't reported as a write fault.
use Rattle.std.proofs.Common.{◌≡◌, ℕ, List, Option, refl, arith}
use Rattle.program_faults.specs.Faults.{AppendsPrefix, PrintsFault, IsBeforeWriting, fault_line}
use Rattle.program_faults.specs.declared.Fault.{Fault}
use Rattle.program_faults.specs.declared.Fault.TheVariants as fault
use Rattle.program_faults.proofs.FaultLemmas.{printed_first}

pub no_write_fault : (old new : Option (List ℕ)) (f : Fault) → IsBeforeWriting f
    → AppendsPrefix old new (fault_line f) → PrintsFault fault.Write old new → ⊥
no_write_fault old new fault.Read before line reported =
    let first : 114 ≡ 119 = printed_first old new 114 119 _ _ line reported in omega (arith, first)
no_write_fault old new fault.Memory before line reported =
    let first : 111 ≡ 119 = printed_first old new 111 119 _ _ line reported in omega (arith, first)
no_write_fault old new fault.Write before line reported = before refl
