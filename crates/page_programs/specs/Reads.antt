-- How the reading of a page ends.
use Rattle.std.specs.Prelude.{ℕ, ◌⊎◌, ⊤, List, Option, Result, Ok, Err}
use Rattle.std.specs.Io.KnownBytes.{IsAtEnd}
use Rattle.program_faults.specs.Steps.{AreReads, HasEnded, HasFailed}
use Rattle.program_faults.specs.declared.reasons.Reason.{Reason}
use Rattle.page_programs.specs.declared.stops.Stop.{Stop}
use Rattle.page_programs.specs.declared.stops.Stop.TheVariants.{Read, NotText, Write, Memory, NotReplaced}

module _ {R : Type 0} (remaining : R → Option (List ℕ)) (reads : R → Result (List ℕ) Reason → R → Type 0) where
  -- A page that is done was read to its end, and the last read gave no byte. Where it can't be read the last read failed, or there were as many
  -- reads as are made; where it is refused it was read to its end.
  abbrev pub EndsReading : {T : Type 0} → R → R → Result T Stop → Type 0
  EndsReading old new (Ok t) = IsAtEnd (remaining new) × HasEnded reads new
  EndsReading old new (Err (Read why)) = HasFailed reads why new ⊎ AreReads reads 281474976710655 old new
  EndsReading old new (Err (NotText offset)) = HasEnded reads new
  EndsReading old new (Err (Write why)) = ⊤
  EndsReading old new (Err Memory) = ⊤
  EndsReading old new (Err (NotReplaced refusal)) = ⊤

  -- A page was read so, and nothing but reads was done to it.
  pub record IsRead {T : Type 0} (old new : R) (end : Result T Stop) : Type 0 where
    pub ended : EndsReading old new end
    pub reads_alone : (count : ℕ) × AreReads reads count old new
