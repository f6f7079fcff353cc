-- Reads and writes, one after another.
use Rattle.std.specs.Prelude.{ℕ, suc, ◌≡◌, ◌⊎◌, ◌<◌, List, [], ◌∷◌, length, take, drop, Result, Ok, Err}
use Rattle.program_faults.specs.declared.reasons.Reason.{Reason}
use Rattle.program_faults.specs.declared.reasons.Reason.TheVariants.{Interrupted, Other}

-- the bytes that a read gave at the front of its buffer, or why it failed
abbrev pub bytes_read : Result ℕ Reason → List ℕ → Result (List ℕ) Reason
bytes_read (Err reason) buffer = Err reason
bytes_read (Ok count) buffer = Ok (take count buffer)

module _ {R : Type 0} (reads : R → Result (List ℕ) Reason → R → Type 0) where
  -- from one state to the other by so many reads
  pub data AreReads : ℕ → R → R → Type 0 where
    no_read : (at : R) → AreReads 0 at at
    read : (count : ℕ) (old middle new : R) (given : Result (List ℕ) Reason) → reads old given middle → AreReads count middle new → AreReads (suc count) old new

  -- the last read gave no byte
  abbrev pub HasEnded : R → Type 0
  HasEnded new = (old : R) × reads old (Ok []) new

  -- the last read failed for this reason
  abbrev pub HasFailed : Reason → R → Type 0
  HasFailed reason new = (old : R) × reads old (Err reason) new

module _ {W : Type 0} (writes : W → List ℕ → Result ℕ Reason → W → Type 0) where
  -- The bytes are given to the writer, and what it has not taken is given to it again, until nothing is left, or it takes nothing or fails.
  pub data IsGiven : W → List ℕ → W → Type 0 where
    nothing_left : (at : W) → IsGiven at [] at
    refused : (old new : W) (bytes : List ℕ) → 0 < length bytes → writes old bytes (Ok 0) new → IsGiven old bytes new
    failed : (old new : W) (bytes : List ℕ) (reason : Reason) → 0 < length bytes → writes old bytes (Err reason) new → IsGiven old bytes new
    taken : (old middle new : W) (bytes : List ℕ) (count : ℕ) → 0 < count → writes old bytes (Ok count) middle → IsGiven middle (drop count bytes) new →
        IsGiven old bytes new

  -- parts of a line are given to it in this way, one after another
  pub data AreGiven : W → List (List ℕ) → W → Type 0 where
    no_part : (at : W) → AreGiven at [] at
    part : (old middle new : W) (bytes : List ℕ) (parts : List (List ℕ)) → IsGiven old bytes middle → AreGiven middle parts new
        → AreGiven old (bytes ∷ parts) new

  -- The last write failed for this reason, or it took nothing.
  abbrev pub HasRefused : Reason → W → Type 0
  HasRefused reason new = (old : W) × (bytes : List ℕ) × (writes old bytes (Err reason) new ⊎ (0 < length bytes × (reason ≡ Other)
      × writes old bytes (Ok 0) new))

  -- from one state to the other by so many writes
  pub data AreWrites : ℕ → W → W → Type 0 where
    no_write : (at : W) → AreWrites 0 at at
    write : (count : ℕ) (old middle new : W) (bytes : List ℕ) (given : Result ℕ Reason) → AreWrites count old middle → writes middle bytes given new
        → AreWrites (suc count) old new

  -- Why no more is written: the last write was refused for this reason; or it was interrupted, and as many were made as are made.
  abbrev pub CantWrite : Reason → W → Type 0
  CantWrite reason new = HasRefused reason new ⊎ ((reason ≡ Interrupted) × (old : W) × AreWrites 18446744073709551615 old new)
