-- What is left of a line after a write, and reads one after another.
use Rattle.std.proofs.Common.{◌≡◌, ℕ, suc, ◌+◌, ◌-◌, ◌<◌, ◌==◌, true, false, List, [], ◌∷◌, ◌++◌, length, take, drop, Option, Some, None}
use Rattle.std.proofs.Common.{refl, sym, ap, subst, ◌∙◌, arith, add-one, append_assoc, append-nil}
use Rattle.std.specs.Io.KnownBytes.{Appends, Keeps}
use Rattle.std.proofs.lemmas.Bool.{eqb-true}
use Rattle.std.proofs.lemmas.List.{length-drop, take_all, take-append-drop}
use Rattle.program_faults.specs.Faults.{AppendsBefore}
use Rattle.std.specs.Prelude.{Result, Ok, Err}
use Rattle.program_faults.specs.declared.reasons.Reason.{Reason}
use Rattle.program_faults.specs.Steps.{AreReads, AreWrites, no_read, read, write, IsGiven, nothing_left, refused, failed, taken}

-- what a slice takes from an offset on is all that is after it
whole_rest : (bytes : List ℕ) (i : ℕ) → take (length bytes - i) (drop i bytes) ≡ drop i bytes
whole_rest bytes i = take_all (length bytes - i) (drop i bytes) (omega (arith, length-drop i bytes))

-- a write took some of the rest of a line
pub printed-more : (old middle new : Option (List ℕ)) (line rest : List ℕ) (count : ℕ) → AppendsBefore old middle line rest
    → Appends middle new (take count rest) → AppendsBefore old new line (take (length rest - count) (drop count rest))
printed-more None middle new line rest count before more = tt
printed-more (Some xs) None new line rest count before more = absurd before
printed-more (Some xs) (Some ys) None line rest count before more = absurd more
printed-more (Some xs) (Some ys) (Some zs) line rest count (prefix, all, grown) more = (
  prefix ++ take count rest,
  all ∙ ap (λ r. prefix ++ r) (sym (take-append-drop count rest)) ∙ sym (append_assoc prefix (take count rest) (drop count rest))
      ∙ ap (λ r. (prefix ++ take count rest) ++ r) (sym (whole_rest rest count)),
  more ∙ ap (λ l. l ++ take count rest) grown ∙ append_assoc xs prefix (take count rest),
)

-- all of a line is left at the start
pub printed-none : (at : Option (List ℕ)) (line : List ℕ) → AppendsBefore at at line line
printed-none None line = tt
printed-none (Some xs) line = ([], refl, sym (append-nil xs))

-- a write took none of it
pub printed-kept : (old middle new : Option (List ℕ)) (line rest : List ℕ) → AppendsBefore old middle line rest → Keeps middle new
    → AppendsBefore old new line rest
printed-kept None middle new line rest before keeps = tt
printed-kept (Some xs) None new line rest before keeps = absurd before
printed-kept (Some xs) (Some ys) None line rest before keeps = absurd keeps
printed-kept (Some xs) (Some ys) (Some zs) line rest (prefix, all, grown) keeps = (prefix, all, keeps ∙ grown)

-- nothing is left of it
pub printed-whole : (old new : Option (List ℕ)) (line rest : List ℕ) → (length rest == 0) ≡ true → AppendsBefore old new line rest → Appends old new line
printed-whole old new line (b ∷ rest) empty before = absurd (omega (arith, eqb-true (length (b ∷ rest)) 0 empty))
printed-whole None new line [] empty before = tt
printed-whole (Some xs) None line [] empty before = absurd before
printed-whole (Some xs) (Some ys) line [] empty (prefix, all, grown) = grown ∙ ap (λ l. xs ++ l) (sym (all ∙ append-nil prefix))

module _ {W : Type 0} (writes : W → List ℕ → Result ℕ Reason → W → Type 0) where
  pub given-nothing : (at : W) (rest : List ℕ) → (length rest == 0) ≡ true → IsGiven writes at rest at
  given-nothing at [] empty = nothing_left at
  given-nothing at (b ∷ rest) empty = absurd (omega (arith, eqb-true (length (b ∷ rest)) 0 empty))

  not_empty : (rest : List ℕ) → (length rest == 0) ≡ false → 0 < length rest
  not_empty [] some = cc
  not_empty (b ∷ rest) some = omega arith

  pub given-refused : (old new : W) (rest : List ℕ) (count : ℕ) → (length rest == 0) ≡ false → count ≡ 0 → writes old rest (Ok count) new
      → IsGiven writes old rest new
  given-refused old new rest count some none step = refused old new rest (not_empty rest some) (subst (λ n. writes old rest (Ok n) new) none step)

  pub given-failed : (old new : W) (rest : List ℕ) (reason : Reason) → (length rest == 0) ≡ false → writes old rest (Err reason) new
      → IsGiven writes old rest new
  given-failed old new rest reason some step = failed old new rest reason (not_empty rest some) step

  pub given-taken : (old middle new : W) (rest : List ℕ) (count : ℕ) → (count ≡ 0 → ⊥) → writes old rest (Ok count) middle
      → IsGiven writes middle (take (length rest - count) (drop count rest)) new → IsGiven writes old rest new
  given-taken old middle new rest count some step more =
      taken old middle new rest count (omega (arith, some)) step (subst (λ r. IsGiven writes middle r new) (whole_rest rest count) more)

  -- one more write
  pub writes-more : (count : ℕ) (old middle new : W) (bytes : List ℕ) (given : Result ℕ Reason) → AreWrites writes count old middle → writes middle bytes given new
      → AreWrites writes (count + 1) old new
  writes-more count old middle new bytes given made step = rw add-one (write count old middle new bytes given made step)

module _ {R : Type 0} (reads : R → Result (List ℕ) Reason → R → Type 0) where
  -- a read more
  pub reads-read : (count : ℕ) (old middle new : R) (given : Result (List ℕ) Reason) → AreReads reads count old middle → reads middle given new
      → AreReads reads (suc count) old new
  reads-read count old middle new given (no_read at) step = read 0 old new new given step (no_read new)
  reads-read count old middle new given (read n first second last g step more) later =
      read count first second new g step (reads-read n second middle new given more later)

  -- these reads, and then those
  pub reads-append : (count more : ℕ) (old middle new : R) → AreReads reads count old middle → AreReads reads more middle new
      → AreReads reads (count + more) old new
  reads-append count more old middle new (no_read at) later = let all : more ≡ 0 + more = omega arith in subst (λ n. AreReads reads n at new) all later
  reads-append count more old middle new (read n first second last g step rest) later =
      let all : suc (n + more) ≡ suc n + more = omega arith in
      subst (λ k. AreReads reads k first new) all (read (n + more) first second new g step (reads-append n more second middle new rest later))
