-- What comes of a page that is read whole, where it can't be read or its text not be written.
use Rattle.std.proofs.Common.{ℕ, Bool, ◌≡◌, ◌≢◌, List, Option, Result, Ok, Err, refl, sym, subst}
use Rattle.std.specs.Result.{IsErrAnd}
use Rattle.program_faults.specs.Faults.{AppendsPrefix}
use Rattle.program_faults.specs.declared.reasons.Reason.{Reason}
use Rattle.page_programs.specs.Cuts.{RefusesAllOf}
use Rattle.page_programs.specs.Stops.{IsWrite}
use Rattle.page_programs.specs.Texts.{IsRefused}
use Rattle.page_programs.specs.Wholes.{IsDue, PrintsWhole}
use Rattle.page_programs.specs.declared.stops.Refusal.{Refusal}
use Rattle.page_programs.specs.declared.stops.Stop.{Stop}
use Rattle.page_programs.specs.declared.stops.Stop.TheVariants.{Read, NotText, Write, Memory, NotReplaced}
use Rattle.page_programs.specs.declared.streams.Outputs.{Outputs}

module _ (mends : Bool) (is_printed : List ℕ → List ℕ → List ℕ → Type 0) (checks : Bool) {F W V : Type 0} (contents : W → Option (List ℕ))
    (pages : ℕ) (name : List ℕ) (input left : Option (List ℕ)) (old : Outputs F W V) where
  pub not_read : (r : Result Bool Stop) (error : Stop) → IsErrAnd r (λ stop. stop ≡ error) → ((why : Reason) → error ≢ Write why)
      → ((offset : ℕ) → error ≡ NotText offset → RefusesAllOf (IsRefused mends) input offset) → ((refusal : Refusal) → error ≢ NotReplaced refusal)
      → PrintsWhole mends is_printed checks contents pages name input left old old r
  not_read (Ok found) error is unwritten refused unreplaced = absurd is
  not_read (Err (Read why)) error is unwritten refused unreplaced = refl
  not_read (Err (NotText offset)) error is unwritten refused unreplaced = (refused offset (sym is), refl)
  not_read (Err (Write why)) error is unwritten refused unreplaced = absurd (unwritten why (sym is))
  not_read (Err Memory) error is unwritten refused unreplaced = refl
  not_read (Err (NotReplaced refusal)) error is unwritten refused unreplaced = absurd (unreplaced refusal (sym is))

  pub not_written : (new : W) (r : Result Bool Stop) (error : Stop) → IsErrAnd r (λ stop. stop ≡ error) → IsWrite error
      → (text : List ℕ) → IsDue mends is_printed name input text → AppendsPrefix (contents old.output) (contents new) text
      → PrintsWhole mends is_printed checks contents pages name input left old record { files = old.files; output = new; faults = old.faults } r
  not_written new (Ok found) error is write text due front = absurd is
  not_written new (Err (Read why)) error is write text due front = absurd (subst IsWrite (sym is) write)
  not_written new (Err (NotText offset)) error is write text due front = absurd (subst IsWrite (sym is) write)
  not_written new (Err (Write why)) error is write text due front = (text, due, front, (refl, refl))
  not_written new (Err Memory) error is write text due front = absurd (subst IsWrite (sym is) write)
  not_written new (Err (NotReplaced refusal)) error is write text due front = absurd (subst IsWrite (sym is) write)
