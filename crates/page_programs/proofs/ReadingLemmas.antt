-- Bytes that are read and written in turn.
use Rattle.std.proofs.Common.{ℕ, suc, ◌+◌, ◌-◌, ◌<◌, ◌≡◌, ◌⊎◌, inl, inr, List, []}
use Rattle.std.proofs.Common.{◌++◌, Option, Some, None, Ok, Err, IfErr, refl, sym, ap, subst, ◌∙◌, arith, append_assoc, append-nil}
use Rattle.std.specs.Io.KnownBytes.{Consumes, Appends, IsAtEnd}
use Rattle.std.specs.Prelude.{Result, IfSome}
use Rattle.std.specs.Result.{IsErrAnd}
use Rattle.program_faults.specs.Steps.{AreReads, HasFailed}
use Rattle.program_faults.specs.declared.reasons.Reason.{Reason}
use Rattle.program_faults.proofs.StepLemmas.{reads-read, reads-append}

pub consumes-none : (a : Option (List ℕ)) → Consumes a a []
consumes-none None = tt
consumes-none (Some xs) = refl

pub consumes-more : (a b c : Option (List ℕ)) (xs ys : List ℕ) → Consumes a b xs → Consumes b c ys → Consumes a c (xs ++ ys)
consumes-more None b c xs ys first next = tt
consumes-more (Some a) None c xs ys first next = absurd first
consumes-more (Some a) (Some b) None xs ys first next = absurd next
consumes-more (Some a) (Some b) (Some c) xs ys first next = first ∙ ap (λ l. xs ++ l) next ∙ sym (append_assoc xs ys c)

pub appends-none : (a : Option (List ℕ)) → Appends a a []
appends-none None = tt
appends-none (Some xs) = sym (append-nil xs)

pub appends-more : (a b c : Option (List ℕ)) (xs ys : List ℕ) → Appends a b xs → Appends b c ys → Appends a c (xs ++ ys)
appends-more None b c xs ys first next = tt
appends-more (Some a) None c xs ys first next = absurd first
appends-more (Some a) (Some b) None xs ys first next = absurd next
appends-more (Some a) (Some b) (Some c) xs ys first next = next ∙ ap (λ l. l ++ ys) first ∙ append_assoc a xs ys

module _ {R : Type 0} (reads : R → Result (List ℕ) Reason → R → Type 0) where
  -- one of the reads that were left is made
  pub reads_less : (left start : ℕ) (old middle new : R) (given : Result (List ℕ) Reason) → 0 < left
      → (count : ℕ) × (left + count ≡ start) × AreReads reads count old middle → reads middle given new
      → (count : ℕ) × ((left - 1) + count ≡ start) × AreReads reads count old new
  reads_less left start old middle new given some made step =
      (suc made.0, omega (arith, some, made.1), reads-read reads made.0 old middle new given made.2 step)

  -- so are some more of them
  pub reads_on : (left less start : ℕ) (old middle new : R) → (count : ℕ) × (left + count ≡ start) × AreReads reads count old middle
      → (count : ℕ) × (less + count ≡ left) × AreReads reads count middle new
      → (count : ℕ) × (less + count ≡ start) × AreReads reads count old new
  reads_on left less start old middle new made more =
      (made.0 + more.0, omega (arith, made.1, more.1), reads-append reads made.0 more.0 old middle new made.2 more.2)

  -- all together
  pub reads_made : (left less start : ℕ) (old middle new : R) → (count : ℕ) × (left + count ≡ start) × AreReads reads count old middle
      → (count : ℕ) × (less + count ≡ left) × AreReads reads count middle new → (count : ℕ) × AreReads reads count old new
  reads_made left less start old middle new made more =
      let all = reads_on left less start old middle new made more in (all.0, all.2)

  -- there are as many as were left at the start, where none is left
  pub reads_all : (why : Reason) (left less start : ℕ) (old middle new : R) → (count : ℕ) × (left + count ≡ start) × AreReads reads count old middle
      → (count : ℕ) × (less + count ≡ left) × AreReads reads count middle new
      → HasFailed reads why new ⊎ (less ≡ 0) → HasFailed reads why new ⊎ AreReads reads start old new
  reads_all why left less start old middle new made more (inl failed) = inl failed
  reads_all why left less start old middle new made more (inr none) =
      let all = reads_on left less start old middle new made more in
      let whole : all.0 ≡ start = omega (arith, all.1, none) in inr (subst (λ n. AreReads reads n old new) whole all.2)

-- What was read up to the end of the input is all of it.
pub whole_input : (input left : Option (List ℕ)) (read : List ℕ) → Consumes input left read → IsAtEnd left → IfSome input (λ bytes. read ≡ bytes)
whole_input None left read consumes end = tt
whole_input (Some page) None read consumes end = absurd consumes
whole_input (Some page) (Some rest) read consumes end = sym (consumes ∙ ap (λ l. read ++ l) end ∙ append-nil read)

-- an error that is handed on is the one that it was
pub by_err : {T E : Type 0} {A : Type 0} {X : A → Type 0} {wanted : A → E} (r : Result T E) (error : E) → IsErrAnd r (λ e. e ≡ error)
    → ((why : A) → error ≡ wanted why → X why) → IfErr r (λ e. (why : A) → e ≡ wanted why → X why)
by_err (Ok t) error is h = tt
by_err (Err e) error is h = λ why same. h why (sym is ∙ same)
