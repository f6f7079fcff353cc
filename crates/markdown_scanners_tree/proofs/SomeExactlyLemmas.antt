-- Answers that are Some exactly where there is something to find.
use Rattle.std.proofs.Common.{◌≡◌, ◌↔◌, ◌∙◌, IsTrue, Bool, true, false, sym, subst, Option, Some, None}
use Rattle.std.specs.Option.{is_some}
use Rattle.markdown_scanners_tree.specs.SomeExactly.{SomeExactly, IsOnly}

-- where nothing has the property None is such an answer
pub SomeExactly-from_none : {A : Type 0} (P : A → Type 0) {answer : Option A} → answer ≡ None
    → ((a : A) → ¬ P a) → SomeExactly P answer
SomeExactly-from_none P none nothing = subst (SomeExactly P) (sym none) nothing

-- where two values that have the property are equal, the one that is found is the only one
pub IsOnly-found : {A : Type 0} (P : A → Type 0) → ((a b : A) → P a → P b → a ≡ b) → (answer : Option A)
    → SomeExactly P answer → IsOnly P answer
IsOnly-found P one None found = tt
IsOnly-found P one (Some a) found = λ other is. one other a is found

-- pairs of equal parts
pub same_pair : {A B : Type 0} {a a' : A} {b b' : B} → a ≡ a' → b ≡ b' → ◌≡◌ {A = A × B} (a, b) (a', b')
same_pair first second = λ i. (first i, second i)

-- what `is_some` tells of an answer that is Some exactly where there is something to find
module _ {T : Type 0} (P : T → Type 0) where
  pub SomeExactly-some : (answer : Option T) → is_some answer ≡ true → SomeExactly P answer → (x : T) × P x
  SomeExactly-some None some holds = cc
  SomeExactly-some (Some x) some holds = (x, holds)

  pub SomeExactly-none : (answer : Option T) → is_some answer ≡ false → SomeExactly P answer → (x : T) → ¬ P x
  SomeExactly-none None none holds = holds
  SomeExactly-none (Some x) none holds = cc

  pub SomeExactly-given : (answer : Option T) (test : Bool) → test ≡ is_some answer → SomeExactly P answer
      → IsTrue test ↔ ((x : T) × P x)
  SomeExactly-given None test is none = (λ t. absurd (let gone = sym is ∙ t in cc), λ x. absurd (none x.0 x.1))
  SomeExactly-given (Some x) test is holds = (λ t. (x, holds), λ _. is)

  -- the same answer to another question
  pub SomeExactly-map : (Q : T → Type 0) (answer : Option T) → ((x : T) → P x → Q x)
      → (((x : T) → ¬ P x) → (x : T) → ¬ Q x) → SomeExactly P answer → SomeExactly Q answer
  SomeExactly-map Q None found none holds = none holds
  SomeExactly-map Q (Some x) found none holds = found x holds
