-- What holds where all pages are done, and where something is found in one.
use Rattle.std.proofs.Common.{◌≡◌, ◌≢◌, ◌⊎◌, inl, inr, refl, arith}
use Rattle.page_programs.specs.Came.{Ends, came_at, status_of, worse}
use Rattle.page_programs.specs.declared.came.Came.{Came}
use Rattle.page_programs.specs.declared.came.Came.TheVariants.{Done, Found, IsNotDone, HasNoOutput}
use Rattle.page_programs.specs.declared.stops.Stop.{Stop}
use Rattle.page_programs.specs.declared.stops.Stop.TheVariants.{Read, NotText, Write, Memory, NotReplaced}

pub ends_worse : (MayFind A B C : Type 0) (one more : Came) → (A → B → C) → Ends MayFind one A → Ends MayFind more B
    → Ends MayFind (worse one more) C
ends_worse MayFind A B C Done Done both first next = both first next
ends_worse MayFind A B C Done Found both first next = (next.0, both first next.1)
ends_worse MayFind A B C Done IsNotDone both first next = tt
ends_worse MayFind A B C Done HasNoOutput both first next = tt
ends_worse MayFind A B C Found Done both first next = (first.0, both first.1 next)
ends_worse MayFind A B C Found Found both first next = (first.0, both first.1 next.1)
ends_worse MayFind A B C Found IsNotDone both first next = tt
ends_worse MayFind A B C Found HasNoOutput both first next = tt
ends_worse MayFind A B C IsNotDone Done both first next = tt
ends_worse MayFind A B C IsNotDone Found both first next = tt
ends_worse MayFind A B C IsNotDone IsNotDone both first next = tt
ends_worse MayFind A B C IsNotDone HasNoOutput both first next = tt
ends_worse MayFind A B C HasNoOutput more both first next = tt

pub ends_at : (MayFind A : Type 0) (stop : Stop) → Ends MayFind (came_at stop) A
ends_at MayFind A (Read why) = tt
ends_at MayFind A (NotText offset) = tt
ends_at MayFind A (Write why) = tt
ends_at MayFind A Memory = tt
ends_at MayFind A (NotReplaced refusal) = tt

pub ends_done : (MayFind A : Type 0) (came : Came) → Ends MayFind came A → (status_of came ≡ 0) ⊎ (status_of came ≡ 1) → A
ends_done MayFind A Done ends is = ends
ends_done MayFind A Found ends is = ends.1
ends_done MayFind A IsNotDone ends (inl is) = absurd (omega (arith, is))
ends_done MayFind A IsNotDone ends (inr is) = absurd (omega (arith, is))
ends_done MayFind A HasNoOutput ends (inl is) = absurd (omega (arith, is))
ends_done MayFind A HasNoOutput ends (inr is) = absurd (omega (arith, is))

pub ends_found : (MayFind A : Type 0) (came : Came) → Ends MayFind came A → status_of came ≡ 1 → MayFind
ends_found MayFind A Done ends is = absurd (omega (arith, is))
ends_found MayFind A Found ends is = ends.0
ends_found MayFind A IsNotDone ends is = absurd (omega (arith, is))
ends_found MayFind A HasNoOutput ends is = absurd (omega (arith, is))

-- a run that tried pages has one of these statuses
pub status_of_came : (came : Came) → ((status_of came ≡ 0) ⊎ ((status_of came ≡ 1) ⊎ ((status_of came ≡ 2) ⊎ (status_of came ≡ 3)))) × status_of came ≢ 2
status_of_came Done = (inl refl, λ two. absurd (omega (arith, two)))
status_of_came Found = (inr (inl refl), λ two. absurd (omega (arith, two)))
status_of_came IsNotDone = (inr (inr (inr refl)), λ two. absurd (omega (arith, two)))
status_of_came HasNoOutput = (inr (inr (inr refl)), λ two. absurd (omega (arith, two)))
