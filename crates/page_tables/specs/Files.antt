-- What files hold, where that is known, and why one is not replaced.
use Rattle.std.specs.Prelude.{ℕ, true, false, ◌≡◌, ◌≢◌, ◌⊎◌, List, Option, Some, Result, IfSome}
use Rattle.std.specs.Str.{bytes_eq}
use Rattle.program_faults.specs.Steps.{AreReads, CantWrite, HasFailed}
use Rattle.program_faults.specs.declared.reasons.Reason.{Reason}
use Rattle.program_faults.specs.declared.reasons.Reason.TheVariants as reason
use Rattle.page_programs.specs.Files.{AreKept}
use Rattle.page_programs.specs.declared.stops.Refusal.{Refusal}
use Rattle.page_programs.specs.declared.stops.Refusal.TheVariants.{Stands, HasChanged, IsCopied}

module _ {F : Type 0} (holds : F → List ℕ → Option (List ℕ)) where
  -- each file but the one of this name holds what it held
  abbrev pub AreOthersKept : List ℕ → F → F → Type 0
  AreOthersKept name old new = (other : List ℕ) → other ≢ name → holds new other ≡ holds old other

  -- The file of this name, if it is known what that held, holds these bytes.
  abbrev pub HoldsNow : List ℕ → List ℕ → F → F → Type 0
  HoldsNow name bytes old new = IfSome (holds old name) (λ before. holds new name ≡ Some bytes)

  -- Each file but the one of this name holds what it held; so does that, if it is known what it held.
  abbrev pub Stood : List ℕ → F → F → Type 0
  Stood name old new = AreOthersKept name old new × IfSome (holds old name) (λ before. holds new name ≡ Some before)

  -- It held this page.
  abbrev pub HeldPage : List ℕ → List ℕ → F → Type 0
  HeldPage name page old = IfSome (holds old name) (λ before. before ≡ page)

  -- A file that would not change is not touched; another, which held this page still, holds the text.
  pub record IsReplaced (name page text : List ℕ) (old new : F) : Type 0 where
    pub stays : bytes_eq text page ≡ true → new ≡ old
    pub held_page : bytes_eq text page ≡ false → HeldPage name page old
    pub holds_text : bytes_eq text page ≡ false → HoldsNow name text old new
    pub others : AreOthersKept name old new

module _ {F O N : Type 0} (refuses : F → Reason → F → Type 0) (reads : O → Result (List ℕ) Reason → O → Type 0)
    (writes : N → List ℕ → Result ℕ Reason → N → Type 0) where
  -- A step was refused for this reason; or its copy can't be written for it; or the file can't be read again; or memory is refused.
  abbrev pub WasRefused : Reason → Type 0
  WasRefused why =
      ((old : F) × (new : F) × refuses old why new) ⊎ (((copy : N) × CantWrite writes why copy)
      ⊎ (((old : O) × (new : O) × (HasFailed reads why new ⊎ AreReads reads 281474976710655 old new)) ⊎ (why ≡ reason.Memory)))

  module _ (holds : F → List ℕ → Option (List ℕ)) (is_beside : F → List ℕ → List ℕ → Type 0) where
    -- What there is where the file of this name is not replaced: it stands as it was; or as it is, since it does not hold this page; or it
    -- may be written in part, and a copy of it is beside it.
    abbrev pub IsUnreplaced : List ℕ → List ℕ → F → F → Refusal → Type 0
    IsUnreplaced name page old new (Stands why) = Stood holds name old new × WasRefused why
    IsUnreplaced name page old new HasChanged = AreKept holds old new × IfSome (holds old name) (λ now. now ≢ page)
    IsUnreplaced name page old new (IsCopied why) =
        AreOthersKept holds name old new × WasRefused why × IfSome (holds old name) (λ before. is_beside new name before)
