-- What files hold, where that is known.
use Rattle.std.specs.Prelude.{ℕ, ◌≡◌, List, Option}

-- each file holds what it held
abbrev pub AreKept : {F : Type 0} → (F → List ℕ → Option (List ℕ)) → F → F → Type 0
AreKept holds old new = (name : List ℕ) → holds new name ≡ holds old name
