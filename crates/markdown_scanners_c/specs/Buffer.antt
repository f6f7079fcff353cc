-- Texts, and lists of structs, that are written into a buffer of the caller's.
use Rattle.std.specs.Prelude.{ℕ, List, ◌≡◌, ◌≢◌, ◌≤◌, ◌<◌, ◌++◌, ◌⊎◌, drop, length}
use Rattle.markdown_scanners_c.specs.Status.{ok, too_short}

-- The text stands at the front of the buffer, whose other bytes are as they were; or it is longer than the buffer, in
-- which nothing has changed. Its length is returned in both cases. The same of a list of structs.
abbrev pub IsWritten : {A : Type 0} → List A → List A → List A → ℕ → ℕ → Type 0
IsWritten text old new status needed =
    (needed ≡ length text)
    × (((status ≡ ok) × (length text ≤ length old) × (new ≡ text ++ drop (length text) old))
    ⊎ ((status ≡ too_short) × (length old < length text) × (new ≡ old)))

-- Only so many bytes at the front of the buffer may have changed, and only where the status says that they are an answer.
abbrev pub IsChangedFront : List ℕ → List ℕ → ℕ → ℕ → Type 0
IsChangedFront old new status count = (drop count new ≡ drop count old) × (status ≢ ok → new ≡ old)
