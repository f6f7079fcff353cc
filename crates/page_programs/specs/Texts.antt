-- What a page is read as that may not be UTF-8.
use Rattle.std.specs.Prelude.{ℕ, Bool, true, false, ◌≡◌, ◌⊎◌, List}
use Rattle.std.specs.Str.{IsUtf8, IsValidUpTo}
use Rattle.std.specs.Str.Lossy.{utf8_lossy}

-- The text that a page is read as: itself. Where it is not UTF-8, and that is mended, each part of it that is wrong is U+FFFD: the longest
-- that begins a character, or else one byte. (Encoding standard, the UTF-8 decoder with the error mode "replacement")
abbrev pub IsReadAs : Bool → List ℕ → List ℕ → Type 0
IsReadAs mends page text = (IsUtf8 page × (text ≡ page)) ⊎ ((¬ IsUtf8 page) × (mends ≡ true) × (text ≡ utf8_lossy page))

-- A page is refused, if that is not mended: it is not UTF-8, and so many bytes stand before the first that is wrong.
abbrev pub IsRefused : Bool → List ℕ → ℕ → Type 0
IsRefused mends page offset = (¬ IsUtf8 page) × (mends ≡ false) × IsValidUpTo page offset
