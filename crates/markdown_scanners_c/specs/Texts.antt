-- Texts that references and escapes stand for. (CommonMark 0.31.2, sections 2.4, backslash escapes, and 2.5, entity and
-- numeric character references)
use Rattle.std.specs.Prelude.{ℕ, Bool, List, [], ◌≡◌, ◌<◌, ◌⊎◌, length}
use Rattle.std.specs.Str.{IsUtf8}
use Rattle.html_entities.specs.Entities.{html_entity}
use Rattle.markdown_scanners_tree.specs.scanners.entities.CharacterReference.{StartsWithReference}
use Rattle.markdown_scanners_tree.specs.scanners.unescaping.Unescaping.{Piece, ArePieces, AreThemselves, joined_meanings}
use Rattle.markdown_scanners_c.specs.Buffer.{IsWritten}
use Rattle.markdown_scanners_c.specs.Status.{empty, nothing, not_utf8, no_memory}
use Rattle.markdown_scanners_c.specs.declared.texts.Text.{Text}

-- a status, and no text
abbrev pub IsNoText : ℕ → Text → Type 0
IsNoText status text = (text.status ≡ status) × (text.taken ≡ 0) × (text.length ≡ 0)

-- No bytes; or no character reference at their front; or one, whose text is written.
unfoldable pub IsReferenceText : List ℕ → List ℕ → List ℕ → Text → Type 0
IsReferenceText bytes old new text =
    (IsNoText empty text × (bytes ≡ []) × (new ≡ old))
    ⊎ (IsNoText nothing text × (0 < length bytes) × (new ≡ old)
    × ((n : ℕ) (meaning : List ℕ) → ¬ (StartsWithReference html_entity bytes n meaning)))
    ⊎ ((meaning : List ℕ) × StartsWithReference html_entity bytes text.taken meaning
    × IsWritten meaning old new text.status text.length)

-- What the pieces of a text mean is written; or memory for it was refused, and then some piece doesn't mean itself.
unfoldable pub IsMeaningText : Bool → List ℕ → List ℕ → List ℕ → Text → Type 0
IsMeaningText in_table bytes old new text =
    (pieces : List Piece) × ArePieces in_table html_entity bytes pieces
    × (((text.taken ≡ length bytes) × IsWritten (joined_meanings pieces) old new text.status text.length)
    ⊎ (IsNoText no_memory text × (new ≡ old) × ¬ (AreThemselves pieces)))

-- The bytes are no text; or they are one, and what it means is written.
abbrev pub IsUnescapedText : Bool → List ℕ → List ℕ → List ℕ → Text → Type 0
IsUnescapedText in_table bytes old new text =
    (IsNoText not_utf8 text × ¬ (IsUtf8 bytes) × (new ≡ old))
    ⊎ (IsUtf8 bytes × IsMeaningText in_table bytes old new text)
