-- Keys of link labels. (CommonMark 0.31.2, section 6.3, link labels: labels match where their case foldings are equal)
use Rattle.std.specs.Prelude.{ℕ, List, ◌≡◌, ◌⊎◌, length, encode_utf8_all}
use Rattle.std.specs.Str.{IsUtf8}
use Rattle.markdown_scanners_tree.specs.linklabel.Key.{label_key}
use Rattle.markdown_scanners_c.specs.Buffer.{IsWritten}
use Rattle.markdown_scanners_c.specs.Status.{not_utf8, no_memory}
use Rattle.markdown_scanners_c.specs.Texts.{IsNoText}
use Rattle.markdown_scanners_c.specs.declared.texts.Text.{Text}

-- the key of a label as UTF-8
abbrev pub key_bytes : List ℕ → List ℕ
key_bytes label = encode_utf8_all (label_key label)

-- The key of a label is written; or memory for it was refused.
abbrev pub IsKeyText : List ℕ → List ℕ → List ℕ → Text → Type 0
IsKeyText label old new text =
    (IsNoText no_memory text × (new ≡ old))
    ⊎ ((text.taken ≡ length label) × IsWritten (key_bytes label) old new text.status text.length)

-- The bytes are no text; or they are one, and its key is returned.
abbrev pub IsReturnedKey : List ℕ → List ℕ → List ℕ → Text → Type 0
IsReturnedKey label old new text =
    (IsNoText not_utf8 text × ¬ (IsUtf8 label) × (new ≡ old))
    ⊎ (IsUtf8 label × IsKeyText label old new text)
