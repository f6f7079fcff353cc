-- Which labels a caller says are defined. (CommonMark 0.31.2, section 6.3: labels match where their case foldings are equal)
use Rattle.std.specs.Prelude.{ℕ, Bool, List, ◌&&◌, IsTrue}
use Rattle.std.specs.List.{list_all, list_any}
use Rattle.std.specs.Str.{is_utf8, bytes_eq}
use Rattle.markdown_inlines.specs.Links.{Known}
use Rattle.markdown_scanners_c.specs.Keys.{key_bytes}
use Rattle.markdown_scanners_c.specs.declared.known_labels.View.{View}

-- each of these is UTF-8
abbrev pub AreTexts : List View → Type 0
AreTexts labels = IsTrue (list_all (λ (label : View). is_utf8 label.text.now) labels)

-- a label that is UTF-8 has this key
abbrev pub has_key : List ℕ → View → Bool
has_key key label = is_utf8 label.text.now && bytes_eq (key_bytes label.text.now) key

-- one of these labels matches another
abbrev pub known_in : List View → Known
known_in labels name = list_any (has_key (key_bytes name)) labels
