-- Wikilinks, an extension: `[[target]]`, `[[target|text]]` and, with `!` before them, images. (Obsidian's internal links, as
-- pulldown-cmark documents them for `ENABLE_WIKILINKS`)
use Rattle.std.specs.Prelude.{ℕ, Bool, true, ◌||◌, ◌==◌, not, ◌+◌, ◌<◌, List, ◌≡◌, ◌⊎◌, drop, codes, IsTrue}
use Rattle.std.specs.List.{prefix_len}
use Rattle.std.specs.declared.ops.Range.{Range}
use Rattle.memchr.specs.Find.{occurs_at}
use Rattle.markdown_scanners_tree.specs.Ascii.{left_bracket, right_bracket, vertical_line}
use Rattle.markdown_scanners_tree.specs.Bytes.{is_line_ending}
use Rattle.markdown_values.specs.declared.values.extensions.Extensions.{Extensions}

-- a target has no bracket, no pipe and no line ending
abbrev pub is_target_byte : ℕ → Bool
is_target_byte b = not (b == left_bracket || b == right_bracket || b == vertical_line || is_line_ending b)

-- a target ends before a pipe, which is part of the head, or before `]]`, which is not
abbrev pub IsHeadEnd : List ℕ → ℕ → ℕ → Type 0
IsHeadEnd text offset end =
    ((occurs_at text (codes "|") offset ≡ true) × (end ≡ offset + 1)) ⊎ ((occurs_at text (codes "]]") offset ≡ true) × (end ≡ offset))

-- The head of a wikilink stands from one offset of a text to another: two left brackets, a target of some bytes, and a pipe unless
-- two right brackets follow.
pub record IsHead (text : List ℕ) (offset : ℕ) (target : Range ℕ) (end : ℕ) : Type 0 where
  pub brackets : occurs_at text (codes "[[") offset ≡ true
  pub begins : target.start ≡ offset + 2
  pub some : target.start < target.end
  pub longest : target.end ≡ target.start + prefix_len is_target_byte (drop target.start text)
  pub ends : IsHeadEnd text target.end end

abbrev pub HasNoHead : List ℕ → ℕ → Type 0
HasNoHead text offset = (target : Range ℕ) (end : ℕ) → ¬ IsHead text offset target end

-- An opener whose left bracket stands at an offset ends after that bracket; where wikilinks are asked for and the head of one stands
-- there, it ends with that.
abbrev pub IsOpenerEnd : Extensions → List ℕ → ℕ → ℕ → Type 0
IsOpenerEnd asked text offset end =
    (IsTrue asked.wikilinks × (target : Range ℕ) × IsHead text offset target end)
    ⊎ ((IsTrue asked.wikilinks → HasNoHead text offset) × (end ≡ offset + 1))
