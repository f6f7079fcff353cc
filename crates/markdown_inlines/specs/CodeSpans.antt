-- Code spans. (CommonMark 0.31.2, section 6.1, code spans)
use Rattle.std.specs.Prelude.{ℕ, suc, Bool, ◌==◌, ◌+◌, ◌<◌, ◌≤◌, ◌≡◌, ◌≢◌, List, get_or}
use Rattle.markdown_scanners_tree.specs.Ascii.{backtick}
use Rattle.markdown_inlines.specs.declared.code_spans.CodeSpan.{CodeSpan}

abbrev pub is_backtick : ℕ → Bool
is_backtick b = b == backtick

-- A backtick string of n bytes stands at an offset: backticks, neither preceded nor followed by one.
pub record IsBacktickString (text : List ℕ) (offset n : ℕ) : Type 0 where
  pub some : 0 < n
  pub backticks : (k : ℕ) → k < n → get_or text (offset + k) 0 ≡ backtick
  pub not_preceded : (k : ℕ) → offset ≡ suc k → get_or text k 0 ≢ backtick
  pub not_followed : get_or text (offset + n) 0 ≢ backtick

-- no backtick string of n bytes begins from one offset up to another
abbrev pub HasNone : List ℕ → ℕ → ℕ → ℕ → Type 0
HasNone text n from to = (offset : ℕ) → from ≤ offset → offset < to → ¬ IsBacktickString text offset n

-- A code span stands at the front of the text: it begins with a backtick string, and ends with the next one of equal length.
pub record IsCodeSpan (text : List ℕ) (span : CodeSpan) : Type 0 where
  pub opens : IsBacktickString text 0 span.content.start
  pub in_order : span.content.start ≤ span.content.end
  pub closes : IsBacktickString text span.content.end span.content.start
  pub next : HasNone text span.content.start span.content.start span.content.end
  pub counted : span.len ≡ span.content.end + span.content.start
