-- Where the last backtick string of each length stands. (CommonMark 0.31.2, section 6.1, code spans)
use Rattle.std.specs.Prelude.{ℕ, ◌≤◌, ◌<◌, List, slice_index}
use Rattle.markdown_inlines.specs.CodeSpans.{IsBacktickString}

-- By its length, the offset of the last backtick string after an offset of the text, or 0 where there is none.
pub record AreLastStrings (text : List ℕ) (from : ℕ) (lasts : List ℕ) : Type 0 where
  pub latest : (offset n : ℕ) → from < offset → IsBacktickString text offset n → offset ≤ slice_index lasts n
  pub there : (n : ℕ) → 0 < slice_index lasts n → IsBacktickString text (slice_index lasts n) n
