-- Delimiter runs, and which of them can open and close emphasis. (CommonMark 0.31.2, section 6.2, emphasis and strong emphasis; GitHub
-- Flavored Markdown 0.29, section 6.5, strikethrough)
use Rattle.std.specs.Prelude.{ℕ, Bool, ◌&&◌, ◌||◌, ◌==◌, not, true, false, ◌+◌, ◌≡◌, ◌<◌, ◌⊎◌, List, take, drop, Option}
use Rattle.std.specs.Prelude.{Some, None, IsTrue}
use Rattle.std.specs.List.{prefix_len, last_or, slice_get}
use Rattle.std.specs.Str.{chars}
use Rattle.ucd_category.specs.GeneralCategory.{general_category}
use Rattle.ucd_category.specs.GeneralCategoryGroup.{in_group}
use Rattle.ucd_category.specs.declared.GeneralCategory.{GeneralCategory}
use Rattle.ucd_category.specs.declared.GeneralCategory.TheVariants.{SpaceSeparator}
use Rattle.ucd_category.specs.declared.GeneralCategoryGroup.TheVariants.{Punctuation, Symbol}
use Rattle.markdown_scanners_tree.specs.Ascii.{asterisk, underscore, tilde}
use Rattle.markdown_inlines.specs.declared.delimiter_runs.DelimiterRun.{DelimiterRun}
use Rattle.markdown_values.specs.declared.values.extensions.Extensions.{Extensions}

abbrev pub is_space_separator : GeneralCategory → Bool
is_space_separator SpaceSeparator = true
is_space_separator category = false

-- a Unicode white space character: of category Zs, or a tab, LF, form feed or CR (2.1)
abbrev pub is_white_space : ℕ → Bool
is_white_space c = c == 9 || c == 10 || c == 12 || c == 13 || is_space_separator (general_category c)

-- a Unicode punctuation character: of category P or S (2.1)
abbrev pub is_punctuation : ℕ → Bool
is_punctuation c = in_group Punctuation (general_category c) || in_group Symbol (general_category c)

-- the same of a side of a run: the beginning and the end of the text count as white space
abbrev pub is_white_side : Option ℕ → Bool
is_white_side None = true
is_white_side (Some c) = is_white_space c

abbrev pub is_punctuation_side : Option ℕ → Bool
is_punctuation_side None = false
is_punctuation_side (Some c) = is_punctuation c

-- Between these characters a run is left-flanking: it is not followed by white space, and either not followed by punctuation, or
-- followed by it and preceded by white space or punctuation. It is right-flanking where it is so with the sides changed.
abbrev pub is_left_flanking : Option ℕ → Option ℕ → Bool
is_left_flanking before after =
    not (is_white_side after) && (not (is_punctuation_side after) || is_white_side before || is_punctuation_side before)

abbrev pub is_right_flanking : Option ℕ → Option ℕ → Bool
is_right_flanking before after = is_left_flanking after before

-- A run of this byte can open emphasis: of `*` where it is left-flanking; of `_` where besides it is not right-flanking, or is
-- preceded by punctuation. (rules 1, 2, 5 and 6)
abbrev pub can_open : ℕ → Option ℕ → Option ℕ → Bool
can_open byte before after =
    is_left_flanking before after && (byte == asterisk || not (is_right_flanking before after) || is_punctuation_side before)

-- It can close emphasis where with the sides changed it could open it. (rules 3, 4, 7 and 8)
abbrev pub can_close : ℕ → Option ℕ → Option ℕ → Bool
can_close byte before after = can_open byte after before

-- the characters before and after an offset of a text
abbrev pub char_before : List ℕ → ℕ → Option ℕ
char_before text offset = last_or None (chars (take offset text))

abbrev pub char_after : List ℕ → ℕ → Option ℕ
char_after text offset = slice_get (chars (drop offset text)) 0

-- a delimiter run begins at an offset of a text: it is the longest of one of the two bytes there
pub record IsDelimiterRun (text : List ℕ) (offset : ℕ) (run : DelimiterRun) : Type 0 where
  pub delimiter : (run.byte ≡ asterisk) ⊎ (run.byte ≡ underscore)
  pub some : 0 < run.count
  pub longest : run.count ≡ prefix_len (λ b. b == run.byte) (drop offset text)
  pub opens : run.can_open ≡ can_open run.byte (char_before text offset) (char_after text (offset + run.count))
  pub closes : run.can_close ≡ can_close run.byte (char_before text offset) (char_after text (offset + run.count))

-- a run of tildes begins at an offset of a text, the longest there: it can open strikethrough where it is left-flanking, and close it
-- where it is right-flanking (GitHub Flavored Markdown 0.29, 6.5)
pub record IsTildeRun (text : List ℕ) (offset : ℕ) (run : DelimiterRun) : Type 0 where
  pub delimiter : run.byte ≡ tilde
  pub some : 0 < run.count
  pub longest : run.count ≡ prefix_len (λ b. b == run.byte) (drop offset text)
  pub opens : run.can_open ≡ is_left_flanking (char_before text offset) (char_after text (offset + run.count))
  pub closes : run.can_close ≡ is_right_flanking (char_before text offset) (char_after text (offset + run.count))

-- a delimiter run begins there, or a run of tildes where strikethrough is asked for
abbrev pub IsRunOf : Extensions → List ℕ → ℕ → DelimiterRun → Type 0
IsRunOf asked text offset run = IsDelimiterRun text offset run ⊎ (IsTrue asked.strikethrough × IsTildeRun text offset run)
