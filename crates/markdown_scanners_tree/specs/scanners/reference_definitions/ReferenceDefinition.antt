-- Link reference definitions. (CommonMark 0.31.2, section 4.7, link reference definitions)
use Rattle.std.specs.Prelude.{ℕ, ◌==◌, ◌+◌, ◌≤◌, List, ◌∷◌, ◌++◌, ◌≡◌, length, drop, Option, Some, None, IsTrue, if◌then◌else◌}
use Rattle.std.specs.List.{list_all}
use Rattle.std.specs.Str.{IsCharBoundary}
use Rattle.std.specs.declared.ops.Range.{Range}
use Rattle.markdown_scanners_tree.specs.Ascii.{colon, less_than_sign, left_bracket}
use Rattle.markdown_scanners_tree.specs.Bytes.{begins_with, is_space_or_tab, line_ending}
use Rattle.markdown_scanners_tree.specs.declared.scanners.reference_definitions.ReferenceDefinition.{ReferenceDefinition}
use Rattle.markdown_scanners_tree.specs.linklabel.Length.{IsLabelLength}
use Rattle.markdown_scanners_tree.specs.scanners.links.LinkDestination.{IsLinkDestination}
use Rattle.markdown_scanners_tree.specs.scanners.titles.LinkTitle.{IsLinkTitle}

-- Optional spaces or tabs, including up to one line ending: LF, CR LF or CR.
pub record IsGap (gap : List ℕ) : Type 0 where
  pub before : List ℕ
  pub ending : List ℕ
  pub after : List ℕ
  pub parts : gap ≡ before ++ (ending ++ after)
  pub spaces_before : IsTrue (list_all is_space_or_tab before)
  pub up_to_one_ending : line_ending ending ≡ Some (length ending)
  pub spaces_after : IsTrue (list_all is_space_or_tab after)

-- No further character occurs: spaces and tabs alone stand before the line's end. They are n bytes with the line
-- ending, which has length 0 at the end of the text.
pub record IsRestOfLine (rest : List ℕ) (n : ℕ) : Type 0 where
  pub spaces : List ℕ
  pub after : List ℕ
  pub ending : ℕ
  pub parts : rest ≡ spaces ++ after
  pub all_spaces : IsTrue (list_all is_space_or_tab spaces)
  pub ends : line_ending after ≡ Some ending
  pub counted : n ≡ length spaces + ending

-- The text begins with a link label and a colon directly after it, n bytes together.
pub record IsLabelWithColon (text : List ℕ) (n : ℕ) : Type 0 where
  pub inside : List ℕ
  pub rest : List ℕ
  pub label_length : ℕ
  pub opens : text ≡ left_bracket ∷ inside
  pub is_label : IsLabelLength inside label_length
  pub colon_follows : drop label_length inside ≡ colon ∷ rest
  pub counted : n ≡ label_length + 2

-- how many bytes a destination has before its own: its `<`, if it has one
abbrev pub bracket_count : List ℕ → ℕ
bracket_count destination = if begins_with (λ b. b == less_than_sign) destination then 1 else 0

-- What a definition begins with, up to the offset after it: a link label, a colon, a gap, and a link destination, which
-- may be `<>`, but not without any byte.
pub record IsTarget (most : ℕ) (text : List ℕ) (label destination : Range ℕ) (offset : ℕ) : Type 0 where
  pub named : ℕ
  pub gap : List ℕ
  pub rest : List ℕ
  pub taken : ℕ
  pub raw : List ℕ
  pub is_named : IsLabelWithColon text named
  pub parts : drop named text ≡ gap ++ rest
  pub is_gap : IsGap gap
  pub is_destination : IsLinkDestination most rest taken raw
  pub some : 1 ≤ taken
  pub offset_is : offset ≡ named + length gap + taken
  -- the label stands between its brackets, and the destination between those that it may have
  pub label_begins : label.start ≡ 1
  pub label_ends : label.end + 2 ≡ named
  pub destination_begins : destination.start ≡ named + length gap + bracket_count rest
  pub destination_ends : destination.end + bracket_count rest ≡ offset

-- From the offset on stand a gap, which is not empty, and a link title, whose own bytes stand between the two around it.
pub record IsSeparatedTitle (text : List ℕ) (offset : ℕ) (title : Range ℕ) : Type 0 where
  pub gap : List ℕ
  pub rest : List ℕ
  pub taken : ℕ
  pub parts : drop offset text ≡ gap ++ rest
  pub is_gap : IsGap gap
  pub separated : 1 ≤ length gap
  pub is_title : IsLinkTitle rest taken
  pub title_begins : title.start ≡ offset + length gap + 1
  pub title_ends : title.end + 1 ≡ offset + length gap + taken

-- From the offset on stand a gap and a link title, with no further character in its line: `len` bytes of the text up to
-- there.
pub record IsTitleLine (text : List ℕ) (offset : ℕ) (title : Range ℕ) (len : ℕ) : Type 0 where
  pub ending : ℕ
  pub is_titled : IsSeparatedTitle text offset title
  pub nothing_further : IsRestOfLine (drop (title.end + 1) text) ending
  pub len_is : len ≡ title.end + 1 + ending

-- No further character occurs from the offset on, and no title belongs to the definition: none stands in the next line
-- either, or something follows it there.
pub record IsUntitled (text : List ℕ) (offset len : ℕ) : Type 0 where
  pub ending : ℕ
  pub nothing_further : IsRestOfLine (drop offset text) ending
  pub no_title : (title : Range ℕ) (end : ℕ) → ¬ IsTitleLine text offset title end
  pub len_is : len ≡ offset + ending

-- how a definition ends whose destination ends at the offset
abbrev pub IsEnd : List ℕ → ℕ → Option (Range ℕ) → ℕ → Type 0
IsEnd text offset (Some title) len = IsTitleLine text offset title len
IsEnd text offset None len = IsUntitled text offset len

-- A link reference definition stands at the front of the text, after the indent of its line.
pub record IsReferenceDefinition (most : ℕ) (text : List ℕ) (definition : ReferenceDefinition) : Type 0 where
  pub offset : ℕ
  pub target : IsTarget most text definition.label definition.destination offset
  pub ends : IsEnd text offset definition.title definition.len

-- A text may be cut where the range begins and where it ends.
abbrev pub IsCutAt : List ℕ → Range ℕ → Type 0
IsCutAt text range = IsCharBoundary text range.start × IsCharBoundary text range.end
