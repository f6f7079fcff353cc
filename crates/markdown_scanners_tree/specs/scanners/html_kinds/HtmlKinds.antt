-- Where HTML blocks begin and end. (CommonMark 0.31.2, section 4.6, HTML blocks)
use Rattle.std.specs.Prelude.{ℕ, Bool, true, false, ◌||◌, ◌&&◌, ◌==◌, ◌<◌, not, List, [], ◌∷◌, Option, Some, None, codes, length, take, drop, IsTrue, if◌then◌else◌}
use Rattle.std.specs.Str.{str_eq_ignore_ascii_case, bytes_eq}
use Rattle.markdown_scanners_tree.specs.declared.scanners.html_kinds.HtmlBlockKind.{HtmlBlockKind}
use Rattle.markdown_scanners_tree.specs.declared.scanners.html_kinds.HtmlBlockKind.TheVariants.{RawText, Comment, Processing, Declaration, Cdata, BlockName, TagAlone}
use Rattle.markdown_scanners_tree.specs.Ascii.{tab, space, greater_than_sign}
use Rattle.markdown_scanners_tree.specs.Bytes.{begins_with, ends_or_begins_with, is_letter, is_line_ending, line_head, is_blank}
use Rattle.markdown_scanners_tree.specs.scanners.html_block.HtmlBlock.{IsBlockStart}
use Rattle.markdown_scanners_tree.specs.scanners.html_tag.HtmlTag.{is_tag_name_byte, IsTagAloneInLine}

-- the number of the conditions by which a block of this kind begins and ends
abbrev pub condition_number : HtmlBlockKind → ℕ
condition_number RawText = 1
condition_number Comment = 2
condition_number Processing = 3
condition_number Declaration = 4
condition_number Cdata = 5
condition_number BlockName = 6
condition_number TagAlone = 7

-- the text stands at the front
abbrev pub begins_with_text : List ℕ → List ℕ → Bool
begins_with_text text bytes = bytes_eq (take (length text) bytes) text

-- the names of start condition 1
abbrev pub raw_text_names : List (List ℕ)
raw_text_names = codes "pre" ∷ codes "script" ∷ codes "style" ∷ codes "textarea" ∷ []

-- the length of the first of these names that stands at the front in any ASCII case
abbrev pub name_among : List (List ℕ) → List ℕ → Option ℕ
name_among [] bytes = None
name_among (name ∷ names) bytes =
    if str_eq_ignore_ascii_case (take (length name) bytes) name
    then Some (length name)
    else name_among names bytes

-- one of the names of start condition 1 stands at the front, and the test is true of what follows it
abbrev pub begins_with_raw_name : (List ℕ → Bool) → List ℕ → Bool
begins_with_raw_name test bytes = elim (name_among raw_text_names bytes) [
  | Some n ↦ test (drop n bytes)
  | None ↦ false
]

-- a space, a tab, `>` or the end of the line stands at the front
abbrev pub ends_raw_name : List ℕ → Bool
ends_raw_name = ends_or_begins_with (λ b. b == space || b == tab || b == greater_than_sign || is_line_ending b)

-- no further byte of a tag name stands at the front
abbrev pub ends_tag_name : List ℕ → Bool
ends_tag_name rest = not (begins_with is_tag_name_byte rest)

-- The bytes meet the start condition of this number, each for itself. By 7 a tag stands alone in its line, and is no
-- open tag with a name of condition 1.
abbrev pub MeetsStart : HtmlBlockKind → List ℕ → Type 0
MeetsStart RawText bytes =
    IsTrue (begins_with_text (codes "<") bytes && begins_with_raw_name ends_raw_name (drop 1 bytes))
MeetsStart Comment bytes = IsTrue (begins_with_text (codes "<!--") bytes)
MeetsStart Processing bytes = IsTrue (begins_with_text (codes "<?") bytes)
MeetsStart Declaration bytes =
    IsTrue (begins_with_text (codes "<!") bytes && begins_with is_letter (drop 2 bytes))
MeetsStart Cdata bytes = IsTrue (begins_with_text (codes "<![CDATA[") bytes)
MeetsStart BlockName bytes = IsTrue (begins_with_text (codes "<") bytes) × IsBlockStart (drop 1 bytes)
MeetsStart TagAlone bytes =
    (n : ℕ) × IsTagAloneInLine bytes n × IsTrue (not (begins_with_raw_name ends_tag_name (drop 1 bytes)))

-- An HTML block of this kind begins here: by its start condition, and by none of a lower number.
pub record IsHtmlBlockStart (bytes : List ℕ) (kind : HtmlBlockKind) : Type 0 where
  pub met : MeetsStart kind bytes
  pub lowest : (other : HtmlBlockKind) → condition_number other < condition_number kind
      → ¬ MeetsStart other bytes

-- what ends a block by end condition 1 to 5 stands at the front; in 1 the names are in any ASCII case
abbrev pub begins_html_end : HtmlBlockKind → List ℕ → Bool
begins_html_end RawText bytes =
    begins_with_text (codes "</") bytes
    && begins_with_raw_name (begins_with (λ b. b == greater_than_sign)) (drop 2 bytes)
begins_html_end Comment bytes = begins_with_text (codes "-->") bytes
begins_html_end Processing bytes = begins_with_text (codes "?>") bytes
begins_html_end Declaration bytes = begins_with_text (codes ">") bytes
begins_html_end Cdata bytes = begins_with_text (codes "]]>") bytes
begins_html_end BlockName bytes = false
begins_html_end TagAlone bytes = false

-- the test is true of what begins at some offset of the bytes
abbrev pub is_somewhere : (List ℕ → Bool) → List ℕ → Bool
is_somewhere test [] = false
is_somewhere test (b ∷ bs) = test (b ∷ bs) || is_somewhere test bs

-- a block of this kind goes on to the next blank line: 6 and 7
abbrev pub ends_before_blank : HtmlBlockKind → Bool
ends_before_blank RawText = false
ends_before_blank Comment = false
ends_before_blank Processing = false
ends_before_blank Declaration = false
ends_before_blank Cdata = false
ends_before_blank BlockName = true
ends_before_blank TagAlone = true

-- the line at the front meets the end condition of this number: it is blank, or holds what ends the block
abbrev pub is_html_end : HtmlBlockKind → List ℕ → Bool
is_html_end kind line =
    if ends_before_blank kind then is_blank line
    else is_somewhere (begins_html_end kind) (line_head line)
