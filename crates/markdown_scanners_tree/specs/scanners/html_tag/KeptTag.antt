-- Tags over the lines of containers. (CommonMark 0.31.2, section 6.6, raw HTML)
use Rattle.std.specs.Prelude.{ℕ, ◌==◌, List, [], ◌∷◌, ◌++◌, ◌≡◌, ◌⊎◌, ◌+◌, ◌≤◌, length, Option, Some, None, if◌then◌else◌}
use Rattle.std.specs.Fn.{Shared}
use denote.Ref.{Bor}
use Rattle.markdown_scanners_tree.specs.Kept.{KeptByte, bytes_of, kept_text, AreSkips, line_endings}
use Rattle.markdown_scanners_tree.specs.Handler.{Answers}
use Rattle.markdown_scanners_tree.specs.scanners.html_tag.HtmlTag.{IsOpenTag, IsClosingTag}

-- what a handler answers; where there is none, nothing is answered, so no line ending is kept
abbrev pub AnswersIfAny : {F : Type 0} → Shared F (Bor (List ℕ) × Unit {0}) ℕ
    → Option (Bor F) → List ℕ → ℕ → Type 0
AnswersIfAny g None rest skip = ⊥
AnswersIfAny g (Some f) rest skip = Answers g f.now rest skip

-- the offset in the source after these kept bytes
abbrev pub offset_after : ℕ → List KeptByte → ℕ
offset_after offset [] = offset
offset_after offset (k ∷ ks) = offset_after (k.offset + 1) ks

-- These are the first bytes of a kept text of the source.
pub record IsKeptPrefix (answers : List ℕ → ℕ → Type 0) (source : List ℕ) (prefix : List KeptByte) : Type 0 where
  pub skips : List ℕ
  pub rest : List KeptByte
  pub answered : AreSkips answers source skips
  pub begins : kept_text source skips ≡ prefix ++ rest

-- A prefix of a kept text of the source is a tag. In a closing tag stands at most one line ending
-- of the source.
pub record IsKeptTag (answers : List ℕ → ℕ → Type 0) (source : List ℕ) (prefix : List KeptByte)
    : Type 0 where
  pub kept : IsKeptPrefix answers source prefix
  pub tag : IsOpenTag (bytes_of prefix) ⊎ (IsClosingTag (bytes_of prefix) × (line_endings prefix ≤ 1))

-- the text that the tag needs where bytes inside it were left out; else nothing, since the source
-- has it
abbrev pub tag_buffer : List KeptByte → List ℕ
tag_buffer prefix = if offset_after 0 prefix == length prefix then [] else bytes_of prefix

-- The tags that a source begins with, where a handler or none is asked at its line endings.
module _ {F : Type 0} (g : Shared F (Bor (List ℕ) × Unit {0}) ℕ) (handler : Option (Bor F))
    (source : List ℕ) where
  -- there is one of which this holds
  abbrev pub HasTag : (List KeptByte → Type 0) → Type 0
  HasTag holds =
      (prefix : List KeptByte) × IsKeptTag (AnswersIfAny g handler) source prefix × holds prefix

  -- this holds of each one
  abbrev pub OnEachTag : (List KeptByte → Type 0) → Type 0
  OnEachTag holds =
      (prefix : List KeptByte) → IsKeptTag (AnswersIfAny g handler) source prefix → holds prefix

  -- there is none
  abbrev pub HasNoTag : Type 0
  HasNoTag = (prefix : List KeptByte) → ¬ IsKeptTag (AnswersIfAny g handler) source prefix

-- the text and the length that are answered for a tag of these kept bytes
abbrev pub AreTextAndLength : List ℕ → ℕ → List KeptByte → Type 0
AreTextAndLength text n prefix = (text ≡ tag_buffer prefix) × (n ≡ offset_after 0 prefix)

-- how many bytes a tag has without the skipped ones, and with them
abbrev pub AreLengths : ℕ → ℕ → List KeptByte → Type 0
AreLengths kept n prefix = (kept ≡ length prefix) × (n ≡ offset_after 0 prefix)
