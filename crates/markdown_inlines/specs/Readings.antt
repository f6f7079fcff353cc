-- What the openers that have been read hold to.
use Rattle.std.specs.Prelude.{ℕ, ◌≡◌, ◌<◌, ◌≤◌, List, [], ◌∷◌, get_or, length, reverse, Option, None, ⊤}
use Rattle.std.specs.List.{AllByRecursion}
use Rattle.std.specs.Str.{IsCharBoundary}
use Rattle.markdown_inlines.specs.EmphasisBounds.{AreOfDelimiters}
use Rattle.markdown_inlines.specs.Inlines.{Reading}
use Rattle.markdown_inlines.specs.Sources.{AreLinkSources}
use Rattle.markdown_inlines.specs.declared.links.Link.{Link}
use Rattle.markdown_inlines.specs.declared.reading.Opener.{Opener}
use Rattle.markdown_inlines.specs.declared.reading.Reader.{Reader}

-- A text may be cut on both sides of an opener.
pub record IsOpenerSource (text : List ℕ) (opener : Opener) : Type 0 where
  pub begins : IsCharBoundary text opener.start
  pub some : opener.start < opener.text
  pub ends : IsCharBoundary text opener.text

-- the link texts of these openers begin at an offset or before it
abbrev pub AreBefore : List Opener → ℕ → Type 0
AreBefore openers offset = AllByRecursion (λ (opener : Opener). opener.text ≤ offset) openers

-- So many runs and openers stand before the innermost of these at most, and before each of the others at most as many as before the
-- one in it.
abbrev pub AreOpen : List ℕ → List Opener → ℕ → ℕ → Type 0
AreOpen text [] runs number = ⊤
AreOpen text (opener ∷ outer) runs number =
    (opener.runs ≤ runs) × (opener.number < number) × IsOpenerSource text opener × AreOpen text outer opener.runs opener.number

-- none of these openers begins a link
abbrev pub AreFree : List (Option Link) → List Opener → Type 0
AreFree links openers = AllByRecursion (λ (opener : Opener). get_or links opener.number None ≡ None) openers

-- what a reader knows of a text
abbrev pub reading_of : List ℕ → Reader → Reading
reading_of text reader = record {
  text = text;
  openers = reverse reader.openers.items;
  runs = reader.runs.items;
  last_link = reader.last_link;
  links = reader.links;
  emphasis = reader.emphasis.items;
}

-- The runs are of delimiters, and the openers and the links stand in the text.
pub record IsKept (reading : Reading) : Type 0 where
  pub runs : AreOfDelimiters reading.runs
  pub openers : AreOpen reading.text reading.openers (length reading.runs) (length reading.links)
  pub links : AreLinkSources reading.text reading.links
