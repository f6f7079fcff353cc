-- Blocks that are put into a container, said of lines and blocks alone. (CommonMark 0.31.2, sections 5.1 and 5.2)
use Rattle.std.specs.Prelude.{ℕ, Bool, not, ◌≡◌, ◌==◌, ◌%◌, ◌⊎◌, List, [], ◌∷◌, ◌++◌, IsTrue, ⊤}
use Rattle.std.specs.List.{list_all, AllZip}
use Rattle.markdown_scanners_tree.specs.Ascii.{tab}
use Rattle.markdown_blocks.specs.declared.blocks.BlockKind.TheVariants.{Paragraph}
use Rattle.markdown_blocks.specs.declared.containers.Container.{Container}
use Rattle.markdown_blocks.specs.blocks.Pages.{Piece}
use Rattle.markdown_blocks.specs.definitions.Content.{words_in}

-- no tab stands in the bytes
abbrev pub has_no_tab : List ℕ → Bool
has_no_tab bytes = list_all (λ b. not (b == tab)) bytes

-- After so many columns the line's tabs are as wide as without them: it has no tab, or these are whole tab stops. (2.2)
abbrev pub KeepsTabs : ℕ → List ℕ → Type 0
KeepsTabs columns line = IsTrue (has_no_tab line) ⊎ (columns % 4 ≡ 0)

-- a line, and the line that stands for it in a container
abbrev pub Change : Type 1
Change = List ℕ → List ℕ → Type 0

-- the line has the same words in one block's containers as the changed line has in the other's
abbrev pub HasSameWords : Piece → Piece → Change
HasSameWords piece held line changed = words_in (piece.kept ++ piece.begun) line ≡ words_in (held.kept ++ held.begun) changed

-- The block in these containers, of which its first line begins the second ones. Its first line is changed so, and so each
-- other line, or in a paragraph so, where that leaves the line's words as they are (laziness).
pub record IsHeldIn (First Later Lazy : Change) (kept begun : List Container) (piece held : Piece) : Type 0 where
  pub header : held.header ≡ piece.header
  pub kept_are : held.kept ≡ kept
  pub begun_are : held.begun ≡ begun
  pub words : held.words ≡ piece.words
  pub kind : held.kind ≡ piece.kind
  pub term : held.term ≡ piece.term
  pub first : First piece.first held.first
  pub later : AllZip (λ line changed. Later line changed ⊎ ((piece.kind ≡ Paragraph) × Lazy line changed × HasSameWords piece held line changed))
      piece.later held.later

-- The blocks are one container of these blocks: the first begins it, with its first line changed so, and the others stand in it.
abbrev pub AreIn : Container → (First Later Lazy : Change) → List Piece → List Piece → Type 0
AreIn container First Later Lazy [] [] = ⊤
AreIn container First Later Lazy [] (held ∷ others) = ⊥
AreIn container First Later Lazy (piece ∷ pieces) [] = ⊥
AreIn container First Later Lazy (piece ∷ pieces) (held ∷ others) =
    IsHeldIn First Later Lazy [] (container ∷ piece.begun) piece held
    × AllZip (λ p q. IsHeldIn Later Later Lazy (container ∷ p.kept) p.begun p q) pieces others
