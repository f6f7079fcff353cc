-- What the first line of a block is where it goes on with the paragraph before it.
use Rattle.std.proofs.Common.{Bool, true, false, List, ℕ, ◌≡◌, refl, subst}
use Rattle.markdown_blocks.specs.containers.Containers.{OpenContainers, Rest}
use Rattle.markdown_blocks.specs.declared.blocks.BlockKind.{BlockKind}
use Rattle.markdown_blocks.specs.declared.blocks.BlockKind.TheVariants.{Blank, Paragraph}
use Rattle.markdown_blocks.specs.blocks.Leaves.{IsLeaf, IsLeafAfter}

-- that of neither blank lines nor a paragraph
pub blank_kind : (header : Bool) (outer : OpenContainers) (kind : BlockKind) (first : Rest) (later rest : List (List ℕ)) → kind ≡ Blank
    → IsLeafAfter header outer kind first later rest → (header ≡ false) × IsLeaf outer Blank first later rest
blank_kind header outer kind first later rest is leaf = by header (subst (λ k. IsLeafAfter header outer k first later rest) is leaf)
  where
    by : (h : Bool) → IsLeafAfter h outer Blank first later rest → (h ≡ false) × IsLeaf outer Blank first later rest
    by true leaf = absurd leaf
    by false leaf = (refl, leaf)

pub paragraph_leaf : (header : Bool) (outer : OpenContainers) (kind : BlockKind) (first : Rest) (later rest : List (List ℕ)) → kind ≡ Paragraph
    → IsLeafAfter header outer kind first later rest → (header ≡ false) × IsLeaf outer Paragraph first later rest
paragraph_leaf header outer kind first later rest is leaf = by header (subst (λ k. IsLeafAfter header outer k first later rest) is leaf)
  where
    by : (h : Bool) → IsLeafAfter h outer Paragraph first later rest → (h ≡ false) × IsLeaf outer Paragraph first later rest
    by true leaf = absurd leaf
    by false leaf = (refl, leaf)
