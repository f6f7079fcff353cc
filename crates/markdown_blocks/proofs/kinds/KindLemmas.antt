-- What tests tell of the first line of a block.
use Rattle.std.proofs.Common.{Bool, true, false, sym, ◌∙◌, ◌≡◌, IsTrue, Option, Some, None, is_some, refl}
use Rattle.markdown_scanners_tree.specs.SomeExactly.{SomeExactly}
use Rattle.markdown_blocks.specs.containers.Containers.{Rest}
use Rattle.markdown_blocks.specs.declared.blocks.BlockKind.{BlockKind}
use Rattle.markdown_blocks.specs.declared.blocks.BlockKind.TheVariants.{Blank, Break, Heading, Setext, Indented, Fenced, Html, Table, Definition, Paragraph}
use Rattle.markdown_blocks.specs.blocks.Leaves.{IsBlank, HasIndent, Begins, BeginsAt}

-- nothing is found
pub none_given : {A : Type 0} (P : A → Type 0) (r : Option A) → is_some r ≡ false → SomeExactly P r → (a : A) → ¬ P a
none_given P None given exactly = exactly
none_given P (Some a) given exactly = cc

-- whether something is found
pub some_given : {A : Type 0} (P : A → Type 0) (r : Option A) (t : Bool) → t ≡ is_some r → SomeExactly P r
    → (IsTrue t → (a : A) × P a) × (((a : A) × P a) → IsTrue t)
some_given P None t given exactly = (λ h. let both : true ≡ false = sym h ∙ given in cc, λ some. absurd (exactly some.0 some.1))
some_given P (Some a) t given exactly = (λ h. (a, exactly), λ some. given)

-- a test that fails
pub not_given : {P : Type 0} {t : Bool} → t ≡ false → (P → IsTrue t) → ¬ P
not_given {P} {t} fails tells p = let passes = tells p in cc

-- what begins after the indent begins with the rest of the line
pub begins_after : (kind : BlockKind) (rest : Rest) → ¬ IsBlank rest → ¬ HasIndent rest → BeginsAt kind rest.text → Begins kind rest
begins_after Blank rest text near h = absurd h
begins_after Indented rest text near h = absurd h
begins_after (Setext level) rest text near h = absurd h
begins_after (Table columns) rest text near h = absurd h
begins_after Definition rest text near h = absurd h
begins_after Break rest text near h = (text, near, h)
begins_after (Heading level) rest text near h = (text, near, h)
begins_after (Fenced count byte) rest text near h = (text, near, h)
begins_after (Html kind) rest text near h = (text, near, h)
begins_after Paragraph rest text near h = (text, near, h)

-- a block of another kind is no paragraph
pub other_kind : (kind : BlockKind) (rest : Rest) → ¬ (kind ≡ Paragraph) → Begins kind rest → ¬ Begins Paragraph rest
other_kind Blank rest other begins paragraph = paragraph.0 begins
other_kind Indented rest other begins paragraph = paragraph.1 begins.1
other_kind (Setext level) rest other begins paragraph = absurd begins.2
other_kind (Table columns) rest other begins paragraph = absurd begins.2
other_kind Definition rest other begins paragraph = absurd begins.2
other_kind Break rest other begins paragraph = paragraph.2.0 begins.2
other_kind (Heading level) rest other begins paragraph = paragraph.2.1 level begins.2
other_kind (Fenced count byte) rest other begins paragraph = paragraph.2.2 (count, byte) begins.2
other_kind (Html kind) rest other begins paragraph = paragraph.2.3 kind begins.2
other_kind Paragraph rest other begins paragraph = absurd (other refl)
