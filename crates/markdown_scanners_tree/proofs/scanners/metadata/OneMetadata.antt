-- A text begins with one metadata block at most, and with one line that closes such a block.
use Rattle.std.proofs.Common.{◌≡◌, ℕ, ◌+◌, ◌≤◌, Bool, ◌==◌, List, length, sym, ap, ◌∙◌, refl, arith}
use Rattle.markdown_scanners_tree.specs.Ascii.{space}
use Rattle.markdown_scanners_tree.specs.scanners.Metadata.{IsLineOfThree, IsClosingMetadataBlock, IsBlockOf, IsMetadataBlock}
use Rattle.markdown_scanners_tree.proofs.RunLemmas.{one_begun_run, one_prefix}

-- The line has one length, whichever bytes may close the block.
pub one_line_of_three : (bytes : List ℕ) (byte n byte' n' : ℕ) → IsLineOfThree byte bytes n
    → IsLineOfThree byte' bytes n' → n ≡ n'
one_line_of_three bytes byte n byte' n' is is' =
    let some : 1 ≤ length is.run = omega (arith, is.exactly_three) in
    let some' : 1 ≤ length is'.run = omega (arith, is'.exactly_three) in
    let same =
    one_begun_run bytes byte is.run is.rest byte' is'.run is'.rest is.is_run is'.is_run some some' in
    let spaces =
    one_prefix (λ b. b == space) refl refl is.spaces is.after is'.spaces is'.after is.ending is'.ending is.spaces_only
    is.ends is'.spaces_only is'.ends (sym is.parts ∙ (same.2 ∙ is'.parts)) in
    is.counted ∙ (ap (λ (bs : List ℕ). 3 + length bs) spaces.0 ∙ sym is'.counted)

-- how many bytes it has
pub one_closing_metadata : (bytes : List ℕ) (opening n n' : ℕ) → IsClosingMetadataBlock bytes opening n
    → IsClosingMetadataBlock bytes opening n' → n ≡ n'
one_closing_metadata bytes opening n n' is is' = one_line_of_three bytes is.byte n is'.byte n' is.line is'.line

pub one_block : (bytes : List ℕ) (byte byte' : ℕ) → IsBlockOf byte bytes → IsBlockOf byte' bytes → byte ≡ byte'
one_block bytes byte byte' is is' =
    let line = is.opening in
    let line' = is'.opening in
    let some : 1 ≤ length line.run = omega (arith, line.exactly_three) in
    let some' : 1 ≤ length line'.run = omega (arith, line'.exactly_three) in
    (one_begun_run bytes byte line.run line.rest byte' line'.run line'.rest line.is_run line'.is_run some some').0

-- the byte that opens it
pub one_metadata_block : (bytes : List ℕ) (yaml pluses : Bool) (byte byte' : ℕ)
    → IsMetadataBlock bytes yaml pluses byte → IsMetadataBlock bytes yaml pluses byte' → byte ≡ byte'
one_metadata_block bytes yaml pluses byte byte' is is' = one_block bytes byte byte' is.block is'.block
