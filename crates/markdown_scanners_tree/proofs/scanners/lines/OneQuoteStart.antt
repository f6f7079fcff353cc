-- A text begins with one block quote marker at most.
use Rattle.std.proofs.Common.{◌≡◌, ℕ, ◌==◌, List, drop, sym, ap, ◌∙◌}
use Rattle.std.specs.Prelude.{if◌then◌else◌}
use Rattle.markdown_scanners_tree.specs.Ascii.{space}
use Rattle.markdown_scanners_tree.specs.Bytes.{begins_with}
use Rattle.markdown_scanners_tree.specs.scanners.Lines.{IsBlockQuoteStart}

-- how many bytes it has
pub one_quote_start : (bytes : List ℕ) (n n' : ℕ) → IsBlockQuoteStart bytes n → IsBlockQuoteStart bytes n' → n ≡ n'
one_quote_start bytes n n' is is' =
    let rest : is.rest ≡ is'.rest = ap (drop 1) (sym is.parts ∙ is'.parts) in
    is.counted
    ∙ (ap (λ (bs : List ℕ). if begins_with (λ b. b == space) bs then 2 else 1) rest ∙ sym is'.counted)
