-- A label where nothing is skipped at the starts of its lines.
use Rattle.std.proofs.Common.{ℕ, List, ◌≡◌, ◌∙◌, sym, ap, false}
use Rattle.markdown_scanners_tree.specs.Kept.{kept_text}
use Rattle.markdown_scanners_tree.specs.NoSkips.{SkipsNothing}
use Rattle.markdown_scanners_tree.specs.linklabel.Label.{Label, IsLabel}
use Rattle.markdown_scanners_tree.specs.linklabel.Length.{IsLabelLength}
use Rattle.markdown_scanners_tree.proofs.OneKeptText.{one_kept_text}
use Rattle.markdown_scanners_tree.proofs.linklabel.OneLabel.{same_label}

-- There is one.
pub one_label_unskipped : (after : List ℕ) (label other : Label) → IsLabel SkipsNothing after false label
    → IsLabel SkipsNothing after false other → label ≡ other
one_label_unskipped after label other l l' =
    same_label false (kept_text after l.skips) (kept_text after l'.skips) label other
    (one_kept_text SkipsNothing (λ rest m k none none'. none ∙ sym none') 0 after l.skips l'.skips l.answered l'.answered)
    l.label_is l'.label_is

-- It has one length.
pub one_label_length : (after : List ℕ) (n n' : ℕ) → IsLabelLength after n → IsLabelLength after n' → n ≡ n'
one_label_length after n n' is is' =
    let same = one_label_unskipped after is.label is'.label is.is_label is'.is_label in
    is.counted ∙ (ap (λ (label : Label). label.len) same ∙ sym is'.counted)
