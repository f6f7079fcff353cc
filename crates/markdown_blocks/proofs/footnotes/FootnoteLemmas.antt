-- The marker of a footnote definition is passed.
use Rattle.std.proofs.Common.{ℕ, Bool, true, false, not, ◌+◌, ◌≡◌, List, length}
use Rattle.std.proofs.Common.{Some, refl, sym, ap, ◌∙◌}
use Rattle.markdown_scanners_tree.specs.line.State.{LineState, unscanned, bytes_further}
use Rattle.markdown_blocks.specs.containers.Containers.{footnote_of}
use Rattle.markdown_blocks.specs.containers.Footnotes.{after_columns, footnote_label}
use Rattle.markdown_values.specs.declared.values.extensions.Extensions.{Extensions}
use Rattle.markdown_blocks.specs.declared.containers.Container.TheVariants.{Footnote}

pub is_on : (b : Bool) → not b ≡ false → b ≡ true
is_on true h = refl
is_on false h = cc

pub footnote_passed : (asked : Extensions) (s t after : LineState) (text label : List ℕ) → not asked.footnotes ≡ false → text ≡ unscanned s
    → footnote_label text ≡ Some label → t ≡ bytes_further (length label + 4) s → after ≡ after_columns t
    → footnote_of asked s ≡ Some (Footnote, after)
footnote_passed asked s t after text label here same found further passed =
    let on : asked.footnotes ≡ true = is_on asked.footnotes here in
    let there : footnote_label (unscanned s) ≡ Some label = ap footnote_label (sym same) ∙ found in
    rw (on, there) (ap (λ z. Some (Footnote, z)) (sym (passed ∙ ap after_columns further)))
