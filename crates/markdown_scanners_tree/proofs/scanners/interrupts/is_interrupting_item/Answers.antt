use Rattle.std.proofs.Common.{◌≡◌, ◌∙◌, ℕ, List, sym, ap, subst, take, drop, length}
use Rattle.std.proofs.Math.Seq.{take-append_seam}
use Rattle.std.proofs.lemmas.List.{take-append-drop}
use Rattle.markdown_scanners_tree.specs.scanners.Interrupts.{item_interrupts}
use Rattle.markdown_scanners_tree.specs.scanners.list_items.ListItem.{IsListMarker}
use Rattle.markdown_scanners_tree.proofs.PrefixLemmas.{from_offset}
use Rattle.markdown_scanners_tree.proofs.scanners.list_items.ListItemLemmas.{item-rest}
use Rattle.markdown_scanners_tree.proofs.scanners.list_items.OneItem.{one_marker}
use Rattle.markdown_scanners_tree.proofs.scanners.interrupts.is_interrupting_item.Goals as goal

pub returns-in-None : goal.returns-in-None
returns-in-None c = (
  λ t. cc,
  λ item.
      let whole : take (length item.marker) c.args.bytes.now ≡ item.marker =
      ap (take (length item.marker)) item.parts ∙ take-append_seam item.marker item.rest in
      absurd (c.in-None.ensures.found (length item.marker, item.delimiter, item.start)
      (subst (λ (marker : List ℕ). IsListMarker marker item.delimiter item.start) (sym whole) item.is_marker)),
)

pub returns-in-Some : goal.returns-in-Some
returns-in-Some c =
    let bytes = c.args.bytes.now in
    let width = c.in-Some.width in
    let given : c.item_interrupts.result ≡ item_interrupts c.in-Some.delimiter c.in-Some.start (drop width bytes) =
    c.item_interrupts.ensures ∙ ap (item_interrupts c.in-Some.delimiter c.in-Some.start) (from_offset bytes width) in (
      λ t. record {
        marker = take width bytes;
        rest = drop width bytes;
        delimiter = c.in-Some.delimiter;
        start = c.in-Some.start;
        parts = sym (take-append-drop width bytes);
        is_marker = c.in-Some.ensures.found;
        interrupts = sym given ∙ t;
      },
      λ item.
          let rest : item.rest ≡ drop width bytes =
          item-rest bytes width c.in-Some.delimiter c.in-Some.start c.in-Some.ensures.within c.in-Some.ensures.found
          item.marker item.rest item.delimiter item.start item.parts item.is_marker in
          let same =
          one_marker bytes item.marker item.rest (take width bytes) (drop width bytes) item.delimiter item.start
          c.in-Some.delimiter c.in-Some.start item.parts item.is_marker (sym (take-append-drop width bytes))
          c.in-Some.ensures.found in
          let here : item_interrupts c.in-Some.delimiter c.in-Some.start (drop width bytes)
          ≡ item_interrupts item.delimiter item.start item.rest =
          ap (λ d. item_interrupts d c.in-Some.start (drop width bytes)) (sym same.0)
          ∙ ap (λ s. item_interrupts item.delimiter s (drop width bytes)) (sym same.1)
          ∙ ap (item_interrupts item.delimiter item.start) (sym rest) in
          given ∙ here ∙ item.interrupts,
    )
