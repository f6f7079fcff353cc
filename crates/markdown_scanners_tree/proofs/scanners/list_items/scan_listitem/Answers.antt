use Rattle.std.proofs.Common.{◌≡◌, ℕ, List, sym, ap, subst, take, drop, length, ◌∙◌, arith}
use Rattle.std.proofs.Math.Seq.{take-append_seam}
use Rattle.std.proofs.lemmas.List.{take-append-drop, length-take-le}
use Rattle.markdown_scanners_tree.specs.scanners.list_items.ListItem.{IsListMarker, IsItemSpace}
use Rattle.markdown_scanners_tree.proofs.PrefixLemmas.{from_offset}
use Rattle.markdown_scanners_tree.proofs.scanners.list_items.ListItemLemmas.{item-rest}
use Rattle.markdown_scanners_tree.proofs.scanners.list_items.OneItem.{one_item}
use Rattle.markdown_scanners_tree.proofs.scanners.list_items.scan_listitem.Goals as goal

pub returns-in_err-width-clause-none : goal.returns-in_err-width-clause-none
returns-in_err-width-clause-none c =
    rw c.from_residual.ensures (λ n delimiter start indent item.
    let whole : take (length item.marker) c.args.bytes.now ≡ item.marker =
    ap (take (length item.marker)) item.parts ∙ take-append_seam item.marker item.rest in
    c.in_err-width.ensures.found (length item.marker, delimiter, start)
    (subst (λ (marker : List ℕ). IsListMarker marker delimiter start) (sym whole) item.is_marker))

pub returns-in_err-width-clause-found : goal.returns-in_err-width-clause-found
returns-in_err-width-clause-found c =
    let none = rw c.from_residual.ensures at (returns-in_err-width-clause-none c) in
    rw c.from_residual.ensures (λ r. none r.0 r.1 r.2 r.3)

pub returns-in_err-width-clause-only : goal.returns-in_err-width-clause-only
returns-in_err-width-clause-only c = rw c.from_residual.ensures tt

pub returns-in_err-offset-clause-none : goal.returns-in_err-offset-clause-none
returns-in_err-offset-clause-none c =
    rw c.from_residual-in_err-offset.ensures (λ n delimiter start indent item.
    let width = c.in_ok-width.width in
    let rest : item.rest ≡ drop width c.args.bytes.now =
    item-rest c.args.bytes.now width c.in_ok-width.delimiter c.in_ok-width.start c.in_ok-width.ensures.within
    c.in_ok-width.ensures.found item.marker item.rest delimiter start item.parts item.is_marker in
    c.in_err-offset.ensures.found (item.offset, item.space)
    (subst (λ (rest : List ℕ). IsItemSpace rest item.offset item.space) (rest
    ∙ sym (from_offset c.args.bytes.now width)) item.is_space))

pub returns-in_err-offset-clause-found : goal.returns-in_err-offset-clause-found
returns-in_err-offset-clause-found c =
    let none = rw c.from_residual-in_err-offset.ensures at (returns-in_err-offset-clause-none c) in
    rw c.from_residual-in_err-offset.ensures (λ r. none r.0 r.1 r.2 r.3)

pub returns-in_err-offset-clause-only : goal.returns-in_err-offset-clause-only
returns-in_err-offset-clause-only c = rw c.from_residual-in_err-offset.ensures tt

pub returns-clause-found : goal.returns-clause-found
returns-clause-found c =
    let bytes = c.args.bytes.now in
    let width = c.in_ok-width.width in
    let taken : length (take width bytes) ≡ width = length-take-le width bytes c.in_ok-width.ensures.within in
    record {
      marker = take width bytes;
      rest = drop width bytes;
      offset = c.in_ok-offset.offset;
      space = c.in_ok-offset.space;
      parts = sym (take-append-drop width bytes);
      is_marker = c.in_ok-width.ensures.found;
      is_space =
          subst (λ (rest : List ℕ). IsItemSpace rest c.in_ok-offset.offset c.in_ok-offset.space) (from_offset bytes width)
          c.in_ok-offset.ensures.found;
      counted = omega (arith, taken);
      columns_are = omega (arith, taken);
    }

pub returns-clause-only : goal.returns-clause-only
returns-clause-only c = λ other item. one_item c.args.bytes.now other _ item (returns-clause-found c)
