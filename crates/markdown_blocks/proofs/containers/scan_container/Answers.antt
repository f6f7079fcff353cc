use Rattle.std.proofs.Common.{Some, None, ◌≡◌, ◌∙◌, sym, ap, subst, arith}
use Rattle.std.specs.Prelude.{IfSome, IfNone}
use Rattle.markdown_scanners_tree.specs.Bytes.{begins_with}
use Rattle.markdown_blocks.specs.containers.private.Markers.{is_item_byte, is_other_byte}
use Rattle.markdown_blocks.proofs.containers.ContainerLemmas.{near, rest_at_offset}
use Rattle.markdown_blocks.proofs.containers.MarkerLemmas.{item_begun, none_begun}
use Rattle.markdown_blocks.proofs.containers.scan_container.Goals as goal

pub returns-then-begins_with_item_byte-clause-found : goal.returns-then-begins_with_item_byte-clause-found
returns-then-begins_with_item_byte-clause-found c =
    let there = rest_at_offset c.args.line.now c.args.start.now c.bytes_scanned.result c.requires.bytes c.bytes_scanned.ensures.offset in
    let same = item_begun c.args.extensions c.args.indent c.args.start.now
    (ap (begins_with is_item_byte) there ∙ sym c.begins_with_item_byte.ensures ∙ c.if-begins_with_item_byte.true)
    (near c.args.indent (omega (arith, c.requires.near, c.if-indent-eq4.false))) in
    subst (λ x. IfSome c.scan_item.result (λ container. x ≡ Some (container, c.scan_item.new.start))) (sym same) c.scan_item.ensures.found

pub returns-then-begins_with_item_byte-clause-none : goal.returns-then-begins_with_item_byte-clause-none
returns-then-begins_with_item_byte-clause-none c =
    let there = rest_at_offset c.args.line.now c.args.start.now c.bytes_scanned.result c.requires.bytes c.bytes_scanned.ensures.offset in
    let same = item_begun c.args.extensions c.args.indent c.args.start.now
    (ap (begins_with is_item_byte) there ∙ sym c.begins_with_item_byte.ensures ∙ c.if-begins_with_item_byte.true)
    (near c.args.indent (omega (arith, c.requires.near, c.if-indent-eq4.false))) in
    subst (λ x. IfNone c.scan_item.result (x ≡ None)) (sym same) c.scan_item.ensures.none

pub returns-then-not-begins_with_marker_byte-clause-none : goal.returns-then-not-begins_with_marker_byte-clause-none
returns-then-not-begins_with_marker_byte-clause-none c =
    let there = rest_at_offset c.args.line.now c.args.start.now c.bytes_scanned.result c.requires.bytes c.bytes_scanned.ensures.offset in
    none_begun c.args.extensions c.args.indent c.args.start.now
    (ap (begins_with is_item_byte) there ∙ sym c.begins_with_item_byte.ensures ∙ c.if-begins_with_item_byte.false)
    (ap (begins_with (is_other_byte c.args.extensions)) there ∙ sym c.begins_with_marker_byte.ensures ∙ c.if-not-begins_with_marker_byte.true)
