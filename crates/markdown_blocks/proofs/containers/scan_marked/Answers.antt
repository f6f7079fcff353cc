use Rattle.std.proofs.Common.{Some, None, sym, ◌≡◌, ◌∙◌, false, subst}
use Rattle.std.specs.Prelude.{IfSome, IfNone}
use Rattle.markdown_scanners_tree.specs.Bytes.{begins_with}
use Rattle.markdown_scanners_tree.specs.line.State.{unscanned}
use Rattle.markdown_blocks.specs.containers.private.Markers.{is_item_byte}
use Rattle.markdown_blocks.proofs.containers.ContainerLemmas.{begun_other, near, no_marker, no_quote}
use Rattle.markdown_blocks.proofs.containers.MarkerLemmas.{other_begun}
use Rattle.markdown_blocks.proofs.containers.scan_marked.Goals as goal

pub returns-clause-found : goal.returns-clause-found
returns-clause-found c =
    let s = c.args.start.now in
    let t = c.scan_blockquote_marker.new.self in
    let other = no_marker c.scan_blockquote_marker.result _ c.if-scan_blockquote_marker.false c.scan_blockquote_marker.ensures.answer in
    let same = no_quote s t other c.scan_blockquote_marker.ensures.state in
    let no_item = subst (λ z. begins_with is_item_byte (unscanned z) ≡ false) (sym same) c.requires.other in
    let begun = begun_other c.args.extensions c.args.indent s t (near c.args.indent c.requires.near) other same
    ∙ other_begun c.args.extensions c.args.indent t no_item in
    subst (λ x. IfSome c.scan_extension.result (λ container. x ≡ Some (container, c.scan_extension.new.start))) (sym begun) c.scan_extension.ensures.found

pub returns-clause-none : goal.returns-clause-none
returns-clause-none c =
    let s = c.args.start.now in
    let t = c.scan_blockquote_marker.new.self in
    let other = no_marker c.scan_blockquote_marker.result _ c.if-scan_blockquote_marker.false c.scan_blockquote_marker.ensures.answer in
    let same = no_quote s t other c.scan_blockquote_marker.ensures.state in
    let no_item = subst (λ z. begins_with is_item_byte (unscanned z) ≡ false) (sym same) c.requires.other in
    let begun = begun_other c.args.extensions c.args.indent s t (near c.args.indent c.requires.near) other same
    ∙ other_begun c.args.extensions c.args.indent t no_item in
    subst (λ x. IfNone c.scan_extension.result (x ≡ None)) (sym begun) c.scan_extension.ensures.none
