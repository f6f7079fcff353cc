use Rattle.std.proofs.Common.{◌≡◌, ◌∙◌, ap, Vec, Global, ℕ}
use Rattle.markdown_scanners_tree.proofs.scanners.html_tag.TagBuffer.{buffer_built, buffer_empty, prefix_under, none_given}
use Rattle.markdown_scanners_tree.proofs.scanners.html_tag.scan_html_block_inner.Goals.{in-Some-handler+in_ok-buffer-in-Some-handler, in_default-handler}
use Rattle.markdown_scanners_tree.proofs.scanners.html_tag.scan_html_block_inner.Goals.{in_default-handler-via-in-Some-handler+else-tag, in_default-handler-via-in_default-handler}
use Rattle.markdown_scanners_tree.proofs.scanners.html_tag.scan_html_block_inner.Goals as goal

pub copy_kept-requires-clause-some : goal.copy_kept-requires-clause-some
copy_kept-requires-clause-some g c =
    let found = c.in-Some.ensures.found in
    let under =
    prefix_under g.F.Fn c.args.handler c.in-Some-handler.skips c.args.bytes.now found.0 c.in-Some-handler.is
    found.1.kept in
    (found.0, under, found.2.0)

pub returns-clause-only : goal.returns-clause-only
returns-clause-only g c = λ prefix tag.
    let sizes = c.in-Some.ensures.only prefix tag in
    elim c.match-handler.branch [
      | in-Some-handler+in_ok-buffer-in-Some-handler w ↦ (
          let under =
          prefix_under g.F.Fn c.args.handler w.in-Some-handler.skips c.args.bytes.now prefix w.in-Some-handler.is tag.kept in (
            ap (λ (v : Vec ℕ Global). v.items) w.buffer-is ∙ w.in_ok-buffer-in-Some-handler.ensures.copied prefix under
                sizes.0 ∙ buffer_built prefix _ _ sizes.0 sizes.1 w.if-tag.true,
            sizes.1,
          )
          )
      | in_default-handler w ↦ (
          let same : c.in-Some.tag.kept ≡ c.in-Some.tag.end = elim w.in_default-handler.branch [
            | in_default-handler-via-in-Some-handler+else-tag v ↦ v.if-tag.false
            | in_default-handler-via-in_default-handler v ↦
                none_given c.args.handler _ _ c.in-Some.ensures.whole v.in_default-handler.is
          ] in (
            ap (λ (v : Vec ℕ Global). v.items) w.buffer-is ∙ w.new-buffer.ensures.items
                ∙ buffer_empty prefix _ _ sizes.0 sizes.1 same,
            sizes.1,
          )
          )
    ]

pub returns-clause-found : goal.returns-clause-found
returns-clause-found g c =
    let found = c.in-Some.ensures.found in
    let text = returns-clause-only g c found.0 found.1 in
    (found.0, found.1, text)
