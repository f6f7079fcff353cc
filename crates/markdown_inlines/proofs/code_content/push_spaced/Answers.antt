use Rattle.std.proofs.Common.{◌≡◌, ◌+◌, ◌-◌, ◌++◌, ◌∙◌, ap, arith, refl, length, take, drop}
use Rattle.std.specs.Str.{IsCharBoundary}
use Rattle.std.specs.String.{string_bytes}
use Rattle.std.proofs.lemmas.List.{length-drop}
use Rattle.std.proofs.lemmas.Str.{IsCharBoundary-start}
use Rattle.markdown_scanners_tree.proofs.ForCallers.{offset_of_rest}
use Rattle.markdown_inlines.proofs.code_content.CodeContentLemmas.{head_size, rest_of, head_within, head_cut, ending_there}
use Rattle.markdown_inlines.proofs.code_content.CodeContentLemmas.{line_pushed}
use Rattle.markdown_inlines.proofs.code_content.push_spaced.Goals as goal

pub loop-offset-init : goal.loop-offset-init
loop-offset-init c = (omega arith, IsCharBoundary-start c.args.text.now c.utf8.text, refl)

pub range-requires-clause-end_boundary : goal.range-requires-clause-end_boundary
range-requires-clause-end_boundary c =
    let text = c.args.text.now in
    let offset = c.loop-offset.offset in
    head_cut text offset (length c.line_head.result.now) c.loop-offset.invariant.0
    (head_size c.as_bytes.result.now text c.line_head.result.now offset c.as_bytes.ensures.value c.line_head.ensures.head)

pub push_space-requires : goal.push_space-requires
push_space-requires c =
    let text = c.args.text.now in
    let offset = c.loop-offset.offset in
    let head = length c.line_head.result.now in
    ending_there text offset head c.loop-offset.invariant.0
    (head_size c.as_bytes.result.now text c.line_head.result.now offset c.as_bytes.ensures.value c.line_head.ensures.head)
    _ (rest_of c.as_bytes-in-loop-offset.result.now text (offset + head) c.as_bytes-in-loop-offset.ensures.value)

pub loop-offset-preserved : goal.loop-offset-preserved
loop-offset-preserved c =
    let text = c.args.text.now in
    let offset = c.loop-offset.offset in
    let head = length c.line_head.result.now in
    let bytes = c.as_bytes-in-loop-offset.result.now in
    let rest = take (length bytes - (offset + head)) (drop (offset + head) bytes) in
    let n = c.in_ok-offset.field-0 in
    let size = head_size c.as_bytes.result.now text c.line_head.result.now offset c.as_bytes.ensures.value c.line_head.ensures.head in
    let after : rest ≡ drop (offset + head) text = rest_of bytes text (offset + head) c.as_bytes-in-loop-offset.ensures.value in
    let within = head_within text offset head c.loop-offset.invariant.0 size in
    let cut : IsCharBoundary text (offset + head) = head_cut text offset head c.loop-offset.invariant.0 size in (
      omega (arith, within, c.in_ok-offset.ensures.within.0, ap length after, length-drop (offset + head) text),
      offset_of_rest rest text (offset + head) n after c.utf8.text (λ _. cut) c.in_ok-offset.ensures.cut,
      line_pushed text offset head c.loop-offset.invariant.0 size n rest (string_bytes c.loop-offset.out) (string_bytes c.push_str.new.self)
          (string_bytes c.push_space.new.out) after
          (c.in_ok-push_str.ensures.bytes ∙ ap (λ t. string_bytes c.loop-offset.out ++ t) c.range.ensures.value)
          c.in_ok-offset.ensures.bytes
          ∙ c.loop-offset.invariant.2,
    )
