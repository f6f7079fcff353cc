use Rattle.std.proofs.Common.{◌∙◌, ◌++◌, refl, ap, sym, string_bytes, get_or}
use Rattle.markdown_html.specs.Escapes.{escaped_byte}
use Rattle.markdown_html.proofs.escapes.EscapeLemmas.{plain_len, front_cut, special_first, first_cut, front_pushed, first_pushed}
use Rattle.markdown_html.proofs.escapes.push_first.Goals as goal

pub range-requires-clause-end_boundary : goal.range-requires-clause-end_boundary
range-requires-clause-end_boundary c =
    front_cut c.args.text.now c.plain_len-plain.result (c.plain_len-plain.ensures ∙ ap plain_len c.as_bytes.ensures.value)

pub range_from-rest-requires : goal.range_from-rest-requires
range_from-rest-requires c =
    λ _. front_cut c.args.text.now c.plain_len-plain.result (c.plain_len-plain.ensures ∙ ap plain_len c.as_bytes.ensures.value)

pub returns-then-is_empty-clause-text : goal.returns-then-is_empty-clause-text
returns-then-is_empty-clause-text c =
    front_pushed c.args.text.now c.range.result.now c.range_from-rest.result.now (string_bytes c.args.out.now) _ c.plain_len-plain.result
    (c.plain_len-plain.ensures ∙ ap plain_len c.as_bytes.ensures.value) c.range.ensures.value c.range_from-rest.ensures.value
    c.in_ok-push_str.ensures.bytes

pub push_reference-requires : goal.push_reference-requires
push_reference-requires c =
    rw (
      c.as_bytes-2.ensures.value,
      special_first c.args.text.now c.range_from-rest.result.now c.plain_len-plain.result
          (c.plain_len-plain.ensures ∙ ap plain_len c.as_bytes.ensures.value) c.range_from-rest.ensures.value
          (sym c.is_empty.ensures ∙ c.if-is_empty.false),
    )
    refl

pub range_from-requires : goal.range_from-requires
range_from-requires c = λ _.
    first_cut c.range_from-rest.result.now c.range_from-rest.utf8 (sym c.is_empty.ensures ∙ c.if-is_empty.false)
    (special_first c.args.text.now c.range_from-rest.result.now c.plain_len-plain.result
    (c.plain_len-plain.ensures ∙ ap plain_len c.as_bytes.ensures.value) c.range_from-rest.ensures.value
    (sym c.is_empty.ensures ∙ c.if-is_empty.false))

pub returns-clause-text : goal.returns-clause-text
returns-clause-text c =
    first_pushed c.range_from-rest.result.now c.range_from.result.now (string_bytes c.push_str.new.self) _
    (sym c.is_empty.ensures ∙ c.if-is_empty.false) c.range_from.ensures.value
    (c.in_ok-push_reference.ensures ∙ ap (λ t. string_bytes c.push_str.new.self ++ escaped_byte (get_or t 0 0)) c.as_bytes-2.ensures.value)
    ∙ front_pushed c.args.text.now c.range.result.now c.range_from-rest.result.now (string_bytes c.args.out.now) _ c.plain_len-plain.result
    (c.plain_len-plain.ensures ∙ ap plain_len c.as_bytes.ensures.value) c.range.ensures.value c.range_from-rest.ensures.value
    c.in_ok-push_str.ensures.bytes
