use Rattle.std.proofs.Common.{◌∙◌, ◌++◌, ap, arith, string_bytes, sym}
use Rattle.std.proofs.lemmas.Str.{encode_ascii}
use Rattle.markdown_events.proofs.line_feeds.LineFeedLemmas.{before_return, ending_pushed, first_return, front_cut, front_pushed}
use Rattle.markdown_events.proofs.line_feeds.push_line.Goals as goal

pub range-requires-clause-end_boundary : goal.range-requires-clause-end_boundary
range-requires-clause-end_boundary c =
    front_cut c.args.text.now c.before_return-len.result (c.before_return-len.ensures ∙ ap before_return c.as_bytes.ensures.value)

pub range_from-rest-requires : goal.range_from-rest-requires
range_from-rest-requires c =
    λ _. front_cut c.args.text.now c.before_return-len.result (c.before_return-len.ensures ∙ ap before_return c.as_bytes.ensures.value)

pub returns-then-is_empty-clause-text : goal.returns-then-is_empty-clause-text
returns-then-is_empty-clause-text c =
    front_pushed c.args.text.now c.range.result.now c.range_from-rest.result.now (string_bytes c.args.out.now) _ c.before_return-len.result
    (c.before_return-len.ensures ∙ ap before_return c.as_bytes.ensures.value) c.range.ensures.value c.range_from-rest.ensures.value
    c.in_ok-push_str.ensures.bytes

pub return_len-requires : goal.return_len-requires
return_len-requires c =
    rw c.as_bytes-2.ensures.value
    (first_return c.args.text.now c.range_from-rest.result.now c.before_return-len.result
    (c.before_return-len.ensures ∙ ap before_return c.as_bytes.ensures.value) c.range_from-rest.ensures.value
    (sym c.is_empty.ensures ∙ c.if-is_empty.false))

pub returns-clause-text : goal.returns-clause-text
returns-clause-text c =
    ending_pushed c.range_from-rest.result.now c.range_from.result.now (string_bytes c.push_str.new.self) _ c.return_len.result
    (rw (← c.as_bytes-2.ensures.value) c.return_len.ensures.rest) c.range_from.ensures.value
    (c.in_ok-push.ensures.bytes ∙ ap (λ t. string_bytes c.push_str.new.self ++ t) (encode_ascii 10 (omega arith)))
    ∙ front_pushed c.args.text.now c.range.result.now c.range_from-rest.result.now (string_bytes c.args.out.now) _ c.before_return-len.result
    (c.before_return-len.ensures ∙ ap before_return c.as_bytes.ensures.value) c.range.ensures.value c.range_from-rest.ensures.value
    c.in_ok-push_str.ensures.bytes
