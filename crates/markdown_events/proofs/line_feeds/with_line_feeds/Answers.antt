use Rattle.std.proofs.Common.{◌∙◌, ap, length, sym}
use Rattle.markdown_values.specs.strings.Text.{cow_text}
use Rattle.markdown_events.proofs.line_feeds.LineFeedLemmas.{all_stays, before_return}
use Rattle.markdown_events.proofs.line_feeds.with_line_feeds.Goals as goal

pub returns-then-before_return-len : goal.returns-then-before_return-len
returns-then-before_return-len c =
    sym (all_stays (cow_text c.args.text)
    (sym (c.before_return.ensures ∙ ap before_return (c.as_bytes.ensures.value ∙ c.as_str.ensures))
    ∙ (c.if-before_return-len.true ∙ ap length c.as_str-len.ensures)))
