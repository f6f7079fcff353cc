use Rattle.std.proofs.Common.{◌∙◌, sym}
use Rattle.markdown_events.proofs.line_feeds.LineFeedLemmas.{pair_cut, pair_ends, return_cut, return_ends}
use Rattle.markdown_events.proofs.line_feeds.return_len.Goals as goal

pub returns-then-begins_with_pair-clause-rest : goal.returns-then-begins_with_pair-clause-rest
returns-then-begins_with_pair-clause-rest c =
    pair_ends c.args.bytes.now (sym c.begins_with_pair.ensures ∙ c.if-begins_with_pair.true)

pub returns-then-begins_with_pair-clause-cut : goal.returns-then-begins_with_pair-clause-cut
returns-then-begins_with_pair-clause-cut c =
    pair_cut c.args.bytes.now (sym c.begins_with_pair.ensures ∙ c.if-begins_with_pair.true)

pub returns-else-begins_with_pair-clause-rest : goal.returns-else-begins_with_pair-clause-rest
returns-else-begins_with_pair-clause-rest c =
    return_ends c.args.bytes.now c.requires (sym c.begins_with_pair.ensures ∙ c.if-begins_with_pair.false)

pub returns-else-begins_with_pair-clause-cut : goal.returns-else-begins_with_pair-clause-cut
returns-else-begins_with_pair-clause-cut c = return_cut c.args.bytes.now c.requires
