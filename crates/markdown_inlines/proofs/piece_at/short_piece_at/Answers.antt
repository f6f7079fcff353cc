use Rattle.std.proofs.Common.{sym, ◌∙◌, get_or}
use Rattle.markdown_inlines.proofs.pieces.Openings.{escape_front, plain_begins_none, plain_from}
use Rattle.markdown_inlines.proofs.piece_at.short_piece_at.Goals as goal

pub break_at-requires-clause-no_escape : goal.break_at-requires-clause-no_escape
break_at-requires-clause-no_escape c = λ is. c.if-byte-eq92.false (escape_front c.args.bytes.now c.args.offset 2 is)

pub returns-else-byte-eq38 : goal.returns-else-byte-eq38
returns-else-byte-eq38 c = record {
  found = λ from r begins.
      plain_begins_none c.args.extensions c.args.bytes.now from c.args.offset
      (plain_from (get_or c.args.bytes.now c.args.offset 0) (sym c.opens_break.ensures ∙ c.if-opens_break.false)
      (sym c.opens_bracket.ensures ∙ c.if-opens_bracket.false) c.requires.short c.if-byte-eq38.false) r.0 r.1 begins;
}

pub returns-then-byte-eq92 : goal.returns-then-byte-eq92
returns-then-byte-eq92 c = record { found = c.escape_at.ensures.found c.args.extensions }

pub returns-then-opens_break : goal.returns-then-opens_break
returns-then-opens_break c = record { found = c.break_at.ensures.found c.args.extensions }

pub returns-then-byte-eq38 : goal.returns-then-byte-eq38
returns-then-byte-eq38 c = record { found = c.reference_at.ensures.found c.args.extensions }
