use Rattle.std.proofs.Common.{◌≡◌, sym, ◌∙◌, false, arith}
use Rattle.std.specs.Prelude.{◌&&◌}
use Rattle.std.proofs.lemmas.Bool.{and_left, and_right}
use Rattle.markdown_scanners_tree.specs.scanners.unescaping.private.FirstPiece.{starts_pipe}
use Rattle.markdown_scanners_tree.proofs.scanners.unescaping.FirstPieceLemmas.{pipe_piece, pipe_ascii, escape_piece, escape_ascii, itself_piece}
use Rattle.markdown_scanners_tree.proofs.scanners.unescaping.escape_len.Goals as goal
use Rattle.markdown_scanners_tree.proofs.scanners.unescaping.escape_len.Goals.{else-is_in_table-via-then-is_in_table+else-starts_pipe, else-is_in_table-via-else-is_in_table}

pub returns-then-starts_pipe-clause-piece : goal.returns-then-starts_pipe-clause-piece
returns-then-starts_pipe-clause-piece c known =
    pipe_piece c.args.is_in_table known c.args.bytes.now c.if-is_in_table.true (sym c.if-starts_pipe.ensures)

pub returns-then-starts_escape-clause-piece : goal.returns-then-starts_escape-clause-piece
returns-then-starts_escape-clause-piece c known =
    let none : (c.args.is_in_table && starts_pipe c.args.bytes.now) ≡ false = elim c.else-is_in_table.branch [
      | else-is_in_table-via-then-is_in_table+else-starts_pipe w ↦
          and_right c.args.is_in_table (starts_pipe c.args.bytes.now)
          (sym w.starts_pipe.ensures ∙ w.if-starts_pipe.false)
      | else-is_in_table-via-else-is_in_table w ↦
          and_left c.args.is_in_table (starts_pipe c.args.bytes.now) w.if-is_in_table.false
    ] in
    escape_piece c.args.is_in_table known c.args.bytes.now none (sym c.if-starts_escape.ensures.value)

pub returns-else-starts_escape-clause-piece : goal.returns-else-starts_escape-clause-piece
returns-else-starts_escape-clause-piece c known =
    let none : (c.args.is_in_table && starts_pipe c.args.bytes.now) ≡ false = elim c.else-is_in_table.branch [
      | else-is_in_table-via-then-is_in_table+else-starts_pipe w ↦
          and_right c.args.is_in_table (starts_pipe c.args.bytes.now)
          (sym w.starts_pipe.ensures ∙ w.if-starts_pipe.false)
      | else-is_in_table-via-else-is_in_table w ↦
          and_left c.args.is_in_table (starts_pipe c.args.bytes.now) w.if-is_in_table.false
    ] in
    itself_piece c.args.is_in_table known c.args.bytes.now c.requires.some none (sym c.if-starts_escape.ensures.value)
    (λ n meaning starts. absurd (omega (arith, starts.0, c.requires.begins)))
    (λ cr. absurd (omega (arith, cr, c.requires.begins)))

pub returns-then-starts_pipe-clause-ascii : goal.returns-then-starts_pipe-clause-ascii
returns-then-starts_pipe-clause-ascii c _ = pipe_ascii c.args.bytes.now (sym c.if-starts_pipe.ensures)

pub returns-then-starts_escape-clause-ascii : goal.returns-then-starts_escape-clause-ascii
returns-then-starts_escape-clause-ascii c _ = escape_ascii c.args.bytes.now (sym c.if-starts_escape.ensures.value)
