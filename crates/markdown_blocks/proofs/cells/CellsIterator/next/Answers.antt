use Rattle.std.proofs.Common.{length, ap, arith}
use Rattle.markdown_blocks.proofs.cells.CellLemmas.{last_left, next_left}
use Rattle.markdown_blocks.proofs.cells.CellsIterator.next.Goals as goal

pub returns-in-empty-clause-steps : goal.returns-in-empty-clause-steps
returns-in-empty-clause-steps c =
    rw (← c.self.view_is) (last_left c.self.inside.is_done c.self.inside.offset c.self.inside.rest.now c.piece_len.result c.split_at.result.0.now
    c.split_at.result.1.now c.cell_at-cell.result c.if-self.false c.piece_len.ensures.length c.split_at.ensures.front c.split_at.ensures.back
    c.cell_at-cell.ensures c.in-empty.len_below)

pub returns-in-len1-up-clause-steps : goal.returns-in-len1-up-clause-steps
returns-in-len1-up-clause-steps c =
    rw (← c.self.view_is) (next_left c.self.inside.is_done c.self.inside.offset c.self.inside.rest.now c.piece_len.result c.split_at.result.0.now
    c.split_at.result.1.now c.cell_at-cell.result c.if-self.false c.piece_len.ensures.length c.split_at.ensures.front c.split_at.ensures.back
    c.cell_at-cell.ensures c.in-len1-up.len_at_least)

pub returns-in-len1-up-clause-goes : goal.returns-in-len1-up-clause-goes
returns-in-len1-up-clause-goes c = record {
  on = λ _. (tt, tt, omega (arith, ap length (returns-in-len1-up-clause-steps c)));
  keeps = tt;
  rests = λ _. tt;
}
