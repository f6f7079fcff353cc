-- With what is left of the row, the pipes are those of all.
use Rattle.std.proofs.Common.{◌≡◌, ◌+◌, ◌≤◌, drop}
use Rattle.markdown_scanners_tree.specs.Ascii.{space}
use Rattle.markdown_blocks.specs.blocks.Tables.{separators, ends_separated}
use Rattle.markdown_blocks.proofs.tables.TableLemmas.{ends_from}
use Rattle.markdown_blocks.proofs.tables.count_separators.Given as goal

abbrev pub invariant-loop-byte : goal.invariant-loop-byte
invariant-loop-byte l =
    (l.count + separators l.before (drop l.byte-index l.row) ≡ separators space l.row)
    × (ends_from l.is_last l.before (drop l.byte-index l.row) ≡ ends_separated space l.row) × (l.count ≤ l.byte-index)
