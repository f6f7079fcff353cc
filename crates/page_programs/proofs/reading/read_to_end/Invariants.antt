use Rattle.std.proofs.Common.{ℕ, ◌+◌, ◌≡◌}
use Rattle.std.specs.Io.KnownBytes.{Consumes}
use Rattle.program_faults.specs.Steps.{AreReads}
use Rattle.page_programs.proofs.reading.read_to_end.Given as goal

-- the text is what was read so far, by the reads that are no longer left
abbrev pub invariant-loop-unread : goal.invariant-loop-unread
invariant-loop-unread g l = record {
  read : Consumes (g.R.Read.remaining l.fn.input) (g.R.Read.remaining l.input) l.unread.text.items;
  reads : (count : ℕ) × (l.unread.reads + count ≡ 281474976710655) × AreReads g.R.StepReader.reads count l.fn.input l.input;
}

abbrev pub decreases-loop-unread : goal.decreases-loop-unread
decreases-loop-unread g l = l.unread.reads
