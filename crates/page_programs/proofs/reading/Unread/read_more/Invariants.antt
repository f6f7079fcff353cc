use Rattle.std.proofs.Common.{List, ℕ, ◌+◌, ◌*◌, ◌++◌, ◌≡◌, ◌≤◌, length}
use Rattle.std.specs.Io.KnownBytes.{Consumes}
use Rattle.program_faults.specs.Steps.{AreReads}
use Rattle.page_programs.proofs.reading.Unread.read_more.Given as goal

-- what was read so far came off the front of the input, by the reads that are no longer left, and is no more than as many give
abbrev pub invariant-loop-self : goal.invariant-loop-self
invariant-loop-self g l = record {
  seen : (bytes : List ℕ) × Consumes (g.R.Read.remaining l.fn.input) (g.R.Read.remaining l.input) bytes × (l.self.text.items ≡ l.fn.self.text.items ++ bytes);
  fewer : l.self.reads ≤ l.fn.self.reads;
  room : length l.self.text.items + 65536 * l.self.reads ≤ length l.fn.self.text.items + 65536 * l.fn.self.reads;
  reads : (count : ℕ) × (l.self.reads + count ≡ l.fn.self.reads) × AreReads g.R.StepReader.reads count l.fn.input l.input;
}

abbrev pub decreases-loop-self : goal.decreases-loop-self
decreases-loop-self g l = l.self.reads
