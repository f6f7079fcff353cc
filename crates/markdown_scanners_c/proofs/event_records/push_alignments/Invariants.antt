-- What is written and the alignments that are left make all of them.
use Rattle.std.proofs.Common.{◌≡◌, ◌++◌, drop, map, string_bytes}
use Rattle.markdown_values.specs.values.Alignments.{alignment_number}
use Rattle.markdown_scanners_c.proofs.event_records.push_alignments.Given as goal

abbrev pub invariant-loop-alignment : goal.invariant-loop-alignment
invariant-loop-alignment l =
    string_bytes l.texts ++ map alignment_number (drop l.alignment-index l.alignments)
    ≡ string_bytes l.fn.texts ++ map alignment_number l.alignments
