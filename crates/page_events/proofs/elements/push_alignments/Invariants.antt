-- What is written and the alignments that are left make all of them.
use Rattle.std.proofs.Common.{◌≡◌, ◌++◌, drop, string_bytes}
use Rattle.std.specs.List.{flat_map}
use Rattle.page_events.specs.Lines.{alignment_text}
use Rattle.page_events.proofs.elements.push_alignments.Given as goal

abbrev pub invariant-loop-alignment : goal.invariant-loop-alignment
invariant-loop-alignment l =
    string_bytes l.text ++ flat_map alignment_text (drop l.alignment-index l.alignments)
    ≡ string_bytes l.fn.text ++ flat_map alignment_text l.alignments
