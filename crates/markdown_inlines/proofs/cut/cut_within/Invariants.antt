use Rattle.std.proofs.Common.{◌≡◌, ◌≤◌, ◌-◌, length}
use Rattle.std.specs.Str.{IsCharBoundary}
use Rattle.markdown_inlines.specs.Readings.{AreBefore, IsKept, reading_of}
use Rattle.markdown_inlines.specs.Searches.{pieces_searched, unsearched}
use Rattle.markdown_inlines.specs.Sources.{AreSources}
use Rattle.markdown_inlines.specs.Written.{AreWritten, have_runs, pieces_of}
use Rattle.markdown_inlines.proofs.cut.CutLemmas.{ReadsOn}
use Rattle.markdown_inlines.proofs.cut.cut_within.Given as goal

abbrev pub invariant-loop-piece : goal.invariant-loop-piece
invariant-loop-piece g l =
    (l.scanner ≡ record {
      text = l.text;
      asked = l.extensions;
      offset = l.offset;
      searched = pieces_searched l.text (pieces_of l.buffers.inlines.items) (unsearched l.text);
    }) × (l.offset ≤ length l.text)
    × ReadsOn (record { asked = l.extensions; known = g.L.Labels.known l.labels }) l.text l.offset (reading_of l.text l.buffers.reader)
    (pieces_of l.buffers.inlines.items)
    × AreSources l.text (pieces_of l.buffers.inlines.items) l.offset × IsCharBoundary l.text l.offset
    × AreBefore (reading_of l.text l.buffers.reader).openers l.offset × IsKept (reading_of l.text l.buffers.reader)
    × AreWritten l.buffers.reader.links (reading_of l.text l.buffers.reader).openers l.buffers.inlines.items l.offset
    × (l.has_runs ≡ have_runs (pieces_of l.buffers.inlines.items))

abbrev pub decreases-loop-piece : goal.decreases-loop-piece
decreases-loop-piece g l = length l.text - l.offset
