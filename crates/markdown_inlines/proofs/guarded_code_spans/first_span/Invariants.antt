-- No string of this length stands before the from, and no backtick at it; what stands before it is passed over, and its strings are put in.
use Rattle.std.proofs.Common.{◌≡◌, ◌≢◌, ◌≤◌, ◌+◌, ◌-◌, length, get_or}
use Rattle.markdown_scanners_tree.specs.Ascii.{backtick}
use Rattle.markdown_inlines.specs.CodeSpans.{HasNone}
use Rattle.markdown_inlines.proofs.guarded_code_spans.LastStringLemmas.{AreLastBetween}
use Rattle.markdown_inlines.proofs.guarded_code_spans.first_span.Given as goal

abbrev pub invariant-loop-start : goal.invariant-loop-start
invariant-loop-start l = record {
  later : l.fence ≤ l.from;
  within : l.from ≤ length l.rest;
  none : HasNone l.rest l.fence l.fence l.from;
  apart : get_or l.rest l.from 0 ≢ backtick;
  counted : l.passed + l.fence ≡ l.initial.passed + l.from;
  lasts : AreLastBetween l.text l.offset l.lasts.items (l.offset + l.from);
}

abbrev pub decreases-loop-start : goal.decreases-loop-start
decreases-loop-start l = length l.rest - l.from
