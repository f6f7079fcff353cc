use Rattle.std.proofs.Common.{sym, ◌∙◌, ap}
use Rattle.markdown_scanners_tree.specs.scanners.Fences.{has_backtick_in_line}
use Rattle.markdown_scanners_tree.proofs.PrefixLemmas.{from_offset}
use Rattle.markdown_scanners_tree.proofs.scanners.fences.FenceLemmas.{fence-few, fence-backtick, fence-scanned}
use Rattle.markdown_scanners_tree.proofs.scanners.fences.OneFence.{one_code_fence}
use Rattle.markdown_scanners_tree.proofs.scanners.fences.scan_fence_of.Goals as goal
use Rattle.markdown_scanners_tree.proofs.scanners.fences.scan_fence_of.Goals.{else-byte-eq96-via-then-byte-eq96+else-has_backtick, else-byte-eq96-via-else-byte-eq96}

pub returns-then-run-lt3-clause-none : goal.returns-then-run-lt3-clause-none
returns-then-run-lt3-clause-none c =
    fence-few _ _ _ c.requires.begins c.scan_ch_repeat-run.ensures.run c.if-run-lt3.true

pub returns-then-run-lt3-clause-found : goal.returns-then-run-lt3-clause-found
returns-then-run-lt3-clause-found c r = returns-then-run-lt3-clause-none c r.0 r.1

pub returns-then-has_backtick-clause-none : goal.returns-then-has_backtick-clause-none
returns-then-has_backtick-clause-none c =
    fence-backtick _ _ _ c.requires.begins c.scan_ch_repeat-run.ensures.run c.if-byte-eq96.true
    (ap has_backtick_in_line (sym (from_offset c.args.bytes.now c.scan_ch_repeat-run.result))
    ∙ sym c.has_backtick.ensures ∙ c.if-has_backtick.true)

pub returns-then-has_backtick-clause-found : goal.returns-then-has_backtick-clause-found
returns-then-has_backtick-clause-found c r = returns-then-has_backtick-clause-none c r.0 r.1

pub returns-clause-found : goal.returns-clause-found
returns-clause-found c =
    fence-scanned _ _ _ c.requires.begins c.scan_ch_repeat-run.ensures.run c.requires.of_fence_byte c.if-run-lt3.false
    (λ is_backtick.
    elim c.else-byte-eq96.branch [
      | else-byte-eq96-via-then-byte-eq96+else-has_backtick w ↦
          ap has_backtick_in_line (sym (from_offset c.args.bytes.now c.scan_ch_repeat-run.result))
          ∙ sym w.has_backtick.ensures ∙ w.if-has_backtick.false
      | else-byte-eq96-via-else-byte-eq96 w ↦ absurd (w.if-byte-eq96.false is_backtick)
    ])

pub returns-clause-only : goal.returns-clause-only
returns-clause-only c =
    λ other is. one_code_fence c.args.bytes.now other.0 other.1 _ _ is (returns-clause-found c)
