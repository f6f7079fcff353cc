use Rattle.std.proofs.Common.{◌≡◌, ℕ, ◌+◌, ◌≤◌, true, false, ◌==◌, List, [], ◌∷◌, length, take, drop, refl, one-add, arith}
use Rattle.std.specs.List.{count_by, prefix_len}
use Rattle.std.proofs.lemmas.Grind.{common_steps}
use Rattle.markdown_scanners_tree.specs.Bytes.{begins_with}
use Rattle.markdown_scanners_tree.specs.scanners.Breaks.{is_break_byte}
use Rattle.markdown_scanners_tree.proofs.scanners.breaks.scan_break_bytes.Goals as goal

-- A marker at the front is one byte of the run, and one marker.
first_marker : (marker : ℕ) (bytes : List ℕ) → begins_with (λ b. b == marker) bytes ≡ true
    → (1 ≤ length bytes) × (1 + prefix_len (is_break_byte marker) (drop 1 bytes) ≡ prefix_len (is_break_byte marker) bytes)
    × (1 ≡ count_by (λ b. b == marker) (take 1 bytes))
first_marker marker [] begins = absurd (let none : false ≡ true = begins in cc)
first_marker marker (b ∷ bytes) begins =
    let same : (b == marker) ≡ true = begins in (omega arith, rw (same, one-add) refl, rw same refl)

pub loop-run-init : goal.loop-run-init
loop-run-init c =
    let first = first_marker c.args.marker c.args.bytes.now c.requires.begins in
    record { inside = first.0; few = omega arith; run = first.1; markers = first.2 }

pub loop-run-preserved : goal.loop-run-preserved
loop-run-preserved c = grind (arith, common_steps)
