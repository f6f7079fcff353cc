use Rattle.std.proofs.Common.{◌≡◌, ◌≤◌, ◌+◌, ◌-◌, ◌++◌, length, take, drop, ap, sym, ◌∙◌, arith, refl}
use Rattle.std.specs.List.{flat_map}
use Rattle.std.proofs.lemmas.List.{length-drop, take_rest}
use Rattle.markdown_blocks.specs.content.Content.{text_of}
use Rattle.markdown_blocks.specs.content.Segments.{segments_from}
use Rattle.markdown_blocks.specs.cells.Contents.{escape_at}
use Rattle.markdown_blocks.proofs.content.cell.EscapeLemmas.{all_held, all_seen, later_runs, next_run, no_bytes}
use Rattle.markdown_blocks.proofs.content.cell.EscapeLemmas.{run_ends, run_segments, run_stops, run_text, runs}
use Rattle.markdown_blocks.proofs.content.cell.built.Goals as goal

pub loop-rest-init : goal.loop-rest-init
loop-rest-init c =
    let text = c.args.text.now in
    let all = runs c.args.source text in
    let run = c.split_at.result.0.now in
    let rest = c.split_at.result.1.now in
    let front = c.split_at.ensures.front ∙ ap (λ n. take n text) c.escape_at.ensures.length in
    let back = c.split_at.ensures.back ∙ ap (λ n. drop n text) c.escape_at.ensures.length in
    let low : escape_at text ≤ length text = omega (arith, c.escape_at.ensures.length, c.escape_at.ensures.within) in
    let bytes = c.new-bytes.result.items in
    let old = c.new-segments.result.items in
    let none = c.new-bytes.ensures.items in (
      run_text (flat_map text_of all) (segments_from 0 all) bytes c.add_run.new.bytes.items old c.add_run.new.segments.items c.args.source
          (c.args.source + length run) text run rest all refl front back low refl c.in_ok-add_run.ensures.bytes c.in_ok-add_run.ensures.segments
          (ap (λ b. b ++ flat_map text_of all) none),
      run_segments (flat_map text_of all) (segments_from 0 all) bytes c.add_run.new.bytes.items old c.add_run.new.segments.items c.args.source
          (c.args.source + length run) text run rest all refl front back low refl c.in_ok-add_run.ensures.bytes c.in_ok-add_run.ensures.segments
          (ap (λ b. old ++ segments_from (length b) all) none ∙ ap (λ ss. ss ++ segments_from 0 all) c.new-segments.ensures.items),
      run_stops (flat_map text_of all) (segments_from 0 all) bytes c.add_run.new.bytes.items old c.add_run.new.segments.items c.args.source
          (c.args.source + length run) text run rest all refl front back low refl c.in_ok-add_run.ensures.bytes c.in_ok-add_run.ensures.segments,
      run_ends (flat_map text_of all) (segments_from 0 all) bytes c.add_run.new.bytes.items old c.add_run.new.segments.items c.args.source
          (c.args.source + length run) text run rest all refl front back low refl c.in_ok-add_run.ensures.bytes c.in_ok-add_run.ensures.segments,
    )

pub loop-rest-preserved : goal.loop-rest-preserved
loop-rest-preserved c =
    let l = c.loop-rest in
    let all = runs c.args.source c.args.text.now in
    let after = take (length l.rest.now - 1) (drop 1 l.rest.now) in
    let run = c.split_at-in-len1-up.result.0.now in
    let rest = c.split_at-in-len1-up.result.1.now in
    let taken = c.escape_at-in-len1-up in
    let new = c.add_run-in-len1-up.new in
    let added = c.in_ok-add_run-2.ensures in
    let parts = later_runs l.end l.rest.now in
    let next : parts ≡ runs (l.end + 1) after =
    next_run l.end l.rest.now l.invariant.2 c.in-len1-up.len_at_least ∙ ap (runs (l.end + 1)) (sym (take_rest l.rest.now 1)) in
    let front = c.split_at-in-len1-up.ensures.front ∙ ap (λ n. take n after) taken.ensures.length in
    let back = c.split_at-in-len1-up.ensures.back ∙ ap (λ n. drop n after) taken.ensures.length in
    let low : escape_at after ≤ length after = omega (arith, taken.ensures.length, taken.ensures.within) in
    let end : l.end + (length run + 1) ≡ l.end + 1 + length run = omega arith in
    let size : length after ≡ length l.rest.now - 1 = ap length (take_rest l.rest.now 1) ∙ length-drop 1 l.rest.now in
    let ends = run_ends (flat_map text_of all) (segments_from 0 all) l.bytes.items new.bytes.items l.segments.items new.segments.items (l.end + 1)
    (l.end + (length run + 1)) after run rest parts next front back low end added.bytes added.segments in (
      run_text (flat_map text_of all) (segments_from 0 all) l.bytes.items new.bytes.items l.segments.items new.segments.items (l.end + 1)
          (l.end + (length run + 1)) after run rest parts next front back low end added.bytes added.segments l.invariant.0,
      run_segments (flat_map text_of all) (segments_from 0 all) l.bytes.items new.bytes.items l.segments.items new.segments.items (l.end + 1)
          (l.end + (length run + 1)) after run rest parts next front back low end added.bytes added.segments l.invariant.1,
      run_stops (flat_map text_of all) (segments_from 0 all) l.bytes.items new.bytes.items l.segments.items new.segments.items (l.end + 1)
          (l.end + (length run + 1)) after run rest parts next front back low end added.bytes added.segments,
      omega (arith, ends, size, l.invariant.3, c.in-len1-up.len_at_least),
    )

pub invariant_of-result : goal.invariant_of-result
invariant_of-result c =
    let l = c.loop-rest in
    all_held c.args.source c.args.text.now l.bytes.items l.segments.items l.rest.now l.end (no_bytes l.rest.now c.in_default.len_below)
    l.invariant.0 l.invariant.1 c.requires.fits

pub returns : goal.returns
returns c =
    let l = c.loop-rest in
    all_seen c.args.source c.args.text.now l.bytes.items l.segments.items l.rest.now l.end (no_bytes l.rest.now c.in_default.len_below)
    l.invariant.0 l.invariant.1 c.requires.some
