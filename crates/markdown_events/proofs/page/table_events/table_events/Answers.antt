use Rattle.std.proofs.Common.{ℕ, true, List, ◌+◌, ◌-◌, ◌^◌, ◌++◌, ◌≡◌, ◌≤◌, ◌∙◌, ap, drop, length, map, refl, subst, sym, take, arith}
use Rattle.std.specs.Str.{IsUtf8}
use Rattle.std.proofs.lemmas.List.{length-take}
use Rattle.markdown_values.specs.values.Tags.{table}
use Rattle.markdown_scanners_tree.specs.scanners.TextLines.{lines_of}
use Rattle.markdown_blocks.specs.events.Events.{seen_leaf}
use Rattle.markdown_blocks.specs.rows.Rows.{AreAlignments, TextAt, rows_of}
use Rattle.markdown_events.specs.InlineEvents.{EventSetting, RangedEvent, seen_event}
use Rattle.markdown_events.specs.page.Places.{element}
use Rattle.markdown_events.specs.page.Readings.{seen_place, seen_reading}
use Rattle.markdown_events.specs.page.TableEvents.{AreRowEvents, AreUtf8, RowsEndBy, are_filled, columns_of}
use Rattle.markdown_events.proofs.page.table_events.AddedLemmas.{element_added}
use Rattle.markdown_events.proofs.page.table_events.RowLemmas.{rows_end, rows_utf8, table_lies}
use Rattle.markdown_events.proofs.page.table_events.table_events.Goals as goal

pub push_rows-requires : goal.push_rows-requires
push_rows-requires g c κs =
    let few : length c.lines_in-lines.result.now ≤ c.args.leaf.bytes =
    subst (λ (t : List ℕ). length t ≤ c.args.leaf.bytes) (sym c.lines_in-lines.ensures) (omega (arith, length-take {A = ℕ})) in
    let within = subst (RowsEndBy c.args.leaf.start (2 ^ 64 - 1)) (sym c.rows_of-rows.ensures.rows)
    (rows_end c.args.here.kept c.args.here.containers.now c.args.leaf.start (2 ^ 64 - 1) c.lines_in-lines.result.now (omega (arith, few, c.args.leaf.ends))) in
    let own = subst (λ (t : List ℕ). IsUtf8 (take c.args.leaf.bytes (drop c.args.leaf.start t))) (sym c.as_bytes.ensures.value)
    c.requires.cut_out.lines in
    let utf8 = subst AreUtf8 (sym c.rows_of-rows.ensures.rows)
    (rows_utf8 c.args.here.kept c.args.here.containers.now c.lines_in-lines.result.now (subst IsUtf8 (sym c.lines_in-lines.ensures) own)) in
    ((refl, tt), (within, utf8))

pub returns-clause-events : goal.returns-clause-events
returns-clause-events g c =
    let setting : EventSetting = seen_reading g.D.Definitions.targets c.args.reading.now in
    let leaf = c.args.leaf in
    let outer = c.args.here.containers.now in
    let alignments = c.in_ok-alignments.alignments.items in
    let rows = c.in_ok-push_rows.ensures in
    let lines_are : c.lines_in-lines.result.now ≡ take leaf.bytes (drop leaf.start c.args.reading.now.page.now) =
    c.lines_in-lines.ensures ∙ ap (λ (t : List ℕ). take leaf.bytes (drop leaf.start t)) c.as_bytes.ensures.value in
    let rows_are = c.rows_of-rows.ensures.rows ∙ ap (λ (t : List ℕ). rows_of c.args.here.kept outer (lines_of t)) lines_are in record {
      alignments = alignments;
      rows = rows.0;
      are_alignments = subst (λ (t : List ℕ). AreAlignments outer (lines_of t) alignments) lines_are c.in_ok-alignments.ensures.alignments;
      are_rows = subst (λ (rs : List TextAt). AreRowEvents setting (columns_of setting.cells c.args.columns rs) leaf.start true rs rows.0) rows_are
          (subst (λ filled. AreRowEvents setting (record { count = c.args.columns; are_filled = filled }) leaf.start true c.rows_of-rows.result rows.0)
          (c.are_filled.ensures ∙ ap (are_filled setting.cells c.args.columns) (sym c.rows_of-rows.ensures.rows)) rows.1);
      are_events = ap (map seen_event) c.from.ensures.0
          ∙ (element_added (table alignments) leaf.offset (leaf.start + leaf.bytes) rows.0 (map seen_event c.in_ok-events.events.items)
          (map seen_event c.push_event.new.events.items) (map seen_event c.push_rows.new.events.items) (map seen_event c.push_event-2.new.events.items)
          c.in_ok-push_event.ensures rows.2 c.in_ok-push_event-2.ensures
          ∙ ap (λ (es : List RangedEvent). es ++ element (table alignments) leaf.offset (leaf.start + leaf.bytes) rows.0)
          (ap (map seen_event) c.in_ok-events.ensures));
    }

pub returns-clause-within : goal.returns-clause-within
returns-clause-within g c =
    let setting : EventSetting = seen_reading g.D.Definitions.targets c.args.reading.now in
    table_lies c.args.reading.now.page.now setting (seen_place c.args.here) (seen_leaf c.args.leaf) c.args.columns (map seen_event c.from.result.items)
    (returns-clause-events g c)
