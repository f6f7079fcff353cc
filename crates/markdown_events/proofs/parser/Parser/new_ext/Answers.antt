use Rattle.std.proofs.Common.{subst, sym}
use Rattle.markdown_events.specs.EventLaws.{AreAtBoundaries, AreBalanced, AreWithin}
use Rattle.markdown_events.specs.Nesting.{AreNested, without_ranges}
use Rattle.markdown_events.specs.page.Given.{AlwaysGivesOnly}
use Rattle.markdown_events.specs.page.References.{CellsFit, ReferencesFit}
use Rattle.markdown_events.specs.page.Sizes.{EventsFit}
use Rattle.markdown_events.proofs.parser.Parser.new_ext.Goals as goal

pub returns-clause-broken_balanced : goal.returns-clause-broken_balanced
returns-clause-broken_balanced c = subst (AlwaysGivesOnly AreBalanced) (sym c.of_reader.ensures.left) c.in_ok-new_ext.ensures.broken_balanced

pub returns-clause-broken_nested : goal.returns-clause-broken_nested
returns-clause-broken_nested c = subst (AlwaysGivesOnly (λ events. AreNested (without_ranges events))) (sym c.of_reader.ensures.left) c.in_ok-new_ext.ensures.broken_nested

pub returns-clause-broken_within : goal.returns-clause-broken_within
returns-clause-broken_within c = subst (AlwaysGivesOnly (AreWithin c.args.text.now)) (sym c.of_reader.ensures.left) c.in_ok-new_ext.ensures.broken_within

pub returns-clause-broken_boundaries : goal.returns-clause-broken_boundaries
returns-clause-broken_boundaries c = subst (AlwaysGivesOnly (AreAtBoundaries c.args.text.now)) (sym c.of_reader.ensures.left) c.in_ok-new_ext.ensures.broken_boundaries

pub returns-clause-broken_references : goal.returns-clause-broken_references
returns-clause-broken_references c = subst (AlwaysGivesOnly (ReferencesFit c.args.text.now)) (sym c.of_reader.ensures.left) c.in_ok-new_ext.ensures.broken_references

pub returns-clause-broken_cells : goal.returns-clause-broken_cells
returns-clause-broken_cells c = subst (AlwaysGivesOnly (CellsFit c.args.text.now)) (sym c.of_reader.ensures.left) c.in_ok-new_ext.ensures.broken_cells

pub returns-clause-broken_few : goal.returns-clause-broken_few
returns-clause-broken_few c = subst (AlwaysGivesOnly (EventsFit c.args.text.now)) (sym c.of_reader.ensures.left) c.in_ok-new_ext.ensures.broken_few
