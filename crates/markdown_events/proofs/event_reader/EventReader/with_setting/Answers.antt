use Rattle.std.proofs.Common.{[], ◌++◌, map, reverse, refl, sym, ap, subst, ◌∙◌}
use Rattle.markdown_blocks.specs.events.Events.{seen_event as seen_block}
use Rattle.markdown_events.specs.Targets.{nowhere}
use Rattle.markdown_events.specs.page.OpenElements.{none_open}
use Rattle.markdown_events.specs.page.PageEvents.{ArePageEvents, ArePageEventsWith}
use Rattle.markdown_events.specs.page.References.{page_room}
use Rattle.markdown_events.specs.page.Settings.{built}
use Rattle.markdown_events.proofs.page.CellRoom.{page_cells_fit, page_cells_with_fit}
use Rattle.markdown_events.proofs.page.EventCounts.{page_events_fit, page_events_with_fit}
use Rattle.markdown_events.proofs.page.InPageLemmas.{page_leaves_in}
use Rattle.markdown_events.proofs.page.PageBalance.{page_events_balance, page_events_nest, page_events_with_balance, page_events_with_nest}
use Rattle.markdown_events.proofs.page.PageCuts.{page_events_at_boundaries, page_events_with_at_boundaries}
use Rattle.markdown_events.proofs.page.PageRanges.{page_events_with_within, page_events_within}
use Rattle.markdown_events.proofs.page.PageRoom.{page_references_fit, page_references_with_fit}
use Rattle.markdown_events.proofs.page.ParserLemmas.{given_with, page_events, page_events_with}
use Rattle.markdown_events.proofs.event_reader.EventReader.with_setting.Goals as goal

pub invariant_of-result : goal.invariant_of-result
invariant_of-result c =
    let all = c.in_ok-blocks.blocks.items in
    let of_page = rw c.built.ensures at c.in_ok-blocks.ensures.blocks in
    rw (c.new.ensures, c.all.ensures)
    (page_leaves_in (built c.args.setting) c.args.page.now (map seen_block all) of_page c.utf8.page)

pub returns-clause-page : goal.returns-clause-page
returns-clause-page c = λ events g.
    let page = c.args.page.now in
    let setting = c.args.setting in
    let all = c.in_ok-blocks.blocks.items in
    let known = c.in_ok-blocks.definitions in
    let found = reverse c.in_ok-spans.spans.items in
    let of_page = rw c.built.ensures at c.in_ok-blocks.ensures.blocks in
    let first = rw c.built.ensures at c.in_ok-blocks.ensures.first in
    let are_spans = rw c.deref.ensures.value at c.in_ok-spans.ensures in
    let none = c.new-2.ensures in
    let later = rw (c.new.ensures, c.all.ensures, c.page_room.ensures) at g.are_later in
    let without = given_with (record {
      page = page;
      extensions = setting;
      known = known;
      room = page_room page;
      ready = [];
      elements = none_open found;
      blocks = map seen_block all;
    }) g.rest (record { rest = g.rest; are_later = later; given = refl }) in
    subst (λ es. ArePageEvents page setting es) (sym (g.given ∙ (ap (λ es. es ++ g.rest) none ∙ without.given)))
    (page_events page setting without.rest (page_events_with page setting nowhere (map seen_block all) known found without.rest of_page first.0
    first.1 first.2 are_spans without.are_later))

pub returns-clause-balanced : goal.returns-clause-balanced
returns-clause-balanced c = λ events g. page_events_balance c.args.page.now c.args.setting events (returns-clause-page c events g)

pub returns-clause-nested : goal.returns-clause-nested
returns-clause-nested c = λ events g. page_events_nest c.args.page.now c.args.setting events (returns-clause-page c events g)

pub returns-clause-within : goal.returns-clause-within
returns-clause-within c = λ events g. page_events_within c.args.page.now c.args.setting events (returns-clause-page c events g)

pub returns-clause-boundaries : goal.returns-clause-boundaries
returns-clause-boundaries c = λ events g.
    page_events_at_boundaries c.args.page.now c.args.setting c.utf8.page events (returns-clause-page c events g)

pub returns-clause-definitions : goal.returns-clause-definitions
returns-clause-definitions c =
    let first = rw c.built.ensures at c.in_ok-blocks.ensures.first in record {
      named = first.0;
      are_defined = first.1;
      are_first = first.2;
    }

pub returns-clause-broken : goal.returns-clause-broken
returns-clause-broken c = λ more events g.
    let page = c.args.page.now in
    let setting = c.args.setting in
    let all = c.in_ok-blocks.blocks.items in
    let of_page = rw c.built.ensures at c.in_ok-blocks.ensures.blocks in
    let first = rw c.built.ensures at c.in_ok-blocks.ensures.first in
    let none = c.new-2.ensures in
    let later = rw (c.new.ensures, c.all.ensures, c.page_room.ensures) at g.are_later in
    subst (λ es. ArePageEventsWith page setting more es) (sym (g.given ∙ ap (λ es. es ++ g.rest) none))
    (page_events_with page setting more (map seen_block all) c.in_ok-blocks.definitions (reverse c.in_ok-spans.spans.items) g.rest of_page
    first.0 first.1 first.2 (rw c.deref.ensures.value at c.in_ok-spans.ensures) later)

pub returns-clause-broken_balanced : goal.returns-clause-broken_balanced
returns-clause-broken_balanced c = λ more events g.
    page_events_with_balance c.args.page.now c.args.setting more events (returns-clause-broken c more events g)

pub returns-clause-broken_within : goal.returns-clause-broken_within
returns-clause-broken_within c = λ more events g.
    page_events_with_within c.args.page.now c.args.setting more events (returns-clause-broken c more events g)

pub returns-clause-broken_nested : goal.returns-clause-broken_nested
returns-clause-broken_nested c = λ more events g.
    page_events_with_nest c.args.page.now c.args.setting more events (returns-clause-broken c more events g)

pub returns-clause-broken_boundaries : goal.returns-clause-broken_boundaries
returns-clause-broken_boundaries c = λ more events g.
    page_events_with_at_boundaries c.args.page.now c.args.setting c.utf8.page more events (returns-clause-broken c more events g)

pub returns-clause-references : goal.returns-clause-references
returns-clause-references c = λ events g. page_references_fit c.args.page.now c.args.setting events (returns-clause-page c events g)

pub returns-clause-broken_references : goal.returns-clause-broken_references
returns-clause-broken_references c = λ more events g.
    page_references_with_fit c.args.page.now c.args.setting more events (returns-clause-broken c more events g)

pub returns-clause-cells : goal.returns-clause-cells
returns-clause-cells c = λ events g. page_cells_fit c.args.page.now c.args.setting events (returns-clause-page c events g)

pub returns-clause-broken_cells : goal.returns-clause-broken_cells
returns-clause-broken_cells c = λ more events g.
    page_cells_with_fit c.args.page.now c.args.setting more events (returns-clause-broken c more events g)

pub returns-clause-few : goal.returns-clause-few
returns-clause-few c = λ events g. page_events_fit c.args.page.now c.args.setting events (returns-clause-page c events g)

pub returns-clause-broken_few : goal.returns-clause-broken_few
returns-clause-broken_few c = λ more events g.
    page_events_with_fit c.args.page.now c.args.setting more events (returns-clause-broken c more events g)
