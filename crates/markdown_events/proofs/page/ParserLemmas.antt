-- The events that a parser gives are those of its page.
use mathlib.Core.Path.{fun_ext}
use Rattle.std.proofs.Common.{ℕ, List, [], ◌∷◌, ◌++◌, Option, Some, None, Result, Ok, Err, IfOk, IfErr, IfSome, IfNone, ◌≡◌, ◌∙◌, drop, refl, sym, ap, subst}
use Rattle.markdown_blocks.proofs.ForCallers.{events_of_nodes}
use Rattle.markdown_blocks.specs.declared.containers.Container.{Container}
use Rattle.markdown_blocks.specs.events.Events.{Event, IsEventsOf, LeafBlock, starts, leaf, ends}
use Rattle.markdown_blocks.specs.link_definitions.LinkDefinitions.{Known, Named, HasDefinitions, first_of, known_as}
use Rattle.markdown_blocks.specs.lists.Lists.{Nodes, flatten}
use Rattle.markdown_events.specs.InlineEvents.{RangedEvent}
use Rattle.markdown_events.specs.Targets.{Targets, nowhere, or_else}
use Rattle.markdown_events.specs.declared.page.spans.Span.{Span}
use Rattle.markdown_values.specs.declared.values.extensions.Extensions.{Extensions}
use Rattle.markdown_events.specs.page.Given.{AreEventsFrom, Gives, GivesWith, IsDone, PageLeft, leaf_left_with, left_with, setting_of, setting_with}
use Rattle.markdown_events.specs.page.OpenElements.{begun, end_events, ended, next_span, none_open, passed, place_in, start_events}
use Rattle.markdown_events.specs.page.PageEvents.{event_setting, ArePageEvents, ArePageEventsWith, AreNodeEvents, outermost}
use Rattle.markdown_events.specs.page.Settings.{built}
use Rattle.markdown_events.specs.page.Spans.{spans}
use Rattle.markdown_events.specs.page.References.{AreEventsInRoom, page_room}
use Rattle.markdown_events.proofs.page.TreeLemmas.{page_tree}

-- with no other labels
without_more : (targets : Targets) → or_else targets nowhere ≡ targets
without_more targets = fun_ext (λ label. elim (targets label) as (λ t. elim t [ Some target ↦ Some target | None ↦ None ] ≡ t)
    [ Some target ↦ refl | None ↦ refl ])

pub given_without : (left : PageLeft) (events : List RangedEvent) → GivesWith nowhere left events → Gives left events
given_without left events g = record {
  rest = g.rest;
  are_later = subst (λ targets. AreEventsFrom left.page (event_setting left.extensions targets) left.room left.elements left.blocks g.rest)
      (without_more (known_as left.known)) g.are_later;
  given = g.given;
}

pub given_with : (left : PageLeft) (events : List RangedEvent) → Gives left events → GivesWith nowhere left events
given_with left events g = record {
  rest = g.rest;
  are_later = subst (λ targets. AreEventsFrom left.page (event_setting left.extensions targets) left.room left.elements left.blocks g.rest)
      (sym (without_more (known_as left.known))) g.are_later;
  given = g.given;
}

-- the definitions that are known as the page's are its own
pub page_events_with : (page : List ℕ) (setting : Extensions) (more : Targets) (blocks : List Event) (known : Known) (found : List Span)
    (events : List RangedEvent) → IsEventsOf (built setting) page blocks
    → (named : List Named) → HasDefinitions (built setting) page named
    → ((label : List ℕ) → known_as known label ≡ first_of label named)
    → ((nodes : Nodes) → blocks ≡ flatten nodes → found ≡ spans nodes)
    → AreEventsFrom page (event_setting setting (or_else (known_as known) more)) (page_room page) (none_open found) blocks events
    → ArePageEventsWith page setting more events
page_events_with page setting more blocks known found events of_page named defined first are_spans given =
    let tree = events_of_nodes (built setting) page blocks of_page in
    let same : known_as known ≡ (λ label. first_of label named) = fun_ext first in
    let spanned = subst (λ all. AreEventsFrom page (event_setting setting (or_else (known_as known) more)) (page_room page) (none_open all) blocks events)
    (are_spans tree.0 tree.1) given in
    let flat = subst (λ all. AreEventsFrom page (event_setting setting (or_else (known_as known) more)) (page_room page) (none_open (spans tree.0)) all events)
    tree.1 spanned in
    record {
      nodes = tree.0;
      are_blocks = subst (λ all. IsEventsOf (built setting) page all) tree.1 of_page;
      named = named;
      are_defined = defined;
      are_events = subst (λ (targets : Targets). AreNodeEvents page (event_setting setting (or_else targets more)) (page_room page) outermost None None tree.0 events) same
          (page_tree page (event_setting setting (or_else (known_as known) more)) (page_room page) tree.0 events flat);
    }

-- without other labels they are those of the page
pub page_events : (page : List ℕ) (setting : Extensions) (events : List RangedEvent) → ArePageEventsWith page setting nowhere events
    → ArePageEvents page setting events
page_events page setting events are = record {
  nodes = are.nodes;
  are_blocks = are.are_blocks;
  named = are.named;
  are_defined = are.are_defined;
  are_events = subst (λ targets. AreNodeEvents page (event_setting setting targets) (page_room page) outermost None None are.nodes events)
      (without_more (λ label. first_of label are.named)) are.are_events;
}

-- ---- one block event

pub given_start : (more : Targets) (old : PageLeft) (container : Container) (offset : ℕ) (blocks : List Event) (events : List RangedEvent)
    → old.ready ≡ [] → old.blocks ≡ starts container offset ∷ blocks
    → GivesWith more (left_with old (start_events container offset (next_span old.elements.spans) old.elements.elements) (begun container offset
    old.elements) blocks) events
    → GivesWith more old events
given_start more old container offset blocks events none next g = record {
  rest = events;
  are_later = subst (λ all. AreEventsFrom old.page (setting_with more old) old.room old.elements all events) (sym next) (g.rest, g.are_later, g.given);
  given = ap (λ ready. ready ++ events) (sym none);
}

pub given_leaf : (more : Targets) (old : PageLeft) (block : LeafBlock) (here : List RangedEvent) (blocks : List Event) (events : List RangedEvent)
    → old.ready ≡ [] → old.blocks ≡ leaf block ∷ blocks → AreEventsInRoom old.page (setting_with more old) old.room (place_in old.elements) old.elements.waiting block here
    → GivesWith more (leaf_left_with old here (passed block old.elements) blocks) events → GivesWith more old events
given_leaf more old block here blocks events none next leaf_is g = record {
  rest = events;
  are_later = subst (λ all. AreEventsFrom old.page (setting_with more old) old.room old.elements all events) (sym next) (here, g.rest, leaf_is, g.are_later, g.given);
  given = ap (λ ready. ready ++ events) (sym none);
}

pub given_end : (more : Targets) (old : PageLeft) (blocks : List Event) (events : List RangedEvent) → old.ready ≡ [] → old.blocks ≡ ends ∷ blocks
    → GivesWith more (left_with old (end_events old.elements.elements) (ended old.elements) blocks) events → GivesWith more old events
given_end more old blocks events none next g = record {
  rest = events;
  are_later = subst (λ all. AreEventsFrom old.page (setting_with more old) old.room old.elements all events) (sym next) (g.rest, g.are_later, g.given);
  given = ap (λ ready. ready ++ events) (sym none);
}

-- ---- what is known of an answer in each of its cases

pub in_some : {X E : Type 0} (r : Result (Option X) E) (P Q : X → Type 0) → ((x : X) → P x → Q x) → IfOk r (λ found. IfSome found P)
    → IfOk r (λ found. IfSome found Q)
in_some (Ok (Some x)) P Q f h = f x h
in_some (Ok None) P Q f h = h
in_some (Err e) P Q f h = h

pub in_none : {X E P Q : Type 0} (r : Result (Option X) E) → (P → Q) → IfOk r (λ found. IfNone found P) → IfOk r (λ found. IfNone found Q)
in_none (Ok (Some x)) f h = h
in_none (Ok None) f h = f h
in_none (Err e) f h = h

pub in_err : {X E : Type 0} (r : Result X E) (P Q : E → Type 0) → ((e : E) → P e → Q e) → IfErr r P → IfErr r Q
in_err (Ok x) P Q f h = h
in_err (Err e) P Q f h = f e h

-- the event that is ready, and what is given after it
pub given_first : (left : PageLeft) (event : RangedEvent) (events : List RangedEvent) → left.ready ≡ event ∷ drop 1 left.ready
    → Gives (record left { ready = drop 1 left.ready }) events → Gives left (event ∷ events)
given_first left event events first g = record {
  rest = g.rest;
  are_later = g.are_later;
  given = ap (λ (es : List RangedEvent). event ∷ es) g.given ∙ ap (λ (es : List RangedEvent). es ++ g.rest) (sym first);
}

-- nothing, where no event is left
pub given_none : (left : PageLeft) → IsDone left → Gives left []
given_none left done = record {
  rest = [];
  are_later = subst (λ (blocks : List Event). AreEventsFrom left.page (setting_of left) left.room left.elements blocks []) (sym done.no_blocks) refl;
  given = ap (λ (es : List RangedEvent). es ++ []) (sym done.none_ready);
}
