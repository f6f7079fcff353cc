use Rattle.std.proofs.Common.{◌≡◌, ◌∙◌, ◌++◌, ◌∷◌, [], Ok, Err, IfOk, IsOk, Result, List, ap, false, true, map, rules, sym}
use Rattle.std.proofs.lemmas.List.{map-append}
use Rattle.markdown_values.specs.strings.Text.{cow_text}
use Rattle.markdown_values.specs.values.Events.{event_view}
use Rattle.markdown_values.specs.declared.values.events.Event.{Event}
use Rattle.markdown_html.specs.Html.{after_event, after_events}
use Rattle.markdown_html.specs.Settings.{Setting, seen_setting}
use Rattle.markdown_html.specs.States.{HtmlState, nothing_written}
use Rattle.markdown_html.proofs.EventLemmas.{after_one_more}
use Rattle.markdown_html.proofs.push.html_of_items.Goals as goal

-- one more item, which is an event
one_more : {E : Type 0} (setting : Setting) (items : List (Result Event E)) (item : Result Event E) (before after : HtmlState)
    → ((given : List Event) × (items ≡ map Ok given) × (before ≡ after_events setting (map (event_view cow_text) given) nothing_written))
    → IsOk item → IfOk item (λ event. after ≡ after_event setting (event_view cow_text event) before)
    → ((given : List Event) × (items ++ item ∷ [] ≡ map Ok given) × (after ≡ after_events setting (map (event_view cow_text) given) nothing_written))
one_more setting items (Ok event) before after (given, are_given, is) ok html = (
  given ++ event ∷ [],
  ap (λ it. it ++ Ok event ∷ []) are_given ∙ sym (map-append Ok given (event ∷ [])),
  html ∙ ap (after_event setting (event_view cow_text event)) is ∙ sym (after_one_more setting given event nothing_written),
)
one_more setting items (Err refused) before after known ok html = let no : false ≡ true = ok in cc

pub loop-item-preserved : goal.loop-item-preserved
loop-item-preserved g c =
    let setting : Setting = seen_setting g.A.AllowedAddresses.allows c.args.setting.now in (
      search rules,
      search rules,
      one_more setting _ c.in-Some.item _ _ c.loop-item.invariant.2 c.in_ok-push_item.ensures.given c.in_ok-push_item.ensures.html,
    )
