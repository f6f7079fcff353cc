-- The HTML of nested events is read as what they hold, whatever the setting is.
use Rattle.std.proofs.Common.{ℕ, ◌≡◌, true, List, Result, Ok, Err, IfOk, refl, subst, sym, inl, inr}
use Rattle.std.proofs.lemmas.Bool.{cases_Bool}
use Rattle.markdown_values.specs.values.Events.{EventView}
use Rattle.markdown_html.specs.Content.{content}
use Rattle.markdown_html.specs.Html.{html_of}
use Rattle.markdown_html.specs.Inlines.{address}
use Rattle.markdown_events.specs.Nesting.{AreNested}
use Rattle.markdown_html.specs.ReadHtml.{Reads}
use Rattle.markdown_html.specs.SafeHtml.{is_text}
use Rattle.markdown_html.specs.Settings.{Setting}
use Rattle.markdown_html.proofs.ReadEvents.{html_read}
use Rattle.markdown_html.proofs.SafeAddresses.{address_is_text}

textual_address : (setting : Setting) (to : List ℕ) → is_text (address setting to) ≡ true
textual_address setting to = elim (cases_Bool (setting.allows to)) [
  | inl allowed ↦ rw allowed (address_is_text to)
  | inr other ↦ rw other refl
]

pub html_reads : (setting : Setting) (events : List (EventView (List ℕ))) → AreNested events
    → Reads (html_of setting events) (content setting events)
html_reads setting events nested = html_read is_text setting (textual_address setting) events nested

-- the same of what a call answers
pub if_read : {A E : Type 0} (bytes : A → List ℕ) (setting : Setting) (events : List (EventView (List ℕ))) (r : Result A E)
    → IfOk r (λ html. bytes html ≡ html_of setting events)
    → IfOk r (λ html. AreNested events → Reads (bytes html) (content setting events))
if_read bytes setting events (Ok html) is = λ nested.
    subst (λ it. Reads it (content setting events)) (sym is) (html_reads setting events nested)
if_read bytes setting events (Err refused) is = is
