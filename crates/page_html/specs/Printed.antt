-- What the program prints of a page.
use Rattle.std.specs.Prelude.{ℕ, Bool, true, false, not, ◌&&◌, ◌≡◌, List, [], ◌++◌, Option}
use Rattle.markdown_html.specs.PageHtml.{IsHtmlOf}
use Rattle.markdown_html.specs.SafeHtml.{IsSafeHtml}
use Rattle.markdown_html.specs.SafeSetting.{default_schemes, safe_setting}
use Rattle.markdown_html.specs.Settings.{Setting, plain_setting}
use Rattle.program_faults.specs.Faults.{AppendsPrefix}
use Rattle.page_events.specs.declared.page.EventForm.TheVariants as EventForms
use Rattle.page_events.specs.Printed.{AreEventLines}
use Rattle.page_html.specs.Asked.{is_html}
use Rattle.page_html.specs.declared.asked.Asked.{Asked}
use Rattle.page_html.specs.declared.asked.Form.{Form}
use Rattle.page_html.specs.declared.asked.Form.TheVariants.{Html, Events, Json}

-- with what HTML is written, safe or as the examples of CommonMark have it
abbrev pub html_setting : Bool → Setting
html_setting true = safe_setting default_schemes
html_setting false = plain_setting

-- Whether a page that is not UTF-8 is read as text all the same: its HTML is printed, and it is not asked that such pages are refused.
abbrev pub mends : Asked → Bool
mends asked = is_html asked.form && not asked.strict

-- The text is what is printed of the page in this form.
abbrev pub IsPrintedAs : Form → Asked → List ℕ → List ℕ → Type 0
IsPrintedAs Html asked page text = IsHtmlOf page asked.setting (html_setting asked.safe) text
IsPrintedAs Events asked page text = AreEventLines EventForms.Words asked.setting page text
IsPrintedAs Json asked page text = AreEventLines EventForms.Json asked.setting page text

-- Safe HTML holds no script.
abbrev pub IsSafeUnlessAsked : Asked → List ℕ → Type 0
IsSafeUnlessAsked asked text = asked.form ≡ Html → asked.safe ≡ true → IsSafeHtml default_schemes text

-- The text is what is printed of the page in the form that is asked for, and safe unless other HTML is.
pub record IsPrinted (asked : Asked) (page text : List ℕ) : Type 0 where
  pub is_printed : IsPrintedAs asked.form asked page text
  pub is_safe : IsSafeUnlessAsked asked text

-- the safe HTML of pages, one after another
pub data AreSafePages : List ℕ → Type 0 where
  no_page : AreSafePages []
  page : (html later : List ℕ) → IsSafeHtml default_schemes html → AreSafePages later → AreSafePages (html ++ later)

-- Known bytes grow by such HTML, or by a part at its front.
abbrev pub PrintsSafely : Option (List ℕ) → Option (List ℕ) → Type 0
PrintsSafely old new = (html : List ℕ) × AreSafePages html × AppendsPrefix old new html
