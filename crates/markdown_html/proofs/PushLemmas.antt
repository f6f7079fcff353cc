-- HTML that is appended with the setting for text of strangers is safe; and how long what is appended is.
use Rattle.std.proofs.Common.{ℕ, ◌≡◌, ◌≤◌, ◌+◌, ◌*◌, ◌∙◌, List, Result, Ok, Err, OnOk, ap, arith, length, length-append, subst, sym}
use Rattle.markdown_html.specs.Html.{html_of}
use Rattle.markdown_html.specs.PushedHtml.{Steps, AppendsFew, AppendsHtml, AppendsSafeHtml}
use Rattle.markdown_html.specs.SafeHtml.{IsSafeHtml}
use Rattle.markdown_html.specs.SafeSetting.{IsSafeSetting, safe_setting}
use Rattle.markdown_html.specs.Settings.{Setting}
use Rattle.markdown_html.proofs.HtmlPrices.{html_fits_events}
use Rattle.markdown_html.proofs.SafeEvents.{html_is_safe}

pub on_ok : {A E P Q : Type 0} (r : Result A E) → (P → Q) → OnOk r P → OnOk r Q
on_ok (Ok x) f holds = f holds
on_ok (Err refused) f holds = holds

pub appends_safe : {I : Type 0} (steps : Steps I) (it : I) (setting : Setting) (schemes : List (List ℕ)) (old new : List ℕ)
    → setting ≡ safe_setting schemes → IsSafeSetting schemes setting → AppendsHtml steps it setting old new
    → AppendsSafeHtml steps it schemes old new
appends_safe steps it setting schemes old new same safe appended = record {
  html = appended.html;
  is_html = record {
    events = appended.is_html.events;
    are_given = appended.is_html.are_given;
    is_html = appended.is_html.is_html ∙ ap (λ other. html_of other appended.is_html.events) same;
  };
  is_safe = λ nested.
      subst (IsSafeHtml schemes) (sym appended.is_html.is_html) (html_is_safe schemes setting safe appended.is_html.events nested);
  is_appended = appended.is_appended;
}

-- and no more than its events have room for
pub appends_few : {I : Type 0} (steps : Steps I) (it : I) (setting : Setting) (old new : List ℕ) → AppendsHtml steps it setting old new
    → AppendsFew steps it old new
appends_few steps it setting old new appended =
    let is = appended.is_html in
    record {
      events = is.events;
      are_given = is.are_given;
      few = omega (
        arith,
        ap length appended.is_appended,
        length-append old appended.html,
        ap length is.is_html,
        html_fits_events setting is.events,
      );
    }
