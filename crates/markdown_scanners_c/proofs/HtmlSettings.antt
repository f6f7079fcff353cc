-- Each setting that C callers ask for is safe.
use Rattle.std.proofs.Common.{◌≡◌, refl, [], inl, inr, false, ◌==◌, if◌then◌else◌}
use Rattle.std.proofs.lemmas.Bool.{cases_Bool}
use Rattle.markdown_html.specs.declared.setting.RawHtml.TheVariants.{Escaped, LeftOut}
use Rattle.markdown_html.specs.SafeSetting.{IsSafeSetting, default_schemes, is_kept, safe_setting}
use Rattle.markdown_scanners_c.specs.HtmlSettings.{allowed_schemes, omitted, setting_of}
use Rattle.markdown_scanners_c.specs.declared.html_settings.AskedHtml.{AskedHtml}

none_kept : (asked : AskedHtml) → is_kept (if asked.raw_html == omitted then LeftOut else Escaped) ≡ false
none_kept asked =
    elim (cases_Bool (asked.raw_html == omitted)) [
      | inl is ↦ rw is refl
      | inr other ↦ rw other refl
    ]

pub asked_is_safe : (asked : AskedHtml) → IsSafeSetting (allowed_schemes asked.schemes.now) (setting_of asked)
asked_is_safe asked = record { raw = none_kept asked; addresses = λ address allowed. allowed }

-- All 0, and no schemes, is what safe HTML is written with where nothing is asked for.
pub nothing_asked_for : (asked : AskedHtml) → asked.schemes.now ≡ [] → asked.raw_html ≡ 0 → asked.images_as_links ≡ 0 → asked.rel ≡ 0
    → setting_of asked ≡ safe_setting default_schemes
nothing_asked_for asked none raw images rel = rw (none, raw, images, rel) refl
