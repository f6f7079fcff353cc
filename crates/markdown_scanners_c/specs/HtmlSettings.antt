-- What C callers ask of the HTML of a page: the fields of `struct mds_html_setting`.
use Rattle.std.specs.Prelude.{ℕ, Bool, List, [], ◌≡◌, ◌∷◌, ◌==◌, ◌&&◌, ◌||◌, IsTrue, map, if◌then◌else◌}
use Rattle.std.specs.List.{list_all}
use Rattle.markdown_html.specs.declared.setting.RawHtml.TheVariants.{Escaped, LeftOut}
use Rattle.markdown_html.specs.Addresses.{is_allowed_address}
use Rattle.markdown_html.specs.SafeSetting.{default_schemes}
use Rattle.markdown_html.specs.Settings.{Setting}
use Rattle.markdown_scanners_c.specs.declared.html_settings.AskedHtml.{AskedHtml}
use Rattle.markdown_scanners_c.specs.declared.known_labels.View.{View}

-- what is written of raw HTML, the numbers of `enum mds_raw_html`: its text, or nothing
abbrev pub escaped : ℕ
escaped = 0

abbrev pub omitted : ℕ
omitted = 1

-- what links say, the numbers of `enum mds_rel`: `rel="nofollow noopener"`, or nothing
abbrev pub nofollow : ℕ
nofollow = 0

abbrev pub no_rel : ℕ
no_rel = 1

-- Each number is one of these, and those that have no meaning yet are 0.
abbrev pub is_known : AskedHtml → Bool
is_known asked =
    (asked.raw_html == escaped || asked.raw_html == omitted) && (asked.rel == nofollow || asked.rel == no_rel)
    && (asked.images_as_links == 0 || asked.images_as_links == 1) && (asked.strict == 0 || asked.strict == 1)
    && list_all (λ number. number == 0) asked.reserved

abbrev pub IsKnown : AskedHtml → Type 0
IsKnown asked = IsTrue (is_known asked)

-- A page that is not UTF-8 is refused.
abbrev pub IsStrict : AskedHtml → Type 0
IsStrict asked = asked.strict ≡ 1

-- the schemes that addresses may have: those of the caller, or the usual ones where there are none
abbrev pub allowed_schemes : List View → List (List ℕ)
allowed_schemes [] = default_schemes
allowed_schemes (first ∷ later) = map (λ (scheme : View). scheme.text.now) (first ∷ later)

-- what HTML is then written with
abbrev pub setting_of : AskedHtml → Setting
setting_of asked = record {
  raw = if asked.raw_html == omitted then LeftOut else Escaped;
  allows = is_allowed_address (allowed_schemes asked.schemes.now);
  images_as_links = asked.images_as_links == 1;
  rel = asked.rel == nofollow;
}
