-- Settings by which HTML is safe.
use Rattle.std.specs.Prelude.{ℕ, Bool, true, false, ◌≡◌, List, [], ◌∷◌, codes}
use Rattle.markdown_html.specs.declared.setting.RawHtml.{RawHtml}
use Rattle.markdown_html.specs.declared.setting.RawHtml.TheVariants.{Escaped, Kept}
use Rattle.markdown_html.specs.Addresses.{is_allowed_address}
use Rattle.markdown_html.specs.SafeHtml.{IsSafeHtml}
use Rattle.markdown_html.specs.Settings.{Setting}

abbrev pub is_kept : RawHtml → Bool
is_kept Kept = true
is_kept raw = false

-- Raw HTML is not kept, and no address of another scheme is allowed.
pub record IsSafeSetting (schemes : List (List ℕ)) (setting : Setting) : Type 0 where
  pub raw : is_kept setting.raw ≡ false
  pub addresses : (address : List ℕ) → setting.allows address ≡ true → is_allowed_address schemes address ≡ true

-- HTML is safe by each list of schemes by which the setting is that it was written with.
abbrev pub IsSafeWith : Setting → List ℕ → Type 0
IsSafeWith setting html = (schemes : List (List ℕ)) → IsSafeSetting schemes setting → IsSafeHtml schemes html

-- schemes that pages for comments may allow, and that are allowed where a caller names none
abbrev pub default_schemes : List (List ℕ)
default_schemes = codes "http" ∷ codes "https" ∷ codes "mailto" ∷ codes "tel" ∷ []

-- Raw HTML is written as text, and addresses of other schemes are left out. Links say `rel="nofollow noopener"`.
abbrev pub safe_setting : List (List ℕ) → Setting
safe_setting schemes = record { raw = Escaped; allows = is_allowed_address schemes; images_as_links = false; rel = true }
