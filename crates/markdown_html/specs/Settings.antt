-- What HTML is written with.
use Rattle.std.specs.Prelude.{ℕ, Bool, true, false, List}
use Rattle.markdown_html.specs.declared.setting.HtmlSetting.{HtmlSetting}
use Rattle.markdown_html.specs.declared.setting.RawHtml.{RawHtml}
use Rattle.markdown_html.specs.declared.setting.RawHtml.TheVariants.{Kept}

-- What is written of raw HTML; to which addresses links and images may lead; whether images are written as links to them; and whether
-- links say `rel="nofollow noopener"`.
pub record Setting : Type 0 where
  pub raw : RawHtml
  pub allows : List ℕ → Bool
  pub images_as_links : Bool
  pub rel : Bool

-- as the examples of CommonMark write it
abbrev pub plain_setting : Setting
plain_setting = record { raw = Kept; allows = λ _. true; images_as_links = false; rel = false }

-- what a setting of the code says, where this says which addresses it allows
abbrev pub seen_setting : {A : Type 0} → (A → List ℕ → Bool) → HtmlSetting A → Setting
seen_setting allows setting = record {
  raw = setting.raw;
  allows = allows setting.addresses;
  images_as_links = setting.images_as_links;
  rel = setting.rel;
}
