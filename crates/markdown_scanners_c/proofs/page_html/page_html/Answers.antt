-- The HTML is a text, which is then the front of the buffer.
use Rattle.std.proofs.Common.{ℕ, List, ◌∙◌, ap, arith, length, subst, sym, IsUtf8}
use Rattle.markdown_html.specs.SafeSetting.{IsSafeWith}
use Rattle.markdown_html.specs.Settings.{seen_setting}
use Rattle.markdown_scanners_c.proofs.Meanings.{written_is, written_text}
use Rattle.markdown_scanners_c.proofs.PageTexts.{lossy_few}
use Rattle.markdown_scanners_c.proofs.page_html.page_html.Goals as goal

pub returns-in-Ok-clause-utf8 : goal.returns-in-Ok-clause-utf8
returns-in-Ok-clause-utf8 g c =
    let utf8 = subst IsUtf8 (sym c.as_bytes.ensures.value) c.as_str.utf8 in
    written_text _ _ _ _ _ utf8 c.write_text.ensures.written

pub returns-in-Ok-clause-safe : goal.returns-in-Ok-clause-safe
returns-in-Ok-clause-safe g c =
    let Safe : List ℕ → Type 0 = IsSafeWith (seen_setting g.A.AllowedAddresses.allows c.args.setting.now) in
    let safe = subst Safe (sym (c.as_bytes.ensures.value ∙ c.as_str.ensures.value)) c.in-Ok.ensures.safe in
    written_is Safe _ _ _ _ _ safe c.write_text.ensures.written

pub returns-in-Ok-clause-few : goal.returns-in-Ok-clause-few
returns-in-Ok-clause-few g c =
    omega (
      arith,
      c.write_text.ensures.written.0,
      ap length (c.as_bytes.ensures.value ∙ c.as_str.ensures.value),
      c.in-Ok.ensures.few,
      lossy_few c.args.page.now,
    )
