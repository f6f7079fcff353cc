use Rattle.std.proofs.Common.{◌∙◌, string_bytes}
use Rattle.std.proofs.lemmas.Result.{IfOk-weaker}
use Rattle.markdown_html.specs.Settings.{seen_setting}
use Rattle.markdown_html.proofs.SafePages.{page_html_is_safe}
use Rattle.markdown_html.proofs.WholePages.{html_of_whole, page_html_few, page_html_read}
use Rattle.markdown_html.proofs.page.html_of_page_with.Goals as goal

pub returns-clause-html : goal.returns-clause-html
returns-clause-html g c =
    IfOk-weaker c.html_of_reader.result _ _ (λ html is.
    html_of_whole c.args.page.now c.as_str.result.now c.args.asked c.in_ok-reader.reader (seen_setting g.A.AllowedAddresses.allows c.args.setting.now)
    (string_bytes html) (c.as_str.ensures ∙ c.in_ok-text.ensures) c.in_ok-reader.ensures.page is)
    c.html_of_reader.ensures

pub returns-clause-safe : goal.returns-clause-safe
returns-clause-safe g c =
    IfOk-weaker c.html_of_reader.result _ _
    (λ html is. page_html_is_safe c.args.page.now c.args.asked (seen_setting g.A.AllowedAddresses.allows c.args.setting.now) (string_bytes html) is)
    (returns-clause-html g c)

pub returns-clause-reads : goal.returns-clause-reads
returns-clause-reads g c =
    IfOk-weaker c.html_of_reader.result _ _
    (λ html is. page_html_read c.args.page.now c.args.asked (seen_setting g.A.AllowedAddresses.allows c.args.setting.now) (string_bytes html) is)
    (returns-clause-html g c)

pub returns-clause-few : goal.returns-clause-few
returns-clause-few g c =
    IfOk-weaker c.html_of_reader.result _ _
    (λ html is. page_html_few c.args.page.now c.args.asked (seen_setting g.A.AllowedAddresses.allows c.args.setting.now) (string_bytes html) is)
    (returns-clause-html g c)
