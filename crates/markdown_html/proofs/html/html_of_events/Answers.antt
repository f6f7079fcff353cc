use Rattle.std.proofs.Common.{map, string_bytes}
use Rattle.markdown_values.specs.strings.Text.{cow_text}
use Rattle.markdown_values.specs.values.Events.{event_view}
use Rattle.markdown_html.specs.Settings.{seen_setting}
use Rattle.markdown_html.proofs.HtmlPrices.{if_few}
use Rattle.markdown_html.proofs.HtmlReads.{if_read}
use Rattle.markdown_html.proofs.html.html_of_events.Goals as goal

pub returns-clause-reads : goal.returns-clause-reads
returns-clause-reads g c =
    if_read string_bytes (seen_setting g.A.AllowedAddresses.allows c.args.setting.now) (map (event_view cow_text) c.args.events.items)
    c.html_of_list.result c.html_of_list.ensures

pub returns-clause-few : goal.returns-clause-few
returns-clause-few g c =
    if_few string_bytes (seen_setting g.A.AllowedAddresses.allows c.args.setting.now) (map (event_view cow_text) c.args.events.items)
    c.html_of_list.result c.html_of_list.ensures
