use Rattle.std.proofs.Common.{rules, string_bytes}
use Rattle.markdown_html.specs.Settings.{seen_setting}
use Rattle.markdown_html.proofs.PushLemmas.{appends_few, on_ok}
use Rattle.markdown_html.proofs.push.push_html_with.Goals as goal

pub returns-clause-html : goal.returns-clause-html
returns-clause-html g c = search rules

pub returns-clause-few : goal.returns-clause-few
returns-clause-few g c =
    on_ok c.push_str.result
    (appends_few g.I.Iterator.next_gives c.args.events (seen_setting g.A.AllowedAddresses.allows c.args.setting.now) (string_bytes c.args.html.now)
    (string_bytes c.push_str.new.self))
    (returns-clause-html g c)
