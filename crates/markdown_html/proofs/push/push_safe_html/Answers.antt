use Rattle.std.proofs.Common.{map, string_bytes}
use Rattle.markdown_html.proofs.PushLemmas.{appends_safe, on_ok}
use Rattle.markdown_html.proofs.push.push_safe_html.Goals as goal

pub returns-clause-html : goal.returns-clause-html
returns-clause-html g c =
    on_ok c.push_html_with.result
    (appends_safe g.I.Iterator.next_gives c.args.events _ (map (λ scheme. scheme.now) c.args.schemes.now) (string_bytes c.args.html.now)
    (string_bytes c.push_html_with.new.html) c.safe_setting.ensures.setting c.safe_setting.ensures.safe)
    c.push_html_with.ensures.html
