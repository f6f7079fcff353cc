use Rattle.std.proofs.Common.{◌≡◌, ◌∙◌, ap, subst, codes}
use Rattle.std.specs.Result.{OnOk}
use Rattle.markdown_html.specs.Escapes.{escaped}
use Rattle.markdown_html.specs.States.{HtmlState, written}
use Rattle.markdown_html.proofs.LineLemmas.{three_on_line}
use Rattle.markdown_html.proofs.writer.HtmlWriter.start_named.Goals as goal

pub returns : goal.returns
returns c =
    subst (λ (s : HtmlState). OnOk c.write.result (c.write.new.self ≡ s))
    (ap (written (codes "\">")) (c.in_ok-write_escaped.ensures ∙ ap (written (escaped c.args.name.now)) c.in_ok-write_on_line.ensures)
    ∙ three_on_line (codes "<pre><code class=\"language-") (escaped c.args.name.now) (codes "\">") c.args.self.now)
    c.write.ensures
