use Rattle.std.proofs.Common.{◌≡◌, ◌∙◌, ap, subst, codes}
use Rattle.std.specs.Fmt.{decimal}
use Rattle.std.specs.Result.{OnOk}
use Rattle.markdown_html.specs.States.{HtmlState, written}
use Rattle.markdown_html.proofs.LineLemmas.{not_one, three_on_line}
use Rattle.markdown_html.proofs.writer.HtmlWriter.start_numbered.Goals as goal

pub returns : goal.returns
returns c =
    rw (not_one c.args.first c.if-first-eq1.false)
    (subst (λ (s : HtmlState). OnOk c.write.result (c.write.new.self ≡ s))
    (ap (written (codes "\">\n")) (c.in_ok-write_number.ensures ∙ ap (written (decimal c.args.first)) c.in_ok-write_on_line.ensures)
    ∙ three_on_line (codes "<ol start=\"") (decimal c.args.first) (codes "\">\n") c.args.self.now)
    c.write.ensures)
