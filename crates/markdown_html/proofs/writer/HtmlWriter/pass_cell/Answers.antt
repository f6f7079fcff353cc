use Rattle.std.proofs.Common.{refl}
use Rattle.std.proofs.lemmas.List.{drop-drop}
use Rattle.markdown_html.proofs.writer.HtmlWriter.pass_cell.Goals as goal

pub returns-then-self-len : goal.returns-then-self-len
returns-then-self-len c = rw (← c.self.view_is, drop-drop) refl
