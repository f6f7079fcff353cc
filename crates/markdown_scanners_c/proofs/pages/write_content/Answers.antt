use Rattle.std.proofs.Common.{inr}
use Rattle.markdown_scanners_c.proofs.pages.write_content.Goals as goal

pub returns-in-Ok-content_of : goal.returns-in-Ok-content_of
returns-in-Ok-content_of c = inr (
  c.in-Ok-content_of.content,
  rw (c.deref.ensures.value, c.in-Ok.ensures) at c.in-Ok-content_of.ensures.content,
  c.write_text.ensures.taken,
  rw c.text.ensures at c.write_text.ensures.written,
)
