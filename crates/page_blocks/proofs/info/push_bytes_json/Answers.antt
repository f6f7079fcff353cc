use Rattle.std.proofs.Common.{sym, ◌∙◌}
use Rattle.page_blocks.proofs.info.push_bytes_json.Goals as goal

pub returns : goal.returns
returns c = rw (sym c.is_text.ensures ∙ c.if-is_text.false) c.push_digits.ensures
