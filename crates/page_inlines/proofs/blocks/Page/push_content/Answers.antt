use Rattle.std.proofs.Common.{string_bytes, subst}
use Rattle.std.specs.Str.{IsUtf8}
use Rattle.page_inlines.specs.Labels.{setting_of}
use Rattle.page_inlines.proofs.TextLemmas.{none_printed}
use Rattle.page_inlines.proofs.blocks.Page.push_content.Goals as goal

pub returns-in-Err : goal.returns-in-Err
returns-in-Err c =
    none_printed (setting_of c.args.self.now) c.args.start c.args.content.now (string_bytes c.args.out.now.text)
    (string_bytes c.push_str.new.self) c.push_str.result (subst (λ t. ¬ IsUtf8 t) c.text.ensures c.in-Err.ensures.cases.0) c.push_str.ensures.bytes
