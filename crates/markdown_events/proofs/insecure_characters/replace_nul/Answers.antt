use Rattle.std.proofs.Common.{◌∙◌, subst}
use Rattle.std.proofs.lemmas.Result.{IfOk-weaker}
use Rattle.memchr.specs.Find.{IsFirstByte, is_byte}
use Rattle.markdown_events.proofs.InsecureCharacters.{stays_without, replaced}
use Rattle.markdown_events.proofs.insecure_characters.replace_nul.Goals as goal

pub returns-then-is_none : goal.returns-then-is_none
returns-then-is_none c =
    stays_without c.args.text.now c.memchr.result
    (subst (λ t. IsFirstByte (is_byte 0) t c.memchr.result) c.as_bytes.ensures.value c.memchr.ensures) c.if-is_none.ensures

pub returns : goal.returns
returns c =
    IfOk-weaker c.from_string.result _ _ (λ read is. is ∙ replaced c.in_ok-replace.ensures.ok.0 c.args.text.now _ c.in_ok-replace.ensures.ok.1)
    c.from_string.ensures.text
