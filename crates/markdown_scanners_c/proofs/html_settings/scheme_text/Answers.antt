-- Only a scheme that is UTF-8 is asked for.
use Rattle.std.proofs.lemmas.Str.{IsUtf8-from_is_utf8}
use Rattle.markdown_scanners_c.proofs.html_settings.scheme_text.Goals as goal

pub returns-in-Err : goal.returns-in-Err
returns-in-Err c = absurd (c.in-Err.ensures.cases.0 (IsUtf8-from_is_utf8 c.args.scheme.now.text.now c.requires))
