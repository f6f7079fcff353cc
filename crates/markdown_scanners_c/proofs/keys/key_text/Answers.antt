-- How long the key may be.
use Rattle.std.proofs.Common.{ap, ◌∙◌, length, arith}
use Rattle.markdown_scanners_c.proofs.KeyLemmas.{key_room}
use Rattle.markdown_scanners_c.proofs.keys.key_text.Goals as goal

pub returns-in-Ok-clause-room : goal.returns-in-Ok-clause-room
returns-in-Ok-clause-room c =
    let text = c.as_bytes.ensures.value ∙ c.in-Ok.ensures in
    omega (arith, c.write_text.ensures.written.0, ap length text, key_room c.args.text.now c.utf8.text)
