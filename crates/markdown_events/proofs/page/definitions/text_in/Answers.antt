use Rattle.std.proofs.lemmas.Str.{IsUtf8-from_ascii}
use Rattle.markdown_events.proofs.page.definitions.text_in.Goals as goal

pub text_of-requires : goal.text_of-requires
text_of-requires c = IsUtf8-from_ascii c.args.bytes.now c.if-is_ascii.ensures.cases
