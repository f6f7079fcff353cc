-- The key of an ASCII label is the label in lower case.
use Rattle.std.proofs.Common.{sym, subst, inr}
use Rattle.std.proofs.lemmas.Str.{IsUtf8-from_ascii}
use Rattle.markdown_scanners_c.specs.Buffer.{IsWritten}
use Rattle.markdown_scanners_c.proofs.KeyLemmas.{ascii_key}
use Rattle.markdown_scanners_c.proofs.keys.mds_label_key.Goals as goal

pub returns-then-is_ascii-clause-key : goal.returns-then-is_ascii-clause-key
returns-then-is_ascii-clause-key c =
    let w = c.write_lowercase in
    let ascii = rw c.if-is_ascii.true at c.is_ascii.ensures.cases in
    inr (
      IsUtf8-from_ascii c.args.text.now ascii,
      inr (
        w.ensures.taken,
        subst (λ t. IsWritten t c.args.buffer.now w.new.buffer w.result.status w.result.length)
            (sym (ascii_key c.args.text.now ascii)) w.ensures.written,
      ),
    )
