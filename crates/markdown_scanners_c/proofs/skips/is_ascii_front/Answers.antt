-- What `is_ascii` answers is the test of each byte.
use Rattle.std.proofs.Common.{length, take}
use Rattle.std.proofs.lemmas.Bool.{le-leb}
use Rattle.markdown_scanners_c.proofs.LabelLemmas.{ascii_test}
use Rattle.markdown_scanners_c.proofs.skips.is_ascii_front.Goals as goal

pub returns-then-count-rest : goal.returns-then-count-rest
returns-then-count-rest c =
    let test = ascii_test (take c.args.count c.args.rest.now) c.is_ascii.result c.is_ascii.ensures.cases in
    rw (le-leb c.args.count (length c.args.rest.now) c.if-count-rest.true) test
