use Rattle.std.proofs.Common.{arith}
use Rattle.markdown_inlines.proofs.code_spans.CodeSpanLemmas.{none_found, found_string}
use Rattle.markdown_inlines.proofs.backticks.Backticks.next_string.Goals as goal

pub returns-in_default-clause-none : goal.returns-in_default-clause-none
returns-in_default-clause-none c =
    let apart = rw (← c.self.view_is) at c.requires.apart in
    rw (← c.self.view_is) (λ n to some. none_found c.self.inside.bytes.now c.args.from apart to c.in_default.ensures n some)

pub returns-clause-found : goal.returns-clause-found
returns-clause-found c =
    let apart = rw (← c.self.view_is) at c.requires.apart in
    let found = found_string c.self.inside.bytes.now c.args.from apart c.in-Some.offset c.scan_ch_repeat-run.result
    c.in-Some.ensures c.scan_ch_repeat-run.ensures.run in
    rw (← c.self.view_is) (omega arith, found.1, found.2)
