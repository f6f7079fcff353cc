-- Where memory is asked for.
use Rattle.std.proofs.Common.{inl, inr, arith, rules}
use Rattle.markdown_scanners_c.specs.Tables.{AsksMemory}
use Rattle.markdown_scanners_c.proofs.tables.numbered_columns.Goals as goal

pub returns-in_err-length-clause-asked : goal.returns-in_err-length-clause-asked
returns-in_err-length-clause-asked c =
    let asks : AsksMemory c.args.bytes.now = inr c.in_err-length.ensures.asked in search (rules, asks)

pub returns-in_err-numbers-clause-asked : goal.returns-in_err-numbers-clause-asked
returns-in_err-numbers-clause-asked c =
    let row = c.in_ok-length.ensures.found (omega arith) in
    let asks : AsksMemory c.args.bytes.now = inl (λ none. none _ _ row) in search (rules, asks)
