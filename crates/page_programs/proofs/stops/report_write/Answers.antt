use Rattle.program_faults.specs.Steps.{no_part, part}
use Rattle.page_programs.proofs.StopLemmas.{not_left}
use Rattle.page_programs.proofs.stops.report_write.Goals as goal

pub returns-in-NotRead : goal.returns-in-NotRead
returns-in-NotRead g c = rw c.in-NotRead.is (no_part _)

pub returns-in_default : goal.returns-in_default
returns-in_default g c =
    rw (not_left c.args.reason c.in_default.not-NotRead, ← c.line.ensures)
    (part _ _ _ _ _ c.complain.ensures.given (part _ _ _ _ _ c.complain-in_default.ensures.given
    (part _ _ _ _ _ c.complain-in_default-2.ensures.given (no_part _))))
