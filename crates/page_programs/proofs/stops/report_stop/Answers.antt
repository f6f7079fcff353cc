use Rattle.program_faults.specs.Steps.{no_part, part}
use Rattle.page_programs.proofs.stops.report_stop.Goals as goal

pub returns-in-Read : goal.returns-in-Read
returns-in-Read g c =
    rw (c.in-Read.is, ← c.line.ensures) (part _ _ _ _ _ c.complain.ensures.given
    (part _ _ _ _ _ c.complain-in-Read.ensures.given (part _ _ _ _ _ c.complain-in-Read-2.ensures.given
    (part _ _ _ _ _ c.complain-in-Read-3.ensures.given (no_part _)))))

pub returns-in-Memory : goal.returns-in-Memory
returns-in-Memory g c =
    rw c.in-Memory.is (part _ _ _ _ _ c.complain-in-Memory.ensures.given (part _ _ _ _ _ c.complain-in-Memory-2.ensures.given (no_part _)))

pub returns-in-NotText : goal.returns-in-NotText
returns-in-NotText g c =
    rw (c.in-NotText.is, ← c.format.ensures.text)
    (part _ _ _ _ _ c.complain-in-NotText.ensures.given (part _ _ _ _ _ c.complain-in-NotText-2.ensures.given
    (part _ _ _ _ _ c.complain-in-NotText-3.ensures.given (part _ _ _ _ _ c.complain-in-NotText-4.ensures.given
    (part _ _ _ _ _ c.complain-in-NotText-5.ensures.given (part _ _ _ _ _ c.complain-in-NotText-6.ensures.given (no_part _)))))))

pub returns-in-NotReplaced : goal.returns-in-NotReplaced
returns-in-NotReplaced g c =
    rw c.in-NotReplaced.is
    (part _ _ _ _ _ c.complain-in-NotReplaced.ensures.given (part _ _ _ _ _ c.complain-in-NotReplaced-2.ensures.given c.report_refusal.ensures))
