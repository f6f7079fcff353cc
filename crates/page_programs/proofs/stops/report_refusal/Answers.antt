use Rattle.program_faults.specs.Steps.{no_part, part}
use Rattle.page_programs.proofs.stops.report_refusal.Goals as goal

pub returns-in-Stands : goal.returns-in-Stands
returns-in-Stands g c =
    rw (c.in-Stands.is, ← c.line.ensures) (part _ _ _ _ _ c.complain.ensures.given (part _ _ _ _ _ c.complain-in-Stands.ensures.given (no_part _)))

pub returns-in-HasChanged : goal.returns-in-HasChanged
returns-in-HasChanged g c = rw c.in-HasChanged.is (part _ _ _ _ _ c.complain-in-HasChanged.ensures.given (no_part _))

pub returns-in-IsCopied : goal.returns-in-IsCopied
returns-in-IsCopied g c =
    rw (c.in-IsCopied.is, ← c.line-in-IsCopied.ensures) (part _ _ _ _ _ c.complain-in-IsCopied.ensures.given
    (part _ _ _ _ _ c.complain-in-IsCopied-2.ensures.given (no_part _)))
