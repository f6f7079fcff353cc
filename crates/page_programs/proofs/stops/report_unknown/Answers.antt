use Rattle.program_faults.specs.Steps.{no_part, part}
use Rattle.page_programs.proofs.stops.report_unknown.Goals as goal

pub returns : goal.returns
returns g c =
    part _ _ _ _ _ c.complain.ensures.given (part _ _ _ _ _ c.complain-2.ensures.given
    (part _ _ _ _ _ c.complain-3.ensures.given (part _ _ _ _ _ c.complain-4.ensures.given (no_part _))))
