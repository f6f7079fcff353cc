use Rattle.std.proofs.Common.{arith}
use Rattle.program_faults.proofs.FaultLemmas.{nothing_printed, printed_first, before_writing}
use Rattle.cmark_scan.proofs.program.WriteFaults.{no_write_fault}
use Rattle.cmark_scan.proofs.program.run_program.Goals as goal

pub returns-in_default-clause-unwritten : goal.returns-in_default-clause-unwritten
returns-in_default-clause-unwritten g c = λ printed.
    let first = printed_first (g.V.Write.contents c.args.faults.now) _ 117 119 _ _ c.complain.ensures.prefix printed in
    absurd (omega (arith, first))

pub returns-in-Err-clause-unwritten : goal.returns-in-Err-clause-unwritten
returns-in-Err-clause-unwritten g c = λ printed.
    absurd (no_write_fault (g.V.Write.contents c.args.faults.now) (g.V.Write.contents c.report_fault.new.faults)
    c.in-Err.fault c.in-Err.ensures.fault c.report_fault.ensures.line printed)

pub returns-in-Ok-Done-clause-unread : goal.returns-in-Ok-Done-clause-unread
returns-in-Ok-Done-clause-unread g c = λ printed. absurd (nothing_printed (g.V.Write.contents c.args.faults.now) 114 _ printed)

pub returns-in-Ok-Done-clause-no_memory : goal.returns-in-Ok-Done-clause-no_memory
returns-in-Ok-Done-clause-no_memory g c = λ printed. absurd (nothing_printed (g.V.Write.contents c.args.faults.now) 111 _ printed)

pub returns-in-Ok-Stopped-clause-unread : goal.returns-in-Ok-Stopped-clause-unread
returns-in-Ok-Stopped-clause-unread g c = λ printed. absurd (nothing_printed (g.V.Write.contents c.args.faults.now) 114 _ printed)

pub returns-in-Ok-Stopped-clause-no_memory : goal.returns-in-Ok-Stopped-clause-no_memory
returns-in-Ok-Stopped-clause-no_memory g c = λ printed. absurd (nothing_printed (g.V.Write.contents c.args.faults.now) 111 _ printed)

pub returns-in-Ok-NotText-clause-unread : goal.returns-in-Ok-NotText-clause-unread
returns-in-Ok-NotText-clause-unread g c = λ printed.
    let first = printed_first (g.V.Write.contents c.args.faults.now) _ 110 114 _ _ c.complain-in-Ok-NotText.ensures.prefix printed in
    absurd (omega (arith, first))

pub returns-in-Ok-NotText-clause-no_memory : goal.returns-in-Ok-NotText-clause-no_memory
returns-in-Ok-NotText-clause-no_memory g c = λ printed.
    let first = printed_first (g.V.Write.contents c.args.faults.now) _ 110 111 _ _ c.complain-in-Ok-NotText.ensures.prefix printed in
    absurd (omega (arith, first))

pub returns-clause-unread : goal.returns-clause-unread
returns-clause-unread g c = λ printed. c.in-Err-answer.ensures.unwritten
    (before_writing (g.V.Write.contents c.args.faults.now)
    (g.V.Write.contents c.report_fault-in-Err-answer.new.faults) c.in-Err-answer.fault 114 _
    (omega arith) c.report_fault-in-Err-answer.ensures.line printed)

pub returns-clause-no_memory : goal.returns-clause-no_memory
returns-clause-no_memory g c = λ printed. c.in-Err-answer.ensures.unwritten
    (before_writing (g.V.Write.contents c.args.faults.now)
    (g.V.Write.contents c.report_fault-in-Err-answer.new.faults) c.in-Err-answer.fault 111 _
    (omega arith) c.report_fault-in-Err-answer.ensures.line printed)
