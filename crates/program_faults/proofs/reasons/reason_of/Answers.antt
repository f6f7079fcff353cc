use Rattle.program_faults.proofs.ReasonLemmas.{other_reason}
use Rattle.program_faults.proofs.reasons.reason_of.Goals as goal

pub returns-in_default : goal.returns-in_default
returns-in_default c =
    other_reason c.args.kind c.in_default.not-NotFound c.in_default.not-PermissionDenied c.in_default.not-BrokenPipe c.in_default.not-WouldBlock
    c.in_default.not-NotADirectory c.in_default.not-IsADirectory c.in_default.not-FilesystemLoop c.in_default.not-InvalidInput
    c.in_default.not-StorageFull c.in_default.not-InvalidFilename c.in_default.not-Interrupted c.in_default.not-OutOfMemory
    c.in_default.not-QuotaExceeded c.in_default.not-FileTooLarge c.in_default.not-ReadOnlyFilesystem c.in_default.not-ResourceBusy
    c.in_default.not-ExecutableFileBusy c.in_default.not-AlreadyExists c.in_default.not-CrossesDevices
