-- Why a call on a file, a reader or a writer fails, and how a program says so.
use Rattle.std.specs.Prelude.{ℕ, ℤ, pos, ◌==◌, if◌then◌else◌, List, ◌∷◌, [], ◌++◌, Option, Some, codes}
use Rattle.std.specs.IoError.{error_kind, raw_os_error}
use Rattle.std.specs.declared.io.Error.{Error}
use Rattle.std.specs.declared.io.ErrorKind.{ErrorKind}
use Rattle.std.specs.declared.io.ErrorKind.TheVariants as kind
use Rattle.program_faults.specs.declared.reasons.Reason.{Reason}
use Rattle.program_faults.specs.declared.reasons.Reason.TheVariants.{NotFound, Denied, Folder, NotFolder, Links, LongName, TooManyFiles}
use Rattle.program_faults.specs.declared.reasons.Reason.TheVariants.{Interrupted, Waits, Full, Quota, TooLarge, ReadOnly}
use Rattle.program_faults.specs.declared.reasons.Reason.TheVariants.{Busy, Runs, Exists, OtherDevice, NotRead, Invalid, Memory, Other}

-- the reason of an error of this kind
abbrev pub reason_of : ErrorKind → Reason
reason_of kind.NotFound = NotFound
reason_of kind.PermissionDenied = Denied
reason_of kind.IsADirectory = Folder
reason_of kind.NotADirectory = NotFolder
reason_of kind.FilesystemLoop = Links
reason_of kind.InvalidFilename = LongName
reason_of kind.Interrupted = Interrupted
reason_of kind.WouldBlock = Waits
reason_of kind.StorageFull = Full
reason_of kind.QuotaExceeded = Quota
reason_of kind.FileTooLarge = TooLarge
reason_of kind.ReadOnlyFilesystem = ReadOnly
reason_of kind.ResourceBusy = Busy
reason_of kind.ExecutableFileBusy = Runs
reason_of kind.AlreadyExists = Exists
reason_of kind.CrossesDevices = OtherDevice
reason_of kind.BrokenPipe = NotRead
reason_of kind.InvalidInput = Invalid
reason_of kind.OutOfMemory = Memory
reason_of _ = Other

-- the reason of an error with this number and this kind: 24 is `EMFILE` on Linux, which has no kind
abbrev pub numbered_reason : Option ℤ → ErrorKind → Reason
numbered_reason (Some (pos number)) kind = if number == 24 then TooManyFiles else reason_of kind
numbered_reason _ kind = reason_of kind

-- the reason of an error
abbrev pub error_reason : Error → Reason
error_reason error = numbered_reason (raw_os_error error) (error_kind error)

-- what is said of it after a name, in the words of POSIX
abbrev pub reason_text : Reason → List ℕ
reason_text NotFound = codes "No such file or directory"
reason_text Denied = codes "Permission denied"
reason_text Folder = codes "Is a directory"
reason_text NotFolder = codes "Not a directory"
reason_text Links = codes "Too many levels of symbolic links"
reason_text LongName = codes "File name too long"
reason_text TooManyFiles = codes "Too many open files"
reason_text Interrupted = codes "Interrupted system call"
reason_text Waits = codes "Resource temporarily unavailable"
reason_text Full = codes "No space left on device"
reason_text Quota = codes "Disk quota exceeded"
reason_text TooLarge = codes "File too large"
reason_text ReadOnly = codes "Read-only file system"
reason_text Busy = codes "Device or resource busy"
reason_text Runs = codes "Text file busy"
reason_text Exists = codes "File exists"
reason_text OtherDevice = codes "Invalid cross-device link"
reason_text NotRead = codes "Broken pipe"
reason_text Invalid = codes "Invalid argument"
reason_text Memory = codes "Cannot allocate memory"
reason_text Other = codes "Input/output error"

abbrev pub reason_line : Reason → List ℕ
reason_line reason = codes ": " ++ reason_text reason ++ 10 ∷ []
