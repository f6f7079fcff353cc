-- A kind that has no reason of its own has the last one.
use Rattle.std.proofs.Common.{◌≡◌, ◌≢◌, refl}
use Rattle.std.specs.declared.io.ErrorKind.{ErrorKind}
use Rattle.std.specs.declared.io.ErrorKind.TheVariants as kind
use Rattle.program_faults.specs.declared.reasons.Reason.TheVariants.{Other}
use Rattle.program_faults.specs.Reasons.{reason_of}

pub other_reason : (k : ErrorKind) → k ≢ kind.NotFound → k ≢ kind.PermissionDenied → k ≢ kind.BrokenPipe → k ≢ kind.WouldBlock
    → k ≢ kind.NotADirectory → k ≢ kind.IsADirectory → k ≢ kind.FilesystemLoop → k ≢ kind.InvalidInput → k ≢ kind.StorageFull
    → k ≢ kind.InvalidFilename → k ≢ kind.Interrupted → k ≢ kind.OutOfMemory
    → k ≢ kind.QuotaExceeded → k ≢ kind.FileTooLarge → k ≢ kind.ReadOnlyFilesystem → k ≢ kind.ResourceBusy
    → k ≢ kind.ExecutableFileBusy → k ≢ kind.AlreadyExists → k ≢ kind.CrossesDevices → Other ≡ reason_of k
other_reason kind.NotFound n0 n1 n2 n3 n4 n5 n6 n7 n8 n9 n10 n11 n12 n13 n14 n15 n16 n17 n18 = absurd (n0 refl)
other_reason kind.PermissionDenied n0 n1 n2 n3 n4 n5 n6 n7 n8 n9 n10 n11 n12 n13 n14 n15 n16 n17 n18 = absurd (n1 refl)
other_reason kind.ConnectionRefused n0 n1 n2 n3 n4 n5 n6 n7 n8 n9 n10 n11 n12 n13 n14 n15 n16 n17 n18 = refl
other_reason kind.ConnectionReset n0 n1 n2 n3 n4 n5 n6 n7 n8 n9 n10 n11 n12 n13 n14 n15 n16 n17 n18 = refl
other_reason kind.HostUnreachable n0 n1 n2 n3 n4 n5 n6 n7 n8 n9 n10 n11 n12 n13 n14 n15 n16 n17 n18 = refl
other_reason kind.NetworkUnreachable n0 n1 n2 n3 n4 n5 n6 n7 n8 n9 n10 n11 n12 n13 n14 n15 n16 n17 n18 = refl
other_reason kind.ConnectionAborted n0 n1 n2 n3 n4 n5 n6 n7 n8 n9 n10 n11 n12 n13 n14 n15 n16 n17 n18 = refl
other_reason kind.NotConnected n0 n1 n2 n3 n4 n5 n6 n7 n8 n9 n10 n11 n12 n13 n14 n15 n16 n17 n18 = refl
other_reason kind.AddrInUse n0 n1 n2 n3 n4 n5 n6 n7 n8 n9 n10 n11 n12 n13 n14 n15 n16 n17 n18 = refl
other_reason kind.AddrNotAvailable n0 n1 n2 n3 n4 n5 n6 n7 n8 n9 n10 n11 n12 n13 n14 n15 n16 n17 n18 = refl
other_reason kind.NetworkDown n0 n1 n2 n3 n4 n5 n6 n7 n8 n9 n10 n11 n12 n13 n14 n15 n16 n17 n18 = refl
other_reason kind.BrokenPipe n0 n1 n2 n3 n4 n5 n6 n7 n8 n9 n10 n11 n12 n13 n14 n15 n16 n17 n18 = absurd (n2 refl)
other_reason kind.AlreadyExists n0 n1 n2 n3 n4 n5 n6 n7 n8 n9 n10 n11 n12 n13 n14 n15 n16 n17 n18 = absurd (n17 refl)
other_reason kind.WouldBlock n0 n1 n2 n3 n4 n5 n6 n7 n8 n9 n10 n11 n12 n13 n14 n15 n16 n17 n18 = absurd (n3 refl)
other_reason kind.NotADirectory n0 n1 n2 n3 n4 n5 n6 n7 n8 n9 n10 n11 n12 n13 n14 n15 n16 n17 n18 = absurd (n4 refl)
other_reason kind.IsADirectory n0 n1 n2 n3 n4 n5 n6 n7 n8 n9 n10 n11 n12 n13 n14 n15 n16 n17 n18 = absurd (n5 refl)
other_reason kind.DirectoryNotEmpty n0 n1 n2 n3 n4 n5 n6 n7 n8 n9 n10 n11 n12 n13 n14 n15 n16 n17 n18 = refl
other_reason kind.ReadOnlyFilesystem n0 n1 n2 n3 n4 n5 n6 n7 n8 n9 n10 n11 n12 n13 n14 n15 n16 n17 n18 = absurd (n14 refl)
other_reason kind.FilesystemLoop n0 n1 n2 n3 n4 n5 n6 n7 n8 n9 n10 n11 n12 n13 n14 n15 n16 n17 n18 = absurd (n6 refl)
other_reason kind.StaleNetworkFileHandle n0 n1 n2 n3 n4 n5 n6 n7 n8 n9 n10 n11 n12 n13 n14 n15 n16 n17 n18 = refl
other_reason kind.InvalidInput n0 n1 n2 n3 n4 n5 n6 n7 n8 n9 n10 n11 n12 n13 n14 n15 n16 n17 n18 = absurd (n7 refl)
other_reason kind.InvalidData n0 n1 n2 n3 n4 n5 n6 n7 n8 n9 n10 n11 n12 n13 n14 n15 n16 n17 n18 = refl
other_reason kind.TimedOut n0 n1 n2 n3 n4 n5 n6 n7 n8 n9 n10 n11 n12 n13 n14 n15 n16 n17 n18 = refl
other_reason kind.WriteZero n0 n1 n2 n3 n4 n5 n6 n7 n8 n9 n10 n11 n12 n13 n14 n15 n16 n17 n18 = refl
other_reason kind.StorageFull n0 n1 n2 n3 n4 n5 n6 n7 n8 n9 n10 n11 n12 n13 n14 n15 n16 n17 n18 = absurd (n8 refl)
other_reason kind.NotSeekable n0 n1 n2 n3 n4 n5 n6 n7 n8 n9 n10 n11 n12 n13 n14 n15 n16 n17 n18 = refl
other_reason kind.QuotaExceeded n0 n1 n2 n3 n4 n5 n6 n7 n8 n9 n10 n11 n12 n13 n14 n15 n16 n17 n18 = absurd (n12 refl)
other_reason kind.FileTooLarge n0 n1 n2 n3 n4 n5 n6 n7 n8 n9 n10 n11 n12 n13 n14 n15 n16 n17 n18 = absurd (n13 refl)
other_reason kind.ResourceBusy n0 n1 n2 n3 n4 n5 n6 n7 n8 n9 n10 n11 n12 n13 n14 n15 n16 n17 n18 = absurd (n15 refl)
other_reason kind.ExecutableFileBusy n0 n1 n2 n3 n4 n5 n6 n7 n8 n9 n10 n11 n12 n13 n14 n15 n16 n17 n18 = absurd (n16 refl)
other_reason kind.Deadlock n0 n1 n2 n3 n4 n5 n6 n7 n8 n9 n10 n11 n12 n13 n14 n15 n16 n17 n18 = refl
other_reason kind.CrossesDevices n0 n1 n2 n3 n4 n5 n6 n7 n8 n9 n10 n11 n12 n13 n14 n15 n16 n17 n18 = absurd (n18 refl)
other_reason kind.TooManyLinks n0 n1 n2 n3 n4 n5 n6 n7 n8 n9 n10 n11 n12 n13 n14 n15 n16 n17 n18 = refl
other_reason kind.InvalidFilename n0 n1 n2 n3 n4 n5 n6 n7 n8 n9 n10 n11 n12 n13 n14 n15 n16 n17 n18 = absurd (n9 refl)
other_reason kind.ArgumentListTooLong n0 n1 n2 n3 n4 n5 n6 n7 n8 n9 n10 n11 n12 n13 n14 n15 n16 n17 n18 = refl
other_reason kind.Interrupted n0 n1 n2 n3 n4 n5 n6 n7 n8 n9 n10 n11 n12 n13 n14 n15 n16 n17 n18 = absurd (n10 refl)
other_reason kind.Unsupported n0 n1 n2 n3 n4 n5 n6 n7 n8 n9 n10 n11 n12 n13 n14 n15 n16 n17 n18 = refl
other_reason kind.UnexpectedEof n0 n1 n2 n3 n4 n5 n6 n7 n8 n9 n10 n11 n12 n13 n14 n15 n16 n17 n18 = refl
other_reason kind.OutOfMemory n0 n1 n2 n3 n4 n5 n6 n7 n8 n9 n10 n11 n12 n13 n14 n15 n16 n17 n18 = absurd (n11 refl)
other_reason kind.InProgress n0 n1 n2 n3 n4 n5 n6 n7 n8 n9 n10 n11 n12 n13 n14 n15 n16 n17 n18 = refl
other_reason kind.Other n0 n1 n2 n3 n4 n5 n6 n7 n8 n9 n10 n11 n12 n13 n14 n15 n16 n17 n18 = refl
other_reason kind.Uncategorized n0 n1 n2 n3 n4 n5 n6 n7 n8 n9 n10 n11 n12 n13 n14 n15 n16 n17 n18 = refl
