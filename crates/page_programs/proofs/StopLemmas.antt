-- Where the reader of the output has not left, a line is printed.
use Rattle.std.proofs.Common.{◌≡◌, ◌≢◌, refl, false}
use Rattle.program_faults.specs.declared.reasons.Reason.{Reason}
use Rattle.program_faults.specs.declared.reasons.Reason.TheVariants as reason
use Rattle.page_programs.specs.Stops.{is_left}

pub not_left : (why : Reason) → why ≢ reason.NotRead → is_left why ≡ false
not_left reason.NotFound other = refl
not_left reason.Denied other = refl
not_left reason.Folder other = refl
not_left reason.NotFolder other = refl
not_left reason.Links other = refl
not_left reason.LongName other = refl
not_left reason.TooManyFiles other = refl
not_left reason.Interrupted other = refl
not_left reason.Waits other = refl
not_left reason.Full other = refl
not_left reason.Quota other = refl
not_left reason.TooLarge other = refl
not_left reason.ReadOnly other = refl
not_left reason.Busy other = refl
not_left reason.Runs other = refl
not_left reason.Exists other = refl
not_left reason.OtherDevice other = refl
not_left reason.NotRead other = absurd (other refl)
not_left reason.Invalid other = refl
not_left reason.Memory other = refl
not_left reason.Other other = refl
