-- What came of pages, one after another.
use Rattle.std.proofs.Common.{◌≡◌, refl}
use Rattle.page_programs.specs.declared.came.Came.{Came}
use Rattle.page_programs.specs.declared.came.Came.TheVariants.{Done, Found, IsNotDone, HasNoOutput}
use Rattle.page_programs.specs.Came.{worse}

pub worse_assoc : (one other more : Came) → worse (worse one other) more ≡ worse one (worse other more)
worse_assoc Done other more = refl
worse_assoc Found Done more = refl
worse_assoc Found Found Done = refl
worse_assoc Found Found Found = refl
worse_assoc Found Found IsNotDone = refl
worse_assoc Found Found HasNoOutput = refl
worse_assoc Found IsNotDone Done = refl
worse_assoc Found IsNotDone Found = refl
worse_assoc Found IsNotDone IsNotDone = refl
worse_assoc Found IsNotDone HasNoOutput = refl
worse_assoc Found HasNoOutput more = refl
worse_assoc IsNotDone Done more = refl
worse_assoc IsNotDone Found Done = refl
worse_assoc IsNotDone Found Found = refl
worse_assoc IsNotDone Found IsNotDone = refl
worse_assoc IsNotDone Found HasNoOutput = refl
worse_assoc IsNotDone IsNotDone Done = refl
worse_assoc IsNotDone IsNotDone Found = refl
worse_assoc IsNotDone IsNotDone IsNotDone = refl
worse_assoc IsNotDone IsNotDone HasNoOutput = refl
worse_assoc IsNotDone HasNoOutput more = refl
worse_assoc HasNoOutput other more = refl

pub worse_done : (came : Came) → worse came Done ≡ came
worse_done Done = refl
worse_done Found = refl
worse_done IsNotDone = refl
worse_done HasNoOutput = refl

pub worse_none : (came : Came) → worse came HasNoOutput ≡ HasNoOutput
worse_none Done = refl
worse_none Found = refl
worse_none IsNotDone = refl
worse_none HasNoOutput = refl
