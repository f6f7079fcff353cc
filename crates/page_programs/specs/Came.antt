-- What came of pages, and the status of a run.
use Rattle.std.specs.Prelude.{ℕ, Bool, true, false, ⊤, List, [], ◌∷◌}
use Rattle.page_programs.specs.declared.came.Came.{Came}
use Rattle.page_programs.specs.declared.came.Came.TheVariants.{Done, Found, IsNotDone, HasNoOutput}
use Rattle.page_programs.specs.declared.stops.Stop.{Stop}
use Rattle.page_programs.specs.declared.stops.Stop.TheVariants.{Read, NotText, Write, Memory, NotReplaced}

-- what came of a page that is done: a check found something in it, or none did
abbrev pub came_of : Bool → Came
came_of true = Found
came_of false = Done

-- a check finds something, if it prints anything
abbrev pub is_reported : List ℕ → Bool
is_reported [] = false
is_reported (b ∷ text) = true

-- what came of one that is not done
abbrev pub came_at : Stop → Came
came_at (Read why) = IsNotDone
came_at (NotText offset) = IsNotDone
came_at (Write why) = HasNoOutput
came_at Memory = IsNotDone
came_at (NotReplaced refusal) = IsNotDone

-- the worse of two
abbrev pub worse : Came → Came → Came
worse Done other = other
worse Found Done = Found
worse Found other = other
worse IsNotDone HasNoOutput = HasNoOutput
worse IsNotDone other = IsNotDone
worse HasNoOutput other = HasNoOutput

-- the status of a run
abbrev pub status_of : Came → ℕ
status_of Done = 0
status_of Found = 1
status_of IsNotDone = 3
status_of HasNoOutput = 3

-- Where all is done this holds; and where something is found, which may be then.
abbrev pub Ends : Type 0 → Came → Type 0 → Type 0
Ends MayFind Done Holds = Holds
Ends MayFind Found Holds = MayFind × Holds
Ends MayFind IsNotDone Holds = ⊤
Ends MayFind HasNoOutput Holds = ⊤
