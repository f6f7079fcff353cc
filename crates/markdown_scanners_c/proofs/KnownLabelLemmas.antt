-- Tests of texts, and labels gathered by their keys.
use Rattle.std.proofs.Common.{Bool, true, false, List, ℕ, ◌≡◌, ◌||◌, cond, IsUtf8, inl, inr, refl}
use Rattle.std.specs.Str.{is_utf8}
use Rattle.std.proofs.lemmas.Bool.{cases_Bool}
use Rattle.std.proofs.lemmas.Str.{IsUtf8-from_is_utf8}

pub no_text : (bytes : List ℕ) → ¬ IsUtf8 bytes → is_utf8 bytes ≡ false
no_text bytes none = elim (cases_Bool (is_utf8 bytes)) [
  | inl text ↦ absurd (none (IsUtf8-from_is_utf8 bytes text))
  | inr other ↦ other
]

-- what is found in what is gathered, with one label, and in the others, is found in what was gathered before, and in these with it
pub gathered : (new old here later all : Bool) → new ≡ (here || old) → (old || (here || later)) ≡ all → (new || later) ≡ all
gathered new true true later all is before = rw is before
gathered new true false later all is before = rw is before
gathered new false true later all is before = rw is before
gathered new false false later all is before = rw is before

pub or_none : (found : Bool) → (found || false) ≡ found
or_none true = refl
or_none false = refl

pub chosen : (one other : Bool) → cond one true other ≡ (one || other)
chosen true other = refl
chosen false other = refl
