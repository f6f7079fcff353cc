use Rattle.std.proofs.Common.{◌≡◌, ℕ, List, false, sym, inl, inr}
use Rattle.std.proofs.lemmas.Bool.{cases_Bool}
use Rattle.std.specs.Str.{IsUtf8, is_utf8}
use Rattle.std.proofs.lemmas.Str.{IsUtf8-from_is_utf8, is_utf8-from_IsUtf8}
use Rattle.page_blocks.proofs.info.is_text.Goals as goal

no_text : (bytes : List ℕ) → ¬ IsUtf8 bytes → false ≡ is_utf8 bytes
no_text bytes other = elim (cases_Bool (is_utf8 bytes)) [
  | inl is ↦ absurd (other (IsUtf8-from_is_utf8 bytes is))
  | inr is ↦ sym is
]

pub returns-in-Ok : goal.returns-in-Ok
returns-in-Ok c = sym (is_utf8-from_IsUtf8 c.args.bytes.now c.in-Ok.ensures.cases.1)

pub returns-in-Err : goal.returns-in-Err
returns-in-Err c = no_text c.args.bytes.now c.in-Err.ensures.cases.0
