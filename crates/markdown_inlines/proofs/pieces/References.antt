-- What the length says that is answered for a character reference: 0 where none stands there.
use Rattle.std.proofs.Common.{◌≡◌, ℕ, ◌<◌, List, [], ◌∷◌, length, ap, arith, inl, inr, Option, Some, None}
use Rattle.std.specs.Prelude.{IfNone}
use Rattle.markdown_values.specs.declared.strings.CowStr.{CowStr}
use Rattle.markdown_values.specs.strings.Text.{cow_text}
use Rattle.markdown_scanners_tree.specs.scanners.entities.CharacterReference.{Lookup, IsReference, IsReferenceAnswer, StartsWithReference}

some_bytes : (known : Lookup) (source meaning : List ℕ) → IsReference known source meaning → 0 < length source
some_bytes known [] meaning (inl is) = let lost = ap length is.spelled in omega (arith, lost)
some_bytes known [] meaning (inr (inl is)) = let lost = ap length is.spelled in omega (arith, lost)
some_bytes known [] meaning (inr (inr is)) = let lost = ap length is.spelled in omega (arith, lost)
some_bytes known (b ∷ source) meaning is = omega arith

pub no_reference : (known : Lookup) (bytes : List ℕ) (n : ℕ) (text : Option CowStr) → IsReferenceAnswer known bytes n text → n ≡ 0
    → (k : ℕ) (meaning : List ℕ) → ¬ StartsWithReference known bytes k meaning
no_reference known bytes n None answer none = answer
no_reference known bytes n (Some text) answer none =
    absurd (omega (arith, none, answer.n_is_length, some_bytes known answer.source (cow_text text) answer.is_reference))

pub some_reference : (known : Lookup) (bytes : List ℕ) (n : ℕ) (text : Option CowStr) → IsReferenceAnswer known bytes n text
    → IfNone text (n ≡ 0) → 0 < n → (meaning : List ℕ) × StartsWithReference known bytes n meaning
some_reference known bytes n None answer empty some = absurd (omega (arith, empty, some))
some_reference known bytes n (Some text) answer empty some = (cow_text text, answer)
