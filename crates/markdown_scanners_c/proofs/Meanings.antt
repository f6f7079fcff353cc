-- How long what references and escapes stand for may be: 6 bytes for each 5 of the text, as of `&nGt;`.
-- (CommonMark 0.31.2, sections 2.4, backslash escapes, and 2.5, entity and numeric character references)
use Rattle.std.proofs.Common.{ℕ, Bool, List, ◌≡◌, ◌≤◌, ◌+◌, ◌/◌, inl, inr, length, take, drop, arith, ap, subst, sym, ◌∙◌}
use Rattle.std.proofs.lemmas.List.{length-append, take_at}
use Rattle.std.specs.Str.{IsUtf8}
use Rattle.html_entities.specs.Entities.{html_entity}
use Rattle.markdown_scanners_tree.specs.scanners.entities.CharacterReference.{IsReference, StartsWithReference}
use Rattle.markdown_scanners_tree.specs.scanners.unescaping.Unescaping.{Piece, ArePieces, joined_meanings}
use Rattle.markdown_events.proofs.ForCallers.{pieces_fit, reference_few}
use Rattle.markdown_scanners_c.specs.Buffer.{IsWritten}
use Rattle.markdown_scanners_c.specs.Status.{ok}

-- A reference has its bytes, and stands for 6 at most.
pub reference_within : (bytes : List ℕ) (n : ℕ) (meaning : List ℕ) → StartsWithReference html_entity bytes n meaning
    → (n ≤ length bytes) × (length meaning ≤ 6)
reference_within bytes n meaning is = (
  omega (arith, ap length is.splits, length-append is.source is.rest, is.n_is_length),
  reference_few bytes n meaning is,
)

-- What the pieces of a text mean is longer than the text by a fifth of it at most.
pub meanings_within : (in_table : Bool) (text : List ℕ) (pieces : List Piece) → ArePieces in_table html_entity text pieces
    → length (joined_meanings pieces) ≤ length text + length text / 5
meanings_within in_table text pieces are = omega (arith, pieces_fit in_table text pieces are)

some_source : (source meaning : List ℕ) → IsReference html_entity source meaning → 1 ≤ length source
some_source source meaning (inl decimal) = omega (arith, ap length decimal.spelled)
some_source source meaning (inr (inl hexadecimal)) = omega (arith, ap length hexadecimal.spelled)
some_source source meaning (inr (inr entity)) = omega (arith, ap length entity.spelled)

-- No bytes begin with a reference.
pub no_reference : (bytes : List ℕ) (n : ℕ) (meaning : List ℕ) → length bytes ≡ 0
    → StartsWithReference html_entity bytes n meaning → ⊥
no_reference bytes n meaning none is =
    absurd (omega (
      arith,
      none,
      ap length is.splits,
      length-append is.source is.rest,
      some_source is.source meaning is.is_reference,
    ))

-- What is so of a text is so of it in the buffer, where it is written.
pub written_is : (P : List ℕ → Type 0) (text old new : List ℕ) (status needed : ℕ) → P text → IsWritten text old new status needed
    → status ≡ ok → P (take needed new)
written_is P text old new status needed holds (long, inl (is, fits, put)) done =
    let front : take needed new ≡ text = ap (take needed) put ∙ take_at text (drop (length text) old) needed (sym long) in
    subst P (sym front) holds
written_is P text old new status needed holds (long, inr (is, short, same)) done = absurd (omega (arith, is, done))

-- A text that is written in the buffer is one there.
pub written_text : (text old new : List ℕ) (status needed : ℕ) → IsUtf8 text → IsWritten text old new status needed
    → status ≡ ok → IsUtf8 (take needed new)
written_text text old new status needed utf8 written done = written_is IsUtf8 text old new status needed utf8 written done
