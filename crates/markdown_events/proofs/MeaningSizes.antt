-- How long what references and escapes stand for may be: 6 bytes for each 5 of the text, as of `&nGt;`.
-- (CommonMark 0.31.2, sections 2.4, backslash escapes, and 2.5, entity and numeric character references)
use Rattle.std.proofs.Common.{ℕ, Bool, List, [], ◌∷◌, ◌≡◌, ◌≤◌, ◌+◌, ◌*◌, inl, inr, length, arith, ap}
use Rattle.std.proofs.lemmas.List.{length-append}
use Rattle.std.proofs.lemmas.Str.{length-encode, len_utf8_bounds}
use Rattle.std.specs.Str.Parse.{digits_value}
use Rattle.html_entities.specs.Entities.{html_entity}
use Rattle.html_entities.proofs.ForCallers.{meaning_fits}
use Rattle.markdown_scanners_tree.specs.Ascii.{semicolon}
use Rattle.markdown_scanners_tree.specs.scanners.entities.CharacterReference.{IsReference, IsDecimalReference, IsHexadecimalReference, IsEntityReference}
use Rattle.markdown_scanners_tree.specs.scanners.entities.CharacterReference.{StartsWithReference, referenced_char}
use Rattle.markdown_scanners_tree.specs.scanners.unescaping.Unescaping.{Piece, ArePieces, IsFirstFit, joined_meanings}
use Rattle.markdown_events.specs.Meanings.{IsMeaning}

abbrev FitsSource : List ℕ → List ℕ → Type 0
FitsSource source meaning = (length meaning ≤ 6) × (5 * length meaning ≤ 6 * length source)

decimal_fits : (source meaning : List ℕ) → IsDecimalReference source meaning → FitsSource source meaning
decimal_fits source meaning is =
    let c = referenced_char (digits_value 10 is.digits) in
    let few : length meaning ≤ 4 = omega (arith, ap length is.means, length-encode c, (len_utf8_bounds c).1) in
    let long : 4 ≤ length source =
    omega (arith, ap length is.spelled, length-append is.digits (semicolon ∷ []), is.at_least_one) in
    (omega (arith, few), omega (arith, few, long))

hexadecimal_fits : (source meaning : List ℕ) → IsHexadecimalReference source meaning → FitsSource source meaning
hexadecimal_fits source meaning is =
    let c = referenced_char (digits_value 16 is.digits) in
    let few : length meaning ≤ 4 = omega (arith, ap length is.means, length-encode c, (len_utf8_bounds c).1) in
    let long : 4 ≤ length source =
    omega (arith, ap length is.spelled, length-append is.digits (semicolon ∷ []), is.at_least_one) in
    (omega (arith, few), omega (arith, few, long))

entity_fits : (source meaning : List ℕ) → IsEntityReference html_entity source meaning → FitsSource source meaning
entity_fits source meaning is =
    let fits = meaning_fits is.name meaning is.means in
    let long : length source ≡ length is.name + 2 =
    omega (arith, ap length is.spelled, length-append is.name (semicolon ∷ [])) in
    (fits.0, omega (arith, fits.1, long))

reference_fits : (source meaning : List ℕ) → IsReference html_entity source meaning → FitsSource source meaning
reference_fits source meaning (inl decimal) = decimal_fits source meaning decimal
reference_fits source meaning (inr (inl hexadecimal)) = hexadecimal_fits source meaning hexadecimal
reference_fits source meaning (inr (inr entity)) = entity_fits source meaning entity

-- A reference stands for 6 bytes at most.
pub reference_few : (bytes : List ℕ) (n : ℕ) (meaning : List ℕ) → StartsWithReference html_entity bytes n meaning → length meaning ≤ 6
reference_few bytes n meaning is = (reference_fits is.source meaning is.is_reference).0

piece_fits : (in_table : Bool) (text : List ℕ) (p : Piece) → IsFirstFit in_table html_entity text p
    → 5 * length p.meaning ≤ 6 * length p.source
piece_fits in_table text p (inl pipe) = omega (arith, ap length pipe.1, ap length pipe.2)
piece_fits in_table text p (inr (_, inl escape)) = omega (arith, ap length escape.2, ap length escape.3)
piece_fits in_table text p (inr (_, inr (_, inl reference))) = (reference_fits p.source p.meaning reference.2).1
piece_fits in_table text p (inr (_, inr (_, inr (_, inl return)))) = omega (arith, ap length return.0, ap length return.1)
piece_fits in_table text p (inr (_, inr (_, inr (_, inr (_, itself))))) =
    omega (arith, ap length itself.1, ap length itself.2)

-- What the pieces of a text mean has 6 bytes for each 5 of the text at most.
pub pieces_fit : (in_table : Bool) (text : List ℕ) (pieces : List Piece) → ArePieces in_table html_entity text pieces
    → 5 * length (joined_meanings pieces) ≤ 6 * length text
pieces_fit in_table text [] are = omega arith
pieces_fit in_table text (p ∷ pieces) are =
    let one = piece_fits in_table text p are.2 in
    let more = pieces_fit in_table are.0 pieces are.3 in
    let joined : length (joined_meanings (p ∷ pieces)) ≡ length p.meaning + length (joined_meanings pieces) =
    length-append p.meaning (joined_meanings pieces) in
    let split : length text ≡ length p.source + length are.0 = omega (arith, ap length are.1, length-append p.source are.0) in
    omega (arith, one, more, joined, split)

-- What a text means is longer than the text by a fifth of it at most.
pub meaning_few : (text meaning : List ℕ) → IsMeaning text meaning → 5 * length meaning ≤ 6 * length text
meaning_few text meaning is = omega (arith, ap length is.meaning_is, pieces_fit _ text is.parts is.are_parts)
