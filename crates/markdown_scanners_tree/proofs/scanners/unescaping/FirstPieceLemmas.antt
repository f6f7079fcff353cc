-- The first piece of a text, by what stands at the front.
use Rattle.std.proofs.Common.{◌≡◌, ◌≢◌, ℕ, zero, suc, ◌+◌, ◌-◌, ◌<◌, ◌≤◌, Bool, true, false, List, [], ◌∷◌}
use Rattle.std.proofs.Common.{◌++◌, length, take, drop, get_or, refl, ap, ◌∙◌, sym, subst, arith, inl, inr, ◌⊎◌, eqb}
use Rattle.std.specs.Prelude.{◌&&◌, ◌||◌}
use Rattle.std.proofs.lemmas.List.{take_rest, append-nil, drop_all, drop_more, length-append, length-drop, get_or-drop, get_or_append_left, get_or_at}
use Rattle.std.proofs.lemmas.Bool.Decides.{nat_tests}
use Rattle.std.proofs.lemmas.Bool.{false≢true, and_parts, and_from, and_left, and_right, or_parts, eqb-true, eq-eqb, ne_eqb, false_from_ne_true}
use Rattle.std.proofs.lemmas.List.Sums.{prefix_len_passes, prefix_len-le-length}
use Rattle.std.specs.List.{prefix_len}
use Rattle.markdown_scanners_tree.specs.Ascii.{carriage_return, number_sign, ampersand, semicolon, backslash, vertical_line}
use Rattle.markdown_scanners_tree.specs.Bytes.{is_punctuation, is_alphanumeric}
use Rattle.markdown_scanners_tree.specs.scanners.Escapes.{starts_escape}
use Rattle.markdown_scanners_tree.specs.scanners.entities.CharacterReference.{Lookup, IsReference, StartsWithReference}
use Rattle.markdown_scanners_tree.specs.scanners.unescaping.Unescaping.{Piece, IsFirstFit, IsItself, Fits}
use Rattle.markdown_scanners_tree.specs.scanners.unescaping.Unescaping.{IsTablePipe, IsBackslashEscape, IsAmpersandReference, IsDroppedReturn}
use Rattle.markdown_scanners_tree.specs.scanners.unescaping.private.FirstPiece.{IsFirstPiece, StartsWithAmpersandReference, IsChanged}
use Rattle.markdown_scanners_tree.specs.scanners.unescaping.private.FirstPiece.{IsFirstSize, ArePlain, begins_change, starts_pipe}
use Rattle.markdown_scanners_tree.proofs.scanners.escapes.UnitLemmas.{plain_byte}
use Rattle.markdown_scanners_tree.proofs.scanners.entities.ReferenceUnique.{same_source, same_meaning}

no_pipe : (t : Bool) (text : List ℕ) → (t && starts_pipe text) ≡ false → ¬ Fits (IsTablePipe t) text
no_pipe t text none fits =
    let whole : text ≡ backslash ∷ backslash ∷ vertical_line ∷ fits.1 = fits.3 ∙ ap (λ s. s ++ fits.1) fits.4.1 in
    false≢true (sym none ∙ and_from t (starts_pipe text) fits.4.0 (ap starts_pipe whole))

no_escape : (text : List ℕ) → starts_escape text ≡ false → ¬ Fits IsBackslashEscape text
no_escape text none fits =
    let whole : text ≡ backslash ∷ fits.4.0 ∷ fits.1 = fits.3 ∙ ap (λ s. s ++ fits.1) fits.4.2 in
    false≢true (sym none ∙ (ap starts_escape whole ∙ fits.4.1))

no_reference : (known : Lookup) (text : List ℕ)
    → ((n : ℕ) (meaning : List ℕ) → ¬ StartsWithAmpersandReference known text n meaning)
    → ¬ Fits (IsAmpersandReference known) text
no_reference known text none fits =
    let at : get_or text 0 0 ≡ ampersand = ap (λ x. get_or x 0 0) (fits.3 ∙ ap (λ s. s ++ fits.1) fits.4.1) in
    none (length fits.0) fits.2
    (at, record { source = fits.0; rest = fits.1; splits = fits.3; n_is_length = refl; is_reference = fits.4.2 })

no_return : (text : List ℕ) → get_or text 0 0 ≢ carriage_return → ¬ Fits IsDroppedReturn text
no_return text none fits = none (ap (λ x. get_or x 0 0) (fits.3 ∙ ap (λ s. s ++ fits.1) fits.4.0))

-- two bytes or more are no byte that means itself
not_itself : (source meaning : List ℕ) → 2 ≤ length source → ¬ IsItself source meaning
not_itself source meaning long is = absurd (omega (arith, long, ap length is.1))

pub pipe_piece : (t : Bool) (known : Lookup) (text : List ℕ) → t ≡ true → starts_pipe text ≡ true
    → IsFirstPiece t known text 3 2 []
pipe_piece t known [] yes' starts = absurd (false≢true starts)
pipe_piece t known (a ∷ []) yes' starts = absurd (false≢true starts)
pipe_piece t known (a ∷ b ∷ []) yes' starts = absurd (false≢true starts)
pipe_piece t known (a ∷ b ∷ c ∷ rest) yes' starts =
    let ab = and_parts (eqb a backslash && eqb b backslash) (eqb c vertical_line) starts in
    let each = and_parts (eqb a backslash) (eqb b backslash) ab.0 in
    let a92 = eqb-true a backslash each.0 in let b92 = eqb-true b backslash each.1 in
    let c124 = eqb-true c vertical_line ab.1 in
    record {
      piece = record { source = backslash ∷ backslash ∷ vertical_line ∷ []; meaning = vertical_line ∷ [] };
      rest = rest;
      splits = ap (λ x. x ∷ b ∷ c ∷ rest) a92
          ∙ (ap (λ x. backslash ∷ x ∷ c ∷ rest) b92 ∙ ap (λ x. backslash ∷ backslash ∷ x ∷ rest) c124);
      first = inl (yes', refl, refl);
      n_is_length = refl;
      at_least_one = omega arith;
      dropped_within = omega arith;
      means = refl;
      itself = λ e. absurd (omega (arith, e));
      changed = λ _. not_itself (backslash ∷ backslash ∷ vertical_line ∷ []) (vertical_line ∷ []) (omega arith);
      from_ascii = λ _. omega (arith, a92);
      to_ascii = λ _. omega (arith, b92);
    }

pub escape_piece : (t : Bool) (known : Lookup) (text : List ℕ) → (t && starts_pipe text) ≡ false
    → starts_escape text ≡ true → IsFirstPiece t known text 2 1 []
escape_piece t known [] none starts = absurd (false≢true starts)
escape_piece t known (a ∷ []) none starts = absurd (false≢true starts)
escape_piece t known (a ∷ p ∷ rest) none starts =
    let each = and_parts (eqb a backslash) (is_punctuation p) starts in
    let a92 = eqb-true a backslash each.0 in
    record {
      piece = record { source = backslash ∷ p ∷ []; meaning = p ∷ [] };
      rest = rest;
      splits = ap (λ x. x ∷ p ∷ rest) a92;
      first = inr (no_pipe t (a ∷ p ∷ rest) none, inl (p, each.1, refl, refl));
      n_is_length = refl;
      at_least_one = omega arith;
      dropped_within = omega arith;
      means = refl;
      itself = λ e. absurd (omega (arith, e));
      changed = λ _. not_itself (backslash ∷ p ∷ []) (p ∷ []) (omega arith);
      from_ascii = λ _. omega (arith, a92);
      to_ascii = λ _. omega (arith, a92);
    }

return_piece : (t : Bool) (known : Lookup) (text : List ℕ) → 0 < length text → (t && starts_pipe text) ≡ false
    → starts_escape text ≡ false
    → ((n : ℕ) (meaning : List ℕ) → ¬ StartsWithAmpersandReference known text n meaning)
    → get_or text 0 0 ≡ carriage_return → IsFirstPiece t known text 1 1 []
return_piece t known [] some none1 none2 none3 at = absurd (omega (arith, some))
return_piece t known (b ∷ rest) some none1 none2 none3 at = record {
  piece = record { source = carriage_return ∷ []; meaning = [] };
  rest = rest;
  splits = ap (λ x. x ∷ rest) at;
  first = inr (
    no_pipe t (b ∷ rest) none1,
    inr (no_escape (b ∷ rest) none2, inr (no_reference known (b ∷ rest) none3, inl (refl, refl))),
  );
  n_is_length = refl;
  at_least_one = omega arith;
  dropped_within = omega arith;
  means = refl;
  itself = λ e. absurd (omega (arith, e));
  changed = λ _ is. absurd (omega (arith, ap length is.2));
  from_ascii = λ _. omega (arith, at);
  to_ascii = λ _. omega (arith, at);
}

pub itself_piece : (t : Bool) (known : Lookup) (text : List ℕ) → 0 < length text → (t && starts_pipe text) ≡ false
    → starts_escape text ≡ false
    → ((n : ℕ) (meaning : List ℕ) → ¬ StartsWithAmpersandReference known text n meaning)
    → get_or text 0 0 ≢ carriage_return → IsFirstPiece t known text 1 0 []
itself_piece t known [] some none1 none2 none3 at = absurd (omega (arith, some))
itself_piece t known (b ∷ rest) some none1 none2 none3 at = record {
  piece = record { source = b ∷ []; meaning = b ∷ [] };
  rest = rest;
  splits = refl;
  first = inr (
    no_pipe t (b ∷ rest) none1,
    inr (
      no_escape (b ∷ rest) none2,
      inr (no_reference known (b ∷ rest) none3, inr (no_return (b ∷ rest) at, (b, refl, refl))),
    ),
  );
  n_is_length = refl;
  at_least_one = omega arith;
  dropped_within = omega arith;
  means = refl;
  itself = λ _. (b, refl, refl);
  changed = λ e. absurd (omega (arith, e));
  from_ascii = λ e. absurd (omega (arith, e));
  to_ascii = λ e. absurd (omega (arith, e));
}

-- no piece that is dropped from begins with another byte than a backslash
no_pipe_byte : (text : List ℕ) → get_or text 0 0 ≢ backslash → starts_pipe text ≡ false
no_pipe_byte [] other = refl
no_pipe_byte (a ∷ []) other = refl
no_pipe_byte (a ∷ b ∷ []) other = refl
no_pipe_byte (a ∷ b ∷ c ∷ rest) other =
    let no' = false_from_ne_true (eqb a backslash) (λ same. other (eqb-true a backslash same)) in
    and_left (eqb a backslash && eqb b backslash) (eqb c vertical_line)
    (and_left (eqb a backslash) (eqb b backslash) no')

no_escape_byte : (text : List ℕ) → get_or text 0 0 ≢ backslash → starts_escape text ≡ false
no_escape_byte [] other = refl
no_escape_byte (b ∷ rest) other = plain_byte (b ∷ rest) 0 (omega arith) other

-- `&` alone, or another byte that begins no change, means itself
pub lone_piece : (t : Bool) (known : Lookup) (text : List ℕ) → 0 < length text → get_or text 0 0 ≢ backslash
    → get_or text 0 0 ≢ carriage_return
    → ((n : ℕ) (meaning : List ℕ) → ¬ StartsWithAmpersandReference known text n meaning)
    → IsFirstPiece t known text 1 0 []
lone_piece t known text some no' no_cr none =
    itself_piece t known text some (and_right t (starts_pipe text) (no_pipe_byte text no')) (no_escape_byte text no')
    none no_cr

plain_piece : (t : Bool) (known : Lookup) (text : List ℕ) → 0 < length text → begins_change (get_or text 0 0) ≡ false
    → IsFirstPiece t known text 1 0 []
plain_piece t known text some plain =
    let b = get_or text 0 0 in
    let front = or_parts (eqb b backslash || eqb b ampersand) (eqb b carriage_return) plain in
    let two = or_parts (eqb b backslash) (eqb b ampersand) front.0 in
    lone_piece t known text some (λ is. false≢true (sym two.0 ∙ eq-eqb b backslash is))
    (λ is. false≢true (sym front.1 ∙ eq-eqb b carriage_return is))
    (λ n meaning starts. false≢true (sym two.1 ∙ eq-eqb b ampersand starts.0))

-- a reference is a byte, some bytes and a semicolon
reference_shape : (known : Lookup) (source meaning : List ℕ) → IsReference known source meaning
    → (opener : ℕ) × (body : List ℕ) × (source ≡ opener ∷ (body ++ semicolon ∷ []))
reference_shape known source meaning is = elim is [
  | inl decimal ↦ (decimal.opener, number_sign ∷ decimal.digits, decimal.spelled)
  | inr other ↦ elim other [
    | inl hexadecimal ↦ (hexadecimal.opener, number_sign ∷ hexadecimal.mark ∷ hexadecimal.digits, hexadecimal.spelled)
    | inr entity ↦ (entity.opener, entity.name, entity.spelled)
  ]
]

reference_piece : (t : Bool) (known : Lookup) (text : List ℕ) (n : ℕ) (meaning : List ℕ)
    → (t && starts_pipe text) ≡ false → starts_escape text ≡ false
    → StartsWithAmpersandReference known text n meaning → IsFirstPiece t known text n n meaning
reference_piece t known text n meaning none1 none2 starts =
    let is = starts.1 in
    let shape = reference_shape known is.source meaning is.is_reference in
    let whole : text ≡ shape.0 ∷ (shape.1 ++ semicolon ∷ []) ++ is.rest = is.splits ∙ ap (λ s. s ++ is.rest) shape.2 in
    let amp : shape.0 ≡ ampersand = sym (ap (λ x. get_or x 0 0) whole) ∙ starts.0 in
    let long : length is.source ≡ length shape.1 + 2 =
    omega (arith, ap length shape.2, length-append shape.1 (semicolon ∷ [])) in
    let offset : n - 1 ≡ length (shape.0 ∷ shape.1) = omega (arith, is.n_is_length, long) in
    let last : get_or text (n - 1) 0 ≡ semicolon =
    ap (λ x. get_or x (n - 1) 0) whole ∙ (ap (λ k. get_or (shape.0 ∷ (shape.1 ++ semicolon ∷ []) ++ is.rest) k 0) offset
    ∙ (get_or_append_left (shape.0 ∷ (shape.1 ++ semicolon ∷ [])) is.rest 0 (length (shape.0 ∷ shape.1))
    (omega (arith, length-append shape.1 (semicolon ∷ [])))
    ∙ get_or_at (shape.0 ∷ shape.1) semicolon [] 0 (length (shape.0 ∷ shape.1)) refl)) in
    record {
      piece = record { source = is.source; meaning = meaning };
      rest = is.rest;
      splits = is.splits;
      first = inr (
        no_pipe t text none1,
        inr (
          no_escape text none2,
          inl (shape.1 ++ semicolon ∷ [], shape.2 ∙ ap (λ x. x ∷ (shape.1 ++ semicolon ∷ [])) amp, is.is_reference),
        ),
      );
      n_is_length = is.n_is_length;
      at_least_one = omega (arith, is.n_is_length, long);
      dropped_within = omega arith;
      means = sym (ap (λ r. meaning ++ r) (drop_all n is.source (omega (arith, is.n_is_length))) ∙ append-nil meaning);
      itself = λ e. absurd (omega (arith, e, is.n_is_length, long));
      changed = λ _. not_itself is.source meaning (omega (arith, long));
      from_ascii = λ _. omega (arith, starts.0);
      to_ascii = λ _. omega (arith, last);
    }

-- CR is a changed piece, and so is a reference
pub return_changed : (t : Bool) (known : Lookup) (text : List ℕ) → 0 < length text → get_or text 0 0 ≡ carriage_return
    → IsChanged t known text 1 1 []
return_changed t known text some at =
    let other : get_or text 0 0 ≢ backslash = λ is. absurd (omega (arith, is, at)) in
    record {
      first = return_piece t known text some (and_right t (starts_pipe text) (no_pipe_byte text other))
          (no_escape_byte text other) (λ n meaning starts. absurd (omega (arith, starts.0, at))) at;
      some = omega arith;
    }

pub reference_changed : (t : Bool) (known : Lookup) (text : List ℕ) (n : ℕ) (meaning : List ℕ)
    → StartsWithAmpersandReference known text n meaning → IsChanged t known text n n meaning
reference_changed t known text n meaning starts =
    let other : get_or text 0 0 ≢ backslash = λ is. absurd (omega (arith, is, starts.0)) in
    let piece =
    reference_piece t known text n meaning (and_right t (starts_pipe text) (no_pipe_byte text other))
    (no_escape_byte text other) starts in
    record { first = piece; some = omega (arith, piece.at_least_one) }

-- a piece from whose front all but one ASCII byte is dropped: the byte stands in for all of it
pub escape_changed : (t : Bool) (known : Lookup) (text : List ℕ) (d : ℕ) → IsFirstPiece t known text (d + 1) d []
    → 0 < d → get_or text d 0 < 128 → IsChanged t known text (d + 1) (d + 1) (get_or text d 0 ∷ [])
escape_changed t known text d is some ascii =
    let inside : d < length is.piece.source = omega (arith, is.n_is_length) in
    let byte : get_or is.piece.source d 0 ≡ get_or text d 0 =
    sym (ap (λ bs. get_or bs d 0) is.splits ∙ get_or_append_left is.piece.source is.rest 0 d inside) in
    let last : d ≡ d + 1 - 1 = omega arith in
    record {
      first = record {
        piece = is.piece;
        rest = is.rest;
        splits = is.splits;
        first = is.first;
        n_is_length = is.n_is_length;
        at_least_one = is.at_least_one;
        dropped_within = omega arith;
        means = is.means
            ∙ (drop_more is.piece.source d 0 inside ∙ ap (λ b. b ∷ drop (d + 1) is.piece.source) byte);
        itself = λ e. absurd (omega (arith, e));
        changed = λ _. is.changed some;
        from_ascii = λ _. is.from_ascii some;
        to_ascii = λ _. subst (λ k. get_or text k 0 < 128) last ascii;
      };
      some = omega arith;
    }

-- what a backslash is dropped from ends in ASCII
pub pipe_ascii : (text : List ℕ) → starts_pipe text ≡ true → get_or text 2 0 < 128
pipe_ascii [] starts = absurd (false≢true starts)
pipe_ascii (a ∷ []) starts = absurd (false≢true starts)
pipe_ascii (a ∷ b ∷ []) starts = absurd (false≢true starts)
pipe_ascii (a ∷ b ∷ c ∷ rest) starts =
    let is = eqb-true c vertical_line (and_parts (eqb a backslash && eqb b backslash) (eqb c vertical_line) starts).1 in
    omega (arith, is)

punctuation_ascii : (b : ℕ) → is_punctuation b ≡ true → b < 128
punctuation_ascii b is = grind (arith, nat_tests, is)

pub escape_ascii : (text : List ℕ) → starts_escape text ≡ true → get_or text 1 0 < 128
escape_ascii [] starts = absurd (false≢true starts)
escape_ascii (a ∷ []) starts = absurd (false≢true starts)
escape_ascii (a ∷ p ∷ rest) starts =
    punctuation_ascii p (and_parts (eqb a backslash) (is_punctuation p) starts).1

-- one byte that means itself, and bytes that begin no change
pub lone_plain : (t : Bool) (known : Lookup) (text : List ℕ) → IsFirstPiece t known text 1 0 []
    → ArePlain t known text 1
lone_plain t known text is k in' =
    let zero' : k ≡ 0 = omega (arith, in') in
    subst (λ m. IsFirstPiece t known (drop m text) 1 0 []) (sym zero') is

pub are_plain : (t : Bool) (known : Lookup) (text : List ℕ) (n : ℕ) → n ≤ length text
    → ((k : ℕ) → k < n → begins_change (get_or text k 0) ≡ false) → ArePlain t known text n
are_plain t known text n within plain k in' =
    let at : k + 0 ≡ k = omega arith in
    plain_piece t known (drop k text) (omega (arith, length-drop k text, within, in'))
    (ap begins_change (get_or-drop k text 0 0 ∙ ap (λ m. get_or text m 0) at) ∙ plain k in')

-- one byte that means itself, and maybe one that begins no change
pub pair_plain : (t : Bool) (known : Lookup) (text : List ℕ) (n : ℕ) → n ≤ length text → n ≤ 2
    → IsFirstPiece t known text 1 0 [] → (1 < n → begins_change (get_or text 1 0) ≡ false) → ArePlain t known text n
pair_plain t known text n within few first second zero in' = first
pair_plain t known text n within few first second (suc zero) in' =
    plain_piece t known (drop 1 text) (omega (arith, length-drop 1 text, within, in'))
    (ap begins_change (get_or-drop 1 text 0 0) ∙ second (omega (arith, in')))
pair_plain t known text n within few first second (suc (suc k)) in' = absurd (omega (arith, in', few))

-- the bytes from `#` on, of which one may be after it
number_byte : (text : List ℕ) (n : ℕ) → get_or text 1 0 ≡ number_sign → n ≤ 2
    → (1 < n → begins_change (get_or (drop 1 text) 1 0) ≡ false) → (k : ℕ) → k < n
    → begins_change (get_or text (suc k) 0) ≡ false
number_byte text n number few third zero in' = ap begins_change number
number_byte text n number few third (suc zero) in' =
    sym (ap begins_change (get_or-drop 1 text 1 0)) ∙ third (omega (arith, in'))
number_byte text n number few third (suc (suc k)) in' = absurd (omega (arith, in', few))

-- a byte that means itself, `#` after it, and maybe one more that begins no change
pub number_plain : (t : Bool) (known : Lookup) (text : List ℕ) (n : ℕ) → IsFirstPiece t known text 1 0 []
    → get_or text 1 0 ≡ number_sign
    → n ≤ length (take (length text - 1) (drop 1 text)) → n ≤ 2
    → (1 < n → begins_change (get_or (take (length text - 1) (drop 1 text)) 1 0) ≡ false)
    → ArePlain t known text (1 + n)
number_plain t known text n first number within few third zero in' = first
number_plain t known text n first number within few third (suc k) in' =
    let inside : n ≤ length text - 1 = rw (take_rest text 1, length-drop 1 text) at within in
    let last = rw (take_rest text 1) at third in
    let at : suc k + 0 ≡ suc k = omega arith in
    plain_piece t known (drop (suc k) text) (omega (arith, length-drop (suc k) text, inside, in'))
    (ap begins_change (get_or-drop (suc k) text 0 0 ∙ ap (λ m. get_or text m 0) at)
    ∙ number_byte text n number few last k (omega (arith, in')))

-- no letter and no digit begins a change
plain_alphanumeric : (b : ℕ) → is_alphanumeric b ≡ true → begins_change b ≡ false
plain_alphanumeric b made =
    let other : (c : ℕ) → is_alphanumeric c ≡ false → b ≡ c → ⊥ = λ c none is.
    false≢true (sym none ∙ (ap is_alphanumeric (sym is) ∙ made)) in
    rw (
      ne_eqb b backslash (other backslash refl),
      ne_eqb b ampersand (other ampersand refl),
      ne_eqb b carriage_return (other carriage_return refl),
    ) refl

-- where no reference stands at `&`, it means itself, and so do the letters and digits after it
pub name_plain : (t : Bool) (known : Lookup) (text : List ℕ) (n : ℕ) → 0 < length text → get_or text 0 0 ≡ ampersand
    → ((k : ℕ) (meaning : List ℕ) → ¬ StartsWithReference known text k meaning)
    → n ≡ prefix_len is_alphanumeric (drop 1 text) → ArePlain t known text (n + 1)
name_plain t known [] n some at none name k in' = absurd (omega (arith, some))
name_plain t known (b ∷ rest) n some at none name zero in' =
    lone_piece t known (b ∷ rest) some (λ is. absurd (omega (arith, is, at))) (λ is. absurd (omega (arith, is, at)))
    (λ m meaning starts. none m meaning starts.1)
name_plain t known (b ∷ rest) n some at none name (suc k) in' =
    are_plain t known rest n (omega (arith, name, prefix_len-le-length is_alphanumeric rest))
    (λ j below. plain_alphanumeric (get_or rest j 0) (prefix_len_passes is_alphanumeric rest j 0 (omega (arith, name, below))))
    k (omega (arith, in'))

-- the sizes of a piece at the front of which some bytes, or none, are dropped
pub escape_size : (t : Bool) (known : Lookup) (text : List ℕ) (dropped : ℕ)
    → IsFirstPiece t known text (dropped + 1) dropped [] → IsFirstSize t known text (dropped + 1) dropped 0
escape_size t known text zero is = inl (refl, refl, lone_plain t known text is)
escape_size t known text (suc d) is = inr ([], record { first = is; some = omega arith }, refl)

-- the same source with the same meaning
abbrev IsSame : List ℕ → List ℕ → List ℕ → List ℕ → Type 0
IsSame source meaning source' meaning' = (source ≡ source') × (meaning ≡ meaning')

-- a relation of sources and meanings fits in one way at most
abbrev FitsOnce : (List ℕ → List ℕ → Type 0) → Type 0
FitsOnce R = (source rest meaning source' rest' meaning' : List ℕ) → source ++ rest ≡ source' ++ rest'
    → R source meaning → R source' meaning' → IsSame source meaning source' meaning'

pipe_once : (t : Bool) → FitsOnce (IsTablePipe t)
pipe_once t source rest meaning source' rest' meaning' same is is' = (is.1 ∙ sym is'.1, is.2 ∙ sym is'.2)

escape_once : FitsOnce IsBackslashEscape
escape_once source rest meaning source' rest' meaning' same is is' =
    let here : get_or (source ++ rest) 1 0 ≡ is.0 = ap (λ s. get_or (s ++ rest) 1 0) is.2 in
    let there : get_or (source' ++ rest') 1 0 ≡ is'.0 = ap (λ s. get_or (s ++ rest') 1 0) is'.2 in
    let byte : is.0 ≡ is'.0 = sym here ∙ (ap (λ s. get_or s 1 0) same ∙ there) in
    (is.2 ∙ (ap (λ b. backslash ∷ b ∷ []) byte ∙ sym is'.2), is.3 ∙ (ap (λ b. b ∷ []) byte ∙ sym is'.3))

reference_once : (known : Lookup) → FitsOnce (IsAmpersandReference known)
reference_once known source rest meaning source' rest' meaning' same is is' =
    let sources : source ≡ source' = same_source known source rest meaning source' rest' meaning' same is.2 is'.2 in
    (sources, same_meaning known source' meaning meaning' (subst (λ s. IsReference known s meaning) sources is.2) is'.2)

return_once : FitsOnce IsDroppedReturn
return_once source rest meaning source' rest' meaning' same is is' = (is.0 ∙ sym is'.0, is.1 ∙ sym is'.1)

itself_once : FitsOnce IsItself
itself_once source rest meaning source' rest' meaning' same is is' =
    let here : get_or (source ++ rest) 0 0 ≡ is.0 = ap (λ s. get_or (s ++ rest) 0 0) is.1 in
    let there : get_or (source' ++ rest') 0 0 ≡ is'.0 = ap (λ s. get_or (s ++ rest') 0 0) is'.1 in
    let byte : is.0 ≡ is'.0 = sym here ∙ (ap (λ s. get_or s 0 0) same ∙ there) in
    (is.1 ∙ (ap (λ b. b ∷ []) byte ∙ sym is'.1), is.2 ∙ (ap (λ b. b ∷ []) byte ∙ sym is'.2))

-- of a relation, and of what holds where it doesn't fit, the same is chosen both times
same_choice : (R : List ℕ → List ℕ → Type 0) → FitsOnce R → (text source rest meaning source' rest' meaning' : List ℕ)
    → text ≡ source ++ rest → text ≡ source' ++ rest'
    → (P Q : Type 0) → (P → Q → IsSame source meaning source' meaning') → R source meaning ⊎ (¬ Fits R text × P)
    → R source' meaning' ⊎ (¬ Fits R text × Q) → IsSame source meaning source' meaning'
same_choice R once text source rest meaning source' rest' meaning' splits splits' P Q same (inl is) (inl is') =
    once source rest meaning source' rest' meaning' (sym splits ∙ splits') is is'
same_choice R once text source rest meaning source' rest' meaning' splits splits' P Q same (inl is) (inr other) =
    absurd (other.0 (source, rest, meaning, splits, is))
same_choice R once text source rest meaning source' rest' meaning' splits splits' P Q same (inr other) (inl is) =
    absurd (other.0 (source', rest', meaning', splits', is))
same_choice R once text source rest meaning source' rest' meaning' splits splits' P Q same (inr other) (inr other') =
    same other.1 other'.1

-- the first piece of a text is one alone
pub same_first : (t : Bool) (known : Lookup) (text : List ℕ) (p q : Piece) (rest rest' : List ℕ)
    → text ≡ p.source ++ rest → text ≡ q.source ++ rest'
    → IsFirstFit t known text p → IsFirstFit t known text q → IsSame p.source p.meaning q.source q.meaning
same_first t known text p q rest rest' splits splits' =
    same_choice (IsTablePipe t) (pipe_once t) text p.source rest p.meaning q.source rest' q.meaning splits splits' _ _
    (same_choice IsBackslashEscape escape_once text p.source rest p.meaning q.source rest' q.meaning splits splits' _ _
    (same_choice (IsAmpersandReference known) (reference_once known) text p.source rest p.meaning q.source rest'
    q.meaning splits splits' _ _
    (same_choice IsDroppedReturn return_once text p.source rest p.meaning q.source rest' q.meaning splits splits' _ _
    (itself_once p.source rest p.meaning q.source rest' q.meaning (sym splits ∙ splits')))))
