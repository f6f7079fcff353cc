-- A boundary of a part of a text is one of the text.
use Rattle.std.proofs.Common.{ℕ, ◌+◌, ◌-◌, ◌≤◌, ◌≡◌, List, ◌++◌, take, drop, inl, inr, sym, ◌∙◌, subst, arith}
use Rattle.std.specs.Str.{IsUtf8, IsCharBoundary}
use Rattle.std.proofs.lemmas.Bool.Decides.{leb_tells}
use Rattle.std.proofs.lemmas.List.{get_or-drop, get_or-take, length-append, length-drop, length-take, take-append-le}
use Rattle.std.proofs.lemmas.Str.{IsCharBoundary-from_take, IsUtf8-drop, IsUtf8-take}

-- of so many bytes from an offset on
pub cut_of_part : (text : List ℕ) (offset n i : ℕ) → IsCharBoundary text (offset + n) → IsCharBoundary (take n (drop offset text)) i
    → IsCharBoundary text (offset + i)
cut_of_part text offset n i ends cut =
    let few = length-take n (drop offset text) in
    let size = length-drop offset text in
    let within = cut.0 in
    let most = ends.0 in
    elim (leb_tells n i) [
      | inl far ↦ (let same : offset + n ≡ offset + i = omega (arith, far.1, few, within) in subst (IsCharBoundary text) same ends)
      | inr near ↦ (
        omega (arith, near.1, most),
        λ low high.
            let byte = get_or-take n (drop offset text) i 0 near.1 ∙ get_or-drop offset text i 0 in
            subst (λ b. 192 ≤ b) byte
            (cut.1 (omega (arith, few, size, near.1, low)) (subst (λ b. 128 ≤ b) (sym byte) high)),
      )
    ]

-- of so many bytes at its front
pub cut_of_front : (text : List ℕ) (n i : ℕ) → IsCharBoundary text n → IsCharBoundary (take n text) i → IsCharBoundary text i
cut_of_front text n i ends cut =
    let at : n ≡ 0 + n = omega arith in
    let end : 0 + i ≡ i = omega arith in
    subst (IsCharBoundary text) end (cut_of_part text 0 n i (subst (IsCharBoundary text) at ends) cut)

-- and a boundary of the text is one of what stands from an offset on
pub cut_of_rest : (text : List ℕ) (offset i : ℕ) → IsCharBoundary text (offset + i) → IsCharBoundary (drop offset text) i
cut_of_rest text offset i cut =
    let size = length-drop offset text in
    let within = cut.0 in (
      omega (arith, size, within),
      λ low high.
          let byte = get_or-drop offset text i 0 in
          subst (λ b. 192 ≤ b) (sym byte) (cut.1 (omega (arith, low, size)) (subst (λ b. 128 ≤ b) byte high)),
    )

-- what stands between two boundaries is UTF-8
pub between_utf8 : (text : List ℕ) (from to : ℕ) → IsUtf8 text → from ≤ to → IsCharBoundary text from → IsCharBoundary text to
    → IsUtf8 (take (to - from) (drop from text))
between_utf8 text from to utf8 less begins ends =
    let at : to ≡ from + (to - from) = omega (arith, less) in
    IsUtf8-take (drop from text) (to - from) (IsUtf8-drop text from utf8 begins)
    (cut_of_rest text from (to - from) (subst (IsCharBoundary text) at ends))

-- a boundary of a text that is UTF-8 is one of what it begins, if that is
pub cut_of_first : (xs ys : List ℕ) (i : ℕ) → IsUtf8 (xs ++ ys) → IsUtf8 xs → IsCharBoundary xs i → IsCharBoundary (xs ++ ys) i
cut_of_first xs ys i utf8 own cut =
    let within = cut.0 in
    IsCharBoundary-from_take (xs ++ ys) i utf8 (omega (arith, within, length-append xs ys))
    (subst IsUtf8 (sym (take-append-le i xs ys within)) (IsUtf8-take xs i own cut))
