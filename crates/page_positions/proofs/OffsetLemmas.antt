-- An offset of a page is where its position says.
use Rattle.std.proofs.Common.{ℕ, suc, ◌+◌, ◌-◌, ◌<◌, ◌≤◌, ◌≡◌, List, [], ◌∷◌, length, take, nat_lt, sym, ap, subst, arith, inl, inr}
use Rattle.std.specs.List.{concat}
use Rattle.std.proofs.lemmas.Bool.{cases_Bool, ltb-true, ltb-false}
use Rattle.std.proofs.lemmas.List.{length-append, length-drop}
use Rattle.markdown_scanners_tree.specs.scanners.TextLines.{lines_of}
use Rattle.markdown_scanners_tree.proofs.ForCallers.{lines_joined}
use Rattle.markdown_blocks.specs.byte_order_mark.ByteOrderMark.{text_of, text_start}
use Rattle.page_positions.specs.declared.Position.{Position}
use Rattle.page_positions.specs.Positions.{offset_of, position_in, position_of, text_offset, text_position}
use Rattle.page_positions.proofs.PositionLemmas.{in_first, past_first}

-- this position is there in lines of which the first has this number
record IsBack (number : ℕ) (lines : List (List ℕ)) (offset : ℕ) (position : Position) : Type 0 where
  after : number ≤ position.line
  back : length (concat (take (position.line - number) lines)) + (position.column - 1) ≡ offset

back_later : (number : ℕ) (line : List ℕ) (later : List (List ℕ)) (offset : ℕ) (position : Position) → length line ≤ offset
    → IsBack (number + 1) later (offset - length line) position → IsBack number (line ∷ later) offset position
back_later number line later offset position past is =
    let one : position.line - number ≡ suc (position.line - (number + 1)) = omega (arith, is.after) in
    let taken = take (position.line - (number + 1)) later in
    let all = ap (λ n. length (concat (take n (line ∷ later)))) one in
    let count : length (concat (line ∷ taken)) ≡ length line + length (concat taken) = length-append line (concat taken) in
    record { after = omega (arith, is.after); back = omega (arith, all, count, is.back, past) }

back_here : (number : ℕ) (line : List ℕ) (later : List (List ℕ)) (offset : ℕ)
    → IsBack number (line ∷ later) offset (record { line = number; column = offset + 1 })
back_here number line later offset =
    let none : number - number ≡ 0 = omega arith in
    let empty : length (concat (take (number - number) (line ∷ later))) ≡ 0 = ap (λ n. length (concat (take n (line ∷ later)))) none in
    record { after = omega arith; back = omega (arith, empty) }

is_back : (number : ℕ) (lines : List (List ℕ)) (offset : ℕ) → offset < length (concat lines) → IsBack number lines offset (position_in number lines offset)
is_back number [] offset within = absurd (omega (arith, within))
is_back number (line ∷ later) offset within = elim (cases_Bool (nat_lt offset (length line))) [
  | inl low ↦ subst (IsBack number (line ∷ later) offset) (sym (in_first number line later offset (ltb-true offset (length line) low)))
      (back_here number line later offset)
  | inr high ↦
      let past = ltb-false offset (length line) high in
      let inner = is_back (number + 1) later (offset - length line) (omega (arith, within, past, length-append line (concat later))) in
      subst (IsBack number (line ∷ later) offset) (sym (past_first number line later offset past))
      (back_later number line later offset (position_in (number + 1) later (offset - length line)) past inner)
]

pub offset_back : (page : List ℕ) (offset : ℕ) → offset < length page → offset_of page (position_of page offset) ≡ offset
offset_back page offset within = (is_back 1 (lines_of page) offset (omega (arith, within, ap length (lines_joined page)))).back

pub text_offset_back : (page : List ℕ) (offset : ℕ) → text_start page ≤ offset → offset < length page
    → text_offset page (text_position page offset) ≡ offset
text_offset_back page offset begun within =
    let back =
    offset_back (text_of page) (offset - text_start page) (omega (arith, begun, within, length-drop (text_start page) page)) in
    omega (arith, back, begun)
