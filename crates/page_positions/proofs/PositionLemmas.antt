-- The lines of a page, one after another, and where its offsets are.
use Rattle.std.proofs.Common.{ℕ, zero, suc, ◌+◌, ◌-◌, ◌<◌, ◌≤◌, ◌≡◌, ◌⊎◌, List, [], ◌∷◌, length, take, drop, inl, inr}
use Rattle.std.proofs.Common.{refl, sym, ap, ◌∙◌, subst, arith}
use Rattle.std.proofs.lemmas.Bool.{le-ltb, lt-ltb}
use Rattle.std.proofs.lemmas.List.{drop-drop, length-drop, length-take-le}
use Rattle.markdown_scanners_tree.specs.Bytes.{line_length}
use Rattle.markdown_scanners_tree.specs.scanners.TextLines.{lines_of}
use Rattle.markdown_scanners_tree.proofs.ForCallers.{first_line-taken}
use Rattle.page_positions.specs.declared.Line.{Line}
use Rattle.page_positions.specs.Positions.{position_in, position_of}
use Rattle.page_positions.specs.private.Lines.{IsLineOf}

-- an offset in the first line
pub in_first : (number : ℕ) (line : List ℕ) (later : List (List ℕ)) (offset : ℕ) → offset < length line
    → position_in number (line ∷ later) offset ≡ record { line = number; column = offset + 1 }
in_first number line later offset low = rw (lt-ltb offset (length line) low) refl

-- an offset after it
pub past_first : (number : ℕ) (line : List ℕ) (later : List (List ℕ)) (offset : ℕ) → length line ≤ offset
    → position_in number (line ∷ later) offset ≡ position_in (number + 1) later (offset - length line)
past_first number line later offset high = rw (le-ltb offset (length line) high) refl

-- an offset after no line
past_all : (number : ℕ) (bytes : List ℕ) (offset : ℕ) → length bytes ≡ 0
    → position_in number (lines_of bytes) offset ≡ record { line = number; column = 1 }
past_all number [] offset none = refl
past_all number (b ∷ bytes) offset none = absurd (omega arith)

module _ (page : List ℕ) (line : Line) (is_line : IsLineOf page line) (more : line.start < length page) where
  abbrev rest : List ℕ
  rest = drop line.start page

  abbrev size : ℕ
  size = line_length rest

  counted : length rest ≡ length page - line.start
  counted = length-drop line.start page

  fits : size ≤ length rest
  fits = omega (arith, counted, is_line.within, is_line.ends)

  cut : lines_of rest ≡ take size rest ∷ lines_of (drop size rest)
  cut = first_line-taken rest size (omega (arith, counted, more)) refl

  long : length (take size rest) ≡ size
  long = length-take-le size rest fits

  -- it has a byte
  some : (n : ℕ) → size ≡ n → 0 < n
  some zero is = absurd (omega (arith, ap length (subst (λ n. lines_of rest ≡ take n rest ∷ lines_of (drop n rest)) is cut)))
  some (suc n) is = omega arith

  left : drop size rest ≡ drop line.end page
  left = drop-drop size line.start page ∙ ap (λ n. drop n page) (sym is_line.ends)

  later_positions : (offset : ℕ) → line.end ≤ offset
      → position_of page offset ≡ position_in (line.number + 1) (lines_of (drop line.end page)) (offset - line.end)
  later_positions offset high =
      let position = is_line.positions offset (omega (arith, high, is_line.ends)) in
      let first = ap (λ (ls : List (List ℕ)). position_in line.number ls (offset - line.start)) cut in
      let past =
      past_first line.number (take size rest) (lines_of (drop size rest)) (offset - line.start) (omega (arith, long, high, is_line.ends))
      in
      let same = ap (λ (bytes : List ℕ). position_in (line.number + 1) (lines_of bytes) (offset - line.start - length (take size rest))) left in
      let count = ap (λ n. position_in (line.number + 1) (lines_of (drop line.end page)) n) (omega (arith, long, is_line.ends)) in
      position ∙ first ∙ past ∙ same ∙ count

  pub next_is_line : (n : ℕ) → n ≡ line_length (drop line.end page) → n ≤ length page - line.end
      → IsLineOf page (record { number = line.number + 1; start = line.end; end = line.end + n })
  next_is_line n is within = record {
    few = omega (arith, some size refl, is_line.few, is_line.ends);
    within = omega (arith, within, is_line.within);
    ends = ap (λ k. line.end + k) is;
    positions = later_positions;
  }

  -- where an offset of it is
  pub position_here : (offset : ℕ) → line.start ≤ offset → offset < line.end
      → position_of page offset ≡ record { line = line.number; column = offset - line.start + 1 }
  position_here offset begun low =
      is_line.positions offset begun ∙ ap (λ (ls : List (List ℕ)). position_in line.number ls (offset - line.start)) cut
      ∙ in_first line.number (take size rest) (lines_of (drop size rest)) (offset - line.start) (omega (arith, long, begun, low, is_line.ends))

-- Where an offset is that is in this line, or that is after the last line, at whose end this is.
pub position_found : (page : List ℕ) (line : Line) (offset least : ℕ) → IsLineOf page line → line.start ≤ offset
    → (offset < line.end) ⊎ (line.start ≡ length page) → (offset ≤ length page → least ≡ offset)
    → (length page ≤ offset → least ≡ length page)
    → position_of page offset ≡ record { line = line.number; column = least - line.start + 1 }
position_found page line offset least is_line begun (inl low) is_offset is_length =
    let within = is_line.within in
    let more : line.start < length page = omega (arith, begun, low, within) in
    position_here page line is_line more offset begun low
    ∙ ap (λ n. record { line = line.number; column = n - line.start + 1 }) (sym (is_offset (omega (arith, low, within))))
position_found page line offset least is_line begun (inr at_end) is_offset is_length =
    is_line.positions offset begun ∙ past_all line.number (drop line.start page) (offset - line.start) (omega (arith, length-drop line.start page, at_end))
    ∙ ap (λ n. record { line = line.number; column = n }) (omega (arith, is_length (omega (arith, begun, at_end)), at_end))
