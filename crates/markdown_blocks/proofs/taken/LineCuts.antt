-- A text after its first lines, and its lines where it is UTF-8: each ends with a byte of ASCII, or with the text.
use Rattle.std.proofs.Common.{ℕ, suc, ◌+◌, ◌-◌, ◌<◌, ◌≡◌, ◌⊎◌, List, [], ◌∷◌, ◌++◌, length, take, drop, get_or, true, inl, inr}
use Rattle.std.proofs.Common.{refl, sym, ap, ◌∙◌, subst, arith, append-nil}
use Rattle.std.specs.List.{AllByRecursion, concat}
use Rattle.std.specs.Str.{IsUtf8, IsCharBoundary}
use Rattle.std.proofs.lemmas.Bool.{cases_Bool}
use Rattle.std.proofs.lemmas.Bool.Decides.{nat_tests}
use Rattle.std.proofs.lemmas.List.{drop-drop, get_or_append_left, length-append, take-append-drop}
use Rattle.std.proofs.lemmas.Str.{IsCharBoundary-end, IsUtf8-drop, IsUtf8-take}
use Rattle.std.proofs.Math.Seq.{drop-append_seam, take-append_seam}
use Rattle.markdown_scanners_tree.specs.Bytes.{line_length}
use Rattle.markdown_scanners_tree.specs.scanners.TextLines.{ends_line, lines_of, with_first}
use Rattle.markdown_scanners_tree.proofs.ForCallers.{cut_after_ascii, first_line-taken, lines_joined}

-- ---- after lines

pub first_after : (text line : List ℕ) (rest : List (List ℕ)) → lines_of text ≡ line ∷ rest → lines_of (drop (length line) text) ≡ rest
first_after [] line rest is = cc
first_after (b ∷ bs) line rest is =
    let n = line_length (b ∷ bs) in
    let both : take n (b ∷ bs) ∷ lines_of (drop n (b ∷ bs)) ≡ line ∷ rest = sym (first_line-taken (b ∷ bs) n (omega arith) refl) ∙ is in
    let same : line ≡ take n (b ∷ bs) = cc in
    let later : lines_of (drop n (b ∷ bs)) ≡ rest = cc in
    let cut : drop (length (take n (b ∷ bs))) (b ∷ bs) ≡ drop n (b ∷ bs) =
    ap (drop (length (take n (b ∷ bs)))) (sym (take-append-drop n (b ∷ bs))) ∙ drop-append_seam (take n (b ∷ bs)) (drop n (b ∷ bs)) in
    ap lines_of (ap (λ (t : List ℕ). drop (length t) (b ∷ bs)) same ∙ cut) ∙ later

-- the lines of a text after its first ones
pub lines_after : (lines : List (List ℕ)) (text : List ℕ) (rest : List (List ℕ)) → lines_of text ≡ lines ++ rest
    → lines_of (drop (length (concat lines)) text) ≡ rest
lines_after [] text rest is = is
lines_after (line ∷ lines) text rest is =
    let more = lines_after lines (drop (length line) text) rest (first_after text line (lines ++ rest) is) in
    ap lines_of (ap (λ n. drop n text) (length-append line (concat lines)) ∙ sym (drop-drop (length (concat lines)) (length line) text)) ∙ more

-- the same in a page, of which so many bytes stand before the text
pub page_after : (page : List ℕ) (start : ℕ) (lines rest : List (List ℕ)) → lines_of (drop start page) ≡ lines ++ rest
    → lines_of (drop (start + length (concat lines)) page) ≡ rest
page_after page start lines rest is =
    ap lines_of (sym (drop-drop (length (concat lines)) start page)) ∙ lines_after lines (drop start page) rest is

-- ---- the ends of lines

-- a line is the last, or ends with an ASCII byte
abbrev Ends : List ℕ → List (List ℕ) → Type 0
Ends line later = (later ≡ []) ⊎ ((0 < length line) × (get_or line (length line - 1) 0 < 128))

with_byte : (b : ℕ) (line : List ℕ) (later : List (List ℕ)) → Ends line later → Ends (b ∷ line) later
with_byte b line later (inl last) = inl last
with_byte b line later (inr ended) =
    let last : suc (length line - 1) ≡ length (b ∷ line) - 1 = omega (arith, ended.0) in
    inr (omega arith, subst (λ n. get_or (b ∷ line) n 0 < 128) last ended.1)

after_byte : (b : ℕ) (lines : List (List ℕ)) (line : List ℕ) (later : List (List ℕ))
    → ((first : List ℕ) (more : List (List ℕ)) → lines ≡ first ∷ more → Ends first more) → with_first b lines ≡ line ∷ later → Ends line later
after_byte b [] line later each is =
    let all : (b ∷ []) ∷ [] ≡ line ∷ later = is in
    let none : later ≡ [] = cc in inl none
after_byte b (first ∷ more) line later each is =
    let all : (b ∷ first) ∷ more ≡ line ∷ later = is in
    let one : line ≡ b ∷ first = cc in
    let rest : later ≡ more = cc in
    subst (λ (l : List ℕ). Ends l later) (sym one)
    (subst (λ (ls : List (List ℕ)). Ends (b ∷ first) ls) (sym rest) (with_byte b first more (each first more refl)))

low_byte : (b : ℕ) (bs : List ℕ) → ends_line (b ∷ bs) ≡ true → b < 128
low_byte b bs ends = grind (arith, nat_tests, ends)

ended : (text line : List ℕ) (later : List (List ℕ)) → lines_of text ≡ line ∷ later → Ends line later
ended [] line later is = absurd (let none : [] ≡ line ∷ later = is in cc)
ended (b ∷ bs) line later is = elim (cases_Bool (ends_line (b ∷ bs))) [
  | inl ends ↦ (let all : (b ∷ []) ∷ lines_of bs ≡ line ∷ later = rw ends at is in
      let one : line ≡ b ∷ [] = cc in
      inr (subst (λ (l : List ℕ). (0 < length l) × (get_or l (length l - 1) 0 < 128)) (sym one) (omega arith, low_byte b bs ends)))
  | inr goes ↦ after_byte b (lines_of bs) line later (λ first more are. ended bs first more are) (rw goes at is)
]

-- the first line of a text, and where it ends
module _ (text line : List ℕ) (later : List (List ℕ)) (is : lines_of text ≡ line ∷ later) where
  whole : text ≡ line ++ concat later
  whole = sym (lines_joined text) ∙ ap concat is

  -- the text may be cut there
  pub line_cut : IsUtf8 text → IsCharBoundary text (length line)
  line_cut utf8 = elim (ended text line later is) [
    | inl last ↦ (let all : text ≡ line = whole ∙ ap (λ (ls : List (List ℕ)). line ++ concat ls) last ∙ append-nil line in
        subst (λ (t : List ℕ). IsCharBoundary text (length t)) all (IsCharBoundary-end text))
    | inr low ↦ (let size = ap length whole ∙ length-append line (concat later) in
        let byte : get_or text (length line - 1) 0 ≡ get_or line (length line - 1) 0 =
        ap (λ t. get_or t (length line - 1) 0) whole ∙ get_or_append_left line (concat later) 0 (length line - 1) (omega (arith, low.0)) in
        cut_after_ascii text (length line) utf8 (omega (arith, size)) low.0 (subst (λ b. b < 128) (sym byte) low.1))
  ]

  pub first_utf8 : IsUtf8 text → IsUtf8 line
  first_utf8 utf8 =
      subst IsUtf8 (ap (take (length line)) whole ∙ take-append_seam line (concat later)) (IsUtf8-take text (length line) utf8 (line_cut utf8))

-- the lines of a text that is UTF-8 are
pub lines_utf8 : (lines : List (List ℕ)) (text : List ℕ) → lines_of text ≡ lines → IsUtf8 text → AllByRecursion IsUtf8 lines
lines_utf8 [] text is utf8 = tt
lines_utf8 (line ∷ later) text is utf8 = (
  first_utf8 text line later is utf8,
  lines_utf8 later (drop (length line) text) (first_after text line later is) (IsUtf8-drop text (length line) utf8 (line_cut text line later is utf8)),
)
