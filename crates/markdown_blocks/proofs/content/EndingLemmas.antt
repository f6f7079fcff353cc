-- The line endings of code and HTML, each written as a line feed.
use Rattle.std.proofs.Common.{ℕ, zero, suc, Bool, true, false, not, ◌==◌, ◌+◌, ◌-◌, ◌<◌, ◌≡◌}
use Rattle.std.proofs.Common.{List, [], ◌∷◌, ◌++◌, length, take, drop, get_or, refl, sym, ap, ◌∙◌, subst, inl, inr, arith}
use Rattle.std.specs.List.{AllByRecursion, concat, prefix_len}
use Rattle.std.proofs.lemmas.Bool.{cases_Bool, eqb-true}
use Rattle.std.proofs.lemmas.Bool.Decides.{nat_tests}
use Rattle.std.proofs.lemmas.List.{drop-drop, length-take-le, take-append-drop, take-append-le}
use Rattle.std.proofs.lemmas.List.Sums.{prefix_len-le-length}
use Rattle.std.proofs.lemmas.List.Folds.{list_any-append}
use Rattle.markdown_scanners_tree.specs.Ascii.{carriage_return, line_feed}
use Rattle.markdown_scanners_tree.specs.Bytes.{is_line_ending, line_head}
use Rattle.markdown_scanners_tree.specs.scanners.TextLines.{ends_line, lines_of, with_first}
use Rattle.markdown_blocks.specs.content.Parts.{Part, ended, ending_of, has_return, head_of, written}
use Rattle.markdown_blocks.specs.content.Seen.{IsIn}
use Rattle.markdown_blocks.specs.declared.blocks.BlockKind.{BlockKind}
use Rattle.markdown_blocks.specs.declared.blocks.BlockKind.TheVariants.{Blank, Break, Heading, Setext, Indented, Fenced, Html, Table, Definition, Paragraph}

-- ---- lists

pub all_both : {X : Type 0} (P : X → Type 0) (xs ys : List X) → AllByRecursion P xs → AllByRecursion P ys → AllByRecursion P (xs ++ ys)
all_both P [] ys these those = those
all_both P (x ∷ xs) ys these those = (these.0, all_both P xs ys these.1 those)

pub all_first : {X : Type 0} (P : X → Type 0) (xs ys : List X) → AllByRecursion P (xs ++ ys) → AllByRecursion P xs
all_first P [] ys all = tt
all_first P (x ∷ xs) ys all = (all.0, all_first P xs ys all.1)

-- ---- bytes

-- where a carriage return stands in them, they end with a byte of a line ending
abbrev pub EndsWell : List ℕ → Type 0
EndsWell bytes = has_return bytes ≡ true → is_line_ending (get_or bytes (length bytes - 1) 0) ≡ true

well_one : (b : ℕ) → EndsWell (b ∷ [])
well_one b = λ returns. grind (arith, nat_tests)

-- the last byte of a list that goes on
last_on : (b c : ℕ) (cs : List ℕ) → get_or (b ∷ c ∷ cs) (length (b ∷ c ∷ cs) - 1) 0 ≡ get_or (c ∷ cs) (length (c ∷ cs) - 1) 0
last_on b c cs =
    let long : length (b ∷ c ∷ cs) - 1 ≡ suc (length cs) = omega arith in
    let short : length (c ∷ cs) - 1 ≡ length cs = omega arith in
    ap (λ n. get_or (b ∷ c ∷ cs) n 0) long ∙ sym (ap (λ n. get_or (c ∷ cs) n 0) short)

well_more : (b c : ℕ) (cs : List ℕ) → (b == carriage_return) ≡ false → EndsWell (c ∷ cs) → EndsWell (b ∷ c ∷ cs)
well_more b c cs other well = λ returns.
    let rest : has_return (c ∷ cs) ≡ true = rw other at returns in
    subst (λ l. is_line_ending l ≡ true) (sym (last_on b c cs)) (well rest)

well_tail : (b : ℕ) (bs : List ℕ) → EndsWell (b ∷ bs) → EndsWell bs
well_tail b [] well = λ returns. cc
well_tail b (c ∷ cs) well = λ returns.
    let whole : has_return (b ∷ c ∷ cs) ≡ true = elim (cases_Bool (b == carriage_return)) [ inl is ↦ rw is refl | inr other ↦ rw other returns ] in
    subst (λ l. is_line_ending l ≡ true) (last_on b c cs) (well whole)

pub well_drop : (k : ℕ) (bytes : List ℕ) → EndsWell bytes → EndsWell (drop k bytes)
well_drop zero bytes well = well
well_drop (suc k) [] well = well
well_drop (suc k) (b ∷ bs) well = well_drop k bs (well_tail b bs well)

-- ---- lines

abbrev IsWell : List ℕ → Type 0
IsWell line = (0 < length line) × EndsWell line

module _ (b : ℕ) where
  on_line : (lines : List (List ℕ)) → (b == carriage_return) ≡ false → AllByRecursion IsWell lines → AllByRecursion IsWell (with_first b lines)
  on_line [] other all = ((omega arith, well_one b), tt)
  on_line ([] ∷ lines) other all = absurd (omega (arith, all.0.0))
  on_line ((c ∷ cs) ∷ lines) other all = ((omega arith, well_more b c cs other all.0.1), all.1)

  goes_on : (bs : List ℕ) → ends_line (b ∷ bs) ≡ false → AllByRecursion IsWell (lines_of bs) → AllByRecursion IsWell (with_first b (lines_of bs))
  goes_on [] goes all = ((omega arith, well_one b), tt)
  goes_on (c ∷ cs) goes all = elim (cases_Bool (b == carriage_return)) [
    | inl is ↦ (let feed : (c == line_feed) ≡ true = grind (arith, nat_tests) in
        let here : c ≡ line_feed = eqb-true c line_feed feed in
        let both : AllByRecursion IsWell (with_first b (lines_of (line_feed ∷ cs))) =
        ((omega arith, λ returns. refl), (subst (λ d. AllByRecursion IsWell (lines_of (d ∷ cs))) here all).1) in
        subst (λ d. AllByRecursion IsWell (with_first b (lines_of (d ∷ cs)))) (sym here) both)
    | inr other ↦ on_line (lines_of (c ∷ cs)) other all
  ]

are_well : (text : List ℕ) → AllByRecursion IsWell (lines_of text)
are_well [] = tt
are_well (b ∷ bs) = elim (cases_Bool (ends_line (b ∷ bs))) [
  | inl ends ↦ rw ends ((omega arith, well_one b), are_well bs)
  | inr goes ↦ rw goes (goes_on b bs goes (are_well bs))
]

-- lines end well
pub lines_well : (text : List ℕ) → AllByRecursion EndsWell (lines_of text)
lines_well text = by (lines_of text) (are_well text)
  where
    by : (lines : List (List ℕ)) → AllByRecursion IsWell lines → AllByRecursion EndsWell lines
    by [] all = tt
    by (line ∷ lines) all = (all.0.1, by lines all.1)

-- ---- the line up to its ending

head_count : (bytes : List ℕ) → has_return bytes ≡ true → prefix_len (λ b. not (is_line_ending b)) bytes < length bytes
head_count [] returns = cc
head_count (b ∷ bs) returns = elim (cases_Bool (is_line_ending b)) [
  | inl ends ↦ rw ends (omega arith)
  | inr goes ↦ (let other : (b == carriage_return) ≡ false = grind (arith, nat_tests) in
      let rest : has_return bs ≡ true = rw other at returns in
      rw goes (omega (arith, head_count bs rest)))
]

-- is shorter
pub head_less : (bytes : List ℕ) → has_return bytes ≡ true → length (line_head bytes) < length bytes
head_less bytes returns =
    let less = head_count bytes returns in
    omega (arith, less, length-take-le (prefix_len (λ b. not (is_line_ending b)) bytes) bytes (omega (arith, less)))

-- and has no carriage return
pub head_none : (bytes : List ℕ) → has_return (line_head bytes) ≡ false
head_none [] = refl
head_none (b ∷ bs) = elim (cases_Bool (is_line_ending b)) [
  | inl ends ↦ rw ends refl
  | inr goes ↦ (let other : (b == carriage_return) ≡ false = grind (arith, nat_tests) in
      let count : 1 + prefix_len (λ c. not (is_line_ending c)) bs ≡ suc (prefix_len (λ c. not (is_line_ending c)) bs) = omega arith in
      let head : line_head (b ∷ bs) ≡ b ∷ line_head bs = rw goes (ap (λ n. take n (b ∷ bs)) count) in
      let same : has_return (b ∷ line_head bs) ≡ has_return (line_head bs) = rw other refl in
      ap has_return head ∙ same ∙ head_none bs)
]

-- ---- what is written

ended_all : (P : Part → Type 0) (p : Part) → P p → (has_return p.bytes ≡ true → P (head_of p) × P (ending_of p)) → AllByRecursion P (ended p)
ended_all P p whole both = elim (cases_Bool (has_return p.bytes)) [
  | inl returns ↦ rw returns ((both returns).0, ((both returns).1, tt))
  | inr none ↦ rw none (whole, tt)
]

pub written_all : (P : Part → Type 0) (kind : BlockKind) (p : Part) → P p → (has_return p.bytes ≡ true → P (head_of p) × P (ending_of p))
    → AllByRecursion P (written kind p)
written_all P Blank p whole both = (whole, tt)
written_all P Break p whole both = (whole, tt)
written_all P (Heading level) p whole both = (whole, tt)
written_all P (Setext level) p whole both = (whole, tt)
written_all P (Table columns) p whole both = (whole, tt)
written_all P Definition p whole both = (whole, tt)
written_all P Paragraph p whole both = (whole, tt)
written_all P Indented p whole both = ended_all P p whole both
written_all P (Fenced count byte) p whole both = ended_all P p whole both
written_all P (Html kind) p whole both = ended_all P p whole both

-- where no carriage return stands the part is written as it is
pub ended_none : (p : Part) → has_return p.bytes ≡ false → ended p ≡ p ∷ []
ended_none p none = rw none refl

-- a text without one has lines without one
pub none_in_parts : (xs ys : List ℕ) → has_return (xs ++ ys) ≡ false → (has_return xs ≡ false) × (has_return ys ≡ false)
none_in_parts xs ys none = by (has_return xs) refl
  where
    by : (some : Bool) → has_return xs ≡ some → (has_return xs ≡ false) × (has_return ys ≡ false)
    by true is =
        let whole : true ≡ false = rw (list_any-append, is) at none in
        absurd (let no : true ≡ false = whole in cc)
    by false is = let rest : has_return ys ≡ false = rw (list_any-append, is) at none in (is, rest)

pub none_in_lines : (lines : List (List ℕ)) → has_return (concat lines) ≡ false → AllByRecursion (λ line. has_return line ≡ false) lines
none_in_lines [] none = tt
none_in_lines (line ∷ lines) none =
    let parts = none_in_parts line (concat lines) none in
    (parts.0, none_in_lines lines parts.1)

-- it stands in the lines where the part does
module _ (lines : List ℕ) (p : Part) (inside : IsIn lines p) where
  pub head_inside : IsIn lines (head_of p)
  head_inside =
      let n = prefix_len (λ b. not (is_line_ending b)) p.bytes in
      let few = prefix_len-le-length (λ b. not (is_line_ending b)) p.bytes in
      let size : length (take n p.bytes) ≡ n = length-take-le n p.bytes few in
      let head : take n (drop p.offset lines) ≡ take n p.bytes =
      ap (take n) inside.1 ∙ take-append-le n p.bytes (drop (p.offset + length p.bytes) lines) few in (
        omega (arith, inside.0, size, few),
        sym (take-append-drop n (drop p.offset lines)) ∙ ap (λ h. h ++ drop n (drop p.offset lines)) head
            ∙ ap (λ t. take n p.bytes ++ t) (drop-drop n p.offset lines ∙ ap (λ k. drop (p.offset + k) lines) (sym size)),
      )

  pub ending_inside : IsIn lines (ending_of p)
  ending_inside =
      let at : p.offset + length p.bytes ≡ p.offset + length p.bytes + 0 = omega arith in
      (omega (arith, inside.0), ap (λ n. drop n lines) at)
