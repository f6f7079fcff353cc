-- The head of what is left of a line, and what a call takes of it.
use Rattle.std.specs.Prelude.{ℕ, zero, suc, not, ◌≡◌, refl, ◌==◌, List, [], ◌∷◌, ◌++◌, ◌+◌, ◌-◌, ◌%◌, ◌≤◌, drop, if◌then◌else◌, nat_le, ◌&&◌, Option, Some, None, true, false, min, length, take_while}
use Rattle.std.proofs.Common.{ap, ◌∙◌, arith, add-zero, sym, zero-add}
use Rattle.std.specs.List.{prefix_len}
use Rattle.std.proofs.lemmas.Bool.Decides.{nat_tests}
use Rattle.std.proofs.lemmas.List.{drop-drop}
use Rattle.std.proofs.lemmas.List.Folds.{length-prefix_len}
use Rattle.markdown_scanners_tree.specs.Bytes.{is_line_ending, is_digit, is_blank}
use Rattle.markdown_scanners_tree.specs.Columns.{column_after, head_end, written_byte, written_out}
use Rattle.markdown_scanners_tree.specs.line.State.{rest_of, leading_spaces}
use Rattle.markdown_scanners_tree.specs.line.PlainStep.{plain_step, quote_step, definition_step, definition_spaces, item_step, item_step_by, marker_spaces}
use Rattle.markdown_scanners_tree.specs.scanners.list_items.ListMarker.{is_delimiter, list_marker, bullet_marker, ordered_marker, ordered_marker_of, is_bullet, is_space_or_line_end, Marker}
use Rattle.std.specs.Str.Parse.{digits_value}
use Rattle.markdown_scanners_tree.specs.scanners.Breaks.{is_thematic_break}
use Rattle.markdown_scanners_tree.specs.declared.line.run.LineCall.{LineCall}
use Rattle.markdown_scanners_tree.specs.declared.line.run.LineCall.TheVariants.{Space, Upto, Eol, Quote, List as ItemCall, Definition as DefinitionCall}
use Rattle.markdown_scanners_tree.proofs.line.ColumnLemmas.{after-more, bool_cases, written-end, written-cons, head_end-cons, head_end-end}
use Rattle.markdown_scanners_tree.proofs.line.SpaceLemmas.{state_of, spaces, written_out-phase}
use Rattle.markdown_scanners_tree.proofs.line.WrittenLemmas.{pick}

-- how many bytes stand before the first line ending
abbrev pub head_len : List ℕ → ℕ
head_len r = prefix_len (λ b. not (is_line_ending b)) r

head_len-spaces : (m : ℕ) (w : List ℕ) → head_len (spaces m ++ w) ≡ m + head_len w
head_len-spaces zero w = omega arith
head_len-spaces (suc m) w = omega (arith, head_len-spaces m w)

-- the head of what is written out ends where the head of the bytes does
pub head_len-end : (bs : List ℕ) (c : ℕ) → c + head_len (written_out c bs) ≡ head_end c bs
head_len-end [] c = add-zero c
head_len-end (b ∷ bs) c =
    bool_cases (is_line_ending b)
    (λ ends. rw (written-end c b bs ends, head_end-end c b bs ends, ends) (add-zero c))
    (λ goes.
    let rest = head_len-end bs (column_after c b) in
    let more = after-more c b in
    bool_cases (b == 9)
    (λ tab.
    let w = column_after c b - c in
    let e : written_byte c b ≡ spaces w = rw tab refl in
    rw (
      written-cons c b bs goes,
      head_end-cons c b bs goes,
      e,
      head_len-spaces w (written_out (column_after c b) bs),
    ) (omega arith))
    (λ plain.
    let e : written_byte c b ≡ b ∷ [] = rw plain refl in
    let next : column_after c b ≡ c + 1 = rw plain refl in
    rw (written-cons c b bs goes, head_end-cons c b bs goes, e, goes) (omega arith)))

pub leading-head : (r : List ℕ) → leading_spaces r ≤ head_len r
leading-head [] = omega arith
leading-head (b ∷ r) =
    bool_cases (b == 32)
    (λ yes. let e : b ≡ 32 = grind (arith, nat_tests) in rw e (omega (arith, leading-head r)))
    (λ no. rw no (omega arith))

quote-within : (r : List ℕ) → (quote_step r).taken ≤ head_len r
quote-within [] = omega arith
quote-within (b ∷ r) =
    bool_cases (b == 62)
    (λ yes. let e : b ≡ 62 = grind (arith, nat_tests) in rw e (omega (arith, leading-head r)))
    (λ no. rw no (omega arith))

pub definition_spaces-within : (m : ℕ) → definition_spaces m ≤ m
definition_spaces-within m = grind (arith, nat_tests)

definition-within : (indent : ℕ) (r : List ℕ) → (definition_step indent r).taken ≤ head_len r
definition-within indent [] = omega arith
definition-within indent (b ∷ r) =
    bool_cases (b == 58)
    (λ yes. let e : b ≡ 58 = grind (arith, nat_tests) in
    rw e (omega (arith, leading-head r, definition_spaces-within (leading_spaces r))))
    (λ no. rw no (omega arith))

-- digits end no line
digits-head : (r : List ℕ) (d : ℕ) (back : List ℕ) → drop (prefix_len is_digit r) r ≡ d ∷ back
    → is_delimiter d ≡ true →
    head_len r ≡ prefix_len is_digit r + 1 + head_len back
digits-head [] d back e h = cc
digits-head (b ∷ r) d back e h =
    bool_cases (is_digit b)
    (λ yes.
    let goes : is_line_ending b ≡ false = grind (arith, nat_tests) in
    let e₁ = rw yes at e in
    let n : 1 + prefix_len is_digit r ≡ suc (prefix_len is_digit r) = omega arith in
    let e₂ : drop (prefix_len is_digit r) r ≡ d ∷ back = rw n at e₁ in
    rw (yes, goes) (omega (arith, digits-head r d back e₂ h)))
    (λ no.
    let e₁ : b ∷ r ≡ d ∷ back = rw no at e in
    let same : b ≡ d = cc in
    let rest : r ≡ back = cc in
    let goes : is_line_ending b ≡ false = rw same (grind (arith, nat_tests)) in
    rw (no, goes, rest) (omega arith))

same_width : (m n : Marker) → Some m ≡ Some n → m.width ≡ n.width
same_width m n e = let same : m ≡ n = cc in ap (λ (x : Marker). x.width) same

bullet-head : (r : List ℕ) (m : Marker) → bullet_marker r ≡ Some m → head_len r ≡ m.width + head_len (drop m.width r)
bullet-head [] m h = cc
bullet-head (b ∷ bs) m h =
    bool_cases (is_bullet b && not (is_thematic_break (b ∷ bs)))
    (λ yes.
    let marks : is_bullet b ≡ true = grind (arith, nat_tests) in
    let goes : is_line_ending b ≡ false = grind (arith, nat_tests) in
    let width : 1 ≡ m.width = same_width (record { width = 1; delimiter = b; start = 0 }) m (rw yes at h) in
    rw (← width, goes) refl)
    (λ no. let e = rw no at h in cc)

ordered-head-by : (r rest : List ℕ) (m : Marker) → drop (prefix_len is_digit r) r ≡ rest
    → length (take_while is_digit r) ≡ prefix_len is_digit r →
    ordered_marker_of (take_while is_digit r) rest ≡ Some m → head_len r ≡ m.width + head_len (drop m.width r)
ordered-head-by r [] m e n h = cc
ordered-head-by r (d ∷ back) m e n h =
    let digits = take_while is_digit r in
    bool_cases (nat_le 1 (length digits) && nat_le (length digits) 9 && is_delimiter d)
    (λ yes.
    let ends : is_delimiter d ≡ true = grind (arith, nat_tests) in
    let width : length digits + 1 ≡ m.width = same_width
    (record { width = length digits + 1; delimiter = d; start = digits_value 10 digits }) m (rw yes at h) in
    let w : m.width ≡ prefix_len is_digit r + 1 = omega arith in
    let tail : drop (prefix_len is_digit r + 1) r ≡ back =
    sym (drop-drop 1 (prefix_len is_digit r) r) ∙ ap (drop 1) e in
    rw (w, tail) (digits-head r d back e ends))
    (λ no. let f = rw no at h in cc)

-- the marker's bytes end no line
marker-head-by : (r : List ℕ) (m : Marker) (bullet : Option Marker) → bullet_marker r ≡ bullet
    → pick bullet (ordered_marker r) ≡ Some m → head_len r ≡ m.width + head_len (drop m.width r)
marker-head-by r m (Some x) e h = bullet-head r m (e ∙ h)
marker-head-by r m None e h =
    let n : length (take_while is_digit r) ≡ prefix_len is_digit r = length-prefix_len is_digit r in
    ordered-head-by r (drop (prefix_len is_digit r) r) m refl n (rw n at h)

marker-head : (r : List ℕ) (m : Marker) → list_marker r ≡ Some m → head_len r ≡ m.width + head_len (drop m.width r)
marker-head r m h = marker-head-by r m (bullet_marker r) refl h

pub marker_spaces-within : (m : ℕ) → marker_spaces m ≤ m
marker_spaces-within m = grind (arith, nat_tests)

leading-drop : (t : ℕ) (r : List ℕ) → t ≤ leading_spaces r → head_len r ≡ t + head_len (drop t r)
leading-drop zero r h = sym (zero-add _)
leading-drop (suc t) [] h = absurd (omega arith)
leading-drop (suc t) (b ∷ r) h =
    bool_cases (b == 32)
    (λ yes.
    let e : b ≡ 32 = grind (arith, nat_tests) in
    let more : suc t ≤ 1 + leading_spaces r = rw e at h in
    let rest = leading-drop t r (omega arith) in
    rw e (omega arith))
    (λ no. let none : suc t ≤ 0 = rw no at h in absurd (omega arith))

item-within-by : (indent : ℕ) (r : List ℕ) (o : Option Marker) → list_marker r ≡ o →
    (item_step_by indent r o).taken ≤ head_len r
item-within-by indent r None e = omega arith
item-within-by indent r (Some m) e =
    let tail = drop m.width r in
    let one = min 1 (leading_spaces tail) in
    let left = drop (m.width + one) r in
    let further = (if is_blank left then 0 else marker_spaces (leading_spaces left)) in
    let fits : further ≤ leading_spaces left =
    bool_cases (is_blank left) (λ yes. rw yes (omega arith))
    (λ no. rw no (marker_spaces-within (leading_spaces left))) in
    let a = marker-head r m e in
    let b : head_len tail ≡ one + head_len (drop one tail) = leading-drop one tail (omega arith) in
    let c : drop one tail ≡ left = drop-drop one m.width r in
    let d : head_len (drop one tail) ≡ head_len left = ap head_len c in
    let f = leading-head left in
    bool_cases (is_space_or_line_end tail)
    (λ yes. rw yes (omega arith))
    (λ no. rw no (omega arith))

item-within : (indent : ℕ) (r : List ℕ) → (item_step indent r).taken ≤ head_len r
item-within indent r = item-within-by indent r (list_marker r) refl

-- a call takes nothing past the head of a rest
plain_step-within : (call : LineCall) (r : List ℕ) → (plain_step call r).taken ≤ head_len r
plain_step-within (Space n) r = omega (arith, leading-head r)
plain_step-within (Upto n) r = omega (arith, leading-head r)
plain_step-within Eol r = omega arith
plain_step-within Quote r = quote-within r
plain_step-within (ItemCall indent) r = item-within indent r
plain_step-within (DefinitionCall indent) r = definition-within indent r

-- so it does not on a state
pub step-fits : (call : LineCall) (line : List ℕ) (offset p c : ℕ) →
    c + (plain_step call (rest_of (state_of line offset p c))).taken ≤ p + head_end c (drop offset line)
step-fits call line offset p c =
    let back = drop offset line in
    let within = plain_step-within call (rest_of (state_of line offset p c)) in
    let head : head_len (rest_of (state_of line offset p c)) ≡ p + head_len (written_out c back) =
    head_len-spaces p (written_out (c % 4) back) ∙ ap (λ w. p + head_len w) (written_out-phase back c) in
    let end = head_len-end back c in
    omega arith
