-- What is searched in a text, byte by byte and piece by piece.
use Rattle.std.proofs.Common.{◌≡◌, ℕ, zero, suc, ◌+◌, ◌-◌, ◌*◌, ◌<◌, ◌≤◌, ◌⊎◌, Bool, true, false, cond, List, [], ◌∷◌, ◌++◌, length, drop, get_or}
use Rattle.std.proofs.Common.{refl, sym, ap, ◌∙◌, subst, arith, inl, inr, Option, Some, None, Ok, Err, nat_lt, add-zero}
use Rattle.std.specs.Prelude.{◌==◌, IfSome, IfNone, is_none, unwrap_or, if◌then◌else◌}
use Rattle.std.specs.List.{prefix_len}
use Rattle.std.proofs.lemmas.Bool.{cases_lt, eq-eqb, ne_eqb, ltb-false}
use Rattle.std.proofs.lemmas.List.{drop_more, get_or-drop}
use Rattle.std.proofs.lemmas.List.Sums.{prefix_len-drop_yes}
use Rattle.markdown_scanners_tree.specs.Ascii.{exclamation_mark, question_mark}
use Rattle.markdown_scanners_tree.specs.declared.inline_html.HtmlStop.{HtmlStop}
use Rattle.markdown_scanners_tree.specs.SomeExactly.{SomeExactly}
use Rattle.markdown_scanners_tree.specs.inline_html.InlineHtml.{ends_opener, find_at, opener_before}
use Rattle.markdown_scanners_tree.specs.inline_html.run.Run.{Run, answer_of, offset_refusal, run_step, IsWithinBudget}
use Rattle.markdown_scanners_tree.proofs.ForCallers.{accepted, opener-bounds, opener-there}
use Rattle.markdown_inlines.specs.Inlines.{text_between}
use Rattle.markdown_inlines.specs.PieceBytes.{run_length}
use Rattle.markdown_inlines.specs.Pieces.{BeginsAt}
use Rattle.markdown_inlines.specs.Searches.{Searched, IsSearchedTo, backticks_searched, bytes_passed, bytes_read, byte_searched, html_searched, kind_searched}
use Rattle.markdown_inlines.specs.Searches.{next_searched, pieces_searched, text_searched}
use Rattle.markdown_values.specs.declared.values.extensions.Extensions.{Extensions}
use Rattle.markdown_inlines.specs.declared.pieces.Piece.{Piece}
use Rattle.markdown_inlines.specs.declared.pieces.PieceKind.{PieceKind}
use Rattle.markdown_inlines.specs.declared.pieces.PieceKind.TheVariants as K
use Rattle.markdown_inlines.proofs.pieces.Openings.{html_front, mark_front, mark_second, no_opener}
use Rattle.markdown_inlines.proofs.pieces.TextRuns.{run_byte, run_cases}

-- ---- how far
read_later : (read : Option ℕ) (p q : ℕ) → p ≤ q → IfSome read (λ from. from ≤ p) → IfSome read (λ from. from ≤ q)
read_later None p q le is = tt
read_later (Some from) p q le is = omega (arith, is, le)

pub searched_later : (p q : ℕ) (s : Searched) → p ≤ q → IsSearchedTo p s → IsSearchedTo q s
searched_later p q s le is = record {
  fits = is.fits;
  codes_once = omega (arith, is.codes_once, le);
  read_before = read_later s.read p q (omega (arith, le)) is.read_before;
  last_before = omega (arith, is.last_before, le);
  found_before = omega (arith, is.found_before, le);
  apart = is.apart;
  opener = is.opener;
}

-- so many bytes more for code spans
pub searched_codes : (p q n : ℕ) (s : Searched) → p + n ≤ q → IsSearchedTo p s → IsSearchedTo q (record s { codes = s.codes + n })
searched_codes p q n s le is = record {
  fits = is.fits;
  codes_once = omega (arith, is.codes_once, le);
  read_before = read_later s.read p q (omega (arith, le)) is.read_before;
  last_before = omega (arith, is.last_before, le);
  found_before = omega (arith, is.found_before, le);
  apart = is.apart;
  opener = is.opener;
}

-- a backtick string in text
pub searched_backticks : (p q n : ℕ) (s : Searched) → p + n ≤ q → IsSearchedTo p s → IsSearchedTo q (backticks_searched s.html.text p n s)
searched_backticks p q n s le is = by s.read refl
  where
    by : (read : Option ℕ) → s.read ≡ read
        → IsSearchedTo q (cond (is_none read) (record s { codes = s.codes + (length s.html.text - p) + n; read = Some p }) (record s { codes = s.codes + n }))
    by (Some from) known = searched_codes p q n s le is
    by None unread = record {
      fits = is.fits;
      codes_once = omega (arith, le, is.codes_once, ap (bytes_read s.html.text) unread);
      read_before = omega (arith, le);
      last_before = omega (arith, is.last_before, le);
      found_before = omega (arith, is.found_before, le);
      apart = is.apart;
      opener = is.opener;
    }

-- the mark of an opener
opener_mark : (text : List ℕ) (p mark : ℕ) → opener_before text p ≡ Some mark
    → (ends_opener 33 text p ≡ true) ⊎ (ends_opener 63 text p ≡ true)
opener_mark text p mark e = by (ends_opener 33 text p) (ends_opener 63 text p) refl refl e
  where
    by : (bang question : Bool) → ends_opener 33 text p ≡ bang → ends_opener 63 text p ≡ question
        → cond bang (Some 33) (cond question (Some 63) None) ≡ Some mark
        → (ends_opener 33 text p ≡ true) ⊎ (ends_opener 63 text p ≡ true)
    by true question b q e = inl b
    by false true b q e = inr q
    by false false b q e = cc

-- the byte before the end of an opener
opener_byte : (text : List ℕ) (offset mark : ℕ) → opener_before text (offset + 1) ≡ Some mark → get_or text offset 0 ≡ 60 → ⊥
opener_byte text offset mark e here =
    let bounds = opener-bounds text (offset + 1) mark e in
    let same : offset + 1 ≡ (offset - 1) + 2 = omega (arith, bounds.0) in
    let at : offset ≡ (offset - 1) + 1 = omega (arith, bounds.0) in
    elim (opener_mark text (offset + 1) mark e) [
      | inl is ↦ (let second = mark_second 33 text (offset - 1) (subst (λ k. ends_opener 33 text k ≡ true) same is) in
          omega (arith, here, ap (λ k. get_or text k 0) at, second))
      | inr is ↦ (let second = mark_second 63 text (offset - 1) (subst (λ k. ends_opener 63 text k ≡ true) same is) in
          omega (arith, here, ap (λ k. get_or text k 0) at, second))
    ]

-- openers don't overlap
apart_steps : (offset : ℕ) (s : Searched) → IsSearchedTo offset s → get_or s.html.text offset 0 ≡ 60 → 2 * s.html.steps ≤ offset
apart_steps offset s is here = elim (cases_lt s.html.last (offset + 1)) [
  | inl before ↦ omega (arith, before, is.apart)
  | inr at ↦ elim is.opener [
    | inl none ↦ omega (arith, none, is.apart)
    | inr there ↦ (
        let same : s.html.last ≡ offset + 1 = omega (arith, at, is.last_before) in
        let mark = opener-there s.html.text s.html.last there in
        absurd (opener_byte s.html.text offset mark.0 (ap (opener_before s.html.text) (sym same) ∙ mark.1) here)
        )
  ]
]

-- a search for the end of raw HTML
pub html_accepted : (offset mark : ℕ) (s : Searched) → IsSearchedTo offset s → opener_before s.html.text (offset + 2) ≡ Some mark
    → offset_refusal s.html (offset + 2) ≡ None
html_accepted offset mark s is opener =
    accepted s.html (offset + 2) mark opener (omega (arith, is.last_before)) (omega (arith, is.found_before))

-- what a step answers
pub step_refused : (run : Run) (p : ℕ) (why : Option HtmlStop) (stop : HtmlStop) → Err stop ≡ answer_of run p why → why ≡ Some stop
step_refused run p None stop e = absurd (cc)
step_refused run p (Some other) stop e = cc

pub step_found : (run : Run) (p : ℕ) (why : Option HtmlStop) (found : Option ℕ) → Ok found ≡ answer_of run p why → found ≡ find_at run.text p
step_found run p None found e = cc
step_found run p (Some other) found e = absurd (cc)

-- where it is refused, nothing begins
pub html_refused : (offset : ℕ) (s : Searched) (stop : HtmlStop) → IsSearchedTo offset s → offset_refusal s.html (offset + 2) ≡ Some stop
    → find_at s.html.text (offset + 2) ≡ None
html_refused offset s stop is refused = by (opener_before s.html.text (offset + 2)) refl
  where
    by : (opener : Option ℕ) → opener_before s.html.text (offset + 2) ≡ opener → find_at s.html.text (offset + 2) ≡ None
    by None e = no_opener s.html.text (offset + 2) e
    by (Some mark) e = let lost : Some stop ≡ None = sym refused ∙ html_accepted offset mark s is e in cc

html_stays_by : (offset q : ℕ) (s : Searched) (opener : Option ℕ) → opener_before s.html.text (offset + 2) ≡ opener → IsSearchedTo offset s
    → get_or s.html.text offset 0 ≡ 60 → offset < q → IfSome (find_at s.html.text (offset + 2)) (λ end. end ≤ q)
    → IsSearchedTo q (cond (is_none opener) s (record s { html = run_step s.html (offset + 2) }))
html_stays_by offset q s None e is here less found = searched_later offset q s (omega (arith, less)) is
html_stays_by offset q s (Some mark) e is here less found = record {
  fits = is.fits;
  codes_once = omega (arith, is.codes_once, less);
  read_before = read_later s.read offset q (omega (arith, less)) is.read_before;
  last_before = omega (arith, less);
  found_before = find_end_by (find_at s.html.text (offset + 2)) found;
  apart = omega (arith, apart_steps offset s is here);
  opener = inr (λ none. (let lost : Some mark ≡ None = sym e ∙ none in cc));
}
  where
    find_end_by : (found : Option ℕ) → IfSome found (λ end. end ≤ q) → unwrap_or found s.html.find_end ≤ q
    find_end_by None is_within = omega (arith, is.found_before, less)
    find_end_by (Some end) is_within = is_within

-- after a search for the end of the raw HTML whose `<` stands at an offset
pub html_stays : (offset q : ℕ) (s : Searched) → IsSearchedTo offset s → get_or s.html.text offset 0 ≡ 60 → offset < q
    → IfSome (find_at s.html.text (offset + 2)) (λ end. end ≤ q) → IsSearchedTo q (html_searched s.html.text offset s)
html_stays offset q s is here less found = html_stays_by offset q s _ refl is here less found

-- what has been passed over
pub searched_budget : (offset : ℕ) (s : Searched) → offset ≤ length s.html.text → IsSearchedTo offset s → IsWithinBudget s.html
    → bytes_passed s ≤ 10 * length s.html.text
searched_budget offset s within is budget =
    let last : s.html.last ≤ length s.html.text = elim is.opener [
      | inl none ↦ omega (arith, none)
      | inr there ↦ (let mark = opener-there s.html.text s.html.last there in (opener-bounds s.html.text s.html.last mark.0 mark.1).1)
    ] in
    omega (arith, last, within, is.apart, is.codes_once, budget.whole, read_once s.html.text s.read)
  where
    read_once : (text : List ℕ) (read : Option ℕ) → bytes_read text read ≤ length text
    read_once text None = omega arith
    read_once text (Some from) = omega arith

-- ---- byte by byte
-- no search is made at a byte other than a `<`
no_opener_at : (text : List ℕ) (offset : ℕ) → (get_or text offset 0 ≡ 60 → ⊥) → is_none (opener_before text (offset + 2)) ≡ true
no_opener_at text offset other = by (ends_opener 33 text (offset + 2)) (ends_opener 63 text (offset + 2)) refl refl
  where
    by : (bang question : Bool) → ends_opener 33 text (offset + 2) ≡ bang → ends_opener 63 text (offset + 2) ≡ question
        → is_none (cond bang (Some exclamation_mark) (cond question (Some question_mark) None)) ≡ true
    by true question b q = absurd (other (mark_front 33 text offset b))
    by false true b q = absurd (other (mark_front 63 text offset q))
    by false false b q = refl

pub html_quiet : (text : List ℕ) (offset : ℕ) (s : Searched) → (get_or text offset 0 ≡ 60 → ⊥) → html_searched text offset s ≡ s
html_quiet text offset s other = rw (no_opener_at text offset other) refl

byte_quiet : (text : List ℕ) (offset : ℕ) (s : Searched) → (get_or text offset 0 ≡ 96 → ⊥) → (get_or text offset 0 ≡ 60 → ⊥)
    → byte_searched text offset s ≡ s
byte_quiet text offset s no_tick no_angle = rw (ne_eqb (get_or text offset 0) 96 no_tick) (html_quiet text offset s no_angle)

pub byte_angle : (text : List ℕ) (offset : ℕ) (s : Searched) → get_or text offset 0 ≡ 60
    → byte_searched text offset s ≡ html_searched text offset s
byte_angle text offset s here = rw (ne_eqb (get_or text offset 0) 96 (λ tick. omega (arith, here, tick))) refl

byte_tick : (text : List ℕ) (offset : ℕ) (s : Searched) → get_or text offset 0 ≡ 96
    → byte_searched text offset s ≡ backticks_searched text offset 1 s
byte_tick text offset s here = rw (eq-eqb (get_or text offset 0) 96 here) refl

-- where the text has been read
backticks_known : (text : List ℕ) (offset n : ℕ) (s : Searched) → is_none s.read ≡ false
    → backticks_searched text offset n s ≡ record s { codes = s.codes + n }
backticks_known text offset n s known = rw known refl

-- bytes that are neither backticks nor `<`
pub quiet : (text : List ℕ) (n offset : ℕ) (s : Searched)
    → ((p : ℕ) → offset ≤ p → p < offset + n → (get_or text p 0 ≡ 96 → ⊥) × (get_or text p 0 ≡ 60 → ⊥)) → text_searched text offset n s ≡ s
quiet text zero offset s others = refl
quiet text (suc n) offset s others =
    let here = others offset (omega arith) (omega arith) in
    ap (text_searched text (suc offset) n) (byte_quiet text offset s here.0 here.1)
    ∙ quiet text n (suc offset) s (λ p low high. others p (omega (arith, low)) (omega (arith, high)))

-- backticks
known_ticks : (text : List ℕ) (n offset : ℕ) (s : Searched) → is_none s.read ≡ false → ((p : ℕ) → offset ≤ p → p < offset + n → get_or text p 0 ≡ 96)
    → text_searched text offset n s ≡ record s { codes = s.codes + n }
known_ticks text zero offset s known all = ap (λ k. record s { codes = k }) (sym (add-zero s.codes))
known_ticks text (suc n) offset s known all =
    let sum : s.codes + 1 + n ≡ s.codes + suc n = omega arith in
    ap (text_searched text (suc offset) n) (byte_tick text offset s (all offset (omega arith) (omega arith)) ∙ backticks_known text offset 1 s known)
    ∙ (known_ticks text n (suc offset) (record s { codes = s.codes + 1 }) known (λ p low high. all p (omega (arith, low)) (omega (arith, high)))
    ∙ ap (λ k. record s { codes = k }) sum)

pub ticks : (text : List ℕ) (n offset : ℕ) (s : Searched) → 0 < n → ((p : ℕ) → offset ≤ p → p < offset + n → get_or text p 0 ≡ 96)
    → text_searched text offset n s ≡ backticks_searched text offset n s
ticks text zero offset s some all = absurd (omega (arith, some))
ticks text (suc n) offset s some all =
    ap (text_searched text (suc offset) n) (byte_tick text offset s (all offset (omega arith) (omega arith))) ∙ by s.read refl
  where
    rest : (p : ℕ) → suc offset ≤ p → p < suc offset + n → get_or text p 0 ≡ 96
    rest p low high = all p (omega (arith, low)) (omega (arith, high))

    by : (read : Option ℕ) → s.read ≡ read
        → text_searched text (suc offset) n
        (cond (is_none read) (record s { codes = s.codes + (length text - offset) + 1; read = Some offset }) (record s { codes = s.codes + 1 }))
        ≡ cond (is_none read) (record s { codes = s.codes + (length text - offset) + suc n; read = Some offset }) (record s { codes = s.codes + suc n })
    by None unread =
        let sum : s.codes + (length text - offset) + 1 + n ≡ s.codes + (length text - offset) + suc n = omega arith in
        known_ticks text n (suc offset) (record s { codes = s.codes + (length text - offset) + 1; read = Some offset }) refl rest
        ∙ ap (λ k. record s { codes = k; read = Some offset }) sum
    by (Some from) known =
        let sum : s.codes + 1 + n ≡ s.codes + suc n = omega arith in
        known_ticks text n (suc offset) (record s { codes = s.codes + 1 }) (ap is_none known) rest ∙ ap (λ k. record s { codes = k }) sum

-- two parts of the text
pub parts_joined : (text : List ℕ) (m n offset : ℕ) (s : Searched)
    → text_searched text (offset + m) n (text_searched text offset m s) ≡ text_searched text offset (m + n) s
parts_joined text zero n offset s =
    let count : n ≡ 0 + n = omega arith in
    ap (λ p. text_searched text p n s) (add-zero offset) ∙ ap (λ k. text_searched text offset k s) count
parts_joined text (suc m) n offset s =
    let start : offset + suc m ≡ suc offset + m = omega arith in
    let count : suc (m + n) ≡ suc m + n = omega arith in
    ap (λ p. text_searched text p n (text_searched text (suc offset) m (byte_searched text offset s))) start
    ∙ (parts_joined text m n (suc offset) (byte_searched text offset s)
    ∙ ap (λ k. text_searched text offset k s) count)

pub parts_between : (text : List ℕ) (from mid to : ℕ) (s : Searched) → from ≤ mid → mid ≤ to
    → text_searched text mid (to - mid) (text_searched text from (mid - from) s) ≡ text_searched text from (to - from) s
parts_between text from mid to s first second =
    let there : mid ≡ from + (mid - from) = omega (arith, first) in
    let count : (mid - from) + (to - mid) ≡ to - from = omega (arith, first, second) in
    ap (λ p. text_searched text p (to - mid) (text_searched text from (mid - from) s)) there
    ∙ (parts_joined text (mid - from) (to - mid) from s ∙ ap (λ k. text_searched text from k s) count)

-- ---- the bytes that are passed over where none begins a piece
module _ (text : List ℕ) (offset : ℕ) (low : offset < length text) where
  here : drop offset text ≡ get_or text offset 0 ∷ drop (offset + 1) text
  here = drop_more text offset 0 low

  run_of : (n : ℕ) → n ≡ run_length (drop offset text)
      → ((get_or text offset 0 ≡ 96) × (n ≡ prefix_len (λ c. c == 96) (drop offset text)))
      ⊎ (((get_or text offset 0 ≡ 32) × (n ≡ prefix_len (λ c. c == 32) (drop offset text))) ⊎ ((get_or text offset 0 ≡ 96 → ⊥) × (n ≡ 1)))
  run_of n is = elim (run_cases (get_or text offset 0) (drop (offset + 1) text) n (is ∙ ap run_length here)) [
    | inl ticks ↦ inl (ticks.0, ticks.1 ∙ ap (prefix_len (λ c. c == 96)) (sym here))
    | inr (inl spaces) ↦ inr (inl (spaces.0, spaces.1 ∙ ap (prefix_len (λ c. c == 32)) (sym here)))
    | inr (inr other) ↦ inr (inr other)
  ]

  pub run_ticks : get_or text offset 0 ≡ 96 → (n : ℕ) → n ≡ run_length (drop offset text) → n ≡ prefix_len (λ c. c == 96) (drop offset text)
  run_ticks tick n is = elim (run_of n is) [
    | inl ticks ↦ ticks.1
    | inr (inl spaces) ↦ absurd (omega (arith, tick, spaces.0))
    | inr (inr other) ↦ absurd (other.0 tick)
  ]

  -- a backtick string
  pub run_searched_ticks : (s : Searched) → get_or text offset 0 ≡ 96
      → text_searched text offset (run_length (drop offset text)) s ≡ backticks_searched text offset (run_length (drop offset text)) s
  run_searched_ticks s tick =
      let counted = run_ticks tick (run_length (drop offset text)) refl in
      let some = prefix_len-drop_yes (λ c. c == 96) text offset 0 low (eq-eqb (get_or text offset 0) 96 tick) in
      ticks text (run_length (drop offset text)) offset s (omega (arith, counted, some))
      (λ p low high. run_byte 96 text offset p low (omega (arith, counted, high)))

  -- a `<`
  pub run_searched_angle : (s : Searched) → get_or text offset 0 ≡ 60
      → text_searched text offset (run_length (drop offset text)) s ≡ html_searched text offset s
  run_searched_angle s angle =
      let one : run_length (drop offset text) ≡ 1 = elim (run_of (run_length (drop offset text)) refl) [
        | inl ticks ↦ absurd (omega (arith, angle, ticks.0))
        | inr (inl spaces) ↦ absurd (omega (arith, angle, spaces.0))
        | inr (inr other) ↦ other.1
      ] in
      ap (λ n. text_searched text offset n s) one ∙ byte_angle text offset s angle

  -- spaces, or any other byte
  pub run_searched_other : (s : Searched) → (get_or text offset 0 ≡ 96 → ⊥) → (get_or text offset 0 ≡ 60 → ⊥)
      → text_searched text offset (run_length (drop offset text)) s ≡ s
  run_searched_other s no_tick no_angle = quiet text (run_length (drop offset text)) offset s (λ p low high.
      elim (run_of (run_length (drop offset text)) refl) [
        | inl ticks ↦ absurd (no_tick ticks.0)
        | inr (inl spaces) ↦ (
            let space = run_byte 32 text offset p low (omega (arith, spaces.1, high)) in
            (λ tick. omega (arith, tick, space), λ angle. omega (arith, angle, space))
            )
        | inr (inr other) ↦ (
            let same : offset ≡ p = omega (arith, low, high, other.1) in
            (λ tick. no_tick (ap (λ k. get_or text k 0) same ∙ tick), λ angle. no_angle (ap (λ k. get_or text k 0) same ∙ angle))
            )
      ])

-- ---- piece by piece
-- a piece that begins with neither
pub kind_quiet : (asked : Extensions) (text : List ℕ) (from offset start end : ℕ) (kind : PieceKind) (len : ℕ) (s : Searched)
    → BeginsAt asked text from offset kind len → (get_or text offset 0 ≡ 96 → ⊥) → (get_or text offset 0 ≡ 60 → ⊥)
    → kind_searched kind text start end s ≡ s
kind_quiet asked text from offset start end K.Text len s begins no_tick no_angle = absurd begins
kind_quiet asked text from offset start end K.Escape len s begins no_tick no_angle = refl
kind_quiet asked text from offset start end K.HardBreak len s begins no_tick no_angle = refl
kind_quiet asked text from offset start end K.SoftBreak len s begins no_tick no_angle = refl
kind_quiet asked text from offset start end K.Reference len s begins no_tick no_angle = refl
kind_quiet asked text from offset start end (K.Code backticks) len s begins no_tick no_angle =
    absurd (no_tick (ap (λ k. get_or text k 0) (sym (add-zero offset)) ∙ sym (get_or-drop offset text 0 0)
    ∙ begins.1.is_span.opens.backticks 0 begins.1.is_span.opens.some))
kind_quiet asked text from offset start end K.Uri len s begins no_tick no_angle = refl
kind_quiet asked text from offset start end K.Email len s begins no_tick no_angle = refl
kind_quiet asked text from offset start end K.Html len s begins no_tick no_angle = absurd (no_angle (html_front text offset len begins.2))
kind_quiet asked text from offset start end (K.Delimiters run) len s begins no_tick no_angle = refl
kind_quiet asked text from offset start end K.LinkOpener len s begins no_tick no_angle = refl
kind_quiet asked text from offset start end K.ImageOpener len s begins no_tick no_angle = refl
kind_quiet asked text from offset start end K.Closer len s begins no_tick no_angle = refl

pub pieces_added : (text : List ℕ) (pieces later : List Piece) (s : Searched)
    → pieces_searched text (pieces ++ later) s ≡ pieces_searched text later (pieces_searched text pieces s)
pieces_added text [] later s = refl
pieces_added text (piece ∷ pieces) later s =
    pieces_added text pieces later (kind_searched piece.kind text piece.start piece.end s)

pub between_searched : (text : List ℕ) (from to : ℕ) (s : Searched)
    → pieces_searched text (text_between from to) s ≡ text_searched text from (to - from) s
between_searched text from to s = by (nat_lt from to) refl
  where
    by : (test : Bool) → nat_lt from to ≡ test
        → pieces_searched text (if test then record { kind = K.Text; start = from; end = to } ∷ [] else []) s
        ≡ text_searched text from (to - from) s
    by true some = refl
    by false none =
        let nothing : 0 ≡ to - from = omega (arith, ltb-false from to none) in ap (λ n. text_searched text from n s) nothing

-- what is answered, where a piece that begins with neither is found
pub some_quiet : (asked : Extensions) (text : List ℕ) (offset : ℕ) (answer : Option (PieceKind × ℕ)) (s : Searched)
    → SomeExactly (λ r. BeginsAt asked text offset offset r.0 r.1) answer → (get_or text offset 0 ≡ 96 → ⊥) → (get_or text offset 0 ≡ 60 → ⊥)
    → IfSome answer (λ r. s ≡ kind_searched r.0 text offset (offset + r.1) s)
some_quiet asked text offset None s found no_tick no_angle = tt
some_quiet asked text offset (Some r) s found no_tick no_angle =
    sym (kind_quiet asked text offset offset offset (offset + r.1) r.0 r.1 s found no_tick no_angle)

pub none_holds : {A P : Type 0} (answer : Option A) → P → IfNone answer P
none_holds None is = is
none_holds (Some a) is = tt

-- the next piece, after the text before it
pub next_joined : (text : List ℕ) (pieces : List Piece) (from end : ℕ) (piece : Piece) (s : Searched)
    → ((t : Searched) → kind_searched piece.kind text piece.start end t ≡ kind_searched piece.kind text piece.start piece.end t)
    → next_searched text from piece (pieces_searched text pieces s)
    ≡ pieces_searched text ((pieces ++ text_between from piece.start) ++ record piece { end = end } ∷ []) s
next_joined text pieces from end piece s same =
    let between = text_between from piece.start in
    let before = pieces_added text pieces between s ∙ between_searched text from piece.start (pieces_searched text pieces s) in
    sym (pieces_added text (pieces ++ between) (record piece { end = end } ∷ []) s
    ∙ (ap (kind_searched piece.kind text piece.start end) before
    ∙ same (text_searched text from (piece.start - from) (pieces_searched text pieces s))))

-- the text after the last piece
pub last_joined : (text : List ℕ) (pieces : List Piece) (from to : ℕ) (s : Searched)
    → text_searched text from (to - from) (pieces_searched text pieces s) ≡ pieces_searched text (pieces ++ text_between from to) s
last_joined text pieces from to s =
    sym (pieces_added text pieces (text_between from to) s ∙ between_searched text from to (pieces_searched text pieces s))
