-- Gaps between the parts of a definition, and rests of lines.
use Rattle.std.proofs.Common.{◌≡◌, ℕ, ◌+◌, ◌-◌, ◌≤◌, ◌<◌, Bool, true, false, ◌==◌, cond, List, [], ◌∷◌, ◌++◌, length, take, drop, refl, sym, ap, subst, ◌∙◌, arith, inl, inr, Some, None, append_assoc}
use Rattle.std.specs.Prelude.{unwrap_or, nat_lt, Option}
use Rattle.std.specs.Str.{IsUtf8, IsCharBoundary}
use Rattle.std.specs.List.{prefix_len, list_all, concat}
use Rattle.std.proofs.lemmas.Bool.{cases_Bool, eqb-true}
use Rattle.std.proofs.lemmas.Bool.Decides.{nat_tests}
use Rattle.std.proofs.lemmas.List.{length-append, length-drop, length-take, take-append-drop, drop-drop}
use Rattle.std.proofs.lemmas.List.Folds.{list_all-append, length-prefix_len}
use Rattle.std.proofs.Math.Seq.{drop-append_seam, take-add}
use Rattle.markdown_scanners_tree.specs.Bytes.{begins_with, is_space_or_tab, is_line_ending, line_ending}
use Rattle.markdown_scanners_tree.specs.Handler.{IsAsciiFront}
use Rattle.markdown_scanners_tree.specs.scanners.Escapes.{units, starts_escape}
use Rattle.markdown_scanners_tree.specs.scanners.links.LinkDestination.{stands_bare, IsLinkDestination}
use Rattle.markdown_scanners_tree.specs.scanners.titles.LinkTitle.{IsLinkTitle}
use Rattle.markdown_scanners_tree.specs.scanners.reference_definitions.ReferenceDefinition.{IsGap, IsRestOfLine}
use Rattle.markdown_scanners_tree.specs.scanners.reference_definitions.private.GapLength.{gap_length}
use Rattle.markdown_scanners_tree.proofs.HandlerLemmas.{cut_after_front}
use Rattle.markdown_scanners_tree.proofs.PrefixLemmas.{both_true, prefix_len-parts, list_all-prefix, list_all-implies, begins_with-implies, from_offset}
use Rattle.markdown_scanners_tree.proofs.RunLemmas.{prefix-only, one_prefix}
use Rattle.markdown_scanners_tree.proofs.scanners.lines.BlankLemmas.{first-line_ending}
use Rattle.markdown_scanners_tree.proofs.scanners.links.BareLemmas.{head_of}
use Rattle.markdown_scanners_tree.proofs.scanners.titles.TitleLemmas.{around}

-- neither a space or a tab nor a line ending stands at the front
pub record IsSolid (rest : List ℕ) : Type 0 where
  pub no_space : begins_with is_space_or_tab rest ≡ false
  pub no_ending : begins_with is_line_ending rest ≡ false

solid_byte : (b : ℕ) (bs : List ℕ) → 32 < b → IsSolid (b ∷ bs)
solid_byte b bs above = record { no_space = no_space b above; no_ending = no_ending b above }
  where
    no_space : (b : ℕ) → 32 < b → is_space_or_tab b ≡ false
    no_space b above = grind (arith, nat_tests)

    no_ending : (b : ℕ) → 32 < b → is_line_ending b ≡ false
    no_ending b above = grind (arith, nat_tests)

bare_solid : (rest : List ℕ) (inner more : List (List ℕ)) → units rest ≡ inner ++ more
    → list_all stands_bare inner ≡ true → 1 ≤ length (concat inner) → IsSolid rest
bare_solid [] inner more splits stand some = record { no_space = refl; no_ending = refl }
bare_solid (b ∷ bs) [] more splits stand some = absurd (omega (arith, some))
bare_solid (b ∷ []) (u ∷ us) more splits stand some =
    let first : b ∷ [] ≡ u = ap head_of splits in
    let above = ap stands_bare first ∙ (both_true (stands_bare u) (list_all stands_bare us) stand).0 in
    solid_byte b [] (above_space b above)
  where
    above_space : (b : ℕ) → stands_bare (b ∷ []) ≡ true → 32 < b
    above_space b above = grind (arith, nat_tests)
bare_solid (b ∷ c ∷ bs) (u ∷ us) more splits stand some = elim (cases_Bool (starts_escape (b ∷ c ∷ bs))) [
  | inl escape ↦ solid_byte b (c ∷ bs) (above_escape b c escape)
  | inr plain ↦ (
      let first : b ∷ [] ≡ u = ap head_of (rw plain at splits) in
      let above = ap stands_bare first ∙ (both_true (stands_bare u) (list_all stands_bare us) stand).0 in
      solid_byte b (c ∷ bs) (above_space b above)
      )
]
  where
    above_space : (b : ℕ) → stands_bare (b ∷ []) ≡ true → 32 < b
    above_space b above = grind (arith, nat_tests)

    above_escape : (b c : ℕ) → starts_escape (b ∷ c ∷ []) ≡ true → 32 < b
    above_escape b c escape = omega (arith, eqb-true b 92 (both_true (b == 92) _ escape).0)

-- what a destination and a title begin with
pub destination_solid : (most : ℕ) (rest : List ℕ) (taken : ℕ) (raw : List ℕ) → IsLinkDestination most rest taken raw
    → 1 ≤ taken → IsSolid rest
destination_solid most rest taken raw (inl pointed) some =
    subst IsSolid (sym pointed.opens) (solid_byte 60 pointed.after (omega arith))
destination_solid most rest taken raw (inr is) some =
    bare_solid rest is.bare.inner is.bare.more is.bare.splits is.bare.each_stands
    (omega (arith, some, is.bare.n_is_length))

pub title_solid : (rest : List ℕ) (n : ℕ) → IsLinkTitle rest n → IsSolid rest
title_solid rest n is =
    let above : 32 < is.opening = elim (around is.opening is.closing is.matching) [
      | inl quotes ↦ elim quotes.1 [
        | inl double ↦ omega (arith, double)
        | inr single ↦ omega (arith, single)
      ]
      | inr parens ↦ omega (arith, parens.0)
    ] in
    subst IsSolid (sym is.opens) (solid_byte is.opening is.after above)

gap_by : (text : List ℕ) (s e t : ℕ) → prefix_len is_space_or_tab text ≡ s
    → unwrap_or (line_ending (drop s text)) 0 ≡ e → prefix_len is_space_or_tab (drop (s + e) text) ≡ t
    → gap_length text ≡ s + e + t
gap_by text s e t first ending second = rw (first, ending, second) refl

-- a line ending that stands whole before bytes that do not begin with LF
ending_whole : (ending rest : List ℕ) → 1 ≤ length ending → line_ending ending ≡ Some (length ending)
    → begins_with (λ c. c == 10) rest ≡ false → line_ending (ending ++ rest) ≡ Some (length ending)
ending_whole [] rest some is none = absurd (omega (arith, some))
ending_whole (b ∷ []) rest some is none = rw none is
ending_whole (b ∷ c ∷ ending) rest some is none = is

no_feed : (rest : List ℕ) → begins_with is_line_ending rest ≡ false → begins_with (λ c. c == 10) rest ≡ false
no_feed rest none = begins_with-implies (λ c. c == 10) is_line_ending feed_ends rest none
  where
    feed_ends : (b : ℕ) → (b == 10) ≡ true → is_line_ending b ≡ true
    feed_ends b is = rw is refl

no_feed_after : (after rest : List ℕ) → list_all is_space_or_tab after ≡ true → IsSolid rest
    → begins_with (λ c. c == 10) (after ++ rest) ≡ false
no_feed_after [] rest all solid = no_feed rest solid.no_ending
no_feed_after (a ∷ after) rest all solid = not_feed a (both_true (is_space_or_tab a) _ all).0
  where
    not_feed : (b : ℕ) → is_space_or_tab b ≡ true → (b == 10) ≡ false
    not_feed b is = grind (arith, nat_tests)

no_ending_len : (rest : List ℕ) → begins_with is_line_ending rest ≡ false → unwrap_or (line_ending rest) 0 ≡ 0
no_ending_len [] none = refl
no_ending_len (b ∷ bs) none = elim (cases_Bool (b == 10)) [
  | inl feed ↦ absurd (let ends = rw feed at none in cc)
  | inr no_lf ↦ elim (cases_Bool (b == 13)) [
    | inl return ↦ absurd (let ends = rw (no_lf, return) at none in cc)
    | inr no_cr ↦ rw (no_lf, no_cr) refl
  ]
]

-- the parts of a gap before a solid rest
gap_of : (before ending after rest : List ℕ) → list_all is_space_or_tab before ≡ true
    → line_ending ending ≡ Some (length ending) → list_all is_space_or_tab after ≡ true → IsSolid rest
    → gap_length (before ++ (ending ++ (after ++ rest))) ≡ length (before ++ (ending ++ after))
gap_of before [] after rest all is all' solid =
    let text = before ++ (after ++ rest) in
    let joined = before ++ after in
    let both : list_all is_space_or_tab joined ≡ true = list_all-append is_space_or_tab before after ∙ rw (all, all') refl in
    let whole : text ≡ joined ++ rest = sym (append_assoc before after rest) in
    let first : prefix_len is_space_or_tab text ≡ length joined =
    ap (prefix_len is_space_or_tab) whole ∙ prefix_len-parts is_space_or_tab joined rest both solid.no_space in
    let following : drop (length joined) text ≡ rest = ap (drop (length joined)) whole ∙ drop-append_seam joined rest in
    let ending : unwrap_or (line_ending (drop (length joined) text)) 0 ≡ 0 =
    ap (λ t. unwrap_or (line_ending t) 0) following ∙ no_ending_len rest solid.no_ending in
    let further : drop (length joined + 0) text ≡ rest = ap (λ k. drop k text) (omega arith) ∙ following in
    let second : prefix_len is_space_or_tab (drop (length joined + 0) text) ≡ 0 =
    ap (prefix_len is_space_or_tab) further ∙ prefix_len-parts is_space_or_tab [] rest refl solid.no_space in
    gap_by text (length joined) 0 0 first ending second ∙ omega arith
gap_of before (e ∷ es) after rest all is all' solid =
    let ending = e ∷ es in
    let text = before ++ (ending ++ (after ++ rest)) in
    let stops : begins_with is_space_or_tab (ending ++ (after ++ rest)) ≡ false =
    first-line_ending is_space_or_tab refl refl ending (length ending) is in
    let first = prefix_len-parts is_space_or_tab before (ending ++ (after ++ rest)) all stops in
    let following : drop (length before) text ≡ ending ++ (after ++ rest) =
    drop-append_seam before (ending ++ (after ++ rest)) in
    let ends : unwrap_or (line_ending (drop (length before) text)) 0 ≡ length ending =
    ap (λ t. unwrap_or (line_ending t) 0) following
    ∙ ap (λ o. unwrap_or o 0) (ending_whole ending (after ++ rest) (omega arith) is (no_feed_after after rest all' solid)) in
    let further : drop (length before + length ending) text ≡ after ++ rest =
    sym (drop-drop (length ending) (length before) text)
    ∙ (ap (drop (length ending)) following ∙ drop-append_seam ending (after ++ rest)) in
    let second : prefix_len is_space_or_tab (drop (length before + length ending) text) ≡ length after =
    ap (prefix_len is_space_or_tab) further ∙ prefix_len-parts is_space_or_tab after rest all' solid.no_space in
    gap_by text (length before) (length ending) (length after) first ends second
    ∙ omega (arith, length-append before (ending ++ after), length-append ending after)

-- A gap before a solid rest goes as far as it can,
pub gap_only : (text gap rest : List ℕ) → text ≡ gap ++ rest → IsGap gap → IsSolid rest
    → (length gap ≡ gap_length text) × (rest ≡ drop (gap_length text) text)
gap_only text gap rest parts is solid =
    let cut : text ≡ is.before ++ (is.ending ++ (is.after ++ rest)) =
    parts ∙ (ap (λ g. g ++ rest) is.parts
    ∙ (append_assoc is.before (is.ending ++ is.after) rest
    ∙ ap (λ t. is.before ++ t) (append_assoc is.ending is.after rest))) in
    let long : gap_length text ≡ length gap =
    ap gap_length cut
    ∙ (gap_of is.before is.ending is.after rest is.spaces_before is.up_to_one_ending is.spaces_after solid
    ∙ ap length (sym is.parts)) in
    (sym long, sym (ap (λ k. drop k text) long ∙ (ap (drop (length gap)) parts ∙ drop-append_seam gap rest)))

-- so that there is one.
pub one_gap : (text gap rest gap' rest' : List ℕ) → text ≡ gap ++ rest → text ≡ gap' ++ rest' → IsGap gap → IsGap gap'
    → IsSolid rest → IsSolid rest' → (length gap ≡ length gap') × (rest ≡ rest')
one_gap text gap rest gap' rest' parts parts' is is' solid solid' =
    let only = gap_only text gap rest parts is solid in
    let only' = gap_only text gap' rest' parts' is' solid' in
    (only.0 ∙ sym only'.0, only.1 ∙ sym only'.1)

-- the line ending at the front, cut off
ending_taken : (rest : List ℕ)
    → line_ending (take (unwrap_or (line_ending rest) 0) rest) ≡ Some (length (take (unwrap_or (line_ending rest) 0) rest))
ending_taken [] = refl
ending_taken (b ∷ bs) = elim (cases_Bool (b == 10)) [
  | inl feed ↦ rw (feed, feed) refl
  | inr no_lf ↦ elim (cases_Bool (b == 13)) [
    | inl return ↦ rw (no_lf, return) (after_return b bs no_lf return)
    | inr no_cr ↦ rw (no_lf, no_cr) refl
  ]
]
  where
    after_return : (b : ℕ) (bs : List ℕ) → (b == 10) ≡ false → (b == 13) ≡ true
        → line_ending (take (unwrap_or (cond (begins_with (λ c. c == 10) bs) (Some 2) (Some 1)) 0) (b ∷ bs))
        ≡ Some (length (take (unwrap_or (cond (begins_with (λ c. c == 10) bs) (Some 2) (Some 1)) 0) (b ∷ bs)))
    after_return b [] no_lf return = rw (no_lf, return) refl
    after_return b (c ∷ bs) no_lf return = elim (cases_Bool (c == 10)) [
      | inl feed ↦ rw (feed, no_lf, return, feed) refl
      | inr other ↦ rw (other, no_lf, return) refl
    ]

-- What a scan of it passes over is a gap.
pub gap_there : (text : List ℕ) (n : ℕ) → n ≡ gap_length text → IsGap (take n text)
gap_there text n is =
    let s = prefix_len is_space_or_tab text in
    let e = unwrap_or (line_ending (drop s text)) 0 in
    let t = prefix_len is_space_or_tab (drop (s + e) text) in
    record {
      before = take s text;
      ending = take e (drop s text);
      after = take t (drop (s + e) text);
      parts =
          ap (λ k. take k text) is
          ∙ (take-add (s + e) t text
          ∙ (ap (λ front. front ++ take t (drop (s + e) text)) (take-add s e text)
          ∙ append_assoc (take s text) (take e (drop s text)) (take t (drop (s + e) text))));
      spaces_before = list_all-prefix is_space_or_tab text;
      up_to_one_ending = ending_taken (drop s text);
      spaces_after = list_all-prefix is_space_or_tab (drop (s + e) text);
    }

-- the same by what scans answer
pub gap_scanned : (text : List ℕ) (spaces ending more : ℕ) (found : Option ℕ)
    → spaces ≡ prefix_len is_space_or_tab text
    → found ≡ line_ending (take (length text - spaces) (drop spaces text)) → ending ≡ unwrap_or found 0
    → more ≡ prefix_len is_space_or_tab (take (length text - (spaces + ending)) (drop (spaces + ending) text))
    → spaces + ending + more ≡ gap_length text
gap_scanned text spaces ending more found run ends ending_is more_is =
    sym (gap_by text spaces ending more (sym run)
    (ap (λ o. unwrap_or o 0) (sym (ends ∙ ap line_ending (from_offset text spaces))) ∙ sym ending_is)
    (sym (more_is ∙ ap (prefix_len is_space_or_tab) (from_offset text (spaces + ending)))))

-- the rest of a line, by what scans of it answer
pub rest_scanned : (bytes : List ℕ) (i ending : ℕ) → i ≡ prefix_len is_space_or_tab bytes
    → Some ending ≡ line_ending (take (length bytes - i) (drop i bytes)) → IsRestOfLine bytes (i + ending)
rest_scanned bytes i ending run ends = record {
  spaces = take i bytes;
  after = drop i bytes;
  ending = ending;
  parts = sym (take-append-drop i bytes);
  all_spaces = rw run (list_all-prefix is_space_or_tab bytes);
  ends = sym (ends ∙ ap line_ending (from_offset bytes i));
  counted = ap (λ k. k + ending) (sym (ap (λ k. length (take k bytes)) run ∙ length-prefix_len is_space_or_tab bytes ∙ sym run));
}

pub rest_not_scanned : (bytes : List ℕ) (i : ℕ) → i ≡ prefix_len is_space_or_tab bytes
    → None ≡ line_ending (take (length bytes - i) (drop i bytes)) → (n : ℕ) → ¬ IsRestOfLine bytes n
rest_not_scanned bytes i run none n is =
    let only = prefix-only is_space_or_tab refl refl bytes is.spaces is.after is.ending is.parts is.all_spaces is.ends in
    let lost : None ≡ Some is.ending =
    none ∙ (ap line_ending (from_offset bytes i) ∙ (ap (λ k. line_ending (drop k bytes)) run
    ∙ (ap line_ending (sym only.1) ∙ is.ends))) in
    cc

pub one_rest_of_line : (bytes : List ℕ) (n n' : ℕ) → IsRestOfLine bytes n → IsRestOfLine bytes n' → n ≡ n'
one_rest_of_line bytes n n' is is' =
    let same = one_prefix is_space_or_tab refl refl is.spaces is.after is'.spaces is'.after is.ending is'.ending
    is.all_spaces is.ends is'.all_spaces is'.ends (sym is.parts ∙ is'.parts) in
    let ends : Some is.ending ≡ Some is'.ending = sym is.ends ∙ (ap line_ending same.1 ∙ is'.ends) in
    let ending : is.ending ≡ is'.ending = cc in
    omega (arith, is.counted, is'.counted, ap length same.0, ending)

-- A text may be cut after a gap and after the rest of a line, whose bytes are ASCII.
abbrev is_ascii_byte : ℕ → Bool
is_ascii_byte b = nat_lt b 128

space_ascii : (b : ℕ) → is_space_or_tab b ≡ true → is_ascii_byte b ≡ true
space_ascii b space = grind (arith, nat_tests)

ending_ascii : (rest : List ℕ) (ending : ℕ) → line_ending rest ≡ Some ending
    → (ending ≤ length rest) × (list_all is_ascii_byte (take ending rest) ≡ true)
ending_ascii [] ending is = (let none : 0 ≡ ending = cc in (omega (arith, none), rw (← none) refl))
ending_ascii (b ∷ bs) ending is = elim (cases_Bool (b == 10)) [
  | inl feed ↦ (
      let one : Some 1 ≡ Some ending = rw feed at is in
      let same : 1 ≡ ending = cc in
      (omega (arith, same), rw (← same) (rw (eqb-true b 10 feed) refl))
      )
  | inr no_lf ↦ elim (cases_Bool (b == 13)) [
    | inl return ↦ after_return b bs ending return (rw (no_lf, return) at is)
    | inr no_cr ↦ absurd (let none : None ≡ Some ending = rw (no_lf, no_cr) at is in cc)
  ]
]
  where
    after_return : (b : ℕ) (bs : List ℕ) (ending : ℕ) → (b == 13) ≡ true
        → cond (begins_with (λ c. c == 10) bs) (Some 2) (Some 1) ≡ Some ending
        → (ending ≤ length (b ∷ bs)) × (list_all is_ascii_byte (take ending (b ∷ bs)) ≡ true)
    after_return b [] ending return is =
        (let same : 1 ≡ ending = cc in (omega (arith, same), rw (← same) (rw (eqb-true b 13 return) refl)))
    after_return b (c ∷ bs) ending return is = elim (cases_Bool (c == 10)) [
      | inl feed ↦ (
          let two : Some 2 ≡ Some ending = rw feed at is in
          let same : 2 ≡ ending = cc in
          (omega (arith, same), rw (← same) (rw (eqb-true b 13 return, eqb-true c 10 feed) refl))
          )
      | inr other ↦ (
          let one : Some 1 ≡ Some ending = rw other at is in
          let same : 1 ≡ ending = cc in
          (omega (arith, same), rw (← same) (rw (eqb-true b 13 return) refl))
          )
    ]

-- ASCII bytes after an ASCII front
front_longer : (text : List ℕ) (m n : ℕ) → IsAsciiFront text m → IsAsciiFront (drop m text) n → IsAsciiFront text (m + n)
front_longer text m n front further = (
  omega (arith, front.0, further.0, length-drop m text),
  ap (list_all is_ascii_byte) (take-add m n text)
      ∙ (list_all-append is_ascii_byte (take m text) (take n (drop m text)) ∙ rw (front.1, further.1) refl),
)

spaces_front : (text : List ℕ) → IsAsciiFront text (prefix_len is_space_or_tab text)
spaces_front text = (
  omega (arith, length-prefix_len is_space_or_tab text, length-take (prefix_len is_space_or_tab text) text),
  list_all-implies is_space_or_tab is_ascii_byte space_ascii (take (prefix_len is_space_or_tab text) text)
      (list_all-prefix is_space_or_tab text),
)

optional_ending : (rest : List ℕ) → IsAsciiFront rest (unwrap_or (line_ending rest) 0)
optional_ending rest = by rest (line_ending rest) refl
  where
    by : (rest : List ℕ) (found : Option ℕ) → line_ending rest ≡ found → IsAsciiFront rest (unwrap_or found 0)
    by rest None is = (omega arith, refl)
    by rest (Some ending) is = ending_ascii rest ending is

pub cut_after_gap : (text : List ℕ) (n : ℕ) → n ≡ gap_length text → IsUtf8 text → IsCharBoundary text n
cut_after_gap text n is utf8 =
    let s = prefix_len is_space_or_tab text in
    let e = unwrap_or (line_ending (drop s text)) 0 in
    let first = front_longer text s e (spaces_front text) (optional_ending (drop s text)) in
    cut_after_front text n utf8 (subst (IsAsciiFront text) (sym is)
    (front_longer text (s + e) (prefix_len is_space_or_tab (drop (s + e) text)) first (spaces_front (drop (s + e) text))))

pub cut_after_rest : (text : List ℕ) (s ending : ℕ) → s ≡ prefix_len is_space_or_tab text
    → Some ending ≡ line_ending (take (length text - s) (drop s text)) → IsUtf8 text → IsCharBoundary text (s + ending)
cut_after_rest text s ending run ends utf8 =
    cut_after_front text (s + ending) utf8
    (front_longer text s ending (subst (IsAsciiFront text) (sym run) (spaces_front text))
    (ending_ascii (drop s text) ending (sym (ends ∙ ap line_ending (from_offset text s)))))
