-- A text begins with one list item at most.
use Rattle.std.proofs.Common.{◌≡◌, ℕ, ◌+◌, ◌-◌, cond, List, [], ◌∷◌, ◌++◌, length, take, drop, get_or, refl, sym, ap, subst, ◌∙◌, arith, append_assoc}
use Rattle.std.specs.List.{prefix_len}
use Rattle.std.specs.Str.Parse.{digits_value}
use Rattle.std.proofs.lemmas.List.{get_or-drop}
use Rattle.std.proofs.Math.Seq.{drop-append_seam, take-append_seam}
use Rattle.markdown_scanners_tree.specs.Bytes.{begins_with, is_digit}
use Rattle.markdown_scanners_tree.specs.scanners.list_items.ListMarker.{is_bullet}
use Rattle.markdown_scanners_tree.specs.scanners.list_items.ListItem.{IsListMarker, bullet, ordered, IsItemSpace, blank, indented_code, text, IsListItem}
use Rattle.markdown_scanners_tree.proofs.scanners.indent.IndentLemmas.{one_indent}
use Rattle.markdown_scanners_tree.proofs.scanners.list_items.ListItemLemmas.{marker_length, marker-length, ordered-parts}

-- the last byte of a list marker at the front, and the number that it starts at
abbrev marker_delimiter : List ℕ → ℕ
marker_delimiter bytes = get_or bytes (marker_length bytes - 1) 0

abbrev marker_start : List ℕ → ℕ
marker_start bytes =
    cond (begins_with is_bullet bytes) 0 (digits_value 10 (take (prefix_len is_digit bytes) bytes))

marker-delimiter : (marker : List ℕ) (delimiter start : ℕ) (rest : List ℕ) → IsListMarker marker delimiter start
    → delimiter ≡ marker_delimiter (marker ++ rest)
marker-delimiter marker delimiter start rest (bullet b is) = rw is refl
marker-delimiter marker delimiter start rest (ordered digits d one few all is) =
    let bytes = (digits ++ d ∷ []) ++ rest in
    let at = ordered-parts digits d rest one all is in
    let offset : length digits + 0 ≡ prefix_len is_digit bytes + 1 - 1 = omega (arith, at.1) in
    let last : d ≡ get_or bytes (length digits + 0) 0 =
    sym (ap (λ t. get_or t 0 0) at.2) ∙ get_or-drop (length digits) bytes 0 0 in
    rw at.0 (last ∙ ap (λ n. get_or bytes n 0) offset)

marker-start : (marker : List ℕ) (delimiter start : ℕ) (rest : List ℕ) → IsListMarker marker delimiter start
    → start ≡ marker_start (marker ++ rest)
marker-start marker delimiter start rest (bullet b is) = rw is refl
marker-start marker delimiter start rest (ordered digits d one few all is) =
    let bytes = (digits ++ d ∷ []) ++ rest in
    let at = ordered-parts digits d rest one all is in
    let taken : take (prefix_len is_digit bytes) bytes ≡ digits =
    ap (λ n. take n bytes) at.1
    ∙ (ap (take (length digits)) (append_assoc digits (d ∷ []) rest) ∙ take-append_seam digits (d ∷ rest)) in
    rw at.0 (ap (digits_value 10) (sym taken))

-- two markers at the front have one last byte and one number
pub one_marker : (bytes marker rest marker' rest' : List ℕ) (delimiter start delimiter' start' : ℕ)
    → bytes ≡ marker ++ rest → IsListMarker marker delimiter start → bytes ≡ marker' ++ rest'
    → IsListMarker marker' delimiter' start' → (delimiter ≡ delimiter') × (start ≡ start')
one_marker bytes marker rest marker' rest' delimiter start delimiter' start' parts is parts' is' = (
  marker-delimiter marker delimiter start rest is
      ∙ (ap marker_delimiter (sym parts ∙ parts') ∙ sym (marker-delimiter marker' delimiter' start' rest' is')),
  marker-start marker delimiter start rest is
      ∙ (ap marker_start (sym parts ∙ parts') ∙ sym (marker-start marker' delimiter' start' rest' is')),
)

-- the space after a marker that belongs to the indent
one_space : (rest : List ℕ) (offset space offset' space' : ℕ) → IsItemSpace rest offset space
    → IsItemSpace rest offset' space' → (offset ≡ offset') × (space ≡ space')
one_space rest offset space offset' space' (blank n line) (blank n' line') = (refl, refl)
one_space rest offset space offset' space' (blank n line) (indented_code p s none is deep) = absurd (none n line)
one_space rest offset space offset' space' (blank n line) (text p s none is some few) = absurd (none n line)
one_space rest offset space offset' space' (indented_code p s none is deep) (blank n line) = absurd (none n line)
one_space rest offset space offset' space' (indented_code p s none is deep) (indented_code p' s' none' is' deep') =
    (refl, refl)
one_space rest offset space offset' space' (indented_code p s none is deep) (text p' s' none' is' some few) =
    let same : s ≡ s' = ap (λ (r : ℕ × ℕ). r.1) (one_indent rest 5 (p, s) (p', s') is is') in
    absurd (omega (arith, same, deep, few))
one_space rest offset space offset' space' (text p s none is some few) (blank n line) = absurd (none n line)
one_space rest offset space offset' space' (text p s none is some few) (indented_code p' s' none' is' deep) =
    let same : s ≡ s' = ap (λ (r : ℕ × ℕ). r.1) (one_indent rest 5 (p, s) (p', s') is is') in
    absurd (omega (arith, same, deep, few))
one_space rest offset space offset' space' (text p s none is some few) (text p' s' none' is' some' few') =
    let same : ◌≡◌ {A = ℕ × ℕ} (p, s) (p', s') = one_indent rest 5 (p, s) (p', s') is is' in
    (ap (λ (r : ℕ × ℕ). r.0) same, ap (λ (r : ℕ × ℕ). r.1) same)

-- where the marker of an item ends, and what follows it
module _ (bytes : List ℕ) (n delimiter start indent : ℕ) (is : IsListItem bytes n delimiter start indent) where
  marker_ends : marker_length bytes ≡ length is.marker
  marker_ends = ap marker_length is.parts ∙ marker-length is.marker delimiter start is.rest is.is_marker

  rest_follows : is.rest ≡ drop (marker_length bytes) bytes
  rest_follows =
      sym (ap (λ k. drop k bytes) marker_ends
      ∙ (ap (drop (length is.marker)) is.parts ∙ drop-append_seam is.marker is.rest))

-- the item that a text begins with: its length, its bullet or delimiter, its start number and its indent
pub one_item : (bytes : List ℕ) (item other : ℕ × ℕ × ℕ × ℕ) → IsListItem bytes item.0 item.1 item.2 item.3
    → IsListItem bytes other.0 other.1 other.2 other.3 → item ≡ other
one_item bytes item other is is' =
    let width : length is.marker ≡ length is'.marker =
    sym (marker_ends bytes _ _ _ _ is) ∙ marker_ends bytes _ _ _ _ is' in
    let rest : is.rest ≡ is'.rest = rest_follows bytes _ _ _ _ is ∙ sym (rest_follows bytes _ _ _ _ is') in
    let spaces = one_space is'.rest is.offset is.space is'.offset is'.space
    (subst (λ r. IsItemSpace r is.offset is.space) rest is.is_space) is'.is_space in
    let long : item.0 ≡ other.0 = omega (arith, is.counted, is'.counted, width, spaces.0) in
    let marked =
    one_marker bytes is.marker is.rest is'.marker is'.rest item.1 item.2 other.1 other.2 is.parts is.is_marker is'.parts
    is'.is_marker in
    let indent : item.3 ≡ other.3 = omega (arith, is.columns_are, is'.columns_are, width, spaces.1) in
    λ i. (long i, marked.0 i, marked.1 i, indent i)
