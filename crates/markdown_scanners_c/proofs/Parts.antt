-- Parts of what stands in bytes from an offset on. (CommonMark 0.31.2, sections 6.1, code spans, 6.3, links, and 6.5,
-- autolinks)
use Rattle.std.proofs.Common.{ℕ, List, ◌≡◌, ◌≤◌, ◌+◌, ◌-◌, ◌⊎◌, inl, inr, drop, take, get_or, length, arith, refl, ap, subst, ◌∙◌}
use Rattle.std.proofs.lemmas.List.{drop-drop}
use Rattle.std.proofs.lemmas.Str.{IsCharBoundary-after_ascii, IsCharBoundary-before_ascii}
use Rattle.std.specs.Prelude.{slice_range}
use Rattle.std.specs.Str.{IsUtf8, IsCharBoundary}
use Rattle.markdown_scanners_tree.specs.Ascii.{backtick}
use Rattle.markdown_scanners_tree.specs.scanners.links.LinkDestination.{IsLinkDestination, StandsInside}
use Rattle.markdown_scanners_tree.proofs.ForCallers.{offset_of_rest}
use Rattle.markdown_inlines.specs.CodeSpans.{IsCodeSpan, IsBacktickString}
use Rattle.markdown_inlines.specs.declared.code_spans.CodeSpan.{CodeSpan}
use Rattle.markdown_scanners_c.specs.TextPlace.{IsTextPlace}

-- where its own bytes stand
pub stands_from : (start taken from to : ℕ) → from ≤ to → StandsInside taken from to
    → ((start + from ≡ start) × (start + taken ≡ start + (to - from)))
    ⊎ ((start + from ≡ start + 1) × (start + taken ≡ start + (to - from) + 2))
stands_from start taken from to ordered (inl (begins, ends)) = inl (omega (arith, begins), omega (arith, begins, ends))
stands_from start taken from to ordered (inr (begins, ends)) =
    inr (omega (arith, begins), omega (arith, begins, ends, ordered))

-- a destination
pub destination_at : (most start taken from to : ℕ) (bytes rest : List ℕ) → rest ≡ drop start bytes
    → IsLinkDestination most rest taken (slice_range rest from to)
    → IsLinkDestination most (drop start bytes) (start + taken - start) (take (to - from) (drop (start + from) bytes))
destination_at most start taken from to bytes rest same found =
    let own : slice_range rest from to ≡ take (to - from) (drop (start + from) bytes) =
    ap (take (to - from)) (ap (drop from) same ∙ drop-drop from start bytes) in
    let count : taken ≡ start + taken - start = omega arith in
    subst (λ n. IsLinkDestination most (drop start bytes) n (take (to - from) (drop (start + from) bytes))) count
    (subst (λ t. IsLinkDestination most t taken (take (to - from) (drop (start + from) bytes))) same
    (subst (IsLinkDestination most rest taken) own found))

-- An offset between two characters of what stands from such an offset of a text on is one of the text.
pub offset_in : (start : ℕ) (bytes rest : List ℕ) → rest ≡ drop start bytes → IsTextPlace bytes start → (n offset : ℕ)
    → start + n ≡ offset → (IsUtf8 rest → IsCharBoundary rest n) → IsCharBoundary bytes offset
offset_in start bytes rest same (utf8, at_start) n offset counted at =
    subst (IsCharBoundary bytes) counted (offset_of_rest rest bytes start n same utf8 (λ some. at_start) at)

-- both ends of a destination's own bytes, and the end of all that it takes
pub cut_destination : (start taken from to : ℕ) (bytes rest : List ℕ) → rest ≡ drop start bytes
    → IsTextPlace bytes start → from ≤ to → (IsUtf8 rest → IsCharBoundary rest from)
    → (IsUtf8 rest → IsCharBoundary rest to) → (IsUtf8 rest → IsCharBoundary rest taken)
    → IsCharBoundary bytes (start + from) × IsCharBoundary bytes (start + from + (to - from))
    × IsCharBoundary bytes (start + taken)
cut_destination start taken from to bytes rest same text ordered begins ends after = (
  offset_in start bytes rest same text from (start + from) refl begins,
  offset_in start bytes rest same text to (start + from + (to - from)) (omega (arith, ordered)) ends,
  offset_in start bytes rest same text taken (start + taken) refl after,
)

-- both ends of a title's own bytes, and the end of all that it takes
pub cut_title : (start taken : ℕ) (bytes rest : List ℕ) → rest ≡ drop start bytes → IsTextPlace bytes start
    → 2 ≤ taken → (IsUtf8 rest → IsCharBoundary rest 1) → (IsUtf8 rest → IsCharBoundary rest (taken - 1))
    → (IsUtf8 rest → IsCharBoundary rest taken)
    → IsCharBoundary bytes (start + 1) × IsCharBoundary bytes (start + 1 + (taken - 2))
    × IsCharBoundary bytes (start + taken)
cut_title start taken bytes rest same text two begins ends after = (
  offset_in start bytes rest same text 1 (start + 1) refl begins,
  offset_in start bytes rest same text (taken - 1) (start + 1 + (taken - 2)) (omega (arith, two)) ends,
  offset_in start bytes rest same text taken (start + taken) refl after,
)

-- both ends of n bytes before a closing byte, and the offset after that
pub cut_closed : (start n : ℕ) (bytes rest : List ℕ) → rest ≡ drop start bytes → IsTextPlace bytes start
    → (IsUtf8 rest → IsCharBoundary rest n) → (IsUtf8 rest → IsCharBoundary rest (n + 1))
    → IsCharBoundary bytes start × IsCharBoundary bytes (start + n) × IsCharBoundary bytes (start + n + 1)
cut_closed start n bytes rest same text before after = (
  text.1,
  offset_in start bytes rest same text n (start + n) refl before,
  offset_in start bytes rest same text (n + 1) (start + n + 1) (omega arith) after,
)

-- a text may be cut after a backtick string
after_string : (text : List ℕ) (offset n : ℕ) → IsBacktickString text offset n → offset + n ≤ length text → IsUtf8 text
    → IsCharBoundary text (offset + n)
after_string text offset n is inside utf8 =
    let last = is.backticks (n - 1) (omega (arith, is.some)) in
    subst (IsCharBoundary text) (omega (arith, is.some))
    (IsCharBoundary-after_ascii text (offset + (n - 1)) utf8 (omega (arith, is.some, inside)) (omega (arith, last)))

-- both ends of a code span's content, and its own end
pub cut_code : (start : ℕ) (span : CodeSpan) (bytes rest : List ℕ) → rest ≡ drop start bytes → IsTextPlace bytes start
    → IsCodeSpan rest span → span.len ≤ length rest
    → IsCharBoundary bytes (start + span.content.start)
    × IsCharBoundary bytes (start + span.content.start + (span.content.end - span.content.start))
    × IsCharBoundary bytes (start + span.len)
cut_code start span bytes rest same text is inside =
    let opens : IsUtf8 rest → IsCharBoundary rest span.content.start = λ utf8.
    subst (IsCharBoundary rest) (omega arith)
    (after_string rest 0 span.content.start is.opens (omega (arith, is.counted, inside)) utf8) in
    let first : get_or rest span.content.end 0 ≡ backtick =
    subst (λ k. get_or rest k 0 ≡ backtick) (omega arith) (is.closes.backticks 0 is.closes.some) in
    let closes : IsCharBoundary rest span.content.end =
    IsCharBoundary-before_ascii rest span.content.end (omega (arith, is.counted, is.closes.some, inside))
    (omega (arith, first)) in
    let ends : IsUtf8 rest → IsCharBoundary rest span.len = λ utf8.
    subst (IsCharBoundary rest) (omega (arith, is.counted))
    (after_string rest span.content.end span.content.start is.closes (omega (arith, is.counted, inside)) utf8) in (
      offset_in start bytes rest same text span.content.start (start + span.content.start) refl opens,
      offset_in start bytes rest same text span.content.end _ (omega (arith, is.in_order)) (λ utf8. closes),
      offset_in start bytes rest same text span.len (start + span.len) refl ends,
    )
