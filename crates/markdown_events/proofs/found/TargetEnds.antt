-- A text may be cut where a link ends: what it leads to ends with an ASCII byte.
use Rattle.std.proofs.Common.{ℕ, true, List, ◌∷◌, ◌≡◌, ◌+◌, ◌-◌, ◌∙◌, length, drop, inl, inr, sym, ap, subst, arith}
use Rattle.std.proofs.Common.{codes, get_or, Option, Some, None, false}
use Rattle.std.specs.Str.{IsUtf8, IsCharBoundary}
use Rattle.std.specs.declared.ops.Range.{Range}
use Rattle.std.proofs.lemmas.List.{get_or-drop, length-drop}
use Rattle.memchr.specs.Find.{occurs_at}
use Rattle.memchr.proofs.lemmas.MatchLemmas.{OccursAt-true}
use Rattle.markdown_scanners_tree.specs.NoSkips.{SkipsNothing}
use Rattle.markdown_scanners_tree.proofs.ForCallers.{cut_after_ascii}
use Rattle.markdown_inlines.specs.LinkTails.{IsClosing, IsLinkTail, IsTailEnd}
use Rattle.markdown_inlines.specs.Links.{IsLabelAt, IsTarget, Known, most_parentheses}
use Rattle.markdown_inlines.specs.declared.link_tails.LinkTail.{LinkTail}
use Rattle.markdown_inlines.specs.declared.links.Link.{Link}
use Rattle.markdown_inlines.specs.declared.links.LinkTarget.{LinkTarget}
use Rattle.markdown_inlines.specs.declared.links.LinkTarget.TheVariants.{Inline as Within, Full, Collapsed, Shortcut, Wiki}
use Rattle.markdown_events.specs.Found.{IsAimed}
use Rattle.markdown_events.proofs.found.LabelEnds.{EndsLow, label_ends, low_byte}
use Rattle.markdown_events.proofs.found.PieceFacts.{byte_after}

-- after so many bytes
low_after : (text : List ℕ) (offset n : ℕ) → EndsLow (drop offset text) n → EndsLow text (offset + n)
low_after text offset n is =
    let some = is.some in
    let within = is.within in
    let size = length-drop offset text in
    let at : offset + n - 1 ≡ offset + (n - 1) = omega (arith, some) in record {
      some = omega (arith, some);
      within = omega (arith, some, within, size);
      low = omega (arith, is.low, ap (λ k. get_or text k 0) at, get_or-drop offset text (n - 1) 0);
    }

closing_low : (text : List ℕ) (n : ℕ) → IsClosing text n → EndsLow text n
closing_low text n is =
    let byte : get_or text (length is.gap) 0 ≡ 41 =
    ap (λ (t : List ℕ). get_or t (length is.gap) 0) is.parts ∙ byte_after is.gap 41 is.rest in
    subst (EndsLow text) (sym is.counted) (low_byte text (length is.gap) 41 byte (omega arith) (omega arith))

tail_end_low : (text : List ℕ) (offset : ℕ) (title : Option (Range ℕ)) (len : ℕ) → IsTailEnd text offset title len → EndsLow text len
tail_end_low text offset None len is =
    subst (EndsLow text) (sym is.len_is) (low_after text offset is.closing (closing_low (drop offset text) is.closing is.closes))
tail_end_low text offset (Some title) len is =
    subst (EndsLow text) (sym is.len_is) (low_after text (title.end + 1) is.closing (closing_low (drop (title.end + 1) text) is.closing is.closes))

tail_low : (most : ℕ) (text : List ℕ) (tail : LinkTail) → IsLinkTail most text tail → EndsLow text tail.len
tail_low most text tail (inl is) =
    let rest : drop 1 text ≡ is.after = ap (drop 1) is.opens in
    let end : 1 + is.closing ≡ tail.len = omega (arith, is.len_is) in
    subst (EndsLow text) end
    (low_after text 1 is.closing (subst (λ (t : List ℕ). EndsLow t is.closing) (sym rest) (closing_low is.after is.closing is.closes)))
tail_low most text tail (inr is) = tail_end_low text (1 + length is.gap + is.taken) tail.title tail.len is.ends

label_at_low : (text : List ℕ) (from close : ℕ) (name : List ℕ) → IsLabelAt text from close name → EndsLow text (close + 1)
label_at_low text from close name is =
    subst (EndsLow text) is.closed (low_after text from is.label.len (label_ends SkipsNothing (drop from text) false is.label is.is_label))

-- two brackets stand there
brackets_low : (text : List ℕ) (offset first : ℕ) → occurs_at text (first ∷ codes "]") offset ≡ true → EndsLow text (offset + 2)
brackets_low text offset first is =
    let occurs = OccursAt-true text (first ∷ codes "]") offset is in
    let last : get_or text (offset + 1) 0 ≡ 93 = occurs.reads 1 (omega arith) in
    subst (EndsLow text) (let same : offset + 1 + 1 ≡ offset + 2 = omega arith in same)
    (low_byte text (offset + 1) 93 last (omega arith) (omega arith))

target_low : (text : List ℕ) (known : Known) (from close : ℕ) (target : LinkTarget) (end : ℕ) → IsTarget text known from close target end
    → EndsLow text end
target_low text known from close (Within destination title) end is =
    subst (EndsLow text) (sym is.3) (low_after text (close + 1) is.0.len (tail_low most_parentheses (drop (close + 1) text) is.0 is.1))
target_low text known from close (Full label) end is =
    let full = is.1 in
    subst (EndsLow text) (let same : full.bracket + 1 ≡ end = omega (arith, full.ends, is.2) in same)
    (label_at_low text (close + 1 + 1) full.bracket full.known_after.1.0 full.known_after.1.1)
target_low text known from close Collapsed end is =
    subst (EndsLow text) (let same : close + 1 + 2 ≡ end = omega (arith, is.4) in same) (brackets_low text (close + 1) 91 is.2)
target_low text known from close Shortcut end is = subst (EndsLow text) (sym is.4) (label_at_low text from close is.3.0 is.3.1)
target_low text known from close (Wiki range) end is = absurd is

-- a text may be cut after an ASCII byte
cut_low : (text : List ℕ) (n : ℕ) → IsUtf8 text → EndsLow text n → IsCharBoundary text n
cut_low text n utf8 is = cut_after_ascii text n utf8 is.within is.some is.low

-- and so where a link ends
pub aimed_end : (text : List ℕ) (known : Known) (it : Link) → IsUtf8 text → IsAimed text known it → IsCharBoundary text it.source.end
aimed_end text known it utf8 (inl is) =
    cut_low text it.source.end utf8 (target_low text known it.text.start it.text.end it.target it.source.end is)
aimed_end text known it utf8 (inr (range, same, head, closes, end)) =
    cut_low text it.source.end utf8 (subst (EndsLow text) (sym end) (brackets_low text it.text.end 93 closes))
