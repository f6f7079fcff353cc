-- A text begins with one link tail at most.
use Rattle.std.proofs.Common.{◌≡◌, ℕ, ◌+◌, List, ◌∷◌, drop, length, sym, ap, subst, ◌∙◌, refl, arith, inl, inr, Option}
use Rattle.std.proofs.Common.{Some, None}
use Rattle.std.specs.declared.ops.Range.{Range}
use Rattle.markdown_scanners_tree.specs.scanners.links.LinkDestination.{IsLinkDestination}
use Rattle.markdown_scanners_tree.specs.scanners.titles.LinkTitle.{closing_of}
use Rattle.markdown_scanners_tree.specs.scanners.reference_definitions.ReferenceDefinition.{bracket_count}
use Rattle.markdown_scanners_tree.specs.scanners.reference_definitions.private.GapLength.{gap_length}
use Rattle.markdown_scanners_tree.proofs.ForCallers.{one_destination, one_separated_title, one_gap, destination_solid, title_solid}
use Rattle.markdown_inlines.specs.LinkTails.{IsClosing, IsTitledEnd, IsTailEnd, IsEmptyTail, IsFilledTail, IsLinkTail}
use Rattle.markdown_inlines.specs.declared.link_tails.LinkTail.{LinkTail}
use Rattle.markdown_inlines.proofs.link_tails.LinkTailLemmas.{closing_only, closing_solid, no_destination}

pub same_range : {a b : Range ℕ} → a.start ≡ b.start → a.end ≡ b.end → a ≡ b
same_range start end = λ i. record { start = start i; end = end i }

same_tail : {a b : LinkTail} → a.destination ≡ b.destination → a.title ≡ b.title → a.len ≡ b.len → a ≡ b
same_tail destination title len = λ i. record { destination = destination i; title = title i; len = len i }

pub one_closing : (text : List ℕ) (n n' : ℕ) → IsClosing text n → IsClosing text n' → n ≡ n'
one_closing text n n' is is' =
    (closing_only text (gap_length text) refl n is).0 ∙ sym (closing_only text (gap_length text) refl n' is').0

one_titled_end : (text : List ℕ) (offset : ℕ) (title : Range ℕ) (len : ℕ) (title' : Range ℕ) (len' : ℕ)
    → IsTitledEnd text offset title len → IsTitledEnd text offset title' len' → (title ≡ title') × (len ≡ len')
one_titled_end text offset title len title' len' is is' =
    let same = one_separated_title text offset title title' is.is_titled is'.is_titled in
    let end : title.end ≡ title'.end = ap (λ (t : Range ℕ). t.end) same in
    let closing =
    one_closing (drop (title.end + 1) text) is.closing is'.closing is.closes
    (subst (λ n. IsClosing (drop (n + 1) text) is'.closing) (sym end) is'.closes) in
    (same, omega (arith, is.len_is, is'.len_is, end, closing))

-- a title does not begin with what closes the tail
closes_no_title : (text : List ℕ) (offset : ℕ) (title : Range ℕ) (len n : ℕ) → IsTitledEnd text offset title len
    → IsClosing (drop offset text) n → ⊥
closes_no_title text offset title len n is closes =
    let titled = is.is_titled in
    let gap =
    one_gap (drop offset text) titled.gap titled.rest closes.gap (41 ∷ closes.rest) titled.parts closes.parts titled.is_gap
    closes.is_gap (title_solid titled.rest titled.taken titled.is_title) (closing_solid closes.rest) in
    let front : titled.is_title.opening ∷ titled.is_title.after ≡ 41 ∷ closes.rest = sym titled.is_title.opens ∙ gap.1 in
    let byte : titled.is_title.opening ≡ 41 = cc in
    let none : None ≡ Some titled.is_title.closing =
    subst (λ b. closing_of b ≡ Some titled.is_title.closing) byte titled.is_title.matching in
    cc

one_tail_end : (text : List ℕ) (offset : ℕ) (title title' : Option (Range ℕ)) (len len' : ℕ) → IsTailEnd text offset title len
    → IsTailEnd text offset title' len' → (title ≡ title') × (len ≡ len')
one_tail_end text offset None None len len' is is' =
    let closing = one_closing (drop offset text) is.closing is'.closing is.closes is'.closes in
    (refl, omega (arith, is.len_is, is'.len_is, closing))
one_tail_end text offset None (Some title') len len' is is' = absurd (closes_no_title text offset title' len' is.closing is' is.closes)
one_tail_end text offset (Some title) None len len' is is' = absurd (closes_no_title text offset title len is'.closing is is'.closes)
one_tail_end text offset (Some title) (Some title') len len' is is' =
    let same = one_titled_end text offset title len title' len' is is' in
    (ap (λ t. Some t) same.0, same.1)

one_filled : (most : ℕ) (text : List ℕ) (tail tail' : LinkTail) → IsFilledTail most text tail → IsFilledTail most text tail' → tail ≡ tail'
one_filled most text tail tail' is is' =
    let after : is'.after ≡ is.after = ap (drop 1) (sym is'.opens ∙ is.opens) in
    let gap =
    one_gap is.after is.gap is.rest is'.gap is'.rest is.parts (sym after ∙ is'.parts) is.is_gap is'.is_gap
    (destination_solid most is.rest is.taken is.raw is.is_destination is.some)
    (destination_solid most is'.rest is'.taken is'.raw is'.is_destination is'.some) in
    let found =
    one_destination most is.rest is.taken is.raw is'.taken is'.raw is.is_destination
    (subst (λ t. IsLinkDestination most t is'.taken is'.raw) (sym gap.1) is'.is_destination) in
    let taken : is.taken ≡ is'.taken = ap (λ (r : ℕ × List ℕ). r.0) found in
    let bracket : bracket_count is.rest ≡ bracket_count is'.rest = ap bracket_count gap.1 in
    let offset : 1 + length is.gap + is.taken ≡ 1 + length is'.gap + is'.taken = omega (arith, gap.0, taken) in
    let end =
    one_tail_end text (1 + length is'.gap + is'.taken) tail.title tail'.title tail.len tail'.len
    (subst (λ p. IsTailEnd text p tail.title tail.len) offset is.ends) is'.ends in
    same_tail
    (same_range (omega (arith, is.destination_begins, is'.destination_begins, gap.0, bracket))
    (omega (arith, is.destination_ends, is'.destination_ends, offset, bracket)))
    end.0 end.1

one_empty : (text : List ℕ) (tail tail' : LinkTail) → IsEmptyTail text tail → IsEmptyTail text tail' → tail ≡ tail'
one_empty text tail tail' is is' =
    let after : is'.after ≡ is.after = ap (drop 1) (sym is'.opens ∙ is.opens) in
    let closing = one_closing is.after is.closing is'.closing is.closes (subst (λ t. IsClosing t is'.closing) after is'.closes) in
    same_tail
    (same_range (omega (arith, is.destination_begins, is'.destination_begins, closing))
    (omega (arith, is.destination_ends, is'.destination_ends, closing)))
    (is.untitled ∙ sym is'.untitled) (omega (arith, is.len_is, is'.len_is, closing))

not_both : (most : ℕ) (text : List ℕ) (tail tail' : LinkTail) → IsEmptyTail text tail → IsFilledTail most text tail' → ⊥
not_both most text tail tail' is is' =
    let after : is.after ≡ is'.after = ap (drop 1) (sym is.opens ∙ is'.opens) in
    let gap =
    one_gap is'.after is'.gap is'.rest is.closes.gap (41 ∷ is.closes.rest) is'.parts (sym after ∙ is.closes.parts) is'.is_gap
    is.closes.is_gap (destination_solid most is'.rest is'.taken is'.raw is'.is_destination is'.some) (closing_solid is.closes.rest) in
    no_destination most is.closes.rest is'.taken is'.raw (subst (λ t. IsLinkDestination most t is'.taken is'.raw) gap.1 is'.is_destination) is'.some

pub one_link_tail : (most : ℕ) (text : List ℕ) (tail tail' : LinkTail) → IsLinkTail most text tail → IsLinkTail most text tail' → tail ≡ tail'
one_link_tail most text tail tail' (inl is) (inl is') = one_empty text tail tail' is is'
one_link_tail most text tail tail' (inl is) (inr is') = absurd (not_both most text tail tail' is is')
one_link_tail most text tail tail' (inr is) (inl is') = absurd (not_both most text tail' tail is' is)
one_link_tail most text tail tail' (inr is) (inr is') = one_filled most text tail tail' is is'
