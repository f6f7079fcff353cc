-- A text begins with one link reference definition at most.
use Rattle.std.proofs.Common.{◌≡◌, ℕ, ◌+◌, List, drop, sym, ap, subst, ◌∙◌, refl, arith, Option, Some, None}
use Rattle.std.specs.declared.ops.Range.{Range}
use Rattle.markdown_scanners_tree.specs.declared.scanners.reference_definitions.ReferenceDefinition.{ReferenceDefinition}
use Rattle.markdown_scanners_tree.specs.linklabel.Length.{IsLabelLength}
use Rattle.markdown_scanners_tree.specs.scanners.links.LinkDestination.{IsLinkDestination}
use Rattle.markdown_scanners_tree.specs.scanners.titles.LinkTitle.{IsLinkTitle}
use Rattle.markdown_scanners_tree.specs.scanners.reference_definitions.ReferenceDefinition.{IsRestOfLine, IsLabelWithColon, bracket_count, IsTarget}
use Rattle.markdown_scanners_tree.specs.scanners.reference_definitions.ReferenceDefinition.{IsSeparatedTitle, IsTitleLine, IsEnd, IsReferenceDefinition}
use Rattle.markdown_scanners_tree.proofs.linklabel.LabelLengths.{one_label_length}
use Rattle.markdown_scanners_tree.proofs.scanners.links.OneDestination.{one_destination}
use Rattle.markdown_scanners_tree.proofs.scanners.titles.OneTitle.{one_title}
use Rattle.markdown_scanners_tree.proofs.scanners.reference_definitions.GapLemmas.{one_gap, one_rest_of_line, destination_solid, title_solid}

same_range : {a b : Range ℕ} → a.start ≡ b.start → a.end ≡ b.end → a ≡ b
same_range start end = λ i. record { start = start i; end = end i }

pub one_label_with_colon : (text : List ℕ) (n n' : ℕ) → IsLabelWithColon text n → IsLabelWithColon text n' → n ≡ n'
one_label_with_colon text n n' is is' =
    let inside : is.inside ≡ is'.inside = ap (drop 1) (sym is.opens ∙ is'.opens) in
    let same =
    one_label_length is'.inside is.label_length is'.label_length
    (subst (λ t. IsLabelLength t is.label_length) inside is.is_label) is'.is_label in
    is.counted ∙ (ap (λ k. k + 2) same ∙ sym is'.counted)

pub one_target : (most : ℕ) (text : List ℕ) (label destination : Range ℕ) (offset : ℕ) (label' destination' : Range ℕ)
    (offset' : ℕ) → IsTarget most text label destination offset → IsTarget most text label' destination' offset'
    → (label ≡ label') × (destination ≡ destination') × (offset ≡ offset')
one_target most text label destination offset label' destination' offset' is is' =
    let named = one_label_with_colon text is.named is'.named is.is_named is'.is_named in
    let gap =
    one_gap (drop is.named text) is.gap is.rest is'.gap is'.rest is.parts
    (ap (λ n. drop n text) named ∙ is'.parts) is.is_gap is'.is_gap
    (destination_solid most is.rest is.taken is.raw is.is_destination is.some)
    (destination_solid most is'.rest is'.taken is'.raw is'.is_destination is'.some) in
    let found =
    one_destination most is.rest is.taken is.raw is'.taken is'.raw is.is_destination
    (subst (λ t. IsLinkDestination most t is'.taken is'.raw) (sym gap.1) is'.is_destination) in
    let taken : is.taken ≡ is'.taken = ap (λ (r : ℕ × List ℕ). r.0) found in
    let bracket : bracket_count is.rest ≡ bracket_count is'.rest = ap bracket_count gap.1 in
    let same : offset ≡ offset' = omega (arith, is.offset_is, is'.offset_is, named, gap.0, taken) in (
      same_range (is.label_begins ∙ sym is'.label_begins) (omega (arith, is.label_ends, is'.label_ends, named)),
      same_range (omega (arith, is.destination_begins, is'.destination_begins, named, gap.0, bracket))
          (omega (arith, is.destination_ends, is'.destination_ends, same, bracket)),
      same,
    )

pub one_separated_title : (text : List ℕ) (offset : ℕ) (title title' : Range ℕ) → IsSeparatedTitle text offset title
    → IsSeparatedTitle text offset title' → title ≡ title'
one_separated_title text offset title title' is is' =
    let gap =
    one_gap (drop offset text) is.gap is.rest is'.gap is'.rest is.parts is'.parts is.is_gap is'.is_gap
    (title_solid is.rest is.taken is.is_title) (title_solid is'.rest is'.taken is'.is_title) in
    let taken =
    one_title is.rest is.taken is'.taken is.is_title (subst (λ t. IsLinkTitle t is'.taken) (sym gap.1) is'.is_title) in
    same_range (omega (arith, is.title_begins, is'.title_begins, gap.0))
    (omega (arith, is.title_ends, is'.title_ends, gap.0, taken))

pub one_title_line : (text : List ℕ) (offset : ℕ) (title : Range ℕ) (len : ℕ) (title' : Range ℕ) (len' : ℕ)
    → IsTitleLine text offset title len → IsTitleLine text offset title' len' → (title ≡ title') × (len ≡ len')
one_title_line text offset title len title' len' is is' =
    let same = one_separated_title text offset title title' is.is_titled is'.is_titled in
    let end : title.end ≡ title'.end = ap (λ (t : Range ℕ). t.end) same in
    let ending =
    one_rest_of_line (drop (title.end + 1) text) is.ending is'.ending is.nothing_further
    (subst (λ n. IsRestOfLine (drop (n + 1) text) is'.ending) (sym end) is'.nothing_further) in
    (same, omega (arith, is.len_is, is'.len_is, end, ending))

pub one_end : (text : List ℕ) (offset : ℕ) (title title' : Option (Range ℕ)) (len len' : ℕ) → IsEnd text offset title len
    → IsEnd text offset title' len' → (title ≡ title') × (len ≡ len')
one_end text offset None None len len' is is' =
    let ending = one_rest_of_line (drop offset text) is.ending is'.ending is.nothing_further is'.nothing_further in
    (refl, omega (arith, is.len_is, is'.len_is, ending))
one_end text offset None (Some title') len len' is is' = absurd (is.no_title title' len' is')
one_end text offset (Some title) None len len' is is' = absurd (is'.no_title title len is)
one_end text offset (Some title) (Some title') len len' is is' =
    let same = one_title_line text offset title len title' len' is is' in
    (ap (λ t. Some t) same.0, same.1)

-- its parts and its length
pub one_reference_definition : (most : ℕ) (text : List ℕ) (d d' : ReferenceDefinition)
    → IsReferenceDefinition most text d → IsReferenceDefinition most text d' → d ≡ d'
one_reference_definition most text d d' is is' =
    let target =
    one_target most text d.label d.destination is.offset d'.label d'.destination is'.offset is.target is'.target in
    let end =
    one_end text is'.offset d.title d'.title d.len d'.len
    (subst (λ p. IsEnd text p d.title d.len) target.2 is.ends) is'.ends in
    λ i. record { label = target.0 i; destination = target.1 i; title = end.0 i; len = end.1 i }
