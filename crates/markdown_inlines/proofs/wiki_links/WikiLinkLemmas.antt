-- The head of a wikilink is one, stands in the text, and may be cut from it.
use Rattle.std.proofs.Common.{ℕ, List, ◌≡◌, ◌+◌, ◌-◌, ◌<◌, ◌≤◌, ◌∙◌, true, inl, inr, length, drop, get_or, sym, ap, subst}
use Rattle.std.proofs.Common.{arith, add-zero}
use Rattle.std.specs.Prelude.{codes}
use Rattle.std.specs.List.{prefix_len}
use Rattle.std.specs.Str.{IsUtf8, IsCharBoundary}
use Rattle.std.specs.declared.ops.Range.{Range}
use Rattle.memchr.specs.Find.{occurs_at}
use Rattle.memchr.proofs.lemmas.MatchLemmas.{OccursAt-true}
use Rattle.markdown_scanners_tree.proofs.ForCallers.{cut_after_ascii}
use Rattle.markdown_scanners_tree.specs.scanners.reference_definitions.ReferenceDefinition.{IsCutAt}
use Rattle.markdown_inlines.specs.WikiLinks.{is_target_byte, IsHeadEnd, IsHead, IsOpenerEnd}
use Rattle.markdown_values.specs.declared.values.extensions.Extensions.{Extensions}
use Rattle.markdown_inlines.proofs.link_tails.OneLinkTail.{same_range}

-- the byte that stands where some bytes occur
first_byte : (text bytes : List ℕ) (offset : ℕ) → occurs_at text bytes offset ≡ true → 0 < length bytes
    → get_or text offset 0 ≡ get_or bytes 0 0
first_byte text bytes offset occurs some =
    ap (λ k. get_or text k 0) (sym (add-zero offset)) ∙ (OccursAt-true text bytes offset occurs).reads 0 some

one_head_end : (text : List ℕ) (offset end end' : ℕ) → IsHeadEnd text offset end → IsHeadEnd text offset end' → end ≡ end'
one_head_end text offset end end' (inl is) (inl is') = is.1 ∙ sym is'.1
one_head_end text offset end end' (inr is) (inr is') = is.1 ∙ sym is'.1
one_head_end text offset end end' (inl is) (inr is') =
    absurd (omega (
      arith,
      first_byte text (codes "|") offset is.0 (omega arith),
      first_byte text (codes "]]") offset is'.0 (omega arith),
    ))
one_head_end text offset end end' (inr is) (inl is') =
    absurd (omega (
      arith,
      first_byte text (codes "]]") offset is.0 (omega arith),
      first_byte text (codes "|") offset is'.0 (omega arith),
    ))

-- one head stands at an offset
pub one_head : (text : List ℕ) (offset : ℕ) (target target' : Range ℕ) (end end' : ℕ) → IsHead text offset target end
    → IsHead text offset target' end' → (target ≡ target') × (end ≡ end')
one_head text offset target target' end end' is is' =
    let starts : target.start ≡ target'.start = is.begins ∙ sym is'.begins in
    let ends : target.end ≡ target'.end =
    is.longest ∙ (ap (λ n. n + prefix_len is_target_byte (drop n text)) starts ∙ sym is'.longest) in
    let moved = subst (λ n. IsHeadEnd text n end') (sym ends) is'.ends in
    (same_range starts ends, one_head_end text target.end end end' is.ends moved)

pub one_opener_end : (asked : Extensions) (text : List ℕ) (offset end end' : ℕ) → IsOpenerEnd asked text offset end
    → IsOpenerEnd asked text offset end' → end ≡ end'
one_opener_end asked text offset end end' (inl is) (inl is') = (one_head text offset is.1 is'.1 end end' is.2 is'.2).1
one_opener_end asked text offset end end' (inl is) (inr is') = absurd (is'.0 is.0 is.1 end is.2)
one_opener_end asked text offset end end' (inr is) (inl is') = absurd (is.0 is'.0 is'.1 end' is'.2)
one_opener_end asked text offset end end' (inr is) (inr is') = is.1 ∙ sym is'.1

-- ---- where it ends

pub record EndsWithin (text : List ℕ) (offset : ℕ) (target : Range ℕ) (end : ℕ) : Type 0 where
  pub later : offset + 2 < end
  pub within : end ≤ length text
  pub cut : IsUtf8 text → IsCharBoundary text end
  pub source : IsUtf8 text → IsCutAt text target

-- a text may be cut before an ASCII byte
cut_before : (text : List ℕ) (offset : ℕ) → offset ≤ length text → get_or text offset 0 < 128 → IsCharBoundary text offset
cut_before text offset within low = (within, λ inside high. absurd (omega (arith, low, high)))

target_cut : (text : List ℕ) (offset : ℕ) (target : Range ℕ) (end : ℕ) → IsHead text offset target end → target.end ≤ length text
    → get_or text target.end 0 < 128 → IsUtf8 text → IsCutAt text target
target_cut text offset target end is within low utf8 =
    let brackets = OccursAt-true text (codes "[[") offset is.brackets in
    let index : target.start - 1 ≡ offset + 1 = omega (arith, is.begins) in
    let last : get_or text (target.start - 1) 0 ≡ 91 = ap (λ k. get_or text k 0) index ∙ brackets.reads 1 (omega arith) in (
      cut_after_ascii text target.start utf8 (omega (arith, is.begins, brackets.fits)) (omega (arith, is.begins)) (omega (arith, last)),
      cut_before text target.end within low,
    )

pub head_ends : (text : List ℕ) (offset : ℕ) (target : Range ℕ) (end : ℕ) → IsHead text offset target end → EndsWithin text offset target end
head_ends text offset target end is = elim is.ends [
  | inl pipe ↦
      let occurs = OccursAt-true text (codes "|") target.end pipe.0 in
      let first = first_byte text (codes "|") target.end pipe.0 (omega arith) in
      let index : end - 1 ≡ target.end = omega (arith, pipe.1) in
      let last : get_or text (end - 1) 0 ≡ 124 = ap (λ k. get_or text k 0) index ∙ first in
      let within : end ≤ length text = omega (arith, occurs.fits, pipe.1) in record {
        later = omega (arith, is.begins, is.some, pipe.1);
        within = within;
        cut = λ utf8. cut_after_ascii text end utf8 within (omega (arith, pipe.1)) (omega (arith, last));
        source = target_cut text offset target end is (omega (arith, within, pipe.1)) (omega (arith, first));
      }
  | inr brackets ↦
      let occurs = OccursAt-true text (codes "]]") target.end brackets.0 in
      let first = first_byte text (codes "]]") target.end brackets.0 (omega arith) in
      let low : get_or text target.end 0 < 128 = omega (arith, first) in
      let inside : target.end ≤ length text = omega (arith, occurs.fits) in record {
        later = omega (arith, is.begins, is.some, brackets.1);
        within = omega (arith, inside, brackets.1);
        cut = λ utf8. subst (IsCharBoundary text) (sym brackets.1) (cut_before text target.end inside low);
        source = target_cut text offset target end is inside low;
      }
]

-- an opener ends after its left bracket
pub opener_later : (asked : Extensions) (text : List ℕ) (offset end : ℕ) → IsOpenerEnd asked text offset end → offset < end
opener_later asked text offset end (inl is) = omega (arith, (head_ends text offset is.1 end is.2).later)
opener_later asked text offset end (inr is) = omega (arith, is.1)

-- a text may be cut after two right brackets
pub closed_cut : (text : List ℕ) (close : ℕ) → occurs_at text (codes "]]") close ≡ true → IsUtf8 text → IsCharBoundary text (close + 2)
closed_cut text close closes utf8 =
    let occurs = OccursAt-true text (codes "]]") close closes in
    let index : close + 2 - 1 ≡ close + 1 = omega arith in
    let last : get_or text (close + 2 - 1) 0 ≡ 93 = ap (λ k. get_or text k 0) index ∙ occurs.reads 1 (omega arith) in
    cut_after_ascii text (close + 2) utf8 (omega (arith, occurs.fits)) (omega arith) (omega (arith, last))
