-- A text begins with one tag at most, where its handler is steady.
use Rattle.std.proofs.Common.{ℕ, List, [], ◌∷◌, ◌++◌, ◌≡◌, ◌⊎◌, inl, inr, sym, ap, ◌∙◌, subst, append_assoc, append-nil, Option, Some, None, IfSome}
use Rattle.std.specs.Fn.{Shared}
use denote.Ref.{Bor}
use Rattle.markdown_scanners_tree.specs.Kept.{KeptByte, bytes_of, kept_text, line_endings}
use Rattle.markdown_scanners_tree.specs.Handler.{IsSteady}
use Rattle.markdown_scanners_tree.specs.scanners.html_tag.HtmlTag.{IsTagAloneInLine}
use Rattle.markdown_scanners_tree.specs.scanners.html_tag.KeptTag.{AnswersIfAny, IsKeptTag, offset_after}
use Rattle.markdown_scanners_tree.specs.scanners.tag_state.private.TagMachine.{state_after}
use Rattle.markdown_scanners_tree.specs.declared.scanners.tag_state.TagState.TheVariants.{Start}
use Rattle.markdown_scanners_tree.proofs.OneKeptText.{Extends, two_fronts, one_kept_text}
use Rattle.markdown_scanners_tree.proofs.scanners.tag_state.TagEnds.{end_is_final}
use Rattle.markdown_scanners_tree.proofs.scanners.html_tag.TagScan.{EndsTag, tag_ends, final_ends_none}
use Rattle.markdown_scanners_tree.proofs.scanners.html_tag.TagAlone.{kept_from_alone}

-- no tag goes on as another
no_longer : (tag other : List KeptByte) → EndsTag tag → EndsTag other → Extends other tag → tag ≡ other
no_longer tag other ends ends' ([], is) = sym (is ∙ append-nil tag)
no_longer tag other ends ends' (k ∷ ks, is) =
    absurd (final_ends_none tag k ks
    (end_is_final (state_after Start (bytes_of tag)) (line_endings tag) ends) (subst EndsTag is ends'))

same_tag : (tag other rest rest' : List KeptByte) → EndsTag tag → EndsTag other → tag ++ rest ≡ other ++ rest'
    → tag ≡ other
same_tag tag other rest rest' ends ends' same = elim (two_fronts tag other rest rest' same) [
  | inl more ↦ no_longer tag other ends ends' more
  | inr more ↦ sym (no_longer other tag ends' ends more)
]

-- two tags that begin kept texts of which one goes on from the other
among : (tag other rest rest' kept kept' : List KeptByte) → EndsTag tag → EndsTag other → kept ≡ tag ++ rest
    → kept' ≡ other ++ rest' → Extends kept' kept ⊎ Extends kept kept' → tag ≡ other
among tag other rest rest' kept kept' ends ends' is is' (inl more) =
    same_tag tag other (rest ++ more.0) rest' ends ends'
    (sym (append_assoc tag rest more.0) ∙ (ap (λ t. t ++ more.0) (sym is) ∙ (sym more.1 ∙ is')))
among tag other rest rest' kept kept' ends ends' is is' (inr more) =
    same_tag tag other rest (rest' ++ more.0) ends ends'
    (sym is ∙ (more.1 ∙ (ap (λ t. t ++ more.0) is' ∙ append_assoc other rest' more.0)))

module _ (answers : List ℕ → ℕ → Type 0)
    (one_answer : (rest : List ℕ) (m n : ℕ) → answers rest m → answers rest n → m ≡ n) (source : List ℕ) where
  one_kept_tag : (tag other : List KeptByte) → IsKeptTag answers source tag → IsKeptTag answers source other
      → tag ≡ other
  one_kept_tag tag other is is' =
      among tag other is.kept.rest is'.kept.rest (kept_text source is.kept.skips) (kept_text source is'.kept.skips)
      (tag_ends answers source tag is) (tag_ends answers source other is') is.kept.begins is'.kept.begins
      (one_kept_text answers one_answer 0 source is.kept.skips is'.kept.skips is.kept.answered is'.kept.answered)

-- a handler that is steady has one answer for one rest, and none has no answer
one_skip : {F : Type 0} (g : Shared F (Bor (List ℕ) × Unit {0}) ℕ) (handler : Option (Bor F))
    → IfSome handler (λ f. IsSteady g f.now) → (rest : List ℕ) (m n : ℕ) → AnswersIfAny g handler rest m
    → AnswersIfAny g handler rest n → m ≡ n
one_skip g None steady rest m n answer other = absurd answer
one_skip g (Some f) steady rest m n answer other = steady.one_answer rest m n answer other

-- the tag that a source begins with, over the lines of containers
pub one_tag : {F : Type 0} (g : Shared F (Bor (List ℕ) × Unit {0}) ℕ) (handler : Option (Bor F)) (source : List ℕ)
    (tag other : List KeptByte) → IfSome handler (λ f. IsSteady g f.now)
    → IsKeptTag (AnswersIfAny g handler) source tag → IsKeptTag (AnswersIfAny g handler) source other → tag ≡ other
one_tag g handler source tag other steady is is' =
    one_kept_tag (AnswersIfAny g handler) (one_skip g handler steady) source tag other is is'

-- the length of a tag that stands alone in its line
pub one_tag_alone : (bytes : List ℕ) (n other : ℕ) → IsTagAloneInLine bytes n → IsTagAloneInLine bytes other → n ≡ other
one_tag_alone bytes n other is is' =
    let tag = kept_from_alone (λ rest skip. ⊥) (λ rest skip a. a) bytes n is in
    let tag' = kept_from_alone (λ rest skip. ⊥) (λ rest skip a. a) bytes other is' in
    let same : tag.0 ≡ tag'.0 =
    one_kept_tag (λ rest skip. ⊥) (λ rest k l a b. absurd a) bytes tag.0 tag'.0 tag.1 tag'.1 in
    sym tag.2 ∙ (ap (offset_after 0) same ∙ tag'.2)
