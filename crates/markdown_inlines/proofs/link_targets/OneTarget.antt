-- A link text has one target.
use Rattle.std.proofs.Common.{ℕ, true, false, List, ◌≡◌, ◌+◌, ◌∙◌, drop, refl, sym, ap, arith}
use Rattle.std.specs.declared.ops.Range.{Range}
use Rattle.markdown_inlines.specs.Links.{Known, IsTarget, HasNoLabelAfter, inline_target, most_parentheses}
use Rattle.markdown_inlines.specs.declared.link_tails.LinkTail.{LinkTail}
use Rattle.markdown_inlines.specs.declared.links.LinkTarget.{LinkTarget}
use Rattle.markdown_inlines.specs.declared.links.LinkTarget.TheVariants.{Inline, Full, Collapsed, Shortcut, Wiki}
use Rattle.markdown_inlines.proofs.link_tails.OneLinkTail.{one_link_tail, same_range}
use Rattle.markdown_inlines.proofs.link_targets.TargetLemmas.{one_label_at}

module _ (text : List ℕ) (known : Known) (from close : ℕ) where
  abbrev IsTo : LinkTarget → ℕ → Type 0
  IsTo = IsTarget text known from close

  abbrev Same : LinkTarget → LinkTarget → ℕ → ℕ → Type 0
  Same target target' end end' = (target ≡ target') × (end ≡ end')

  one_inline : (destination destination' : Range ℕ) (title title' : _) (end end' : ℕ) → IsTo (Inline destination title) end
      → IsTo (Inline destination' title') end' → Same (Inline destination title) (Inline destination' title') end end'
  one_inline destination destination' title title' end end' is is' =
      let same = one_link_tail most_parentheses (drop (close + 1) text) is.0 is'.0 is.1 is'.1 in (
        is.2 ∙ (ap (inline_target (close + 1)) same ∙ sym is'.2),
        omega (arith, is.3, is'.3, ap (λ (t : LinkTail). t.len) same),
      )

  one_full : (label label' : Range ℕ) (end end' : ℕ) → IsTo (Full label) end → IsTo (Full label') end'
      → Same (Full label) (Full label') end end'
  one_full label label' end end' is is' =
      let here = is.1.known_after.1 in
      let here' = is'.1.known_after.1 in
      let same = (one_label_at text (close + 1 + 1) is.1.bracket is'.1.bracket here.0 here'.0 here.1 here'.1).0 in
      let ends : label.end ≡ label'.end = omega (arith, is.1.ends, is'.1.ends, same) in
      (ap (λ l. Full l) (same_range (is.1.begins ∙ sym is'.1.begins) ends), is.2 ∙ (ends ∙ sym is'.2))

  -- a label follows, or none does
  followed : (label : Range ℕ) (end : ℕ) → IsTo (Full label) end
      → HasNoLabelAfter text (close + 1) → ⊥
  followed label end is none = none is.1.bracket (let after = is.1.known_after in (after.0, after.1.0, after.1.1))

  pub one_target : (target target' : LinkTarget) (end end' : ℕ) → IsTo target end → IsTo target' end' → Same target target' end end'
  one_target (Inline d t) (Inline d' t') end end' is is' = one_inline d d' t t' end end' is is'
  one_target (Inline d t) (Full label') end end' is is' = absurd (is'.0 is.0 is.1)
  one_target (Inline d t) Collapsed end end' is is' = absurd (is'.0 is.0 is.1)
  one_target (Inline d t) Shortcut end end' is is' = absurd (is'.0 is.0 is.1)
  one_target (Full label) (Inline d' t') end end' is is' = absurd (is.0 is'.0 is'.1)
  one_target (Full label) (Full label') end end' is is' = one_full label label' end end' is is'
  one_target (Full label) Collapsed end end' is is' = absurd (followed label end is is'.1)
  one_target (Full label) Shortcut end end' is is' = absurd (followed label end is is'.1)
  one_target Collapsed (Inline d' t') end end' is is' = absurd (is.0 is'.0 is'.1)
  one_target Collapsed (Full label') end end' is is' = absurd (followed label' end' is' is.1)
  one_target Collapsed Collapsed end end' is is' = (refl, is.4 ∙ sym is'.4)
  one_target Collapsed Shortcut end end' is is' = (let lost : true ≡ false = sym is.2 ∙ is'.2 in cc)
  one_target Shortcut (Inline d' t') end end' is is' = absurd (is.0 is'.0 is'.1)
  one_target Shortcut (Full label') end end' is is' = absurd (followed label' end' is' is.1)
  one_target Shortcut Collapsed end end' is is' = (let lost : true ≡ false = sym is'.2 ∙ is.2 in cc)
  one_target Shortcut Shortcut end end' is is' = (refl, is.4 ∙ sym is'.4)
  one_target (Wiki range) target' end end' is is' = absurd is
  one_target target (Wiki range) end end' is is' = absurd is'
