-- Labels at an offset, and the targets of links.
use Rattle.std.proofs.Common.{◌-◌, take, ℕ, nat_eq, nat_lt, IsTrue, ◌↔◌, Bool, true, false, List, ◌≡◌, ◌≤◌, ◌+◌, ◌∙◌, sym, ap, subst, arith, refl, drop}
use Rattle.std.proofs.Common.{length, codes, Option, Some, None}
use Rattle.std.proofs.Common.{if◌then◌else◌}
use Rattle.std.specs.Option.{IfNone}
use Rattle.std.specs.List.{list_all, starts_with}
use Rattle.std.specs.Str.{IsUtf8, IsCharBoundary}
use Rattle.memchr.specs.Find.{occurs_at}
use Rattle.markdown_scanners_tree.specs.SomeExactly.{SomeExactly}
use Rattle.markdown_scanners_tree.specs.linklabel.Label.{Label, Bracketed, IsLabel, label_between, is_label_content}
use Rattle.markdown_scanners_tree.specs.linklabel.Label.{bracketed, kept_units}
use Rattle.markdown_scanners_tree.specs.Kept.{kept_text}
use Rattle.markdown_scanners_tree.proofs.ForCallers.{one_label_unskipped, offset_of_rest, cut_after_front, front_found}
use Rattle.std.specs.declared.ops.Range.{Range}
use Rattle.markdown_scanners_tree.proofs.PrefixLemmas.{from_offset}
use Rattle.markdown_scanners_tree.specs.scanners.reference_definitions.ReferenceDefinition.{IsCutAt}
use Rattle.markdown_inlines.specs.Links.{shifted, Known, IsLabelAt, IsKnownLabel, IsTarget, HasNoTail, HasNoLabelAfter}
use Rattle.markdown_inlines.specs.declared.links.LinkTarget.{LinkTarget}
use Rattle.markdown_inlines.specs.declared.links.LinkTarget.TheVariants.{Inline, Full, Collapsed, Shortcut, Wiki}

chosen : {A : Type 0} (test : Bool) (x y : A) → (if test then Some x else None) ≡ Some y → x ≡ y
chosen true x y is = (let same : Some x ≡ Some y = is in cc)
chosen false x y is = (let none : None ≡ Some y = is in cc)

between-some : (found : Option Bracketed) (label : Label) → label_between false found ≡ Some label → 1 ≤ label.len
between-some None label is = cc
between-some (Some b) label is =
    let same = chosen (is_label_content b.content) _ label is in
    omega (arith, ap (λ (l : Label). l.len) same)

-- a text may be cut where these ASCII bytes end
pub cut_after_bytes : (text front : List ℕ) (offset : ℕ) → IsUtf8 text → IsCharBoundary text offset
    → starts_with nat_eq (drop offset text) front ≡ true → list_all (λ b. nat_lt b 128) front ≡ true
    → IsCharBoundary text (offset + length front)
cut_after_bytes text front offset utf8 at begins ascii =
    offset_of_rest _ text offset (length front) refl utf8 (λ _. at)
    (λ rest. cut_after_front (drop offset text) (length front) rest (front_found (drop offset text) front begins ascii))

-- where the rest of a text may be cut, so may the text
pub moved_cut : (text : List ℕ) (offset : ℕ) (range : Range ℕ) → IsUtf8 text → IsCharBoundary text offset
    → (IsUtf8 (take (length text - offset) (drop offset text)) → IsCutAt (take (length text - offset) (drop offset text)) range)
    → IsCutAt text (shifted offset range)
moved_cut text offset range utf8 at cut =
    let rest = from_offset text offset in (
      offset_of_rest _ text offset range.start rest utf8 (λ _. at) (λ u. (cut u).0),
      offset_of_rest _ text offset range.end rest utf8 (λ _. at) (λ u. (cut u).1),
    )

-- a label has its right bracket at least
pub label_some : (answers : List ℕ → ℕ → Type 0) (source : List ℕ) (label : Label) → IsLabel answers source false label → 1 ≤ label.len
label_some answers source label is = between-some (bracketed (kept_units (kept_text source is.skips))) label is.label_is

-- one label stands at an offset
pub one_label_at : (text : List ℕ) (from close close' : ℕ) (name name' : List ℕ)
    → IsLabelAt text from close name → IsLabelAt text from close' name' → (close ≡ close') × (name ≡ name')
one_label_at text from close close' name name' is is' =
    let same = one_label_unskipped (drop from text) is.label is'.label is.is_label is'.is_label in (
      omega (arith, is.closed, is'.closed, ap (λ (l : Label). l.len) same),
      is.named ∙ (ap (λ (l : Label). l.text) same ∙ sym is'.named),
    )

-- where no label stands after a left bracket, none follows
pub none_after : {A : Type 0} (text : List ℕ) (offset : ℕ) (found : Option A)
    → IfNone found ((close : ℕ) (name : List ℕ) → ¬ IsLabelAt text (offset + 1) close name) → IfNone found (HasNoLabelAfter text offset)
none_after text offset None none = λ close is. none close is.1 is.2
none_after text offset (Some found) none = tt

module _ (text : List ℕ) (known : Known) (from close : ℕ) where
  -- the label that stands there is defined
  pub known_label : (name : List ℕ) (answer : Bool) → IsLabelAt text from close name → answer ≡ known name
      → IsTrue answer ↔ IsKnownLabel text known from close
  known_label name answer is e =
      (λ t. (name, is, sym e ∙ t), λ other. e ∙ (ap known (one_label_at text from close close name other.0 is other.1).1 ∙ other.2))

  -- it ends elsewhere
  pub ends_elsewhere : (end : ℕ) (name : List ℕ) → IsLabelAt text from end name → ¬ (end ≡ close) → ¬ IsKnownLabel text known from close
  ends_elsewhere end name is other known = other (one_label_at text from end close name known.0 is known.1).0

  module _ (untailed : HasNoTail text (close + 1)) where
    -- neither a tail nor a label follows, and what stands before is no label that is defined
    pub no_target : HasNoLabelAfter text (close + 1) → ¬ IsKnownLabel text known from close
        → (target : LinkTarget) (end : ℕ) → ¬ IsTarget text known from close target end
    no_target unlabelled unknown (Inline destination title) end is = untailed is.0 is.1
    no_target unlabelled unknown (Full label) end is = unlabelled is.1.bracket (let after = is.1.known_after in (after.0, after.1.0, after.1.1))
    no_target unlabelled unknown Collapsed end is = unknown is.3
    no_target unlabelled unknown Shortcut end is = unknown is.3
    no_target unlabelled unknown (Wiki range) end is = is

    -- a label follows that is not defined
    no_full : (end : ℕ) (name : List ℕ) → occurs_at text (codes "[") (close + 1) ≡ true → IsLabelAt text (close + 1 + 1) end name
        → known name ≡ false → (target : LinkTarget) (to : ℕ) → ¬ IsTarget text known from close target to
    no_full end name begins is unknown (Inline destination title) to target = untailed target.0 target.1
    no_full end name begins is unknown (Full label) to target =
        let after = target.1.known_after in
        let same = (one_label_at text (close + 1 + 1) end target.1.bracket name after.1.0 is after.1.1).1 in
        let both = sym unknown ∙ (ap known same ∙ after.1.2) in
        cc
    no_full end name begins is unknown Collapsed to target = target.1 end (begins, name, is)
    no_full end name begins is unknown Shortcut to target = target.1 end (begins, name, is)
    no_full end name begins is unknown (Wiki range) to target = target

    pub full_or_none : (end : ℕ) (name : List ℕ) (answer : Option (LinkTarget × ℕ))
        → occurs_at text (codes "[") (close + 1) ≡ true → IsLabelAt text (close + 1 + 1) end name
        → answer ≡ (if known name then Some (Full (record { start = close + 1; end = end + 1 }), end + 1) else None)
        → SomeExactly (λ (r : LinkTarget × ℕ). IsTarget text known from close r.0 r.1) answer
    full_or_none end name answer begins is e = full_by (known name) refl e
      where
        full_by : (test : Bool) → known name ≡ test
            → answer ≡ (if test then Some (Full (record { start = close + 1; end = end + 1 }), end + 1) else None)
            → SomeExactly (λ (r : LinkTarget × ℕ). IsTarget text known from close r.0 r.1) answer
        full_by true defined same =
            subst (SomeExactly (λ (r : LinkTarget × ℕ). IsTarget text known from close r.0 r.1)) (sym same)
            (untailed, record { bracket = end; known_after = (begins, (name, is, defined)); begins = refl; ends = refl }, refl)
        full_by false unknown same =
            subst (SomeExactly (λ (r : LinkTarget × ℕ). IsTarget text known from close r.0 r.1)) (sym same)
            (λ r. no_full end name begins is unknown r.0 r.1)
