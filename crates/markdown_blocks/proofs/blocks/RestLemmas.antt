-- What a line has after the containers that it goes on with.
use Rattle.std.proofs.Common.{ℕ, ◌⊎◌, not, is_some, Bool, true, false, List, ◌≡◌}
use Rattle.std.proofs.Common.{inl, inr, refl, sym, ap, ◌∙◌, subst, Option, Some, None, IsTrue}
use Rattle.markdown_values.specs.declared.values.HeadingLevel.{HeadingLevel}
use Rattle.markdown_scanners_tree.specs.SomeExactly.{SomeExactly}
use Rattle.markdown_scanners_tree.specs.line.State.{LineState}
use Rattle.markdown_blocks.specs.blank_lines.BlankLines.{is_blank}
use Rattle.markdown_blocks.specs.containers.Containers.{OpenContainers, Rest, rest_at, asked_in, begun_at, match_line, IsInside, rest_in}
use Rattle.markdown_values.specs.declared.values.extensions.Extensions.{Extensions}
use Rattle.markdown_blocks.specs.declared.blocks.TextEnd.{TextEnd}
use Rattle.markdown_blocks.specs.blocks.Endings.{EndsText, IsUnderOrDefines}
use Rattle.markdown_blocks.specs.blocks.Leaves.{IsBlank, IsUnderline, DefinesTerm, HasIndent, IsLazy, EndsParagraph, Interrupts, Leaves, LeavesParagraph, In, OutOr}

module _ (outer : OpenContainers) (line : List ℕ) (rest : Rest) (is : rest ≡ rest_in outer.containers line) (inside : IsInside outer.containers line) where
  -- what is found in it
  pub some_inside : {A : Type 0} (P : A → Rest → Type 0) (found : Option A) → SomeExactly (λ a. P a rest) found
      → SomeExactly (λ a. In outer.containers (P a) line) found
  some_inside P None none = λ a h. none a (subst (P a) (sym is) h.1)
  some_inside P (Some a) given = (inside, subst (P a) is given)

  -- what ends a paragraph with text
  pub end_inside : (found : TextEnd) → IsUnderOrDefines outer.extensions found.level rest
      → (IsTrue found.interrupts → Interrupts outer.extensions rest.text) × (Interrupts outer.extensions rest.text → IsTrue found.interrupts)
      → EndsText outer found line
  end_inside found under tells = record {
    ends = (inside, subst (IsUnderOrDefines outer.extensions found.level) is under);
    interrupts = (
      λ t. subst (λ (r : Rest). Interrupts outer.extensions r.text) is (tells.0 t),
      λ here. tells.1 (subst (λ (r : Rest). Interrupts outer.extensions r.text) (sym is) here),
    );
  }

  module _ (defines : Bool) (tells : (IsTrue defines → DefinesTerm outer.extensions rest) × (DefinesTerm outer.extensions rest → IsTrue defines)) where
    pub no_end : (found : Option HeadingLevel) → SomeExactly (λ level. IsUnderline level rest) found → found ≡ None → defines ≡ false
        → (level : Option HeadingLevel) → ¬ In outer.containers (IsUnderOrDefines outer.extensions level) line
    no_end (Some other) given none not_so level h = cc
    no_end None given none not_so (Some level) h = given level (subst (IsUnderline level) (sym is) h.1)
    no_end None given none not_so None h =
        let both : true ≡ false = sym (tells.1 (subst (DefinesTerm outer.extensions) (sym is) h.1)) ∙ not_so in cc

  pub leaves_inside : (Q : Type 0) → (Q → EndsParagraph outer.extensions rest) × (EndsParagraph outer.extensions rest → Q)
      → (Q → LeavesParagraph outer line) × (LeavesParagraph outer line → Q)
  leaves_inside Q tells = (λ q. inr (inside, subst (EndsParagraph outer.extensions) is (tells.0 q)), by)
    where
      by : LeavesParagraph outer line → Q
      by (inl out) = absurd (out.0 inside)
      by (inr here) = tells.1 (subst (EndsParagraph outer.extensions) (sym is) here.1)

  -- what goes on with the block
  pub goes_inside : (P : Rest → Type 0) (ends : Bool) → (IsTrue ends → P rest) × (P rest → IsTrue ends)
      → (IsTrue (not ends) → ¬ Leaves outer P line) × ((¬ Leaves outer P line) → IsTrue (not ends))
  goes_inside P true tells = (λ t. cc, λ stays. absurd (stays (inr (inside, subst P is (tells.0 refl)))))
  goes_inside P false tells = (λ t leaves. by leaves, λ stays. refl)
    where
      by : ¬ Leaves outer P line
      by (inl out) = out.0 inside
      by (inr here) = let given : false ≡ true = tells.1 (subst P (sym is) here.1) in cc

  -- what ends another block
  pub ends_inside : (P : Rest → Type 0) (Q : Type 0) → (Q → P rest) × (P rest → Q)
      → (Q → OutOr outer.containers P line) × (OutOr outer.containers P line → Q)
  ends_inside P Q tells = (λ q. inr (inside, subst P is (tells.0 q)), by)
    where
      by : OutOr outer.containers P line → Q
      by (inl out) = absurd (out inside)
      by (inr here) = tells.1 (subst P (sym is) here.1)

-- a line that doesn't stand in the containers
module _ (outer : OpenContainers) (line : List ℕ) (out : ¬ IsInside outer.containers line) where
  pub goes_outside : (P : Rest → Type 0) (r : Bool) → (IsTrue r → IsLazy (asked_in outer line) (match_line outer.containers line).state)
      × (IsLazy (asked_in outer line) (match_line outer.containers line).state → IsTrue r)
      → (IsTrue r → ¬ Leaves outer P line) × ((¬ Leaves outer P line) → IsTrue r)
  goes_outside P true tells = (λ t leaves. by leaves, λ stays. refl)
    where
      by : ¬ Leaves outer P line
      by (inl alone) = alone.1 (tells.0 refl)
      by (inr here) = out here.0
  goes_outside P false tells = (λ t. cc, λ stays. absurd (stays (inl (out, λ lazy. let given : false ≡ true = tells.1 lazy in cc))))

  pub leaves_outside : (r : Bool) (s : LineState) → s ≡ (match_line outer.containers line).state → (IsTrue r → IsLazy (asked_in outer line) s)
      × (IsLazy (asked_in outer line) s → IsTrue r)
      → (IsTrue (not r) → LeavesParagraph outer line) × (LeavesParagraph outer line → IsTrue (not r))
  leaves_outside true s is tells = (λ t. cc, by)
    where
      by : LeavesParagraph outer line → IsTrue (not true)
      by (inl alone) = absurd (alone.1 (subst (IsLazy (asked_in outer line)) is (tells.0 refl)))
      by (inr here) = absurd (out here.0)
  leaves_outside false s is tells = (λ t. inl (out, λ lazy. let given = tells.1 (subst (IsLazy (asked_in outer line)) (sym is) lazy) in cc), λ l. refl)

pub none_found : {A : Type 0} (found : Option A) (none : Bool) → is_some found ≡ not none → none ≡ true → found ≡ None
none_found None none given h = refl
none_found (Some a) none given h = let both : true ≡ false = given ∙ ap not h in cc

pub some_found : {A : Type 0} (found : Option A) (none : Bool) → is_some found ≡ not none → none ≡ false → ¬ (found ≡ None)
some_found None none given h is = let both : false ≡ true = given ∙ ap not h in cc
some_found (Some a) none given h is = cc

-- an underline, or without one the marker of a definition
pub some_end : (asked : Extensions) (rest : Rest) (found : Option HeadingLevel) → SomeExactly (λ level. IsUnderline level rest) found
    → (found ≡ None → DefinesTerm asked rest) → IsUnderOrDefines asked found rest
some_end asked rest (Some level) given defines = given
some_end asked rest None given defines = defines refl

pub begun_none : {A : Type 0} (b : Bool) (r : Option A) → b ≡ is_some r → b ≡ false → r ≡ None
begun_none b None given h = refl
begun_none b (Some a) given h = let both : true ≡ false = sym given ∙ h in cc

-- a lazy line
module _ (asked : Extensions) (s : LineState) (rest : Rest) (blank : Bool) (is : rest ≡ rest_at s) (tells : blank ≡ is_blank rest.text) where
  pub lazy_given : begun_at asked s ≡ None → blank ≡ false → HasIndent rest ⊎ (¬ Interrupts asked rest.text) → IsLazy asked s
  lazy_given none has_text either = (
    none,
    λ all. let both : true ≡ false = sym (tells ∙ subst IsBlank (sym is) all) ∙ has_text in cc,
    subst (λ r. HasIndent r ⊎
        (¬ Interrupts asked r.text)) is either,
  )

  pub lazy_tells : (interrupts : Bool) → begun_at asked s ≡ None → blank ≡ false → ¬ HasIndent rest → (IsTrue interrupts
      → Interrupts asked rest.text) × (Interrupts asked rest.text → IsTrue interrupts)
      → (IsTrue (not interrupts) → IsLazy asked s) × (IsLazy asked s → IsTrue (not interrupts))
  lazy_tells true none has_text far test = (λ t. cc, by)
    where
      by : IsLazy asked s → IsTrue (not true)
      by (begun, text, inl indent) = absurd (far (subst HasIndent (sym is) indent))
      by (begun, text, inr nothing) = absurd (nothing (subst (λ (r : Rest). Interrupts asked r.text) is (test.0 refl)))
  lazy_tells false none has_text far test = (λ t. lazy_given none has_text (inr (λ h. let given = test.1 h in cc)), λ lazy. refl)
