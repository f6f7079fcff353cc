-- The spans that are open at an offset: how a start, an end and what lies between change them.
use Rattle.std.proofs.Common.{ℕ, List, [], ◌∷◌, ◌≡◌, ◌<◌, ◌≤◌, ◌⊎◌, inl, inr, arith, sym, ap, subst, Option}
use Rattle.std.specs.Prelude.{⊤}
use Rattle.std.proofs.lemmas.Bool.{cases_lt}
use Rattle.markdown_inlines.specs.declared.emphasis.Emphasis.{Emphasis}
use Rattle.markdown_inlines.specs.declared.links.Link.{Link}
use Rattle.markdown_inlines.proofs.inlines.Spans.{IsIn, Span, start, from, to, end, IsSpan, IsWhole, Fit}

-- it begins, or begins to end, between these offsets
abbrev pub Touches : ℕ → ℕ → Span → Type 0
Touches a b s = ((a ≤ start s) × (start s < b)) ⊎ ((a ≤ to s) × (to s < b))

pub wider : (a b a' b' : ℕ) (s : Span) → a ≤ a' → b' ≤ b → Touches a' b' s → Touches a b s
wider a b a' b' s least most (inl touch) = inl (omega (arith, least, touch.0), omega (arith, most, touch.1))
wider a b a' b' s least most (inr touch) = inr (omega (arith, least, touch.0), omega (arith, most, touch.1))

-- where one begins no other begins or ends
clear_start : (s t : Span) (a b : ℕ) → Fit s t → IsWhole s → IsWhole t → start s ≡ a → b ≤ from s → ¬ Touches a b t
clear_start s t a b (inl before) w w' here few (inl touch) =
    omega (arith, before, w.opens, w.in_order, w.closes, here, few, touch.0, touch.1)
clear_start s t a b (inl before) w w' here few (inr touch) =
    omega (arith, before, w.opens, w.in_order, w.closes, w'.opens, w'.in_order, here, few, touch.0, touch.1)
clear_start s t a b (inr (inl after)) w w' here few (inl touch) =
    omega (arith, after, w'.opens, w'.in_order, w'.closes, here, few, touch.0, touch.1)
clear_start s t a b (inr (inl after)) w w' here few (inr touch) = omega (arith, after, w'.closes, here, few, touch.0, touch.1)
clear_start s t a b (inr (inr (inl around))) w w' here few (inl touch) = omega (arith, around.0, here, few, touch.0, touch.1)
clear_start s t a b (inr (inr (inl around))) w w' here few (inr touch) =
    omega (arith, around.0, w'.opens, w'.in_order, here, few, touch.0, touch.1)
clear_start s t a b (inr (inr (inr inside))) w w' here few (inl touch) = omega (arith, inside.0, w'.opens, here, touch.0)
clear_start s t a b (inr (inr (inr inside))) w w' here few (inr touch) =
    omega (arith, inside.1, w.opens, w.in_order, w.closes, here, few, touch.0, touch.1)

-- where one ends no other begins or ends
clear_end : (s t : Span) (a b : ℕ) → Fit s t → IsWhole s → IsWhole t → to s ≡ a → b ≤ end s → ¬ Touches a b t
clear_end s t a b (inl before) w w' here few (inl touch) = omega (arith, before, here, few, touch.0, touch.1)
clear_end s t a b (inl before) w w' here few (inr touch) =
    omega (arith, before, w'.opens, w'.in_order, here, few, touch.0, touch.1)
clear_end s t a b (inr (inl after)) w w' here few (inl touch) =
    omega (arith, after, w.opens, w.in_order, w'.opens, w'.in_order, w'.closes, here, touch.0)
clear_end s t a b (inr (inl after)) w w' here few (inr touch) = omega (arith, after, w.opens, w.in_order, w'.closes, here, touch.0)
clear_end s t a b (inr (inr (inl around))) w w' here few (inl touch) =
    omega (arith, around.1, w'.opens, w'.in_order, w'.closes, here, touch.0)
clear_end s t a b (inr (inr (inl around))) w w' here few (inr touch) = omega (arith, around.1, w'.closes, here, touch.0)
clear_end s t a b (inr (inr (inr inside))) w w' here few (inl touch) =
    omega (arith, inside.0, w.opens, w.in_order, w'.opens, here, touch.0)
clear_end s t a b (inr (inr (inr inside))) w w' here few (inr touch) = omega (arith, inside.1, here, few, touch.1)

-- none that began later than one is still open where this ends
not_within : (s t : Span) (a : ℕ) → Fit s t → IsWhole s → IsWhole t → to s ≡ a → start s < start t → start t < a → ¬ (a ≤ to t)
not_within s t a (inl before) w w' here later began still = omega (arith, before, w.closes, here, began)
not_within s t a (inr (inl after)) w w' here later began still =
    omega (arith, after, w'.opens, w'.in_order, w'.closes, later)
not_within s t a (inr (inr (inl around))) w w' here later began still = omega (arith, around.1, w'.closes, here, still)
not_within s t a (inr (inr (inr inside))) w w' here later began still = omega (arith, inside.0, w'.opens, later)

module _ (links : List (Option Link)) (emphasis : List Emphasis)
    (fit : (s t : Span) → IsSpan links emphasis s → IsSpan links emphasis t → (s ≡ t) ⊎ Fit s t)
    (whole : (s : Span) → IsSpan links emphasis s → IsWhole s) where
  -- these are spans that end at an offset or later, and began before another, the innermost last
  abbrev pub AreStill : ℕ → ℕ → List Span → Type 0
  AreStill most offset [] = ⊤
  AreStill most offset (s ∷ outer) =
      IsSpan links emphasis s × (start s < most) × (offset ≤ to s) × AreStill (start s) offset outer

  -- These are the spans that are open at an offset.
  pub record AreOpenAt (offset : ℕ) (spans : List Span) : Type 0 where
    pub still : AreStill offset offset spans
    pub each : (s : Span) → IsSpan links emphasis s → start s < offset → offset ≤ to s → IsIn s spans

  still_on : (spans : List Span) (most most' a b : ℕ) → most ≤ most'
      → ((t : Span) → IsSpan links emphasis t → start t < most → a ≤ to t → b ≤ to t) → AreStill most a spans → AreStill most' b spans
  still_on [] most most' a b more on still = tt
  still_on (s ∷ outer) most most' a b more on still = (
    still.0,
    omega (arith, still.1, more),
    on s still.0 still.1 still.2,
    still_on outer (start s) (start s) a b (omega arith)
        (λ t is began. on t is (omega (arith, began, still.1))) still.3,
  )

  still_in : (spans : List Span) (most offset : ℕ) (s : Span) → AreStill most offset spans → IsIn s spans → start s < most
  still_in [] most offset s still is = absurd is
  still_in (t ∷ outer) most offset s still (inl here) = subst (λ x. start x < most) (sym here) still.1
  still_in (t ∷ outer) most offset s still (inr later) =
      omega (arith, still_in outer (start t) offset s still.3 later, still.1)

  on_by : (a b : ℕ) (t : Span) → ¬ Touches a b t → a ≤ to t → b ≤ to t
  on_by a b t clear still = elim (cases_lt (to t) b) [
    | inl less ↦ absurd (clear (inr (still, less)))
    | inr more ↦ more
  ]

  -- what begins or ends where a span begins is this span, and so where it ends
  pub begins_alone : (s t : Span) (a b : ℕ) → IsSpan links emphasis s → IsSpan links emphasis t → start s ≡ a → b ≤ from s
      → Touches a b t → t ≡ s
  begins_alone s t a b is is' here few touch = elim (fit s t is is') [
    | inl same ↦ sym same
    | inr fits ↦ absurd (clear_start s t a b fits (whole s is) (whole t is') here few touch)
  ]

  pub ends_alone : (s t : Span) (a b : ℕ) → IsSpan links emphasis s → IsSpan links emphasis t → to s ≡ a → b ≤ end s
      → Touches a b t → t ≡ s
  ends_alone s t a b is is' here few touch = elim (fit s t is is') [
    | inl same ↦ sym same
    | inr fits ↦ absurd (clear_end s t a b fits (whole s is) (whole t is') here few touch)
  ]

  -- nothing begins or ends
  pub passed : (a b : ℕ) (spans : List Span) → a ≤ b → ((s : Span) → IsSpan links emphasis s → ¬ Touches a b s) → AreOpenAt a spans
      → AreOpenAt b spans
  passed a b spans later clear are = record {
    still = still_on spans a b a b later (λ t is _. on_by a b t (clear t is)) are.still;
    each = each;
  }
    where
      each : (s : Span) → IsSpan links emphasis s → start s < b → b ≤ to s → IsIn s spans
      each s is began still = elim (cases_lt (start s) a) [
        | inl before ↦ are.each s is before (omega (arith, later, still))
        | inr not_before ↦ absurd (clear s is (inl (not_before, began)))
      ]

  -- a span begins
  pub begun : (s : Span) (a b : ℕ) (spans : List Span) → IsSpan links emphasis s → start s ≡ a → a < b → b ≤ from s
      → AreOpenAt a spans → AreOpenAt b (s ∷ spans)
  begun s a b spans this here some few are = record {
    still = (
      this,
      omega (arith, here, some),
      omega (arith, few, (whole s this).in_order),
      still_on spans a (start s) a b (omega (arith, here)) on are.still,
    );
    each = each;
  }
    where
      on : (t : Span) → IsSpan links emphasis t → start t < a → a ≤ to t → b ≤ to t
      on t is began still = elim (fit s t this is) [
        | inl same ↦ omega (arith, began, here, ap start same)
        | inr fits ↦ on_by a b t (clear_start s t a b fits (whole s this) (whole t is) here few) still
      ]

      each : (t : Span) → IsSpan links emphasis t → start t < b → b ≤ to t → IsIn t (s ∷ spans)
      each t is began still = elim (cases_lt (start t) a) [
        | inl before ↦ inr (are.each t is before (omega (arith, some, still)))
        | inr not_before ↦ elim (fit s t this is) [
          | inl same ↦ inl (sym same)
          | inr fits ↦ absurd (clear_start s t a b fits (whole s this) (whole t is) here few (inl (not_before, began)))
        ]
      ]

  -- the innermost ends
  innermost : (s : Span) (a b : ℕ) (outer : List Span) → to s ≡ a → a < b → b ≤ end s → AreOpenAt a (s ∷ outer) → AreOpenAt b outer
  innermost s a b outer here some few are = record {
    still = still_on outer (start s) b a b (omega (arith, are.still.1, some)) on are.still.3;
    each = each;
  }
    where
      on : (t : Span) → IsSpan links emphasis t → start t < start s → a ≤ to t → b ≤ to t
      on t is began still = elim (fit s t are.still.0 is) [
        | inl same ↦ absurd (omega (arith, began, ap start same))
        | inr fits ↦ on_by a b t (clear_end s t a b fits (whole s are.still.0) (whole t is) here few) still
      ]

      each : (t : Span) → IsSpan links emphasis t → start t < b → b ≤ to t → IsIn t outer
      each t is began still = elim (fit s t are.still.0 is) [
        | inl same ↦ absurd (omega (arith, still, here, some, ap to same))
        | inr fits ↦ elim (cases_lt (start t) a) [
          | inl before ↦ elim (are.each t is before (omega (arith, some, still))) [
            | inl same ↦ absurd (omega (arith, still, here, some, ap to same))
            | inr within ↦ within
          ]
          | inr not_before ↦ absurd (clear_end s t a b fits (whole s are.still.0) (whole t is) here few (inl (not_before, began)))
        ]
      ]

  -- a span ends: it is the innermost
  pub ended : (s : Span) (a b : ℕ) (spans : List Span) → IsSpan links emphasis s → to s ≡ a → a < b → b ≤ end s → AreOpenAt a spans
      → (outer : List Span) × (spans ≡ s ∷ outer) × AreOpenAt b outer
  ended s a b spans this here some few are =
      by spans are (are.each s this (let w = whole s this in omega (arith, w.opens, w.in_order, here)) (omega (arith, here)))
    where
      by : (spans : List Span) → AreOpenAt a spans → IsIn s spans → (outer : List Span) × (spans ≡ s ∷ outer) × AreOpenAt b outer
      by [] are is = absurd is
      by (t ∷ outer) are (inl same) =
          (outer, ap (λ x. x ∷ outer) (sym same), innermost s a b outer here some few (subst (λ x. AreOpenAt a (x ∷ outer)) (sym same) are))
      by (t ∷ outer) are (inr within) =
          let later = still_in outer (start t) a s are.still.3 within in
          elim (fit s t this are.still.0) [
            | inl same ↦ absurd (omega (arith, later, ap start same))
            | inr fits ↦ absurd (not_within s t a fits (whole s this) (whole t are.still.0) here later are.still.1 are.still.2)
          ]
