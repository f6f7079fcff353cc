-- The events of inlines that nest balance.
use Rattle.std.proofs.Common.{ℕ, List, [], ◌∷◌, ◌++◌, ◌≡◌, length, drop, arith, refl, sym, ap, subst, Option}
use Rattle.std.specs.Prelude.{⊤, Bool, true, false, if◌then◌else◌}
use Rattle.std.specs.declared.ops.Range.{Range}
use Rattle.markdown_values.specs.values.Events.{start, text}
use Rattle.markdown_values.specs.values.Tags.{TagView}
use Rattle.markdown_inlines.specs.Nesting.{AreNestedIn}
use Rattle.markdown_inlines.specs.declared.inlines.Inline.{Inline}
use Rattle.markdown_inlines.specs.declared.inlines.Inline.TheVariants as I
use Rattle.markdown_inlines.specs.declared.links.Link.{Link}
use Rattle.markdown_inlines.specs.declared.links.LinkTarget.{LinkTarget}
use Rattle.markdown_inlines.specs.declared.links.LinkTarget.TheVariants.{Inline as Within, Full, Collapsed, Shortcut, Wiki}
use Rattle.markdown_inlines.specs.declared.pieces.Piece.{Piece}
use Rattle.markdown_inlines.specs.declared.pieces.PieceKind.{PieceKind}
use Rattle.markdown_inlines.specs.declared.pieces.PieceKind.TheVariants as K
use Rattle.markdown_events.specs.EventLaws.{Started, AreBalancedIn}
use Rattle.markdown_events.specs.InlineEvents.{RangedEvent, AreEvents, ArePieceEvents, Begins, closing, end_in, ranged, shown_target}
use Rattle.markdown_events.specs.Meanings.{has_pipe, within}
use Rattle.markdown_events.specs.TagEnds.{tag_end}
use Rattle.markdown_events.specs.Targets.{Targets}
use Rattle.markdown_events.specs.declared.elements.Element.{Element}

-- the elements that have started are those that are open
abbrev AreSame : List Started → List Element → Type 0
AreSame [] [] = ⊤
AreSame [] (element ∷ elements) = ⊥
AreSame (one ∷ started) [] = ⊥
AreSame (one ∷ started) (element ∷ elements) =
    (element.tag ≡ tag_end one.0) × (one.1 ≡ record { start = element.from; end = element.to }) × AreSame started elements

module _ (source : List ℕ) (started : List Started) (rest : List RangedEvent) (gives : AreBalancedIn started rest) where
  abbrev Adds : List RangedEvent → Type 0
  Adds here = AreBalancedIn started (here ++ rest)

  -- a piece adds nothing that stays open
  leaf_balanced : (kind : PieceKind) (piece : Piece) (here : List RangedEvent) → ArePieceEvents kind source piece here → Adds here
  leaf_balanced K.Text piece here is = subst Adds (sym is) gives
  leaf_balanced K.Escape piece here is = subst Adds (sym is) gives
  leaf_balanced K.HardBreak piece here is = subst Adds (sym is) gives
  leaf_balanced K.SoftBreak piece here is = subst Adds (sym is) gives
  leaf_balanced K.Reference piece here is = subst Adds (sym is.3) gives
  leaf_balanced (K.Code backticks) piece here is = subst Adds (sym is) gives
  leaf_balanced K.Uri piece here is = subst Adds (sym is) (_, started, refl, refl, gives)
  leaf_balanced K.Email piece here is = subst Adds (sym is) (_, started, refl, refl, gives)
  leaf_balanced K.Html piece here is = subst Adds (sym is) gives
  leaf_balanced (K.Delimiters run) piece here is = subst Adds (sym is) gives
  leaf_balanced K.LinkOpener piece here is = subst Adds (sym is) gives
  leaf_balanced K.ImageOpener piece here is = subst Adds (sym is) gives
  leaf_balanced K.Closer piece here is = subst Adds (sym is) gives

-- what an element shows before what it holds stays open neither
module _ (source : List ℕ) (started : List Started) (rest : List RangedEvent) (gives : AreBalancedIn started rest) where
  shown_here : (words : Range ℕ) (target : LinkTarget) → AreBalancedIn started (shown_target source words target ++ rest)
  shown_here words (Wiki target) = choose (has_pipe words target)
    where
      choose : (test : Bool)
          → AreBalancedIn started ((if test then [] else ranged (text (within source target)) target.start target.end ∷ []) ++ rest)
      choose true = gives
      choose false = gives
  shown_here words (Within destination title) = gives
  shown_here words (Full label) = gives
  shown_here words Collapsed = gives
  shown_here words Shortcut = gives

  shown_balanced : (targets : Targets) (links : List (Option Link)) (inline : Inline) (from : ℕ) (tag : TagView (List ℕ))
      (shown : List RangedEvent) → Begins source targets links inline from tag shown → AreBalancedIn started (shown ++ rest)
  shown_balanced targets links (I.StartEmphasis offset count) from tag shown begins =
      subst (λ (s : List RangedEvent). AreBalancedIn started (s ++ rest)) (sym begins.2) gives
  shown_balanced targets links (I.StartStrikethrough offset count) from tag shown begins =
      subst (λ (s : List RangedEvent). AreBalancedIn started (s ++ rest)) (sym begins.2) gives
  shown_balanced targets links (I.StartLink number) from tag shown begins =
      subst (λ (s : List RangedEvent). AreBalancedIn started (s ++ rest)) (sym begins.4) (shown_here begins.0.text begins.0.target)
  shown_balanced targets links (I.Leaf piece) from tag shown begins = absurd begins
  shown_balanced targets links (I.EndEmphasis offset count) from tag shown begins = absurd begins
  shown_balanced targets links (I.EndStrikethrough offset count) from tag shown begins = absurd begins
  shown_balanced targets links (I.EndLink piece) from tag shown begins = absurd begins

module _ (source : List ℕ) (targets : Targets) (links : List (Option Link)) where
  abbrev Balances : List Inline → Type 0
  Balances later = (starts : List Inline) (started : List Started) (elements : List Element) (events : List RangedEvent)
      → AreNestedIn links starts later → length starts ≡ length elements → AreSame started elements
      → AreEvents source targets links elements later events → AreBalancedIn started events

  -- an element ends
  ended : (later : List Inline) → Balances later → (starts outer : List Inline) (first : Inline) (started : List Started)
      (elements : List Element) (events rest : List RangedEvent) → starts ≡ first ∷ outer → AreNestedIn links outer later
      → length starts ≡ length elements → AreSame started elements → AreEvents source targets links (drop 1 elements) later rest
      → events ≡ closing elements ++ rest → AreBalancedIn started events
  ended later balances starts outer first started [] events rest are nested counted same gives is =
      absurd (omega (arith, counted, ap length are))
  ended later balances starts outer first [] (element ∷ elements) events rest are nested counted same gives is = absurd same
  ended later balances starts outer first (one ∷ started) (element ∷ elements) events rest are nested counted same gives is =
      subst (AreBalancedIn (one ∷ started)) (sym is) (
        one.0,
        started,
        ap (λ (r : Range ℕ). (one.0, r) ∷ started) same.1,
        same.0,
        balances outer started elements rest nested (omega (arith, counted, ap length are)) same.2 gives,
      )

  -- an element begins
  begun : (later : List Inline) → Balances later → (starts : List Inline) (first : Inline) (started : List Started) (elements : List Element)
      (events shown rest : List RangedEvent) (from : ℕ) (tag : TagView (List ℕ)) → Begins source targets links first from tag shown
      → AreNestedIn links (first ∷ starts) later
      → length starts ≡ length elements → AreSame started elements
      → AreEvents source targets links (record { tag = tag_end tag; from = from; to = end_in later } ∷ elements) later rest
      → events ≡ ranged (start tag) from (end_in later) ∷ (shown ++ rest) → AreBalancedIn started events
  begun later balances starts first started elements events shown rest from tag begins nested counted same gives is =
      subst (AreBalancedIn started) (sym is)
      (shown_balanced source ((tag, record { start = from; end = end_in later }) ∷ started) rest
      (balances (first ∷ starts) ((tag, record { start = from; end = end_in later }) ∷ started) _ rest nested
      (omega (arith, counted)) (refl, refl, same) gives) targets links first from tag shown begins)

  pub balanced : (inlines : List Inline) → Balances inlines
  balanced [] starts [] elements events nested counted same is = subst (AreBalancedIn []) (sym is) refl
  balanced [] starts (one ∷ started) [] events nested counted same is = absurd same
  balanced [] starts (one ∷ started) (element ∷ elements) events nested counted same is = absurd (omega (arith, counted, ap length nested))
  balanced (I.Leaf piece ∷ later) starts started elements events nested counted same (here, rest, are, gives, is) =
      subst (AreBalancedIn started) (sym is)
      (leaf_balanced source started rest (balanced later starts started elements rest nested counted same gives) piece.kind piece here are)
  balanced (I.EndEmphasis offset count ∷ later) starts started elements events (first, outer, are, ends, nested) counted same (rest, gives, is) =
      ended later (balanced later) starts outer first started elements events rest are nested counted same gives is
  balanced (I.EndStrikethrough offset count ∷ later) starts started elements events (first, outer, are, ends, nested) counted same (rest, gives, is) =
      ended later (balanced later) starts outer first started elements events rest are nested counted same gives is
  balanced (I.EndLink piece ∷ later) starts started elements events (first, outer, are, ends, nested) counted same (rest, gives, is) =
      ended later (balanced later) starts outer first started elements events rest are nested counted same gives is
  balanced (I.StartEmphasis offset count ∷ later) starts started elements events nested counted same (from, tag, shown, rest, begins, gives, is) =
      begun later (balanced later) starts (I.StartEmphasis offset count) started elements events shown rest from tag begins nested counted same gives is
  balanced (I.StartStrikethrough offset count ∷ later) starts started elements events nested counted same (from, tag, shown, rest, begins, gives, is) =
      begun later (balanced later) starts (I.StartStrikethrough offset count) started elements events shown rest from tag begins nested counted same gives is
  balanced (I.StartLink number ∷ later) starts started elements events nested counted same (from, tag, shown, rest, begins, gives, is) =
      begun later (balanced later) starts (I.StartLink number) started elements events shown rest from tag begins nested counted same gives is
