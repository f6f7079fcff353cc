-- What is known of a page that is read from its end, where one more event is read.
use Rattle.std.proofs.Common.{ℕ, List, [], ◌∷◌, ◌≡◌, map, refl, sym, ap, subst, ◌∙◌, append_assoc}
use Rattle.markdown_blocks.specs.declared.containers.Container.{Container}
use Rattle.markdown_blocks.specs.events.Events.{Event, starts, leaf, ends, LeafBlock}
use Rattle.markdown_blocks.specs.lists.Lists.{Nodes, nothing, leaf_then, container_then, flatten}
use Rattle.markdown_events.specs.declared.page.levels.Level.{Level}
use Rattle.markdown_events.specs.declared.page.spans.Span.{Span}
use Rattle.markdown_events.specs.page.Levels.{level_of, flatten_open, spans_open, IsKnownOf}
use Rattle.markdown_events.specs.page.Spans.{span_of, spans}

abbrev pub KnownOf : List Event → Level → List Level → List Span → Type 0
KnownOf events level outer found = IsKnownOf events (record { levels = level ∷ outer; spans = found })

pub known_at_end : KnownOf [] (level_of nothing) [] []
known_at_end nothing [] same = (refl, refl)
known_at_end nothing (later ∷ outer) same = absurd (cc)
known_at_end (leaf_then block nodes) [] same = absurd (cc)
known_at_end (leaf_then block nodes) (later ∷ outer) same = absurd (cc)
known_at_end (container_then c offset inner nodes) [] same = absurd (cc)
known_at_end (container_then c offset inner nodes) (later ∷ outer) same = absurd (cc)

-- ---- a leaf block

flatten_leaf : (block : LeafBlock) (nodes : Nodes) (outer : List Nodes)
    → flatten_open (leaf_then block nodes) outer ≡ leaf block ∷ flatten_open nodes outer
flatten_leaf block nodes [] = refl
flatten_leaf block nodes (later ∷ outer) = refl

spans_leaf : (block : LeafBlock) (nodes : Nodes) (outer : List Nodes) → spans_open (leaf_then block nodes) outer ≡ spans_open nodes outer
spans_leaf block nodes [] = refl
spans_leaf block nodes (later ∷ outer) = refl

module _ (block : LeafBlock) (events : List Event) (level next : Level) (others : List Level) (found : List Span) where
  pub known_with_leaf : ((later : Nodes) → level ≡ level_of later → next ≡ level_of (leaf_then block later))
      → KnownOf events level others found → KnownOf (leaf block ∷ events) next others found
  known_with_leaf here known nothing [] same = absurd (cc)
  known_with_leaf here known nothing (later ∷ outer) same = absurd (cc)
  known_with_leaf here known (leaf_then other nodes) outer same =
      let both = same ∙ flatten_leaf other nodes outer in
      let block_is : block ≡ other = cc in
      let k = known nodes outer (cc) in
      let level_is : level ≡ level_of nodes = cc in
      let others_are : others ≡ map level_of outer = cc in (
        ap (λ l. l ∷ others) (here nodes level_is) ∙ ap (λ b. level_of (leaf_then b nodes) ∷ others) block_is
            ∙ ap (λ ls. level_of (leaf_then other nodes) ∷ ls) others_are,
        k.1 ∙ sym (spans_leaf other nodes outer),
      )
  known_with_leaf here known (container_then c offset inner nodes) [] same = absurd (cc)
  known_with_leaf here known (container_then c offset inner nodes) (later ∷ outer) same = absurd (cc)

-- ---- the end of a container

module _ (events : List Event) (level : Level) (others : List Level) (found : List Span) where
  pub known_with_end : KnownOf events level others found → KnownOf (ends ∷ events) (level_of nothing) (level ∷ others) found
  known_with_end known nothing [] same = absurd (cc)
  known_with_end known nothing (later ∷ outer) same =
      let k = known later outer (cc) in (ap (λ ls. level_of nothing ∷ ls) k.0, k.1)
  known_with_end known (leaf_then block nodes) [] same = absurd (cc)
  known_with_end known (leaf_then block nodes) (later ∷ outer) same = absurd (cc)
  known_with_end known (container_then c offset inner nodes) [] same = absurd (cc)
  known_with_end known (container_then c offset inner nodes) (later ∷ outer) same = absurd (cc)

-- ---- the start of a container

flatten_container : (c : Container) (offset : ℕ) (inner nodes : Nodes) (outer : List Nodes)
    → flatten_open (container_then c offset inner nodes) outer ≡ starts c offset ∷ flatten_open inner (nodes ∷ outer)
flatten_container c offset inner nodes [] = refl
flatten_container c offset inner nodes (later ∷ outer) =
    ap (λ es. starts c offset ∷ es) (append_assoc (flatten inner) (ends ∷ flatten nodes) (ends ∷ flatten_open later outer))

spans_container : (c : Container) (offset : ℕ) (inner nodes : Nodes) (outer : List Nodes)
    → spans_open (container_then c offset inner nodes) outer ≡ span_of c inner nodes ∷ spans_open inner (nodes ∷ outer)
spans_container c offset inner nodes [] = refl
spans_container c offset inner nodes (later ∷ outer) =
    ap (λ ss. span_of c inner nodes ∷ ss) (append_assoc (spans inner) (spans nodes) (spans_open later outer))

module _ (c : Container) (offset : ℕ) (events : List Event) (found : List Span) where
  -- the nodes before which events have begun with the start of a container
  abbrev IsAfterStart : (Nodes → List Nodes → Type 0) → Type 0
  IsAfterStart Fact = ((inner nodes : Nodes) (outer : List Nodes) → events ≡ flatten_open inner (nodes ∷ outer)
      → Fact (container_then c offset inner nodes) outer)
      → (nodes : Nodes) (outer : List Nodes) → starts c offset ∷ events ≡ flatten_open nodes outer → Fact nodes outer

  after_start : (Fact : Nodes → List Nodes → Type 0) → IsAfterStart Fact
  after_start Fact fact nothing [] same = absurd (cc)
  after_start Fact fact nothing (later ∷ outer) same = absurd (cc)
  after_start Fact fact (leaf_then block nodes) [] same = absurd (cc)
  after_start Fact fact (leaf_then block nodes) (later ∷ outer) same = absurd (cc)
  after_start Fact fact (container_then other at inner nodes) outer same =
      let both = same ∙ flatten_container other at inner nodes outer in
      let c_is : c ≡ other = cc in
      let offset_is : offset ≡ at = cc in
      subst (λ o. Fact (container_then o at inner nodes) outer) c_is
      (subst (λ p. Fact (container_then c p inner nodes) outer) offset_is (fact inner nodes outer (cc)))

  -- a container that has no end does not begin
  pub known_with_none : (level : Level) → KnownOf events level [] found → KnownOf (starts c offset ∷ events) level [] found
  known_with_none level known =
      after_start (λ nodes outer. (level ∷ [] ≡ map level_of (nodes ∷ outer)) × (found ≡ spans_open nodes outer))
      (λ inner nodes outer same. let k = known inner (nodes ∷ outer) same in absurd (cc))

  pub known_with_start : (level later next : Level) (others : List Level) (span : Span)
      → ((inner nodes : Nodes) → level ≡ level_of inner → later ≡ level_of nodes
      → (next ≡ level_of (container_then c offset inner nodes)) × (span ≡ span_of c inner nodes))
      → KnownOf events level (later ∷ others) found → KnownOf (starts c offset ∷ events) next others (span ∷ found)
  known_with_start level later next others span here known =
      after_start (λ nodes outer. (next ∷ others ≡ map level_of (nodes ∷ outer)) × (span ∷ found ≡ spans_open nodes outer)) step
    where
      step : (inner nodes : Nodes) (outer : List Nodes) → events ≡ flatten_open inner (nodes ∷ outer)
          → (next ∷ others ≡ map level_of (container_then c offset inner nodes ∷ outer))
          × (span ∷ found ≡ spans_open (container_then c offset inner nodes) outer)
      step inner nodes outer same =
          let k = known inner (nodes ∷ outer) same in
          let level_is : level ≡ level_of inner = cc in
          let later_is : later ≡ level_of nodes = cc in
          let others_are : others ≡ map level_of outer = cc in
          let h = here inner nodes level_is later_is in (
            ap (λ l. l ∷ others) h.0 ∙ ap (λ ls. level_of (container_then c offset inner nodes) ∷ ls) others_are,
            ap (λ s. s ∷ found) h.1 ∙ ap (λ ss. span_of c inner nodes ∷ ss) k.1 ∙ sym (spans_container c offset inner nodes outer),
          )
