-- What is known of each inline of a text, and what follows.
use Rattle.std.proofs.Common.{ℕ, zero, suc, true, false, List, [], ◌∷◌, ◌≡◌, ◌<◌, ◌≤◌, ◌+◌, ◌-◌, ◌∙◌, length, get_or, arith, refl, sym, ap}
use Rattle.std.proofs.Common.{subst, Option, Some, None, inl, inr}
use Rattle.std.specs.Prelude.{⊤, slice_get}
use Rattle.std.specs.List.{All, AllByRecursion}
use Rattle.std.specs.Option.{is_some, option_map}
use Rattle.std.specs.declared.ops.Range.{Range}
use Rattle.markdown_events.specs.Found.{HasParts, IsAimed, IsThere}
use Rattle.markdown_inlines.specs.Links.{IsLabelAt, IsTarget}
use Rattle.markdown_inlines.specs.Nesting.{StandFrom, StandsAt}
use Rattle.markdown_inlines.specs.Sources.{IsSource, IsLinkSource}
use Rattle.markdown_inlines.specs.declared.inlines.Inline.{Inline}
use Rattle.markdown_inlines.specs.declared.inlines.Inline.TheVariants as I
use Rattle.markdown_inlines.specs.declared.links.Link.{Link}
use Rattle.markdown_inlines.specs.declared.links.LinkTarget.{LinkTarget}
use Rattle.markdown_inlines.specs.declared.links.LinkTarget.TheVariants.{Inline as Within, Full, Collapsed, Shortcut, Wiki}
use Rattle.markdown_events.specs.Meanings.{IsWrittenTarget, within}
use Rattle.markdown_events.specs.Passes.{EndsBelow, IsFound, Leads}
use Rattle.markdown_blocks.specs.link_definitions.LinkDefinitions.{Target}
use Rattle.markdown_events.specs.Targets.{Targets, leads}

-- ---- where a link leads

defined : {A : Type 0} (found : Option A) → is_some found ≡ true → (a : A) × (found ≡ Some a)
defined None is = absurd (let lost : false ≡ true = is in cc)
defined (Some a) is = (a, refl)

-- where a link text is followed, it leads somewhere
abbrev LeadsSomewhere : List ℕ → Targets → Range ℕ → LinkTarget → Type 0
LeadsSomewhere text targets words target = (label : List ℕ) × (to : Target) × IsWrittenTarget text targets words target label to

aims : (text : List ℕ) (targets : Targets) (words : Range ℕ) (target : LinkTarget) (end : ℕ)
    → IsTarget text (leads targets) words.start words.end target end → LeadsSomewhere text targets words target
aims text targets words (Within destination title) end aimed =
    ([], record { destination = within text destination; title = option_map (within text) title }, (refl, refl))
aims text targets words (Full range) end aimed =
    let full = aimed.1 in
    let after = full.known_after.1 in
    let found = defined (targets after.0) after.2 in
    let from : words.end + 1 + 1 ≡ range.start + 1 = omega (arith, full.begins) in
    let close : full.bracket ≡ range.end - 1 = omega (arith, full.ends) in (
      after.0,
      found.0,
      (subst (λ n. IsLabelAt text n (range.end - 1) after.0) from (subst (λ n. IsLabelAt text (words.end + 1 + 1) n after.0) close after.1), found.1),
    )
aims text targets words Collapsed end aimed =
    let known = aimed.3 in
    let found = defined (targets known.0) known.2 in
    (known.0, found.0, (known.1, found.1))
aims text targets words Shortcut end aimed =
    let known = aimed.3 in
    let found = defined (targets known.0) known.2 in
    (known.0, found.0, (known.1, found.1))
aims text targets words (Wiki range) end aimed = absurd aimed

somewhere : (text : List ℕ) (targets : Targets) (it : Link) → IsAimed text (leads targets) it → LeadsSomewhere text targets it.text it.target
somewhere text targets it (inl aimed) = aims text targets it.text it.target it.source.end aimed
somewhere text targets it (inr wiki) = subst (LeadsSomewhere text targets it.text) (sym wiki.1)
    ([], record { destination = within text wiki.0; title = None }, (refl, refl))

-- ---- lists

at_index : {X : Type 0} (P : X → Type 0) (xs : List X) → AllByRecursion P xs → (k : ℕ) (d : X) → k < length xs → P (get_or xs k d)
at_index P [] all k d inside = absurd (omega (arith, inside))
at_index P (x ∷ xs) all zero d inside = all.0
at_index P (x ∷ xs) all (suc k) d inside = at_index P xs all.1 k d (omega (arith, inside))

pub by_index : {X : Type 0} (P : X → Type 0) (xs : List X) → AllByRecursion P xs → All P xs
by_index P xs all = λ k d inside. at_index P xs all k d inside

module _ (text : List ℕ) (targets : Targets) (links : List (Option Link)) where
  -- what is known of an inline; the end of a link has some bytes of the text too
  abbrev pub IsFact : Inline → Type 0
  IsFact (I.Leaf piece) = IsSource text piece × HasParts piece.kind text piece
  IsFact (I.StartLink number) =
      (it : Link) × (slice_get links number ≡ Some (Some it)) × IsLinkSource text it × Leads text targets it
  IsFact (I.EndLink piece) = IsSource text piece
  IsFact inline = ⊤

  -- an inline that stands in the text is known
  known_by : (inline : Inline) → IsThere text (leads targets) links inline → IsFact inline
  known_by (I.Leaf piece) is = is
  known_by (I.StartLink number) (it, there, (source, cut, before, aimed)) =
      let to = somewhere text targets it aimed in
      (it, there, source, record { cut = cut; before = before; label = to.0; target = to.1; leads = to.2 })
  known_by (I.EndLink piece) is = is
  known_by (I.StartEmphasis offset count) is = tt
  known_by (I.EndEmphasis offset count) is = tt
  known_by (I.StartStrikethrough offset count) is = tt
  known_by (I.EndStrikethrough offset count) is = tt

  pub all_known : (inlines : List Inline) → AllByRecursion (IsThere text (leads targets) links) inlines → AllByRecursion IsFact inlines
  all_known [] are = tt
  all_known (inline ∷ later) are = (known_by inline are.0, all_known later are.1)

  found_by : (inline : Inline) → IsFact inline → IsFound text targets links inline
  found_by (I.Leaf piece) fact = fact
  found_by (I.StartLink number) fact = fact
  found_by (I.EndLink piece) fact = tt
  found_by (I.StartEmphasis offset count) fact = tt
  found_by (I.EndEmphasis offset count) fact = tt
  found_by (I.StartStrikethrough offset count) fact = tt
  found_by (I.EndStrikethrough offset count) fact = tt

  pub all_found : (inlines : List Inline) → AllByRecursion IsFact inlines → AllByRecursion (IsFound text targets links) inlines
  all_found [] facts = tt
  all_found (inline ∷ later) facts = (found_by inline facts.0, all_found later facts.1)

  -- ---- where inlines end

  stands_later : (inline : Inline) (from to : ℕ) → IsFact inline → StandsAt links inline from to → from ≤ to
  stands_later (I.Leaf piece) from to fact is = omega (arith, fact.0.some, is.0, is.1)
  stands_later (I.StartEmphasis offset count) from to fact is = omega (arith, is.0, is.1)
  stands_later (I.EndEmphasis offset count) from to fact is = omega (arith, is.0, is.1)
  stands_later (I.StartStrikethrough offset count) from to fact is = omega (arith, is.0, is.1)
  stands_later (I.EndStrikethrough offset count) from to fact is = omega (arith, is.0, is.1)
  stands_later (I.StartLink number) from to fact is =
      let both : Some (Some fact.0) ≡ Some (Some is.0) = sym fact.1 ∙ is.1 in
      let same : fact.0 ≡ is.0 = cc in
      omega (arith, fact.2.begins, is.2, is.3, ap (λ (l : Link). l.source.start) same, ap (λ (l : Link). l.text.start) same)
  stands_later (I.EndLink piece) from to fact is = omega (arith, fact.some, is.0, is.1)

  stand_later : (inlines : List Inline) (from last : ℕ) → AllByRecursion IsFact inlines → StandFrom links from inlines last → from ≤ last
  stand_later [] from last facts is = omega (arith, is)
  stand_later (inline ∷ later) from last facts is =
      omega (arith, stands_later inline from is.0 facts.0 is.1, stand_later later is.0 last facts.1 is.2)

  ends_by : (inline : Inline) (from to last limit : ℕ) → StandsAt links inline from to → to ≤ last → last < limit → EndsBelow limit inline
  ends_by (I.Leaf piece) from to last limit is later less = tt
  ends_by (I.StartEmphasis offset count) from to last limit is later less = tt
  ends_by (I.EndEmphasis offset count) from to last limit is later less = omega (arith, is.1, later, less)
  ends_by (I.StartStrikethrough offset count) from to last limit is later less = tt
  ends_by (I.EndStrikethrough offset count) from to last limit is later less = omega (arith, is.1, later, less)
  ends_by (I.StartLink number) from to last limit is later less = tt
  ends_by (I.EndLink piece) from to last limit is later less = tt

  pub ends_below : (inlines : List Inline) (from last limit : ℕ) → AllByRecursion IsFact inlines → StandFrom links from inlines last
      → last < limit → AllByRecursion (EndsBelow limit) inlines
  ends_below [] from last limit facts is less = tt
  ends_below (inline ∷ later) from last limit facts is less = (
    ends_by inline from is.0 last limit is.1 (stand_later later is.0 last facts.1 is.2) less,
    ends_below later is.0 last limit facts.1 is.2 less,
  )
