-- The ranges of the events of inlines rise on the page as they do in the content of their block.
use Rattle.std.proofs.Common.{ℕ, zero, suc, ◌+◌, ◌-◌, ◌<◌, ◌≤◌, ◌≡◌, Bool, true, false, List, [], ◌∷◌, ◌++◌, length, map, inl, inr}
use Rattle.std.proofs.Common.{ap, ◌∙◌, refl, sym, subst, arith}
use Rattle.std.specs.Prelude.{nat_lt, slice_index}
use Rattle.std.specs.declared.ops.Range.{Range}
use Rattle.std.proofs.lemmas.Bool.{lt-ltb, ltb-true}
use Rattle.std.proofs.lemmas.Bool.Decides.{leb_tells}
use Rattle.markdown_values.specs.values.Events.{start, end}
use Rattle.markdown_values.specs.values.Tags.{TagView}
use Rattle.markdown_blocks.proofs.ForCallers.{RiseStrictly}
use Rattle.markdown_events.specs.EventLaws.{AreBalancedIn, LiesIn, RiseIn, Started}
use Rattle.markdown_events.specs.InlineEvents.{RangedEvent}
use Rattle.markdown_events.specs.page.Places.{page_range, placed}
use Rattle.markdown_events.proofs.inline_events.Filled.{RiseFilled}
use Rattle.markdown_events.proofs.inline_events.Rise.{rise_from}

pub strictly_from : (offsets : List ℕ) (from j : ℕ) → RiseStrictly from offsets → j < length offsets → from ≤ slice_index offsets j
strictly_from [] from j rise low = absurd (omega (arith, low))
strictly_from (offset ∷ offsets) from zero rise low = rise.0
strictly_from (offset ∷ offsets) from (suc j) rise low =
    omega (arith, rise.0, strictly_from offsets (suc offset) j rise.1 (omega (arith, low)))

strictly : (offsets : List ℕ) (from i j : ℕ) → RiseStrictly from offsets → i < j → j < length offsets → slice_index offsets i < slice_index offsets j
strictly [] from i j rise less low = absurd (omega (arith, low))
strictly (offset ∷ offsets) from i zero rise less low = absurd (omega (arith, less))
strictly (offset ∷ offsets) from zero (suc j) rise less low =
    omega (arith, strictly_from offsets (suc offset) j rise.1 (omega (arith, low)))
strictly (offset ∷ offsets) from (suc i) (suc j) rise less low =
    strictly offsets (suc offset) i j rise.1 (omega (arith, less)) (omega (arith, low))

module _ (before : ℕ) (offsets : List ℕ) (rise : RiseStrictly 0 offsets) (limit : ℕ)
    (within : (offset : ℕ) → offset < length offsets → before + slice_index offsets offset + 1 ≤ limit) where
  abbrev at_page : ℕ → ℕ
  at_page offset = before + slice_index offsets offset

  -- where what ends in the content ends on the page
  abbrev page_end : ℕ → ℕ
  page_end to = at_page (to - 1) + 1

  less_at : (i j : ℕ) → i < j → j < length offsets → at_page i < at_page j
  less_at i j less low = omega (arith, strictly offsets 0 i j rise less low)

  up_to : (i j : ℕ) → i ≤ j → j < length offsets → at_page i ≤ at_page j
  up_to i j less low = elim (leb_tells j i) [
    | inl same ↦ (let one : i ≡ j = omega (arith, same.1, less) in omega (arith, ap (λ (n : ℕ). at_page n) one))
    | inr lower ↦ omega (arith, less_at i j lower.1 low)
  ]

  -- a range that begins before the end of what holds it
  record Moves (range : Range ℕ) (to : ℕ) : Type 0 where
    begins : (page_range before offsets range).start ≡ at_page range.start
    in_order : (page_range before offsets range).start ≤ (page_range before offsets range).end
    ends : (page_range before offsets range).end ≤ page_end to
    later : (i : ℕ) → range.end ≤ i → i < length offsets → (page_range before offsets range).end ≤ at_page i

  moves : (range : Range ℕ) (to : ℕ) → range.start ≤ range.end → range.end ≤ to → range.start < to → to ≤ length offsets → Moves range to
  moves range to in_order ends some low = by (nat_lt range.start range.end) (λ is. ltb-true range.start range.end is) refl
    where
      first : at_page range.start ≤ at_page (to - 1)
      first = up_to range.start (to - 1) (omega (arith, some)) (omega (arith, some, low))

      by : (test : Bool) → (test ≡ true → range.start < range.end) → nat_lt range.start range.end ≡ test → Moves range to
      by false less is = record {
        begins = refl;
        in_order = rw is (omega arith);
        ends = rw is (omega (arith, first));
        later = rw is (λ i high inside. up_to range.start i (omega (arith, in_order, high)) inside);
      }
      by true less is =
          let own : range.start < range.end = less refl in record {
            begins = refl;
            in_order = rw is (omega (arith, up_to range.start (range.end - 1) (omega (arith, own)) (omega (arith, own, ends, low))));
            ends = rw is (omega (arith, up_to (range.end - 1) (to - 1) (omega (arith, own, ends)) (omega (arith, own, ends, low))));
            later = rw is (λ i high inside. omega (arith, less_at (range.end - 1) i (omega (arith, own, high)) inside));
          }

  end_moves : (range : Range ℕ) → range.start < range.end → (page_range before offsets range).end ≡ page_end range.end
  end_moves range some = rw (lt-ltb range.start range.end some) refl

  module _ (to : ℕ) (outer : List ℕ) (rest : List RangedEvent) (fits : limit ≤ to) (gives : RiseIn (to ∷ outer) limit rest) where
    -- The elements that have started end here in the content and there on the page, the innermost first, the last being the text itself.
    abbrev AreMoved : ℕ → List ℕ → ℕ → List ℕ → List Started → Type 0
    AreMoved last [] there ends [] = (last ≡ length offsets) × (there ≡ to) × (ends ≡ outer)
    AreMoved last (next ∷ ends) there (next_there ∷ theirs) (one ∷ started) =
        (0 < last) × (last ≤ next) × (there ≡ page_end last) × AreMoved next ends next_there theirs started
    AreMoved last ends there theirs started = ⊥

    -- up to where the innermost goes
    abbrev lowest : ℕ → List ℕ → ℕ
    lowest last [] = limit
    lowest last (next ∷ ends) = page_end last

    moved_within : (last : ℕ) (ends : List ℕ) (there : ℕ) (theirs : List ℕ) (started : List Started) → AreMoved last ends there theirs started
        → (last ≤ length offsets) × (lowest last ends ≤ there)
    moved_within last [] there theirs [] are = (omega (arith, are.0), omega (arith, are.1, fits))
    moved_within last [] there theirs (one ∷ started) are = absurd are
    moved_within last (next ∷ ends) there [] started are = absurd are
    moved_within last (next ∷ ends) there (next_there ∷ theirs) [] are = absurd are
    moved_within last (next ∷ ends) there (next_there ∷ theirs) (one ∷ started) are =
        let more = moved_within next ends next_there theirs started are.3 in
        (omega (arith, more.0, are.1), omega (arith, are.2))

    -- what ends within it in the content does on the page
    ends_low : (last : ℕ) (ends : List ℕ) (e : ℕ) → 0 < e → e ≤ last → last ≤ length offsets → page_end e ≤ lowest last ends
    ends_low last [] e some less low = within (e - 1) (omega (arith, some, less, low))
    ends_low last (next ∷ ends) e some less low = omega (arith, up_to (e - 1) (last - 1) (omega (arith, less)) (omega (arith, some, less, low)))

    abbrev Rises : List RangedEvent → Type 0
    Rises events = (last : ℕ) (ends : List ℕ) (there : ℕ) (theirs : List ℕ) (started : List Started) (from at : ℕ)
        → AreMoved last ends there theirs started → AreBalancedIn started events → at ≤ lowest last ends
        → ((i : ℕ) → from ≤ i → i < length offsets → at ≤ at_page i) → RiseFilled (last ∷ ends) from events
        → RiseIn (there ∷ theirs) at (map (placed before offsets) events ++ rest)

    last_rises : (last : ℕ) (ends : List ℕ) (there : ℕ) (theirs : List ℕ) (started : List Started) (at : ℕ)
        → AreMoved last ends there theirs started → started ≡ [] → at ≤ lowest last ends → RiseIn (there ∷ theirs) at rest
    last_rises last [] there theirs [] at are none low =
        subst (λ (l : List ℕ). RiseIn (there ∷ l) at rest) (sym are.2)
        (subst (λ n. RiseIn (n ∷ outer) at rest) (sym are.1) (rise_from (to ∷ outer) at limit rest low gives))
    last_rises last [] there theirs (one ∷ started) at are none low = absurd are
    last_rises last (next ∷ ends) there [] started at are none low = absurd are
    last_rises last (next ∷ ends) there (next_there ∷ theirs) [] at are none low = absurd are
    last_rises last (next ∷ ends) there (next_there ∷ theirs) (one ∷ started) at are none low = absurd (cc)

    start_rises : (tag : TagView (List ℕ)) (range : Range ℕ) (later : List RangedEvent) → Rises later → Rises ((start tag, range) ∷ later)
    start_rises tag range later rises last ends there theirs started from at are balanced low first (begins, some, inside, filled) =
        let bounds = moved_within last ends there theirs started are in
        let moved = moves range last (omega (arith, some)) inside (omega (arith, some, inside)) bounds.0 in
        let ends_at = end_moves range some in
        let own = ends_low last ends range.end (omega (arith, some)) inside bounds.0 in
        let start_at = first range.start begins (omega (arith, some, inside, bounds.0)) in
        let up = up_to range.start (range.end - 1) (omega (arith, some)) (omega (arith, some, inside, bounds.0)) in
        let later_rises = rises range.end (last ∷ ends) (page_end range.end) (there ∷ theirs) ((tag, range) ∷ started) range.start (at_page range.start)
        (omega (arith, some), inside, refl, are) balanced (omega (arith, up)) (λ i high within. up_to range.start i high within) filled in (
          record { begins = omega (arith, start_at, moved.begins); in_order = moved.in_order; ends = omega (arith, ends_at, own, bounds.1) },
          subst (λ n. RiseIn (n ∷ there ∷ theirs) (page_range before offsets range).start (map (placed before offsets) later ++ rest)) (sym ends_at)
              later_rises,
        )

    end_rises : (closer : _) (range : Range ℕ) (later : List RangedEvent) → Rises later → Rises ((end closer, range) ∷ later)
    end_rises closer range later rises last [] there theirs [] from at are (tag, around, started_is, closes, balanced) low first filled = absurd (cc)
    end_rises closer range later rises last [] there theirs (one ∷ started) from at are balanced low first filled = absurd are
    end_rises closer range later rises last (next ∷ ends) there [] started from at are balanced low first filled = absurd are
    end_rises closer range later rises last (next ∷ ends) there (next_there ∷ theirs) [] from at are balanced low first filled = absurd are
    end_rises closer range later rises last (next ∷ ends) there (next_there ∷ theirs) (one ∷ started) from at are
        (tag, around, started_is, closes, balanced) low first (begins, some, ends_it, filled) =
        let bounds = moved_within next ends next_there theirs started are.3 in
        let around_is : started ≡ around = cc in
        let ends_at = end_moves range some in
        let same : (page_range before offsets range).end ≡ there = ends_at ∙ (ap (λ (n : ℕ). page_end n) ends_it ∙ sym are.2) in
        let own = ends_low next ends last are.0 are.1 bounds.0 in (
          omega (arith, low, are.2),
          same,
          rises next ends next_there theirs around last there (subst (AreMoved next ends next_there theirs) around_is are.3) balanced
              (omega (arith, own, are.2))
              (λ i high within. omega (arith, are.2, less_at (last - 1) i (omega (arith, high, are.0)) within)) filled,
        )

    -- an event that is neither
    alone_rises : (range : Range ℕ) (later : List RangedEvent) → Rises later → (last : ℕ) (ends : List ℕ) (there : ℕ) (theirs : List ℕ)
        → (started : List Started) (from at : ℕ) → AreMoved last ends there theirs started → AreBalancedIn started later → at ≤ lowest last ends
        → ((i : ℕ) → from ≤ i → i < length offsets → at ≤ at_page i)
        → (from ≤ range.start) × (range.start ≤ range.end) × (range.end ≤ last) × (range.start < last) × RiseFilled (last ∷ ends) range.end later
        → LiesIn at there (page_range before offsets range)
        × RiseIn (there ∷ theirs) (page_range before offsets range).end (map (placed before offsets) later ++ rest)
    alone_rises range later rises last ends there theirs started from at are balanced low first (begins, in_order, inside, some, filled) =
        let bounds = moved_within last ends there theirs started are in
        let moved = moves range last in_order inside some bounds.0 in
        let own = ends_low last ends last (omega (arith, some)) (omega arith) bounds.0 in
        let start_at = first range.start begins (omega (arith, some, bounds.0)) in (
          record { begins = omega (arith, start_at, moved.begins); in_order = moved.in_order; ends = omega (arith, moved.ends, own, bounds.1) },
          rises last ends there theirs started range.end (page_range before offsets range).end are balanced (omega (arith, moved.ends, own)) moved.later filled,
        )

    all_rises : (events : List RangedEvent) → Rises events
    all_rises [] last ends there theirs started from at are balanced low first filled = last_rises last ends there theirs started at are balanced low
    all_rises ((start tag, range) ∷ later) last ends there theirs started from at are balanced low first filled =
        start_rises tag range later (all_rises later) last ends there theirs started from at are balanced low first filled
    all_rises ((end closer, range) ∷ later) last ends there theirs started from at are balanced low first filled =
        end_rises closer range later (all_rises later) last ends there theirs started from at are balanced low first filled
    all_rises ((event, range) ∷ later) last ends there theirs started from at are balanced low first filled =
        alone_rises range later (all_rises later) last ends there theirs started from at are balanced low first filled

    -- of a text
    pub placed_rise : (events : List RangedEvent) (from : ℕ) → from ≤ limit → ((i : ℕ) → i < length offsets → from ≤ at_page i) → AreBalancedIn [] events
        → RiseFilled (length offsets ∷ []) 0 events → RiseIn (to ∷ outer) from (map (placed before offsets) events ++ rest)
    placed_rise events from low first balanced filled =
        all_rises events (length offsets) [] to outer [] 0 from (refl, refl, refl) balanced low (λ i least inside. first i inside) filled
