-- What is written of an inline, with what is written of those after it, is written of both.
use Rattle.std.proofs.Common.{ℕ, zero, suc, List, [], ◌∷◌, ◌++◌, ◌≡◌, ◌<◌, ◌≤◌, ◌+◌, ◌∙◌, refl, sym, ap, subst, drop, length, get_or, arith}
use Rattle.std.proofs.Common.{Option, None, Some, map, set, slice_get, slice_index}
use Rattle.std.proofs.lemmas.Option.{get_or_from_slice_get}
use Rattle.std.specs.Prelude.{⊤}
use Rattle.std.specs.declared.ops.Range.{Range}
use Rattle.std.proofs.Common.{append_assoc, append-nil, add-one, drop-cons}
use Rattle.std.proofs.lemmas.List.{length-append}
use Rattle.markdown_values.specs.declared.values.events.Event.{Event}
use Rattle.markdown_values.specs.values.Events.{start, end}
use Rattle.markdown_values.specs.values.Tags.{TagView}
use Rattle.markdown_inlines.specs.declared.inlines.Inline.{Inline}
use Rattle.markdown_inlines.specs.declared.inlines.Inline.TheVariants as I
use Rattle.markdown_inlines.specs.declared.links.Link.{Link}
use Rattle.markdown_events.specs.InlineEvents.{RangedEvent, ranged, seen_event, AreEvents, Begins, closing, end_in, open_ends}
use Rattle.markdown_events.specs.Passes.{Written, IsWritten, begun, closed, ending_at, with_end, with_events}
use Rattle.markdown_events.specs.TagEnds.{tag_end}
use Rattle.markdown_events.specs.Targets.{Targets}
use Rattle.markdown_events.specs.declared.elements.Begun.{Begun}
use Rattle.markdown_events.specs.declared.elements.Element.{Element}

-- a bracket that begins no link is no start of one
pub no_link : (links : List (Option Link)) (number : ℕ) (it : Link) → get_or links number None ≡ None → slice_get links number ≡ Some (Some it) → ⊥
no_link links number it none found =
    let is : None ≡ Some it = sym none ∙ get_or_from_slice_get links number (Some it) None found in
    absurd (cc)

-- ---- ends of events

end_count : (i to : ℕ) (events : List RangedEvent) → length (with_end i to events) ≡ length events
end_count i to [] = refl
end_count zero to (event ∷ later) = refl
end_count (suc i) to (event ∷ later) = ap suc (end_count i to later)

end_before : (i to : ℕ) (events more : List RangedEvent) → i < length events → with_end i to (events ++ more) ≡ with_end i to events ++ more
end_before i to [] more low = absurd (omega (arith, low))
end_before zero to (event ∷ later) more low = refl
end_before (suc i) to (event ∷ later) more low = ap (λ es. event ∷ es) (end_before i to later more (omega (arith, low)))

end_new : (to : ℕ) (events : List RangedEvent) (event : RangedEvent) (more : List RangedEvent)
    → with_end (length events) to (events ++ event ∷ more) ≡ events ++ ending_at to event ∷ more
end_new to [] event more = refl
end_new to (first ∷ events) event more = ap (λ es. first ∷ es) (end_new to events event more)

end_twice : (i to other : ℕ) (events : List RangedEvent) → with_end i to (with_end i other events) ≡ with_end i to events
end_twice i to other [] = refl
end_twice zero to other (event ∷ later) = refl
end_twice (suc i) to other (event ∷ later) = ap (λ es. event ∷ es) (end_twice i to other later)

end_both : (i j to other : ℕ) (events : List RangedEvent) → j < i
    → with_end i to (with_end j other events) ≡ with_end j other (with_end i to events)
end_both i j to other [] less = refl
end_both zero j to other (event ∷ later) less = absurd (omega (arith, less))
end_both (suc i) zero to other (event ∷ later) less = refl
end_both (suc i) (suc j) to other (event ∷ later) less = ap (λ es. event ∷ es) (end_both i j to other later (omega (arith, less)))

-- the range of an event is put in
pub end_set : (i to : ℕ) (events : List (Event × Range ℕ)) (d : Event × Range ℕ) → i < length events
    → map seen_event (set events i ((get_or events i d).0, record { start = (get_or events i d).1.start; end = to }))
    ≡ with_end i to (map seen_event events)
end_set i to [] d low = absurd (omega (arith, low))
end_set zero to (event ∷ later) d low = refl
end_set (suc i) to (event ∷ later) d low = ap (λ es. seen_event event ∷ es) (end_set i to later d (omega (arith, low)))

-- there is no such event
pub end_past : (i to : ℕ) (events : List (Event × Range ℕ)) → length events ≤ i → map seen_event events ≡ with_end i to (map seen_event events)
end_past i to [] past = refl
end_past zero to (event ∷ later) past = absurd (omega (arith, past))
end_past (suc i) to (event ∷ later) past = ap (λ es. seen_event event ∷ es) (end_past i to later (omega (arith, past)))

-- ---- elements that have begun and not ended

-- the elements, if they end here, the innermost first
abbrev elements_of : List Begun → List ℕ → List Element
elements_of [] ends = []
elements_of (inner ∷ outer) ends =
    record { tag = inner.tag; from = inner.from; to = slice_index ends 0 } ∷ elements_of outer (drop 1 ends)

-- the events, if they end here
abbrev filled : List Begun → List ℕ → List RangedEvent → List RangedEvent
filled [] ends events = events
filled (inner ∷ outer) ends events = filled outer (drop 1 ends) (with_end inner.index (slice_index ends 0) events)

-- each of them begins before those in it, which begin before this index
abbrev Below : ℕ → List Begun → Type 0
Below n [] = ⊤
Below n (inner ∷ outer) = (inner.index < n) × Below inner.index outer

below_more : (n m : ℕ) (opened : List Begun) → n ≤ m → Below n opened → Below m opened
below_more n m [] less below = tt
below_more n m (inner ∷ outer) less below = (omega (arith, less, below.0), below.1)

filled_before : (opened : List Begun) (ends : List ℕ) (n : ℕ) (events more : List RangedEvent) → Below n opened → n ≤ length events
    → filled opened ends (events ++ more) ≡ filled opened ends events ++ more
filled_before [] ends n events more below within = refl
filled_before (inner ∷ outer) ends n events more below within =
    let to = slice_index ends 0 in
    let low : inner.index < length events = omega (arith, below.0, within) in
    ap (filled outer (drop 1 ends)) (end_before inner.index to events more low)
    ∙ filled_before outer (drop 1 ends) inner.index (with_end inner.index to events) more below.1
    (omega (arith, low, end_count inner.index to events))

filled_both : (opened : List Begun) (ends : List ℕ) (i to : ℕ) (events : List RangedEvent) → Below i opened
    → filled opened ends (with_end i to events) ≡ with_end i to (filled opened ends events)
filled_both [] ends i to events below = refl
filled_both (inner ∷ outer) ends i to events below =
    let other = slice_index ends 0 in
    ap (filled outer (drop 1 ends)) (sym (end_both i inner.index to other events below.0))
    ∙ filled_both outer (drop 1 ends) i to (with_end inner.index other events) (below_more inner.index i outer (omega (arith, below.0)) below.1)

-- what is written, of which the starts of those elements have 0 for an end
pub record IsSound (written : Written) : Type 0 where
  pub below : Below (length written.events) written.opened
  pub unset : filled written.opened [] written.events ≡ written.events

module _ (source : List ℕ) (targets : Targets) (links : List (Option Link)) where
  -- what is written next gives, with what is written after it, the events of the inlines
  pub record Gives (inline : Inline) (later : List Inline) (old new : Written) : Type 0 where
    pub sound : IsSound new
    pub here : List RangedEvent
    pub added : filled new.opened (open_ends later) new.events ≡ filled old.opened (open_ends (inline ∷ later)) old.events ++ here
    pub gives : (rest : List RangedEvent) → AreEvents source targets links (elements_of new.opened (open_ends later)) later rest
        → AreEvents source targets links (elements_of old.opened (open_ends (inline ∷ later))) (inline ∷ later) (here ++ rest)

  module _ (later : List Inline) (old : Written) (sound : IsSound old) where
    -- events are added
    more_below : (here : List RangedEvent) → Below (length (old.events ++ here)) old.opened
    more_below here =
        below_more (length old.events) (length (old.events ++ here)) old.opened (omega (arith, length-append old.events here)) sound.below

    more_filled : (ends : List ℕ) (here : List RangedEvent)
        → filled old.opened ends (old.events ++ here) ≡ filled old.opened ends old.events ++ here
    more_filled ends here = filled_before old.opened ends (length old.events) old.events here sound.below (omega arith)

    more_unset : (here : List RangedEvent) → filled old.opened [] (old.events ++ here) ≡ old.events ++ here
    more_unset here = more_filled [] here ∙ ap (λ es. es ++ here) sound.unset

    leaf_gives : (piece : _) (new : Written) → IsWritten source targets links (I.Leaf piece) old new → Gives (I.Leaf piece) later old new
    leaf_gives piece new (here, are, is) = subst (λ (w : Written). Gives (I.Leaf piece) later old w) (sym is) (record {
      sound = record { below = more_below here; unset = more_unset here };
      here = here;
      added = more_filled (open_ends later) here;
      gives = λ rest gives. (here, rest, are, gives, refl);
    })

    -- an element begins
    module _ (inline : Inline) (ends : open_ends (inline ∷ later) ≡ drop 1 (open_ends later)) (from : ℕ) (tag : TagView (List ℕ))
        (shown : List RangedEvent) where
      abbrev next : Written
      next = with_events shown (begun tag from old)

      abbrev to : ℕ
      to = end_in later

      abbrev here : ℕ → List RangedEvent
      here last = ranged (start tag) from last ∷ shown

      as_added : next.events ≡ old.events ++ here 0
      as_added = append_assoc old.events (ranged (start tag) from 0 ∷ []) shown

      ends_at : (last : ℕ) → with_end (length old.events) last next.events ≡ old.events ++ here last
      ends_at last = ap (with_end (length old.events) last) as_added ∙ end_new last old.events (ranged (start tag) from 0) shown

      pub begun_sound : IsSound next
      begun_sound = record {
        below = (omega (arith, ap length as_added, length-append old.events (here 0)), sound.below);
        unset = ap (filled old.opened []) (ends_at 0) ∙ (more_unset (here 0) ∙ sym as_added);
      }

      pub begun_added : filled next.opened (open_ends later) next.events ≡ filled old.opened (open_ends (inline ∷ later)) old.events ++ here to
      begun_added =
          ap (filled old.opened (drop 1 (open_ends later))) (ends_at to) ∙ (more_filled (drop 1 (open_ends later)) (here to)
          ∙ ap (λ e. filled old.opened e old.events ++ here to) (sym ends))

      pub begun_gives : Begins source targets links inline from tag shown → (rest : List RangedEvent)
          → AreEvents source targets links (elements_of next.opened (open_ends later)) later rest
          → (from' : ℕ) × (tag' : TagView (List ℕ)) × (shown' : List RangedEvent) × (more : List RangedEvent)
          × Begins source targets links inline from' tag' shown'
          × AreEvents source targets links
          (record { tag = tag_end tag'; from = from'; to = to } ∷ elements_of old.opened (open_ends (inline ∷ later))) later more
          × (here to ++ rest ≡ ranged (start tag') from' to ∷ (shown' ++ more))
      begun_gives begins rest gives = (
        from,
        tag,
        shown,
        rest,
        begins,
        subst (λ e. AreEvents source targets links (record { tag = tag_end tag; from = from; to = to } ∷ elements_of old.opened e) later rest)
            (sym ends) gives,
        refl,
      )

  -- an element ends
  closed_gives : (later : List Inline) (to : ℕ) (events : List RangedEvent) (opened : List Begun)
      → IsSound (record { events = events; opened = opened }) → (here : List RangedEvent)
      × IsSound (closed to events opened)
      × (filled (closed to events opened).opened (open_ends later) (closed to events opened).events ≡ filled opened (to ∷ open_ends later) events ++ here)
      × ((rest : List RangedEvent) → AreEvents source targets links (elements_of (closed to events opened).opened (open_ends later)) later rest
      → (more : List RangedEvent)
      × AreEvents source targets links (drop 1 (elements_of opened (to ∷ open_ends later))) later more
      × (here ++ rest ≡ closing (elements_of opened (to ∷ open_ends later)) ++ more))
  closed_gives later to events [] sound = ([], sound, sym (append-nil events), λ rest gives. (rest, gives, refl))
  closed_gives later to events (inner ∷ outer) sound =
      let i = inner.index in
      let last = ranged (end inner.tag) inner.from to ∷ [] in
      let within : i ≤ length (with_end i to events) = omega (arith, sound.below.0, end_count i to events) in
      let unset : filled outer [] (with_end i to events) ≡ with_end i to events =
      ap (filled outer []) (sym (end_twice i to 0 events))
      ∙ (filled_both outer [] i to (with_end i 0 events) sound.below.1 ∙ ap (with_end i to) sound.unset) in (
        last,
        record {
          below = below_more i (length (with_end i to events ++ last)) outer
              (omega (arith, within, length-append (with_end i to events) last)) sound.below.1;
          unset = filled_before outer [] i (with_end i to events) last sound.below.1 within ∙ ap (λ es. es ++ last) unset;
        },
        filled_before outer (open_ends later) i (with_end i to events) last sound.below.1 within,
        λ rest gives. (rest, gives, refl),
      )

  -- the step of one inline
  pub written_gives : (inline : Inline) (later : List Inline) (old new : Written) → IsWritten source targets links inline old new
      → IsSound old → Gives inline later old new
  written_gives (I.Leaf piece) later old new is sound = leaf_gives later old sound piece new is
  written_gives (I.EndEmphasis at count) later old new is sound =
      let step = closed_gives later (at + count) old.events old.opened sound in
      subst (λ (w : Written). Gives (I.EndEmphasis at count) later old w) (sym is)
      (record { sound = step.1; here = step.0; added = step.2; gives = step.3 })
  written_gives (I.EndStrikethrough at count) later old new is sound =
      let step = closed_gives later (at + count) old.events old.opened sound in
      subst (λ (w : Written). Gives (I.EndStrikethrough at count) later old w) (sym is)
      (record { sound = step.1; here = step.0; added = step.2; gives = step.3 })
  written_gives (I.EndLink piece) later old new is sound =
      let step = closed_gives later piece.end old.events old.opened sound in
      subst (λ (w : Written). Gives (I.EndLink piece) later old w) (sym is)
      (record { sound = step.1; here = step.0; added = step.2; gives = step.3 })
  written_gives (I.StartEmphasis at count) later old new (from, tag, shown, begins, is) sound =
      let inline = I.StartEmphasis at count in
      subst (λ (w : Written). Gives inline later old w) (sym is) (record {
        sound = begun_sound later old sound inline refl from tag shown;
        here = ranged (start tag) from (end_in later) ∷ shown;
        added = begun_added later old sound inline refl from tag shown;
        gives = begun_gives later old sound inline refl from tag shown begins;
      })
  written_gives (I.StartStrikethrough at count) later old new (from, tag, shown, begins, is) sound =
      let inline = I.StartStrikethrough at count in
      subst (λ (w : Written). Gives inline later old w) (sym is) (record {
        sound = begun_sound later old sound inline refl from tag shown;
        here = ranged (start tag) from (end_in later) ∷ shown;
        added = begun_added later old sound inline refl from tag shown;
        gives = begun_gives later old sound inline refl from tag shown begins;
      })
  written_gives (I.StartLink number) later old new (from, tag, shown, begins, is) sound =
      let inline = I.StartLink number in
      subst (λ (w : Written). Gives inline later old w) (sym is) (record {
        sound = begun_sound later old sound inline refl from tag shown;
        here = ranged (start tag) from (end_in later) ∷ shown;
        added = begun_added later old sound inline refl from tag shown;
        gives = begun_gives later old sound inline refl from tag shown begins;
      })

  -- ---- the pass

  -- so far it is written: what is written of the inlines from an offset on makes the events of all
  pub record Goes (inlines : List Inline) (index : ℕ) (written : Written) : Type 0 where
    pub sound : IsSound written
    pub gives : (rest : List RangedEvent)
        → AreEvents source targets links (elements_of written.opened (open_ends (drop index inlines))) (drop index inlines) rest
        → AreEvents source targets links [] inlines (filled written.opened (open_ends (drop index inlines)) written.events ++ rest)

  pub at_start : (inlines : List Inline) (written : Written) → written ≡ record { events = []; opened = [] } → Goes inlines 0 written
  at_start inlines written is =
      subst (Goes inlines 0) (sym is) (record { sound = record { below = tt; unset = refl }; gives = λ rest gives. gives })

  pub goes_on : (inlines : List Inline) (index : ℕ) (d : Inline) (old new : Written) → index < length inlines
      → IsWritten source targets links (get_or inlines index d) old new → Goes inlines index old → Goes inlines (index + 1) new
  goes_on inlines index d old new inside written goes =
      let inline = get_or inlines index d in
      let later = drop (index + 1) inlines in
      let parts : drop index inlines ≡ inline ∷ later =
      drop-cons inlines index d inside ∙ ap (λ n. inline ∷ drop n inlines) (sym (add-one index)) in
      let step = written_gives inline later old new written goes.sound in
      record {
        sound = step.sound;
        gives = λ rest gives. subst (λ e. AreEvents source targets links [] inlines e)
            (ap (λ (l : List Inline). filled old.opened (open_ends l) old.events ++ (step.here ++ rest)) parts
            ∙ (sym (append_assoc (filled old.opened (open_ends (inline ∷ later)) old.events) step.here rest)
            ∙ ap (λ (e : List RangedEvent). e ++ rest) (sym step.added)))
            (goes.gives (step.here ++ rest)
            (subst (λ (l : List Inline). AreEvents source targets links (elements_of old.opened (open_ends l)) l (step.here ++ rest)) (sym parts)
            (step.gives rest gives)));
      }

  pub at_end : (inlines : List Inline) (index : ℕ) (written : Written) → length inlines ≤ index → Goes inlines index written
      → AreEvents source targets links [] inlines written.events
  at_end inlines index written past goes =
      let none = drop_all inlines index past in
      subst (AreEvents source targets links [] inlines)
      (append-nil (filled written.opened (open_ends (drop index inlines)) written.events)
      ∙ (ap (λ (l : List Inline). filled written.opened (open_ends l) written.events) none ∙ goes.sound.unset))
      (goes.gives []
      (subst (λ (l : List Inline). AreEvents source targets links (elements_of written.opened (open_ends l)) l []) (sym none) refl))
    where
      drop_all : (xs : List Inline) (n : ℕ) → length xs ≤ n → drop n xs ≡ []
      drop_all [] zero past = refl
      drop_all [] (suc n) past = refl
      drop_all (x ∷ xs) zero past = absurd (omega (arith, past))
      drop_all (x ∷ xs) (suc n) past = drop_all xs n (omega (arith, past))
