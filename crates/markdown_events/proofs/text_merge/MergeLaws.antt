-- What holds of merged events.
use Rattle.std.proofs.Common.{ℕ, true, false, List, [], ◌∷◌, ◌++◌, ◌≡◌, append_assoc, ap, map, refl, sym, ◌∙◌}
use Rattle.std.proofs.lemmas.List.{map-append}
use Rattle.std.specs.declared.ops.Range.{Range}
use Rattle.markdown_values.specs.values.Events.{text}
use Rattle.markdown_events.specs.InlineEvents.{RangedEvent}
use Rattle.markdown_events.specs.TextMerge.{AreParted, Item, RangedText, byte, is_text, items, joined, merged, other, text_event}

-- a text joined to two texts that are joined
pub joined_texts : (words more : List ℕ) (range next : Range ℕ) (later : List RangedEvent)
    → joined (text words, range) (joined (text more, next) later)
    ≡ joined (text (words ++ more), record { start = range.start; end = next.end }) later
joined_texts words more range next [] = refl
joined_texts words more range next ((text last, offset) ∷ later) =
    ap (λ (all : List ℕ). (text all, record { start = range.start; end = offset.end }) ∷ later) (sym (append_assoc words more last))
joined_texts words more range next ((event, offset) ∷ later) = refl

-- nothing is joined to an event that is no text
pub joined_other : (event : RangedEvent) (later : List RangedEvent) → is_text event ≡ false → joined event later ≡ event ∷ later
joined_other (text words, range) later is_none = absurd (let both : true ≡ false = is_none in cc)
joined_other (event, range) later is_none = refl

-- nor it to a text
pub joined_before : (joining : RangedText) (event : RangedEvent) (later : List RangedEvent) → is_text event ≡ false
    → joined (text_event joining) (event ∷ later) ≡ text_event joining ∷ event ∷ later
joined_before joining (text words, range) later is_none = absurd (let both : true ≡ false = is_none in cc)
joined_before joining (event, range) later is_none = refl

-- ---- no text follows another

after_text : (words more : List ℕ) (range next : Range ℕ) (later : List RangedEvent) → AreParted ((text words, range) ∷ later)
    → AreParted ((text more, next) ∷ later)
after_text words more range next [] parted = tt
after_text words more range next ((text last, offset) ∷ later) parted = absurd parted
after_text words more range next ((event, offset) ∷ later) parted = parted

joined_parted : (event : RangedEvent) (later : List RangedEvent) → AreParted later → AreParted (joined event later)
joined_parted (text words, range) [] parted = tt
joined_parted (text words, range) ((text more, next) ∷ later) parted =
    after_text more (words ++ more) next (record { start = range.start; end = next.end }) later parted
joined_parted (text words, range) ((event, next) ∷ later) parted = parted
joined_parted (event, range) later parted = parted

pub merged_parted : (events : List RangedEvent) → AreParted (merged events)
merged_parted [] = tt
merged_parted (event ∷ later) = joined_parted event (merged later) (merged_parted later)

-- ---- the bytes of texts, and the other events, are the same

joined_items : (event : RangedEvent) (later : List RangedEvent) → items (joined event later) ≡ items (event ∷ later)
joined_items (text words, range) [] = refl
joined_items (text words, range) ((text more, next) ∷ later) =
    ap (λ (all : List Item). all ++ items later) (map-append byte words more) ∙ append_assoc (map byte words) (map byte more) (items later)
joined_items (text words, range) ((event, next) ∷ later) = refl
joined_items (event, range) later = refl

items_after : (event : RangedEvent) (one more : List RangedEvent) → items one ≡ items more → items (event ∷ one) ≡ items (event ∷ more)
items_after (text words, range) one more same = ap (λ (all : List Item). map byte words ++ all) same
items_after (event, range) one more same = ap (λ (all : List Item). other (event, range) ∷ all) same

pub merged_items : (events : List RangedEvent) → items (merged events) ≡ items events
merged_items [] = refl
merged_items (event ∷ later) = joined_items event (merged later) ∙ items_after event (merged later) later (merged_items later)
