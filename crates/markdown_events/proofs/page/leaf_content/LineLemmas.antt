-- Events of the lines of a text, one after the other.
use Rattle.std.proofs.Common.{ℕ, ◌+◌, ◌-◌, ◌<◌, ◌≤◌, ◌≡◌, List, [], ◌∷◌, ◌++◌, length, take, drop, map, Bool}
use Rattle.std.proofs.Common.{refl, sym, ap, ◌∙◌, subst, arith, append_assoc, append-nil}
use Rattle.std.specs.List.{concat}
use Rattle.std.specs.Str.{IsUtf8, IsCharBoundary}
use Rattle.std.specs.declared.ops.Range.{Range}
use Rattle.std.proofs.lemmas.List.{drop-drop, drop_all, length-append, length-drop, length-take, map-append}
use Rattle.std.proofs.lemmas.Str.{IsCharBoundary-from_rest, IsCharBoundary-start, IsUtf8-drop}
use Rattle.markdown_values.specs.declared.values.events.Event.{Event}
use Rattle.markdown_values.specs.values.Events.{EventView}
use Rattle.markdown_scanners_tree.specs.Bytes.{line_length}
use Rattle.markdown_scanners_tree.specs.scanners.TextLines.{lines_of}
use Rattle.markdown_scanners_tree.proofs.ForCallers.{first_line-taken, lines_joined}
use Rattle.markdown_blocks.proofs.ForCallers.{line_cut}
use Rattle.markdown_events.specs.InlineEvents.{RangedEvent, ranged, seen_event}
use Rattle.markdown_events.specs.page.LeafContent.{EndWithin, line_event}
use Rattle.markdown_events.specs.page.LeafEvents.{line_events}
use Rattle.markdown_events.proofs.parts.RestLemmas.{from_offset}

-- where the first line of a text ends, the text may be cut
line_ends : (text : List ℕ) (n : ℕ) → IsUtf8 text → 0 < length text → n ≤ length text → n ≡ line_length text → IsCharBoundary text n
line_ends text n utf8 some within is =
    let size : length (take n text) ≡ n = omega (arith, length-take n text, within) in
    subst (IsCharBoundary text) size (line_cut text (take n text) (lines_of (drop n text)) (first_line-taken text n some is) utf8)

-- ---- one after the other

-- the line that is scanned in the bytes of a text
pub line_there : (text bytes : List ℕ) (from n : ℕ) → bytes ≡ text → from < length bytes
    → n ≡ line_length (take (length bytes - from) (drop from bytes)) → n ≤ length (take (length bytes - from) (drop from bytes))
    → (from < length text) × (n ≡ line_length (drop from text)) × (from + n ≤ length text)
line_there text bytes from n same low is within =
    let sizes = ap length same in
    let rest = from_offset bytes from in (
      omega (arith, low, sizes),
      is ∙ (ap line_length rest ∙ ap (λ (t : List ℕ). line_length (drop from t)) same),
      omega (arith, within, ap length rest, length-drop from bytes, sizes, low),
    )

-- The text may be cut there, and the events of the lines from there on make, after those that are given, the events of all.
pub record AreGiven (is_html : Bool) (text : List ℕ) (events : List (Event × Range ℕ)) (from : ℕ) : Type 0 where
  pub within : from ≤ length text
  pub cut : IsCharBoundary text from
  pub given : map seen_event events ++ line_events (line_event is_html) from (lines_of (drop from text))
      ≡ line_events (line_event is_html) 0 (lines_of text)

pub none_given : (is_html : Bool) (text : List ℕ) → IsUtf8 text → AreGiven is_html text [] 0
none_given is_html text utf8 = record { within = omega arith; cut = IsCharBoundary-start text utf8; given = refl }

module _ (is_html : Bool) (text : List ℕ) (events : List (Event × Range ℕ)) (from n : ℕ) (utf8 : IsUtf8 text) (low : from < length text)
    (is : n ≡ line_length (drop from text)) (inside : from + n ≤ length text) (holds : AreGiven is_html text events from) where
  abbrev rest : List ℕ
  rest = drop from text

  abbrev line : List ℕ
  line = take n rest

  abbrev tell : ℕ → List (List ℕ) → List RangedEvent
  tell = line_events (line_event is_html)

  abbrev later : List (List ℕ)
  later = lines_of (drop (from + n) text)

  counted : length rest ≡ length text - from
  counted = length-drop from text

  size : length line ≡ n
  size = omega (arith, length-take n rest, counted, inside)

  lines : lines_of rest ≡ line ∷ later
  lines = first_line-taken rest n (omega (arith, counted, low)) is ∙ ap (λ (t : List ℕ). line ∷ lines_of t) (drop-drop n from text)

  pub next_cut : IsCharBoundary text (from + n)
  next_cut =
      IsCharBoundary-from_rest text from n holds.within
      (line_ends rest n (IsUtf8-drop text from utf8 holds.cut) (omega (arith, counted, low)) (omega (arith, counted, inside)) is)

  -- the next line
  here : (event : Event × Range ℕ) → seen_event event ≡ ranged (line_event is_html (take (from + n - from) rest)) from (from + n)
      → seen_event event ∷ tell (from + n) later ≡ tell from (lines_of rest)
  here event seen =
      let seen_line : seen_event event ≡ ranged (line_event is_html line) from (from + n) =
      seen ∙ ap (λ k. ranged (line_event is_html (take k rest)) from (from + n)) (omega arith) in
      ap (λ (e : RangedEvent). e ∷ tell (from + n) later) seen_line
      ∙ (ap (λ k. ranged (line_event is_html line) from (from + k) ∷ tell (from + k) later) (sym size) ∙ ap (tell from) (sym lines))

  pub next_given : (event : Event × Range ℕ) → seen_event event ≡ ranged (line_event is_html (take (from + n - from) rest)) from (from + n)
      → AreGiven is_html text (events ++ event ∷ []) (from + n)
  next_given event seen = record {
    within = inside;
    cut = next_cut;
    given = ap (λ (es : List RangedEvent). es ++ tell (from + n) later) (map-append seen_event events (event ∷ []))
        ∙ (append_assoc (map seen_event events) (seen_event event ∷ []) (tell (from + n) later)
        ∙ (ap (λ (es : List RangedEvent). map seen_event events ++ es) (here event seen) ∙ holds.given));
  }

-- in the end all are given
pub all_given : (is_html : Bool) (text : List ℕ) (events : List (Event × Range ℕ)) (from : ℕ) → length text ≤ from
    → AreGiven is_html text events from → map seen_event events ≡ line_events (line_event is_html) 0 (lines_of text)
all_given is_html text events from past holds =
    let none : line_events (line_event is_html) from (lines_of (drop from text)) ≡ [] =
    ap (λ (t : List ℕ). line_events (line_event is_html) from (lines_of t)) (drop_all from text past) in
    sym (append-nil (map seen_event events)) ∙ (ap (λ es. map seen_event events ++ es) (sym none) ∙ holds.given)

-- ---- within the text

lines_within : (event : List ℕ → EventView (List ℕ)) (count from : ℕ) (lines : List (List ℕ)) → from + length (concat lines) ≤ count
    → EndWithin count (line_events event from lines)
lines_within event count from [] within = tt
lines_within event count from (line ∷ lines) within =
    let joined = length-append line (concat lines) in
    (omega (arith, within, joined), lines_within event count (from + length line) lines (omega (arith, within, joined)))

pub given_within : (is_html : Bool) (text : List ℕ) (events : List RangedEvent) → events ≡ line_events (line_event is_html) 0 (lines_of text)
    → EndWithin (length text) events
given_within is_html text events are =
    subst (EndWithin (length text)) (sym are)
    (lines_within (line_event is_html) (length text) 0 (lines_of text) (omega (arith, ap length (lines_joined text))))
