-- Merged events, as they are given one after another.
use Rattle.std.proofs.Common.{ℕ, ◌+◌, ◌<◌, ◌≤◌, true, false, List, [], ◌∷◌, ◌++◌, Option, Some, None, ◌≡◌, append_assoc, arith, ap, length, map, refl, subst, sym, ◌∙◌}
use Rattle.std.proofs.Common.{append-nil}
use Rattle.std.specs.Prelude.{IfNone, IfSome, is_some}
use Rattle.std.specs.Option.{option_map, option_to_list}
use Rattle.std.specs.declared.ops.Range.{Range}
use Rattle.markdown_values.specs.declared.values.events.Event.{Event as Spoken}
use Rattle.markdown_values.specs.values.Events.{text}
use Rattle.markdown_blocks.specs.events.Events.{Event}
use Rattle.markdown_events.specs.InlineEvents.{RangedEvent, seen_event}
use Rattle.markdown_events.specs.Targets.{Targets, nowhere}
use Rattle.markdown_events.specs.TextMerge.{GivesMerged, GivesMergedWith, GivesOnlyMerged, GivesOnlyMergedWith, IsMergeDone, MergeLeft, RangedText}
use Rattle.markdown_events.specs.TextMerge.{Takes, joined, merged}
use Rattle.markdown_events.specs.TextMerge.{merged_left, read_ahead, reads_text, text_event, unread, with_text}
use Rattle.markdown_events.specs.page.Given.{AreEventsFrom, GivesOnly, GivesOnlyWith, GivesWith, IsDone, PageLeft, events_left, setting_with}
use Rattle.markdown_events.proofs.page.ParserLemmas.{given_with, given_without}
use Rattle.markdown_events.proofs.text_merge.MergeLaws.{joined_before, joined_other, joined_texts}

pub merged_without : (m : MergeLeft) (events : List RangedEvent) → GivesMergedWith nowhere m events → GivesMerged m events
merged_without m events g = record { rest = g.rest; are_later = given_without m.left g.rest g.are_later; given = g.given }

pub merged_with : (m : MergeLeft) (events : List RangedEvent) → GivesMerged m events → GivesMergedWith nowhere m events
merged_with m events g = record { rest = g.rest; are_later = given_with m.left g.rest g.are_later; given = g.given }

-- what holds of all merged events with no other labels, holds of them
pub only_without : (Holds : List RangedEvent → Type 0) (left : PageLeft) (m : MergeLeft)
    → (GivesOnlyWith nowhere Holds left → GivesOnlyMergedWith nowhere Holds m) → GivesOnly Holds left → GivesOnlyMerged Holds m
only_without Holds left m merges only events g = merges (λ all given. only all (given_without left all given)) events (merged_with m events g)

-- ---- where no event is left

pub done_gives : (more : Targets) (left : PageLeft) → IsDone left → GivesWith more left []
done_gives more left done = record {
  rest = [];
  are_later = subst (λ (all : List Event). AreEventsFrom left.page (setting_with more left) left.room left.elements all []) (sym done.no_blocks) refl;
  given = ap (λ (ready : List RangedEvent). ready ++ []) (sym done.none_ready);
}

pub done_rest : (more : Targets) (left : PageLeft) (rest : List RangedEvent) → IsDone left → GivesWith more left rest → rest ≡ []
done_rest more left rest done g =
    let later : g.rest ≡ [] =
    subst (λ (all : List Event). AreEventsFrom left.page (setting_with more left) left.room left.elements all g.rest) done.no_blocks g.are_later in
    g.given ∙ (ap (λ (ready : List RangedEvent). ready ++ g.rest) done.none_ready ∙ later)

-- ---- an event is read

pub read_event : (more : Targets) (old : MergeLeft) (left : PageLeft) (event : RangedEvent) → old.after ≡ None
    → ((events : List RangedEvent) → GivesWith more left events → GivesWith more old.left (event ∷ events))
    → (events : List RangedEvent) → GivesMergedWith more (record { left = left; joining = old.joining; after = Some event }) events
    → GivesMergedWith more old events
read_event more old left event none gives events g = record {
  rest = event ∷ g.rest;
  are_later = gives g.rest g.are_later;
  given = g.given ∙ ap merged (append_assoc (map text_event (option_to_list old.joining)) (event ∷ []) g.rest
      ∙ ap (λ (ahead : List RangedEvent). ahead ++ event ∷ g.rest) (sym (append-nil (map text_event (option_to_list old.joining)))
      ∙ ap (λ (after : Option RangedEvent). map text_event (option_to_list old.joining) ++ option_to_list after) (sym none)));
}

pub read_none : (more : Targets) (old : MergeLeft) (left : PageLeft) → old.after ≡ None → IsDone left → GivesWith more old.left []
    → (events : List RangedEvent) → GivesMergedWith more (record { left = left; joining = old.joining; after = None }) events
    → GivesMergedWith more old events
read_none more old left none done gives events g = record {
  rest = [];
  are_later = gives;
  given = g.given ∙ ap merged (ap (λ (rest : List RangedEvent). map text_event (option_to_list old.joining) ++ [] ++ rest)
      (done_rest more left g.rest done g.are_later)
      ∙ ap (λ (after : Option RangedEvent). map text_event (option_to_list old.joining) ++ option_to_list after ++ []) (sym none));
}

-- ---- a text is joined

join_ahead : (joining : Option RangedText) (next : RangedText) (rest : List RangedEvent)
    → merged (map text_event (option_to_list (Some (with_text joining next))) ++ [] ++ rest)
    ≡ merged (map text_event (option_to_list joining) ++ (text_event next ∷ []) ++ rest)
join_ahead None next rest = refl
join_ahead (Some joining) next rest = sym (joined_texts joining.0 next.0 joining.1 next.1 (merged rest))

pub join_given : (more : Targets) (old : MergeLeft) (next : RangedText) → old.after ≡ Some (text_event next) → (events : List RangedEvent)
    → GivesMergedWith more (record { left = old.left; joining = Some (with_text old.joining next); after = None }) events
    → GivesMergedWith more old events
join_given more old next is events g = record {
  rest = g.rest;
  are_later = g.are_later;
  given = g.given ∙ (join_ahead old.joining next g.rest
      ∙ ap (λ (after : Option RangedEvent). merged (map text_event (option_to_list old.joining) ++ option_to_list after ++ g.rest)) (sym is));
}

-- the text that is read
pub text_read : (after : Option RangedEvent) → reads_text after ≡ true → (next : RangedText) × (after ≡ Some (text_event next))
text_read None reads = absurd (let both : false ≡ true = reads in cc)
text_read (Some (text words, range)) reads = ((words, range), refl)
text_read (Some (event, range)) reads = absurd (let both : false ≡ true = reads in cc)

-- ---- an event is given

-- the event that is read, or nothing, stays apart from a text before it
before_end : (more : Targets) (left : PageLeft) (after : Option RangedEvent) (joining : RangedText) (rest : List RangedEvent)
    → reads_text after ≡ false → IfNone after (IsDone left) → GivesWith more left rest
    → merged (text_event joining ∷ option_to_list after ++ rest) ≡ text_event joining ∷ merged (option_to_list after ++ rest)
before_end more left None joining rest reads done gives =
    subst (λ (all : List RangedEvent). merged (text_event joining ∷ all) ≡ text_event joining ∷ merged all)
    (sym (done_rest more left rest done gives)) refl
before_end more left (Some event) joining rest reads done gives =
    let alone = joined_other event (merged rest) reads in
    ap (joined (text_event joining)) alone
    ∙ (joined_before joining event (merged rest) reads ∙ ap (λ (all : List RangedEvent). text_event joining ∷ all) (sym alone))

first_apart : (more : Targets) (left : PageLeft) (joining : Option RangedText) (after : Option RangedEvent) (event : RangedEvent)
    (ahead rest : List RangedEvent) → reads_text after ≡ false → IfNone after (IsDone left) → GivesWith more left rest
    → map text_event (option_to_list joining) ++ option_to_list after ≡ event ∷ ahead
    → merged (event ∷ ahead ++ rest) ≡ event ∷ merged (ahead ++ rest)
first_apart more left (Some joining) after event ahead rest reads done gives is =
    let same_event : text_event joining ≡ event = cc in
    let same_ahead : option_to_list after ≡ ahead = cc in
    subst (λ (e : RangedEvent). merged (e ∷ ahead ++ rest) ≡ e ∷ merged (ahead ++ rest)) same_event
    (subst (λ (all : List RangedEvent). merged (text_event joining ∷ all ++ rest) ≡ text_event joining ∷ merged (all ++ rest)) same_ahead
    (before_end more left after joining rest reads done gives))
first_apart more left None (Some other) event ahead rest reads done gives is =
    let same_event : other ≡ event = cc in
    let same_ahead : [] ≡ ahead = cc in
    subst (λ (e : RangedEvent). merged (e ∷ ahead ++ rest) ≡ e ∷ merged (ahead ++ rest)) same_event
    (subst (λ (all : List RangedEvent). merged (other ∷ all ++ rest) ≡ other ∷ merged (all ++ rest)) same_ahead
    (joined_other other (merged rest) reads))
first_apart more left None None event ahead rest reads done gives is = absurd (let none : [] ≡ event ∷ ahead = is in cc)

pub taken : (more : Targets) (old new : MergeLeft) (event : RangedEvent) → reads_text old.after ≡ false → IfNone old.after (IsDone old.left)
    → Takes old event new → (events : List RangedEvent) → GivesMergedWith more new events → GivesMergedWith more old (event ∷ events)
taken more old new event reads done takes events g =
    let later = subst (λ (left : PageLeft). GivesWith more left g.rest) takes.same_left g.are_later in record {
      rest = g.rest;
      are_later = later;
      given = ap (λ (all : List RangedEvent). event ∷ all) g.given
          ∙ (sym (first_apart more old.left old.joining old.after event (read_ahead new) g.rest reads done later takes.is_first)
          ∙ ap (λ (ahead : List RangedEvent). merged (ahead ++ g.rest)) (sym takes.is_first));
    }

ahead_length : (joining : Option RangedText) (after : Option RangedEvent) → length (map text_event (option_to_list joining) ++ option_to_list after)
    ≡ length (option_to_list joining) + length (option_to_list after)
ahead_length None after = omega arith
ahead_length (Some joining) after = omega arith

pub taken_fewer : (old new : MergeLeft) (event : RangedEvent) → Takes old event new → merged_left new < merged_left old
taken_fewer old new event takes =
    let same = ap events_left takes.same_left in
    omega (arith, ahead_length old.joining old.after, ahead_length new.joining new.after, ap length takes.is_first, same)

-- nothing is read, and nothing is left
pub none_taken : (more : Targets) (m : MergeLeft) → m.joining ≡ None → m.after ≡ None → IfNone m.after (IsDone m.left) → GivesMergedWith more m []
none_taken more m joining after done = record {
  rest = [];
  are_later = done_gives more m.left (subst (λ (a : Option RangedEvent). IfNone a (IsDone m.left)) after done);
  given = subst (λ (j : Option RangedText). [] ≡ merged (map text_event (option_to_list j) ++ option_to_list m.after ++ [])) (sym joining)
      (subst (λ (a : Option RangedEvent). [] ≡ merged (option_to_list a ++ [])) (sym after) refl);
}

-- ---- the next event is read

pub filled : (more : Targets) (old : MergeLeft) (left : PageLeft) (found : Option (Spoken × Range ℕ)) → old.after ≡ None
    → IfSome found (λ event. (events : List RangedEvent) → GivesWith more left events → GivesWith more old.left (seen_event event ∷ events))
    → IfNone found (GivesWith more old.left []) → IfNone found (IsDone left) → (events : List RangedEvent)
    → GivesMergedWith more (record { left = left; joining = old.joining; after = option_map seen_event found }) events
    → GivesMergedWith more old events
filled more old left (Some event) none event_is none_is done = read_event more old left (seen_event event) none event_is
filled more old left None none event_is none_is done = read_none more old left none done none_is

pub filled_fewer : (old new : PageLeft) (found : Option (Spoken × Range ℕ)) → IfSome found (λ event. events_left new < events_left old)
    → IfNone found (IsDone new) → events_left new + length (option_to_list (option_map seen_event found)) ≤ events_left old
filled_fewer old new (Some event) fewer done = omega (arith, fewer)
filled_fewer old new None fewer done =
    let no_blocks = ap length done.no_blocks in
    let none_ready = ap length done.none_ready in
    omega (arith, no_blocks, none_ready)

-- a text that is joined is read no more
pub join_fewer : (old new : MergeLeft) → reads_text old.after ≡ true → new.left ≡ old.left → new.after ≡ None
    → unread new.left new.after < unread old.left old.after
join_fewer old new reads left after =
    let read = text_read old.after reads in
    let same = ap events_left left in
    let one = ap (λ (a : Option RangedEvent). length (option_to_list a)) read.1 in
    let none = ap (λ (a : Option RangedEvent). length (option_to_list a)) after in
    omega (arith, same, one, none)

pub join_no_more : (old new : MergeLeft) (next : RangedText) → old.after ≡ Some (text_event next) → new.left ≡ old.left → new.after ≡ None
    → new.joining ≡ Some (with_text old.joining next) → merged_left new ≤ merged_left old
join_no_more old new next is left after joining =
    let same = ap events_left left in
    let one = ap (λ (a : Option RangedEvent). length (option_to_list a)) is in
    let none = ap (λ (a : Option RangedEvent). length (option_to_list a)) after in
    let all = ap (λ (j : Option RangedText). length (option_to_list j)) joining in
    omega (arith, same, one, none, all)

-- the events that are given by the three parts alone
with_parts : (more : Targets) (m : MergeLeft) (events : List RangedEvent) (left : PageLeft) (joining : Option RangedText) (after : Option RangedEvent)
    → m.left ≡ left → m.joining ≡ joining → m.after ≡ after → GivesMergedWith more m events
    → GivesMergedWith more (record { left = left; joining = joining; after = after }) events
with_parts more m events left joining after left_is joining_is after_is g =
    subst (λ (l : PageLeft). GivesMergedWith more (record { left = l; joining = joining; after = after }) events) left_is
    (subst (λ (j : Option RangedText). GivesMergedWith more (record { left = m.left; joining = j; after = after }) events) joining_is
    (subst (λ (a : Option RangedEvent). GivesMergedWith more (record { left = m.left; joining = m.joining; after = a }) events) after_is g))

pub joined_given : (old new : MergeLeft) → reads_text old.after ≡ true → new.left ≡ old.left → new.after ≡ None
    → ((next : RangedText) → old.after ≡ Some (text_event next) → new.joining ≡ Some (with_text old.joining next)) → (more : Targets)
    → (events : List RangedEvent) → GivesMergedWith more new events → GivesMergedWith more old events
joined_given old new reads left after joining more events g =
    let read = text_read old.after reads in
    join_given more old read.0 read.1 events
    (with_parts more new events old.left (Some (with_text old.joining read.0)) None left (joining read.0 read.1) after g)

pub joined_no_more : (old new : MergeLeft) → reads_text old.after ≡ true → new.left ≡ old.left → new.after ≡ None
    → ((next : RangedText) → old.after ≡ Some (text_event next) → new.joining ≡ Some (with_text old.joining next))
    → merged_left new ≤ merged_left old
joined_no_more old new reads left after joining =
    let read = text_read old.after reads in
    join_no_more old new read.0 read.1 left after (joining read.0 read.1)

-- nothing is read after the text
pub unread_none : (after : Option (Spoken × Range ℕ)) → is_some after ≡ false → option_map seen_event after ≡ None
unread_none None none = refl
unread_none (Some event) none = absurd (let both : true ≡ false = none in cc)

-- ---- the first is taken

pub takes_text : (old : MergeLeft) (joining : RangedText) → old.joining ≡ Some joining
    → Takes old (text_event joining) (record { left = old.left; joining = None; after = old.after })
takes_text old joining is = record {
  same_left = refl;
  is_first = ap (λ (j : Option RangedText). map text_event (option_to_list j) ++ option_to_list old.after) is;
}

pub takes_after : (old : MergeLeft) (event : RangedEvent) → old.joining ≡ None → old.after ≡ Some event
    → Takes old event (record { left = old.left; joining = None; after = None })
takes_after old event joining after = record {
  same_left = refl;
  is_first = ap (λ (j : Option RangedText). map text_event (option_to_list j) ++ option_to_list old.after) joining
      ∙ ap option_to_list after;
}

pub done_none : (more : Targets) (m : MergeLeft) → IsMergeDone m → GivesMergedWith more m []
done_none more m done =
    none_taken more m done.none_joining done.none_after (subst (λ (a : Option RangedEvent). IfNone a (IsDone m.left)) (sym done.none_after) done.is_done)
