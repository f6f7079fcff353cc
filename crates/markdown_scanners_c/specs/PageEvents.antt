-- What C callers get of the events of a page.
use Rattle.std.specs.Prelude.{ℕ, ◌≡◌, ◌≤◌, ◌<◌, ◌++◌, ◌⊎◌, ◌+◌, ◌*◌, List, drop, length}
use Rattle.std.specs.Str.{IsUtf8, IsValidUpTo}
use Rattle.markdown_events.specs.InlineEvents.{RangedEvent}
use Rattle.markdown_events.specs.page.PageEvents.{ArePageEvents}
use Rattle.markdown_scanners_c.specs.EventRecords.{records_from, texts_of}
use Rattle.markdown_scanners_c.specs.Extensions.{AreBuilt, extensions_of}
use Rattle.markdown_scanners_c.specs.Status.{ok, too_short, bad_kind, not_utf8, no_memory}
use Rattle.markdown_scanners_c.specs.declared.event_records.PageEvent.{PageEvent}
use Rattle.markdown_scanners_c.specs.declared.page_events.EventCount.{EventCount}

-- There are no more events than 13 for each byte of the page, and 200000, as of `EventsFit`; also no more are needed where there is less room.
abbrev pub HasFewEvents : List ℕ → EventCount → Type 0
HasFewEvents page returned = returned.count ≤ 13 * length page + 200000

-- a status, and no event
abbrev pub IsNoEvent : ℕ → EventCount → Type 0
IsNoEvent status returned = (returned.status ≡ status) × (returned.count ≡ 0) × (returned.length ≡ 0)

-- Both buffers of a caller are as they were.
abbrev pub AreKept : List PageEvent → List PageEvent → List ℕ → List ℕ → Type 0
AreKept events new_events texts new_texts = (new_events ≡ events) × (new_texts ≡ texts)

-- These events and their texts stand at the fronts of the two buffers; or one of the two is longer than its buffer, and both buffers are as
-- they were. How long the two are is returned in both cases.
abbrev pub AreBothWritten : List PageEvent → List ℕ → List PageEvent → List PageEvent → List ℕ → List ℕ → EventCount → Type 0
AreBothWritten made words events new_events texts new_texts returned =
    (returned.count ≡ length made) × (returned.length ≡ length words)
    × (((returned.status ≡ ok) × (length made ≤ length events) × (length words ≤ length texts)
    × (new_events ≡ made ++ drop (length made) events) × (new_texts ≡ words ++ drop (length words) texts))
    ⊎ ((returned.status ≡ too_short) × AreKept events new_events texts new_texts
    × ((length events < length made) ⊎ (length texts < length words))))

-- Some extension is not built; or the page is not UTF-8, and how long it is UTF-8 is returned; or memory was refused; or the events of the
-- page are written.
unfoldable pub AreEventsReturned : List ℕ → ℕ → List PageEvent → List PageEvent → List ℕ → List ℕ → EventCount → Type 0
AreEventsReturned page bits events new_events texts new_texts returned =
    (IsNoEvent bad_kind returned × AreKept events new_events texts new_texts × ¬ (AreBuilt bits))
    ⊎ ((returned.status ≡ not_utf8) × (returned.count ≡ 0) × IsValidUpTo page returned.length × AreKept events new_events texts new_texts
    × AreBuilt bits × ¬ (IsUtf8 page))
    ⊎ (IsNoEvent no_memory returned × AreKept events new_events texts new_texts × AreBuilt bits × IsUtf8 page)
    ⊎ ((given : List RangedEvent) × AreBuilt bits × IsUtf8 page × ArePageEvents page (extensions_of bits) given
    × AreBothWritten (records_from 0 given) (texts_of given) events new_events texts new_texts returned)
