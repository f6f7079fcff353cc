-- A page has no more events than so many for each of its bytes.
use Rattle.std.proofs.Common.{ℕ, Bool, true, false, ◌+◌, ◌-◌, ◌*◌, ◌<◌, ◌≤◌, ◌≡◌, ◌^◌, List, [], ◌∷◌, ◌++◌, length, Option, Some, None, max}
use Rattle.std.proofs.Common.{ap, refl, sym, subst, ◌∙◌, arith, inl, inr}
use Rattle.std.specs.Prelude.{if◌then◌else◌}
use Rattle.std.specs.declared.ops.Range.{Range}
use Rattle.markdown_values.specs.declared.values.extensions.Extensions.{Extensions}
use Rattle.markdown_values.specs.values.Events.{EventView, text}
use Rattle.markdown_values.specs.values.Tags.{TagView}
use Rattle.markdown_inlines.specs.Inlines.{IsWikiTarget}
use Rattle.markdown_inlines.specs.Links.{IsTarget, Known}
use Rattle.markdown_inlines.specs.declared.links.Link.{Link}
use Rattle.markdown_inlines.specs.declared.links.LinkTarget.{LinkTarget}
use Rattle.markdown_inlines.specs.declared.links.LinkTarget.TheVariants.{Inline as Within, Full, Collapsed, Shortcut, Wiki}
use Rattle.markdown_inlines.specs.declared.pieces.Piece.{Piece}
use Rattle.markdown_inlines.specs.declared.pieces.PieceKind.{PieceKind}
use Rattle.markdown_inlines.specs.declared.pieces.PieceKind.TheVariants as K
use Rattle.markdown_events.specs.Found.{link_bracket}
use Rattle.markdown_events.specs.InlineEvents.{AreInlineEvents, ArePieceEvents, EventSetting, RangedEvent, ranged, shown_target}
use Rattle.markdown_events.specs.Meanings.{has_pipe, within}
use Rattle.markdown_events.specs.page.PageEvents.{ArePageEvents, ArePageEventsWith}
use Rattle.markdown_events.specs.page.References.{begun_cells}
use Rattle.markdown_events.specs.Targets.{Targets}
use Rattle.markdown_events.specs.page.Sizes.{EventsFit}
use Rattle.markdown_events.proofs.found.FilledFacts.{HasBytes, HasInner}
use Rattle.markdown_events.proofs.inline_events.Costs.{Cost, IsInlineCost, IsSound, inlines_cost, total}
use Rattle.markdown_events.proofs.page.BlockCosts.{IsBlockCost}
use Rattle.markdown_events.proofs.page.CellRoom.{page_cells_fit, page_cells_with_fit}
use Rattle.markdown_events.proofs.page.PageCosts.{IsPageCost, page_cost, page_cost_with}

-- each event is one
abbrev one : Cost
one event = 1

counted : (events : List RangedEvent) → total one events ≡ length events
counted [] = refl
counted (event ∷ later) = omega (arith, counted later)

-- ---- inlines

piece_count : (kind : PieceKind) (source : List ℕ) (piece : Piece) (here : List RangedEvent) → piece.start < piece.end → HasInner kind piece
    → ArePieceEvents kind source piece here → total one here + 1 * piece.start ≤ 1 * piece.end
piece_count K.Text source piece here some inner is = omega (arith, some, ap (total one) is)
piece_count K.Escape source piece here some inner is = omega (arith, some, ap (total one) is)
piece_count K.HardBreak source piece here some inner is = omega (arith, some, ap (total one) is)
piece_count K.SoftBreak source piece here some inner is = omega (arith, some, ap (total one) is)
piece_count K.Reference source piece here some inner is = omega (arith, some, ap (total one) is.3)
piece_count (K.Code backticks) source piece here some inner is = omega (arith, some, ap (total one) is)
piece_count K.Uri source piece here some inner is = omega (arith, some, inner, ap (total one) is)
piece_count K.Email source piece here some inner is = omega (arith, some, inner, ap (total one) is)
piece_count K.Html source piece here some inner is = omega (arith, some, ap (total one) is)
piece_count (K.Delimiters run) source piece here some inner is = omega (arith, some, ap (total one) is)
piece_count K.LinkOpener source piece here some inner is = omega (arith, some, ap (total one) is)
piece_count K.ImageOpener source piece here some inner is = omega (arith, some, ap (total one) is)
piece_count K.Closer source piece here some inner is = omega (arith, some, ap (total one) is)

-- the left bracket of a link
pub bracket_later : (it : Link) → it.source.start ≤ link_bracket it
bracket_later it = by it.is_image
  where
    by : (is_image : Bool) → it.source.start ≤ (if is_image then it.source.start + 1 else it.source.start)
    by true = omega arith
    by false = omega arith

-- the target of a wikilink stands in its opener, after two brackets
pub wiki_room : (source : List ℕ) (it : Link) (target : LinkTarget) (end : ℕ) (range : Range ℕ)
    → (is : IsWikiTarget source (link_bracket it) it.text.start it.text.end target end) → target ≡ Wiki range
    → (it.source.start + 2 ≤ range.start) × (range.start < range.end) × (range.end ≤ it.text.start)
wiki_room source it target end range (found, same, head, closes, is) other =
    let both : Wiki found ≡ Wiki range = sym same ∙ other in
    let one_range : found ≡ range = cc in
    let at = ap (λ (r : Range ℕ). r.start) one_range in
    let to = ap (λ (r : Range ℕ). r.end) one_range in (
      omega (arith, head.begins, at, bracket_later it),
      omega (arith, head.some, at, to),
      elim head.ends [ inl piped ↦ omega (arith, piped.1, to) | inr bare ↦ omega (arith, bare.1, to) ],
    )

link_count : (source : List ℕ) (known : Known) (it : Link) → IsSound source known it
    → 1 + total one (shown_target source it.text it.target) + 1 * it.source.start ≤ 1 * it.text.start + 0 * (it.source.end - it.text.end)
link_count source known it sound = by it.target refl
  where
    shown : (target : Range ℕ) (test : Bool)
        → total one (if test then [] else ranged (text (within source target)) target.start target.end ∷ []) ≤ 1
    shown target true = omega arith
    shown target false = omega arith

    wiki : (range : Range ℕ) → it.target ≡ Wiki range → it.source.start + 2 ≤ it.text.start
    wiki range same = elim sound.aimed [
      | inl is ↦ absurd (subst (λ (t : LinkTarget). IsTarget source known it.text.start it.text.end t it.source.end) same is)
      | inr is ↦ (let room = wiki_room source it it.target it.source.end range is same in omega (arith, room.0, room.1, room.2))
    ]

    by : (target : LinkTarget) → it.target ≡ target
        → 1 + total one (shown_target source it.text target) + 1 * it.source.start ≤ 1 * it.text.start + 0 * (it.source.end - it.text.end)
    by (Wiki range) same = omega (arith, wiki range same, shown range (has_pipe it.text range))
    by (Within destination title) same = omega (arith, sound.opens)
    by (Full label) same = omega (arith, sound.opens)
    by Collapsed same = omega (arith, sound.opens)
    by Shortcut same = omega (arith, sound.opens)

inline_count : IsInlineCost one 1 0 1
inline_count = record {
  closes = λ from to some. omega (arith, some);
  ends = λ tag. omega arith;
  of_emphasis = omega arith;
  of_strong = omega arith;
  of_strikethrough = omega arith;
  of_piece = λ source piece here bytes is. piece_count piece.kind source piece here bytes.some bytes.inner is;
  of_link = λ source known targets it tag sound is. link_count source known it sound;
}

-- A text has no more events than bytes.
pub few_inline_events : (source : List ℕ) (setting : EventSetting) (events : List RangedEvent) → AreInlineEvents source setting events
    → length events ≤ length source
few_inline_events source setting events are = omega (arith, counted events, inlines_cost one 1 0 1 inline_count source setting events are)

-- ---- pages

block_count : IsBlockCost one 1 0 1 3 1 0 2 2 2
block_count = record {
  inlines = inline_count;
  of_text = λ words some. omega (arith, some);
  of_html = λ words some. omega (arith, some);
  of_rule = omega arith;
  of_paragraph = omega arith;
  of_heading = λ level. omega arith;
  of_code = omega arith;
  of_fenced = λ words source few. omega arith;
  of_html_block = omega arith;
  of_table = λ alignments. omega arith;
  of_row = λ is_head. omega arith;
  of_cell = omega arith;
  marker_paid = λ checked. omega arith;
  rows_paid = omega arith;
  lines_paid = omega arith;
}

page_count : IsPageCost one 1 0 1 3 1 0 2 2 2 4
page_count = record {
  blocks = block_count;
  of_container = λ container. omega arith;
  of_item = λ item few. omega arith;
}

pub page_events_fit : (page : List ℕ) (setting : Extensions) (events : List RangedEvent) → ArePageEvents page setting events → EventsFit page events
page_events_fit page setting events are =
    omega (
      arith,
      counted events,
      page_cost one 1 0 1 3 1 0 2 2 2 4 page_count page setting events are,
      page_cells_fit page setting events are,
    )

-- also where labels that the page does not define lead as these say
pub page_events_with_fit : (page : List ℕ) (setting : Extensions) (more : Targets) (events : List RangedEvent)
    → ArePageEventsWith page setting more events → EventsFit page events
page_events_with_fit page setting more events are =
    omega (
      arith,
      counted events,
      page_cost_with one 1 0 1 3 1 0 2 2 2 4 page_count page setting more events are,
      page_cells_with_fit page setting more events are,
    )
