-- The ranges of the events of nodes rise, and lie within those of the elements that hold them, where the nodes stand in order.
use Rattle.std.proofs.Common.{ℕ, suc, ◌≤◌, Bool, true, false, not, List, [], ◌∷◌, ◌++◌, length, Option, Some, None, ◌≡◌, refl, sym, ap}
use Rattle.std.proofs.Common.{subst, ◌∙◌, append_assoc, append-nil, arith, if◌then◌else◌}
use Rattle.std.specs.Prelude.{⊤}
use Rattle.markdown_values.specs.values.Events.{start, end}
use Rattle.markdown_values.specs.values.Tags.{TagView, item}
use Rattle.markdown_blocks.specs.blocks.Pages.{is_blank_kind}
use Rattle.markdown_blocks.specs.declared.blocks.BlockKind.{BlockKind}
use Rattle.markdown_blocks.specs.declared.blocks.BlockKind.TheVariants.{Blank, Break, Heading, Setext, Indented, Fenced, Html, Paragraph, Definition, Table}
use Rattle.markdown_blocks.specs.declared.containers.Container.{Container}
use Rattle.markdown_blocks.specs.declared.containers.Container.TheVariants.{Quote, Item, Footnote, TermDefinition}
use Rattle.markdown_blocks.specs.declared.containers.ListItem.{ListItem}
use Rattle.markdown_blocks.specs.containers.Containers.{past_first_line}
use Rattle.markdown_blocks.specs.declared.first_blocks.Task.{Task}
use Rattle.markdown_blocks.specs.events.Events.{LeafBlock, leaf}
use Rattle.markdown_blocks.specs.first_blocks.Tasks.{task_in}
use Rattle.markdown_blocks.specs.first_blocks.Waiting.{waiting_next}
use Rattle.markdown_blocks.specs.laws.Order.{passed_after}
use Rattle.markdown_blocks.specs.lists.Lists.{Nodes, nothing, leaf_then, container_then}
use Rattle.markdown_events.specs.EventLaws.{AreWithin, RiseIn}
use Rattle.markdown_events.specs.InlineEvents.{EventSetting, RangedEvent, ranged}
use Rattle.markdown_events.specs.TagEnds.{tag_end}
use Rattle.markdown_events.specs.declared.page.levels.ItemList.{ItemList}
use Rattle.markdown_events.specs.declared.page.reading.Room.{Room}
use Rattle.markdown_events.specs.page.LeafEvents.{AreLeafEventsOf, Place}
use Rattle.markdown_events.specs.page.References.{room_after}
use Rattle.markdown_events.specs.page.TaskEvents.{AreBlockEvents, AreEventsWith, task_here}
use Rattle.markdown_events.proofs.page.RoomLemmas.{in_room}
use Rattle.markdown_events.specs.page.PageEvents.{AreNodeEvents, OpenList, after_block, container_tag, inside, list_after, list_end, list_in, list_tag}
use Rattle.markdown_events.specs.page.PageEvents.{outermost}
use Rattle.markdown_events.specs.page.Places.{element}
use Rattle.markdown_events.specs.page.Spans.{block_end, container_end, end_of, first_offset, front_list, is_alike, is_set_off, last_end, lines_end}
use Rattle.markdown_events.specs.page.Spans.{list_with, span_of}
use Rattle.markdown_events.proofs.inline_events.Rise.{rise_from}
use Rattle.markdown_events.proofs.page.OnePage.{OtherEvents}
use Rattle.markdown_events.proofs.page.PageBalance.{reassociated}

-- ---- elements

-- an element that holds what rises up to its end
pub element_rises : (tag : TagView (List ℕ)) (offset to from limit : ℕ) (ends : List ℕ) (inner rest : List RangedEvent) → from ≤ offset
    → offset ≤ to → to ≤ limit
    → ((more : List RangedEvent) → RiseIn (to ∷ limit ∷ ends) to more → RiseIn (to ∷ limit ∷ ends) offset (inner ++ more))
    → RiseIn (limit ∷ ends) to rest → RiseIn (limit ∷ ends) from (element tag offset to inner ++ rest)
element_rises tag offset to from limit ends inner rest begins in_order within rises gives =
    let last = ranged (end (tag_end tag)) offset to in
    let closed : RiseIn (to ∷ limit ∷ ends) to (last ∷ rest) = (omega arith, refl, gives) in (
      record { begins = begins; in_order = in_order; ends = within },
      subst (RiseIn (to ∷ limit ∷ ends) offset) (sym (append_assoc inner (last ∷ []) rest)) (rises (last ∷ rest) closed),
    )

-- ---- where nodes stand

-- where the first of nodes stands, if any follows what has passed
abbrev first_or : ℕ → Nodes → ℕ
first_or passed nothing = passed
first_or passed (leaf_then block later) = block.offset
first_or passed (container_then container offset inner later) = offset

abbrev pub AreSome : Nodes → Type 0
AreSome nothing = ⊥
AreSome nodes = ⊤

module _ (page : List ℕ) (setting : EventSetting) where
  -- After so many bytes of the page the events of a block rise in these containers, with the first of which its first line goes on, wherever
  -- labels lead.
  abbrev pub LeafRises : ℕ → List Container → ℕ → LeafBlock → Type 0
  LeafRises passed outer kept block = (s : EventSetting) (is_tight : Bool) (waiting : Option Container) (events : List RangedEvent)
      → AreBlockEvents page s (record { containers = outer; kept = kept; is_tight = is_tight }) waiting block events
      → (from to : ℕ) (ends : List ℕ) (rest : List RangedEvent) → from ≤ passed → block_end block ≤ to → RiseIn (to ∷ ends) (block_end block) rest
      → RiseIn (to ∷ ends) from (events ++ rest)

  -- Nodes stand one after the other in these containers, after so many bytes of the page: a leaf block whose events rise, and after the
  -- first byte of its marker what a container holds, which is something.
  abbrev pub Stand : List Container → ℕ → ℕ → Nodes → Type 0
  Stand outer kept passed nothing = ⊤
  Stand outer kept passed (leaf_then block later) =
      (passed ≤ block.offset) × (block.offset ≤ block_end block) × LeafRises passed outer kept block
      × Stand outer (length outer) (block_end block) later
  Stand outer kept passed (container_then container offset inner later) =
      (passed ≤ offset) × AreSome inner × Stand (outer ++ past_first_line container ∷ []) kept (suc offset) inner
      × Stand outer (length outer) (passed_after (suc offset) inner) later

  first_later : (outer : List Container) (kept passed : ℕ) (nodes : Nodes) → Stand outer kept passed nodes → passed ≤ first_or passed nodes
  first_later outer kept passed nothing stand = omega arith
  first_later outer kept passed (leaf_then block later) stand = stand.0
  first_later outer kept passed (container_then container offset inner later) stand = stand.0

  first_is : (passed : ℕ) (nodes : Nodes) → AreSome nodes → first_offset nodes ≡ first_or passed nodes
  first_is passed nothing some = absurd some
  first_is passed (leaf_then block later) some = refl
  first_is passed (container_then container offset inner later) some = refl

  end_grows : (nodes : Nodes) (from to : ℕ) → from ≤ to → last_end from nodes ≤ last_end to nodes
  end_grows nothing from to less = less
  end_grows (leaf_then block later) from to less = by_kind (is_blank_kind block.kind) (end_grows later from to less)
    where
      by_kind : (k : Bool) → last_end from later ≤ last_end to later
          → last_end (if k then from else block_end block) later ≤ last_end (if k then to else block_end block) later
      by_kind true rest = rest
      by_kind false rest = omega arith
  end_grows (container_then container offset inner later) from to less = omega arith

  -- what has passed before some nodes is not asked for after them
  passed_once : (nodes : Nodes) → AreSome nodes → (one other : ℕ) → passed_after one nodes ≡ passed_after other nodes
  passed_once nothing some one other = absurd some
  passed_once (leaf_then block later) some one other = refl
  passed_once (container_then container offset inner later) some one other = refl

  -- the last of their lines ends where what follows them begins
  lines_pass : (nodes : Nodes) (outer : List Container) (kept passed from : ℕ) → Stand outer kept passed nodes
      → lines_end from nodes ≡ passed_after from nodes
  lines_pass nothing outer kept passed from stand = refl
  lines_pass (leaf_then block later) outer kept passed from stand =
      lines_pass later outer (length outer) (block_end block) (block_end block) stand.3
  lines_pass (container_then container offset inner later) outer kept passed from stand =
      let after = passed_after (suc offset) inner in
      ap (λ n. lines_end n later) (lines_pass inner (outer ++ past_first_line container ∷ []) kept (suc offset) 0 stand.2
      ∙ passed_once inner stand.1 0 (suc offset))
      ∙ lines_pass later outer (length outer) after after stand.3

  -- a container ends by what follows it, and not before the last of its blocks that is not blank
  end_between : (container : Container) (first last lines after : ℕ) → first ≤ last → last ≤ after → lines ≡ after
      → (first ≤ end_of container lines last) × (end_of container lines last ≤ after) × (last ≤ end_of container lines last)
  end_between Quote first last lines after low high are = (omega (arith, low, high, are), omega (arith, are), omega (arith, high, are))
  end_between (Item one) first last lines after low high are = (low, high, omega arith)
  end_between Footnote first last lines after low high are = (low, high, omega arith)
  end_between (TermDefinition one) first last lines after low high are = (low, high, omega arith)

  -- the last of their ends that is not of a blank line stands between what has passed before them and what has after them
  ends_between : (nodes : Nodes) (outer : List Container) (kept passed from : ℕ) → Stand outer kept passed nodes → from ≤ first_or passed nodes
      → (from ≤ last_end from nodes) × (last_end from nodes ≤ passed_after passed nodes)
  ends_between nothing outer kept passed from stand before = (omega arith, before)
  ends_between (leaf_then block later) outer kept passed from stand before =
      by_kind (is_blank_kind block.kind) (λ at low. ends_between later outer (length outer) (block_end block) at stand.3 low)
    where
      first : block_end block ≤ first_or (block_end block) later
      first = first_later outer (length outer) (block_end block) later stand.3

      by_kind : (k : Bool)
          → ((at : ℕ) → at ≤ first_or (block_end block) later → (at ≤ last_end at later) × (last_end at later ≤ passed_after (block_end block) later))
          → (from ≤ last_end (if k then from else block_end block) later)
          × (last_end (if k then from else block_end block) later ≤ passed_after (block_end block) later)
      by_kind true rest = rest from (omega (arith, before, stand.1, first))
      by_kind false rest =
          let there = rest (block_end block) first in
          (omega (arith, before, stand.1, there.0), there.1)
  ends_between (container_then container offset inner later) outer kept passed from stand before =
      let first = first_later (outer ++ past_first_line container ∷ []) kept (suc offset) inner stand.2 in
      let is = first_is (suc offset) inner stand.1 in
      let held = ends_between inner (outer ++ past_first_line container ∷ []) kept (suc offset) (first_offset inner) stand.2 (omega (arith, is)) in
      let lines = lines_pass inner (outer ++ past_first_line container ∷ []) kept (suc offset) 0 stand.2
      ∙ passed_once inner stand.1 0 (suc offset) in
      let own = end_between container (first_offset inner) (last_end (first_offset inner) inner) (lines_end 0 inner)
      (passed_after (suc offset) inner) held.0 held.1 lines in
      let after = first_later outer (length outer) (passed_after (suc offset) inner) later stand.3 in
      let there = ends_between later outer (length outer) (passed_after (suc offset) inner) (container_end container inner) stand.3
      (omega (arith, own.1, after)) in
      (omega (arith, before, first, is, own.0, there.0), there.1)

  -- a container ends between its marker and what follows it
  held_between : (container : Container) (outer : List Container) (kept offset : ℕ) (inner : Nodes) → AreSome inner
      → Stand outer kept (suc offset) inner → (suc offset ≤ first_offset inner) × (first_offset inner ≤ container_end container inner)
      × (container_end container inner ≤ passed_after (suc offset) inner)
      × (last_end (first_offset inner) inner ≤ container_end container inner)
  held_between container outer kept offset inner some stand =
      let first = first_later outer kept (suc offset) inner stand in
      let is = first_is (suc offset) inner some in
      let held = ends_between inner outer kept (suc offset) (first_offset inner) stand (omega (arith, is)) in
      let lines = lines_pass inner outer kept (suc offset) 0 stand ∙ passed_once inner some 0 (suc offset) in
      let own = end_between container (first_offset inner) (last_end (first_offset inner) inner) (lines_end 0 inner)
      (passed_after (suc offset) inner) held.0 held.1 lines in
      (omega (arith, first, is), own.0, own.1, own.2)

  -- ---- lists

  last_to : (one : ListItem) (inner : Nodes) (set_off : Bool) (found : Option ItemList) → is_alike one found ≡ false
      → (list_with one inner set_off found).to ≡ container_end (Item one) inner
  last_to one inner set_off None none = refl
  last_to one inner set_off (Some list) none = rw none refl

  goes_to : (one : ListItem) (inner : Nodes) (set_off : Bool) (found : Option ItemList) → is_alike one found ≡ true
      → (list : ItemList) × (found ≡ Some list) × ((list_with one inner set_off found).to ≡ list.to)
  goes_to one inner set_off None is = absurd (cc)
  goes_to one inner set_off (Some list) is = (list, refl, rw is refl)

  -- the list that nodes begin with ends after what has passed before them, and by their end
  list_between : (nodes : Nodes) (outer : List Container) (kept passed from : ℕ) → Stand outer kept passed nodes → from ≤ first_or passed nodes
      → (list : ItemList) → front_list nodes ≡ Some list → (passed ≤ list.to) × (list.to ≤ last_end from nodes)
  list_between nothing outer kept passed from stand before list is = absurd (cc)
  list_between (leaf_then block later) outer kept passed from stand before list is =
      let first = first_later outer (length outer) (block_end block) later stand.3 in
      by_kind (is_blank_kind block.kind)
      (λ there. list_between later outer (length outer) (block_end block) from stand.3 (omega (arith, before, stand.1, first)) list there) is
    where
      by_kind : (k : Bool) → (front_list later ≡ Some list → (block_end block ≤ list.to) × (list.to ≤ last_end from later))
          → ◌≡◌ {A = Option ItemList} (if k then front_list later else None) (Some list)
          → (passed ≤ list.to) × (list.to ≤ last_end (if k then from else block_end block) later)
      by_kind true rest there = let more = rest there in (omega (arith, stand.0, stand.1, more.0), more.1)
      by_kind false rest there = absurd (cc)
  list_between (container_then (Item one) offset inner later) outer kept passed from stand before list is =
      let held = held_between (Item one) (outer ++ past_first_line (Item one) ∷ []) kept offset inner stand.1 stand.2 in
      let after = first_later outer (length outer) (passed_after (suc offset) inner) later stand.3 in
      let there = ends_between later outer (length outer) (passed_after (suc offset) inner) (container_end (Item one) inner) stand.3
      (omega (arith, held.2, after)) in
      let same : list_with one inner (is_set_off one inner later) (front_list later) ≡ list = cc in
      subst (λ (l : ItemList). (passed ≤ l.to) × (l.to ≤ last_end (container_end (Item one) inner) later)) same
      (by_case held there.0
      (λ on on_is. list_between later outer (length outer) (passed_after (suc offset) inner) (container_end (Item one) inner) stand.3
      (omega (arith, held.2, after)) on on_is)
      (is_alike one (front_list later)) refl)
    where
      end : ℕ
      end = container_end (Item one) inner

      by_case : (suc offset ≤ first_offset inner) × (first_offset inner ≤ end) × (end ≤ passed_after (suc offset) inner)
          × (last_end (first_offset inner) inner ≤ end) → end ≤ last_end end later
          → ((on : ItemList) → front_list later ≡ Some on → (passed_after (suc offset) inner ≤ on.to) × (on.to ≤ last_end end later))
          → (alike : Bool) → is_alike one (front_list later) ≡ alike
          → (passed ≤ (list_with one inner (is_set_off one inner later) (front_list later)).to)
          × ((list_with one inner (is_set_off one inner later) (front_list later)).to ≤ last_end (container_end (Item one) inner) later)
      by_case held there goes false alike =
          let to = last_to one inner (is_set_off one inner later) (front_list later) alike in
          (omega (arith, stand.0, held.0, held.1, to), omega (arith, there, to))
      by_case held there goes true alike =
          let on = goes_to one inner (is_set_off one inner later) (front_list later) alike in
          let rest = goes on.0 on.1 in
          (omega (arith, stand.0, held.0, held.1, held.2, rest.0, on.2), omega (arith, rest.1, on.2))
  list_between (container_then Quote offset inner later) outer kept passed from stand before list is = absurd (cc)
  list_between (container_then Footnote offset inner later) outer kept passed from stand before list is = absurd (cc)
  list_between (container_then (TermDefinition one) offset inner later) outer kept passed from stand before list is = absurd (cc)

  -- an item ends within its list
  item_fits : (one : ListItem) (offset : ℕ) (inner later : Nodes) (outer : List Container) (kept passed : ℕ)
      → Stand outer kept passed (container_then (Item one) offset inner later)
      → container_end (Item one) inner ≤ (list_with one inner (is_set_off one inner later) (front_list later)).to
  item_fits one offset inner later outer kept passed stand = by (is_alike one (front_list later)) refl
    where
      by : (alike : Bool) → is_alike one (front_list later) ≡ alike
          → container_end (Item one) inner ≤ (list_with one inner (is_set_off one inner later) (front_list later)).to
      by false alike = omega (arith, last_to one inner (is_set_off one inner later) (front_list later) alike)
      by true alike =
          let on = goes_to one inner (is_set_off one inner later) (front_list later) alike in
          let between = held_between (Item one) (outer ++ past_first_line (Item one) ∷ []) kept offset inner stand.1 stand.2 in
          let follows = first_later outer (length outer) (passed_after (suc offset) inner) later stand.3 in
          let there = list_between later outer (length outer) (passed_after (suc offset) inner) (container_end (Item one) inner) stand.3
          (omega (arith, between, follows)) on.0 on.1 in
          omega (arith, between, there.0, on.2)

  -- ---- events

  -- a blank line has none
  blank_has_none : (s : EventSetting) (block : LeafBlock) (kind : BlockKind) (here : Place) (events : List RangedEvent) → is_blank_kind kind ≡ true
      → AreLeafEventsOf kind page s here block events → events ≡ []
  blank_has_none s block Blank here events blank are = are
  blank_has_none s block Break here events blank are = absurd (cc)
  blank_has_none s block Definition here events blank are = are
  blank_has_none s block (Heading level) here events blank are = absurd (cc)
  blank_has_none s block (Setext level) here events blank are = absurd (cc)
  blank_has_none s block Indented here events blank are = absurd (cc)
  blank_has_none s block (Fenced count byte) here events blank are = absurd (cc)
  blank_has_none s block (Html kind) here events blank are = absurd (cc)
  blank_has_none s block Paragraph here events blank are = absurd (cc)
  blank_has_none s block (Table columns) here events blank are = absurd (cc)

  -- nor has it a task list marker
  no_task : (container : Container) (kind : BlockKind) (block : LeafBlock) → is_blank_kind kind ≡ true → task_in container kind block ≡ None
  no_task Quote kind block blank = refl
  no_task Footnote kind block blank = refl
  no_task (TermDefinition one) kind block blank = refl
  no_task (Item one) Blank block blank = refl
  no_task (Item one) Break block blank = refl
  no_task (Item one) Definition block blank = refl
  no_task (Item one) (Heading level) block blank = refl
  no_task (Item one) (Setext level) block blank = refl
  no_task (Item one) Indented block blank = refl
  no_task (Item one) (Fenced count byte) block blank = refl
  no_task (Item one) (Html kind) block blank = refl
  no_task (Item one) Paragraph block blank = absurd (cc)
  no_task (Item one) (Table columns) block blank = refl

  none_here : (tasks : Bool) (waiting : Option Container) (block : LeafBlock) → is_blank_kind block.kind ≡ true
      → task_here tasks waiting block ≡ None
  none_here true (Some container) block blank = no_task container block.kind block blank
  none_here true None block blank = refl
  none_here false (Some container) block blank = refl
  none_here false None block blank = refl

  blank_block : (s : EventSetting) (block : LeafBlock) (here : Place) (waiting : Option Container) (events : List RangedEvent) → is_blank_kind block.kind ≡ true
      → AreBlockEvents page s here waiting block events → events ≡ []
  blank_block s block here waiting events blank are =
      blank_has_none s block block.kind here events blank
      (subst (λ (task : Option Task). AreEventsWith task page s here block events) (none_here s.asked.tasks waiting block blank) are)

  -- These elements are open, and end there: a list with which the nodes go on up to its end, and those around it; or those alone.
  abbrev AreOpenTo : Option OpenList → Nodes → List ℕ → List ℕ → Type 0
  AreOpenTo None nodes ends outer = ends ≡ outer
  AreOpenTo (Some list) nodes ends outer =
      (found : ItemList) × (front_list nodes ≡ Some found) × (found.to ≡ list.element.to) × (ends ≡ list.element.to ∷ outer)

  -- what rises after the last of the nodes rises after their events
  abbrev Rises : Nodes → Type 0
  Rises nodes = (room : Room) (here : Place) (waiting : Option Container) (current : Option OpenList) (passed from to : ℕ) (ends outer : List ℕ)
      (events more : List RangedEvent)
      → Stand here.containers here.kept passed nodes → from ≤ passed → last_end from nodes ≤ to → AreOpenTo current nodes ends (to ∷ outer)
      → AreNodeEvents page setting room here waiting current nodes events → RiseIn (to ∷ outer) (last_end from nodes) more
      → RiseIn ends from (events ++ more)

  -- a leaf block, and what follows it
  leaf_then_rises : (block : LeafBlock) (later : Nodes) → Rises later → Rises (leaf_then block later)
  leaf_then_rises block later rises room here waiting current passed from to ends outer events more stand low within are_open (own, rest, are_own, are_rest, is) gives =
      subst (λ (es : List RangedEvent). RiseIn ends from (es ++ more)) (sym is)
      (subst (RiseIn ends from) (sym (append_assoc own rest more)) (by_kind (is_blank_kind block.kind) refl current within are_open are_rest gives))
    where
      first : block_end block ≤ first_or (block_end block) later
      first = first_later here.containers (length here.containers) (block_end block) later stand.3

      by_kind : (k : Bool) → is_blank_kind block.kind ≡ k → (current : Option OpenList) → last_end (if k then from else block_end block) later ≤ to
          → AreOpenTo current (leaf_then block later) ends (to ∷ outer)
          → AreNodeEvents page setting (room_after room own) (after_block here) (waiting_next waiting (leaf block)) current later rest
          → RiseIn (to ∷ outer) (last_end (if k then from else block_end block) later) more → RiseIn ends from (own ++ (rest ++ more))
      by_kind true blank current within are_open are_rest gives =
          let none = in_room page setting room here waiting block own (λ s are. blank_block s block here waiting own blank are) are_own in
          subst (λ (es : List RangedEvent). RiseIn ends from (es ++ (rest ++ more))) (sym none)
          (rises (room_after room own) (after_block here) (waiting_next waiting (leaf block)) current (block_end block) from to ends outer rest more
          stand.3 (omega (arith, low, stand.0, stand.1)) within
          (open_later current are_open) are_rest gives)
        where
          open_later : (current : Option OpenList) → AreOpenTo current (leaf_then block later) ends (to ∷ outer)
              → AreOpenTo current later ends (to ∷ outer)
          open_later None are_open = are_open
          open_later (Some list) (found, is, to_is, are) =
              (found, (let test = ap (λ (k : Bool). if k then front_list later else None) blank in sym test ∙ is), to_is, are)
      by_kind false some None within are_open are_rest gives =
          let there = ends_between later here.containers (length here.containers) (block_end block) (block_end block) stand.3 first in
          subst (λ (e : List ℕ). RiseIn e from (own ++ (rest ++ more))) (sym are_open)
          (in_room page setting room here waiting block own
          (λ s are. stand.2 s here.is_tight waiting own are from to outer (rest ++ more) low (omega (arith, there.0, within))
          (rises (room_after room own) (after_block here) (waiting_next waiting (leaf block)) None (block_end block) (block_end block) to (to ∷ outer) outer
          rest more stand.3 (omega arith) within refl are_rest gives)) are_own)
      by_kind false some (Some list) within (found, is, to_is, are) are_rest gives =
          let test = ap (λ (k : Bool). if k then front_list later else None) some in
          let none : ◌≡◌ {A = Option ItemList} None (Some found) = sym test ∙ is in
          absurd (cc)

  -- an item of a list that is open, and what follows it
  item_in_list : (one : ListItem) (offset : ℕ) (inner later : Nodes) → Rises inner → Rises later → (room : Room) (here : Place) (list : OpenList)
      (is_tight : Bool)
      → (passed from to : ℕ) (outer : List ℕ) (held rest more : List RangedEvent)
      → Stand here.containers here.kept passed (container_then (Item one) offset inner later) → from ≤ offset
      → last_end (container_end (Item one) inner) later ≤ to
      → (list_with one inner (is_set_off one inner later) (front_list later)).to ≡ list.element.to → (alike : Bool)
      → is_alike one (front_list later) ≡ alike → AreNodeEvents page setting room (inside (Item one) is_tight here) (Some (Item one)) None inner held
      → AreNodeEvents page setting (room_after room held) (after_block here) None (list_after (not alike) list) later rest
      → RiseIn (to ∷ outer) (last_end (container_end (Item one) inner) later) more
      → RiseIn (list.element.to ∷ to ∷ outer) from
      (element item offset (container_end (Item one) inner) held ++ (list_end (not alike) list ++ (rest ++ more)))
  item_in_list one offset inner later in_it after_it room here list is_tight passed from to outer held rest more stand low within list_is alike same
      are_held are_rest gives =
      element_rises item offset (container_end (Item one) inner) from list.element.to (to ∷ outer) held _ low (omega (arith, between)) fits
      (λ more closed. in_it room (inside (Item one) is_tight here) (Some (Item one)) None (suc offset) offset (container_end (Item one) inner)
      (container_end (Item one) inner ∷ list.element.to ∷ to ∷ outer) (list.element.to ∷ to ∷ outer) held more stand.2 (omega arith) inner_ends refl are_held
      (rise_from (container_end (Item one) inner ∷ list.element.to ∷ to ∷ outer) (last_end offset inner) (container_end (Item one) inner) more
      inner_ends closed))
      (after alike same are_rest)
    where
      between : (suc offset ≤ first_offset inner) × (first_offset inner ≤ container_end (Item one) inner)
          × (container_end (Item one) inner ≤ passed_after (suc offset) inner) × (last_end (first_offset inner) inner ≤ container_end (Item one) inner)
      between = held_between (Item one) (here.containers ++ past_first_line (Item one) ∷ []) here.kept offset inner stand.1 stand.2

      inner_ends : last_end offset inner ≤ container_end (Item one) inner
      inner_ends = end_grows inner offset (first_offset inner) (omega (arith, between))

      fits : container_end (Item one) inner ≤ list.element.to
      fits = omega (arith, list_is, item_fits one offset inner later here.containers here.kept passed stand)

      after : (alike : Bool) → is_alike one (front_list later) ≡ alike
          → AreNodeEvents page setting (room_after room held) (after_block here) None (list_after (not alike) list) later rest
          → RiseIn (list.element.to ∷ to ∷ outer) (container_end (Item one) inner) (list_end (not alike) list ++ (rest ++ more))
      after false same are_rest =
          let at_end = sym (last_to one inner (is_set_off one inner later) (front_list later) same) ∙ list_is in (
            omega (arith, at_end),
            refl,
            subst (λ n. RiseIn (to ∷ outer) n (rest ++ more)) at_end
                (after_it (room_after room held) (after_block here) None None (passed_after (suc offset) inner) (container_end (Item one) inner) to
                (to ∷ outer) outer rest more stand.3
                (omega (arith, between)) within refl are_rest gives),
          )
      after true same are_rest =
          let on = goes_to one inner (is_set_off one inner later) (front_list later) same in
          after_it (room_after room held) (after_block here) None (Some list) (passed_after (suc offset) inner) (container_end (Item one) inner) to
          (list.element.to ∷ to ∷ outer) outer rest more
          stand.3 (omega (arith, between)) within (on.0, on.1, sym on.2 ∙ list_is, refl) are_rest gives

  -- a container that is no item, and what follows it
  other_rises : (container : Container) (offset : ℕ) (inner later : Nodes) → Rises inner → Rises later → (room : Room) (here : Place)
      → (passed from to : ℕ) (ends outer : List ℕ) (events more : List RangedEvent)
      → Stand here.containers here.kept passed (container_then container offset inner later) → from ≤ passed
      → last_end (container_end container inner) later ≤ to
      → ends ≡ to ∷ outer → OtherEvents page setting container offset inner later room here events
      → RiseIn (to ∷ outer) (last_end (container_end container inner) later) more → RiseIn ends from (events ++ more)
  other_rises container offset inner later in_it after_it room here passed from to ends outer events more stand low within are_open
      (held, rest, are_held, are_rest, is) gives =
      let tag = container_tag container in
      let between = held_between container (here.containers ++ past_first_line container ∷ []) here.kept offset inner stand.1 stand.2 in
      let follows = first_later here.containers (length here.containers) (passed_after (suc offset) inner) later stand.3 in
      let there = ends_between later here.containers (length here.containers) (passed_after (suc offset) inner) (container_end container inner) stand.3
      (omega (arith, between, follows)) in
      let inner_ends : last_end offset inner ≤ container_end container inner =
      omega (arith, between, end_grows inner offset (first_offset inner) (omega (arith, between))) in
      subst (λ (es : List RangedEvent). RiseIn ends from (es ++ more)) (sym is)
      (subst (λ (e : List ℕ). RiseIn e from (element tag offset (container_end container inner) held ++ rest ++ more)) (sym are_open)
      (subst (RiseIn (to ∷ outer) from) (sym (append_assoc (element tag offset (container_end container inner) held) rest more))
      (element_rises tag offset (container_end container inner) from to outer held (rest ++ more) (omega (arith, low, stand.0)) (omega (arith, between))
      (omega (arith, there.0, within))
      (λ more closed. in_it room (inside container false here) (Some container) None (suc offset) offset (container_end container inner)
      (container_end container inner ∷ to ∷ outer) (to ∷ outer) held more stand.2 (omega arith) inner_ends refl are_held
      (rise_from (container_end container inner ∷ to ∷ outer) (last_end offset inner) (container_end container inner) more inner_ends closed))
      (after_it (room_after room held) (after_block here) None None (passed_after (suc offset) inner) (container_end container inner) to
      (to ∷ outer) outer rest more stand.3
      (omega (arith, between)) within refl are_rest gives))))

  nodes_rise : (nodes : Nodes) → Rises nodes
  nodes_rise nothing room here waiting None passed from to ends outer events more stand low within are_open is gives =
      subst (λ (es : List RangedEvent). RiseIn ends from (es ++ more)) (sym is) (subst (λ (e : List ℕ). RiseIn e from more) (sym are_open) gives)
  nodes_rise nothing room here waiting (Some list) passed from to ends outer events more stand low within (found, none, to_is, are) is gives = absurd (cc)
  nodes_rise (leaf_then block later) room here waiting current passed from to ends outer events more stand low within are_open are gives =
      leaf_then_rises block later (nodes_rise later) room here waiting current passed from to ends outer events more stand low within are_open are gives
  nodes_rise (container_then (Item one) offset inner later) room here waiting None passed from to ends outer events more stand low within are_open
      (held, rest, are_held, are_rest, is) gives =
      let span = span_of (Item one) inner later in
      let now = list_in None one offset span in
      let whole = element item offset span.to held in
      let list = list_between (container_then (Item one) offset inner later) here.containers here.kept passed from stand (omega (arith, low, stand.0))
      (list_with one inner (is_set_off one inner later) (front_list later)) refl in
      let between = held_between (Item one) (here.containers ++ past_first_line (Item one) ∷ []) here.kept offset inner stand.1 stand.2 in
      let within_list = item_fits one offset inner later here.containers here.kept passed stand in
      let rises = item_in_list one offset inner later (nodes_rise inner) (nodes_rise later) room here now now.is_tight passed offset to outer held rest more stand
      (omega arith) within refl (is_alike one (front_list later)) refl are_held are_rest gives in
      subst (λ (es : List RangedEvent). RiseIn ends from (es ++ more)) (sym is)
      (subst (λ (e : List ℕ). RiseIn e from
      (ranged (start (list_tag one)) offset span.list_to ∷ (whole ++ list_end span.is_last now ++ rest ++ more))) (sym are_open) (
        record { begins = omega (arith, low, stand.0); in_order = omega (arith, between, within_list); ends = omega (arith, list.1, within) },
        subst (RiseIn (span.list_to ∷ to ∷ outer) offset) (sym (reassociated whole (list_end span.is_last now) rest more)) rises,
      ))
  nodes_rise (container_then (Item one) offset inner later) room here waiting (Some list) passed from to ends outer events more stand low within
      (found, front, to_is, are_open) (held, rest, are_held, are_rest, is) gives =
      let span = span_of (Item one) inner later in
      let whole = element item offset span.to held in
      let same : list_with one inner (is_set_off one inner later) (front_list later) ≡ found = cc in
      let rises = item_in_list one offset inner later (nodes_rise inner) (nodes_rise later) room here list list.is_tight passed from to outer held rest more stand
      (omega (arith, low, stand.0)) within (ap (λ (l : ItemList). l.to) same ∙ to_is) (is_alike one (front_list later)) refl are_held are_rest gives in
      subst (λ (es : List RangedEvent). RiseIn ends from (es ++ more)) (sym is)
      (subst (λ (e : List ℕ). RiseIn e from (whole ++ list_end span.is_last list ++ rest ++ more)) (sym are_open)
      (subst (RiseIn (list.element.to ∷ to ∷ outer) from) (sym (reassociated whole (list_end span.is_last list) rest more)) rises))
  nodes_rise (container_then Quote offset inner later) room here waiting None passed from to ends outer events more stand low within are_open are gives =
      other_rises Quote offset inner later (nodes_rise inner) (nodes_rise later) room here passed from to ends outer events more stand low within are_open are gives
  nodes_rise (container_then Footnote offset inner later) room here waiting None passed from to ends outer events more stand low within are_open are gives =
      other_rises Footnote offset inner later (nodes_rise inner) (nodes_rise later) room here passed from to ends outer events more stand low within
      are_open are gives
  nodes_rise (container_then (TermDefinition one) offset inner later) room here waiting None passed from to ends outer events more stand low within are_open are gives =
      other_rises (TermDefinition one) offset inner later (nodes_rise inner) (nodes_rise later) room here passed from to ends outer events more stand low within
      are_open are gives
  nodes_rise (container_then c offset inner later) room here waiting (Some list) passed from to ends outer events more stand low within (found, none, to_is, are) is gives =
      absurd (cc)

-- ---- the page

-- The ranges of a page's events rise, and lie within those of the elements that hold them, where its nodes stand in order and the events of
-- each leaf block rise.
pub page_events_rise : (page : List ℕ) (setting : EventSetting) (passed : ℕ) (room : Room) (nodes : Nodes) (events : List RangedEvent)
    → Stand page setting [] 0 passed nodes → passed_after passed nodes ≤ length page → AreNodeEvents page setting room outermost None None nodes events
    → AreWithin page events
page_events_rise page setting passed room nodes events stand within are =
    let between = ends_between page setting nodes [] 0 passed 0 stand (omega arith) in
    subst (RiseIn (length page ∷ []) 0) (append-nil events)
    (nodes_rise page setting nodes room outermost None None passed 0 (length page) (length page ∷ []) [] events [] stand (omega arith)
    (omega (arith, between.1, within)) refl are tt)
