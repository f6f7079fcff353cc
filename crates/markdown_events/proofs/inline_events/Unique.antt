-- A text has one list of events.
use Rattle.std.proofs.Common.{ℕ, List, [], ◌∷◌, ◌++◌, ◌≡◌, ◌∙◌, ◌+◌, ◌-◌, false, drop, sym, ap, subst, Option, Some, None}
use Rattle.std.specs.declared.ops.Range.{Range}
use Rattle.html_entities.specs.Entities.{html_entity}
use Rattle.markdown_values.specs.values.Events.{start, text}
use Rattle.markdown_values.specs.values.Tags.{TagView}
use Rattle.markdown_scanners_tree.specs.scanners.unescaping.Unescaping.{joined_meanings}
use Rattle.markdown_scanners_tree.proofs.ForCallers.{one_label_unskipped, one_reference, same_pieces}
use Rattle.markdown_scanners_tree.specs.linklabel.Label.{Label}
use Rattle.markdown_inlines.specs.Links.{IsLabelAt}
use Rattle.markdown_inlines.specs.Output.{inlines_from}
use Rattle.markdown_inlines.specs.declared.emphasis.Emphasis.{Emphasis}
use Rattle.markdown_inlines.specs.declared.inlines.Inline.{Inline}
use Rattle.markdown_inlines.specs.declared.inlines.Inline.TheVariants as I
use Rattle.markdown_inlines.specs.declared.links.Link.{Link}
use Rattle.markdown_inlines.specs.declared.links.LinkTarget.{LinkTarget}
use Rattle.markdown_inlines.specs.declared.links.LinkTarget.TheVariants.{Inline as Within, Full, Collapsed, Shortcut, Wiki}
use Rattle.markdown_inlines.specs.declared.pieces.Piece.{Piece}
use Rattle.markdown_inlines.specs.declared.pieces.PieceKind.{PieceKind}
use Rattle.markdown_inlines.specs.declared.pieces.PieceKind.TheVariants as K
use Rattle.markdown_inlines.proofs.ForCallers.{one_cut}
use Rattle.markdown_events.specs.InlineEvents.{AreInlineEvents, AreEvents, ArePieceEvents, Begins, EventSetting, RangedEvent, alone}
use Rattle.markdown_events.specs.InlineEvents.{closing, end_in, ranged, shown_target}
use Rattle.markdown_events.specs.LineFeeds.{with_line_feeds}
use Rattle.markdown_events.specs.Meanings.{IsDestination, IsMeaning, IsTitle, IsLinkTag, IsWrittenTarget, link_or_image, link_type}
use Rattle.markdown_events.specs.TagEnds.{tag_end}
use Rattle.markdown_blocks.specs.link_definitions.LinkDefinitions.{Target}
use Rattle.markdown_events.specs.Targets.{Targets}
use Rattle.markdown_events.specs.declared.elements.Element.{Element}

-- a text has one meaning
pub one_meaning : (source meaning meaning' : List ℕ) → IsMeaning source meaning → IsMeaning source meaning' → meaning ≡ meaning'
one_meaning source meaning meaning' is is' =
    is.meaning_is ∙ (ap joined_meanings (same_pieces false html_entity source is.parts is'.parts is.are_parts is'.are_parts) ∙ sym is'.meaning_is)

one_title : (title : Option (List ℕ)) (meaning meaning' : List ℕ) → IsTitle title meaning → IsTitle title meaning' → meaning ≡ meaning'
one_title None meaning meaning' is is' = is ∙ sym is'
one_title (Some title) meaning meaning' is is' = one_meaning (with_line_feeds title) meaning meaning' is is'

-- one label stands at an offset
one_label : (source : List ℕ) (from close : ℕ) (label label' : List ℕ) → IsLabelAt source from close label
    → IsLabelAt source from close label' → label ≡ label'
one_label source from close label label' is is' =
    let same : is.label ≡ is'.label = one_label_unskipped (drop from source) is.label is'.label is.is_label is'.is_label in
    is.named ∙ (ap (λ (l : Label). l.text) same ∙ sym is'.named)

module _ (source : List ℕ) (targets : Targets) where
  one_defined : (from close : ℕ) (label label' : List ℕ) (to to' : Target) → IsLabelAt source from close label → targets label ≡ Some to
      → IsLabelAt source from close label' → targets label' ≡ Some to' → (label ≡ label') × (to ≡ to')
  one_defined from close label label' to to' is leads is' leads' =
      let same : label ≡ label' = one_label source from close label label' is is' in
      let both : Some to ≡ Some to' = sym leads ∙ (ap targets same ∙ leads') in
      (same, cc)

  one_target : (words : Range ℕ) (target : LinkTarget) (label label' : List ℕ) (to to' : Target) → IsWrittenTarget source targets words target label to
      → IsWrittenTarget source targets words target label' to' → (label ≡ label') × (to ≡ to')
  one_target words (Within destination title) label label' to to' is is' = (is.0 ∙ sym is'.0, is.1 ∙ sym is'.1)
  one_target words (Full range) label label' to to' is is' =
      one_defined (range.start + 1) (range.end - 1) label label' to to' is.0 is.1 is'.0 is'.1
  one_target words Collapsed label label' to to' is is' = one_defined words.start words.end label label' to to' is.0 is.1 is'.0 is'.1
  one_target words Shortcut label label' to to' is is' = one_defined words.start words.end label label' to to' is.0 is.1 is'.0 is'.1
  one_target words (Wiki range) label label' to to' is is' = (is.0 ∙ sym is'.0, is.1 ∙ sym is'.1)

  one_destination : (target : LinkTarget) (destination meaning meaning' : List ℕ) → IsDestination target destination meaning
      → IsDestination target destination meaning' → meaning ≡ meaning'
  one_destination (Within inside title) destination meaning meaning' is is' = one_meaning destination meaning meaning' is is'
  one_destination (Full range) destination meaning meaning' is is' = one_meaning destination meaning meaning' is is'
  one_destination Collapsed destination meaning meaning' is is' = one_meaning destination meaning meaning' is is'
  one_destination Shortcut destination meaning meaning' is is' = one_meaning destination meaning meaning' is is'
  one_destination (Wiki range) destination meaning meaning' is is' = is ∙ sym is'

  -- a link has one tag
  one_link_tag : (it : Link) (tag tag' : TagView (List ℕ)) → IsLinkTag source targets it tag → IsLinkTag source targets it tag' → tag ≡ tag'
  one_link_tag it tag tag' is is' =
      let same = one_target it.text it.target is.label is'.label is.target is'.target is.leads is'.leads in
      let destination = one_destination it.target is'.target.destination is.destination is'.destination
      (subst (λ (t : Target). IsDestination it.target t.destination is.destination) same.1 is.is_destination) is'.is_destination in
      let title = one_title is'.target.title is.title is'.title
      (subst (λ (t : Target). IsTitle t.title is.title) same.1 is.is_title) is'.is_title in
      let tag_of : List ℕ → List ℕ → List ℕ → TagView (List ℕ) = link_or_image it.is_image (link_type it.text it.target) in
      is.tag_is ∙ (ap (λ d. tag_of d is.title is.label) destination
      ∙ (ap (λ t. tag_of is'.destination t is.label) title ∙ (ap (λ l. tag_of is'.destination is'.title l) same.0 ∙ sym is'.tag_is)))

  one_piece : (kind : PieceKind) (piece : Piece) (events events' : List RangedEvent) → ArePieceEvents kind source piece events
      → ArePieceEvents kind source piece events' → events ≡ events'
  one_piece K.Text piece events events' is is' = is ∙ sym is'
  one_piece K.Escape piece events events' is is' = is ∙ sym is'
  one_piece K.HardBreak piece events events' is is' = is ∙ sym is'
  one_piece K.SoftBreak piece events events' is is' = is ∙ sym is'
  one_piece K.Reference piece events events' is is' =
      let same = one_reference html_entity _ (is.0, is.1) (is'.0, is'.1) is.2 is'.2 in
      is.3 ∙ (ap (λ (r : ℕ × List ℕ). alone piece (text r.1)) same ∙ sym is'.3)
  one_piece (K.Code backticks) piece events events' is is' = is ∙ sym is'
  one_piece K.Uri piece events events' is is' = is ∙ sym is'
  one_piece K.Email piece events events' is is' = is ∙ sym is'
  one_piece K.Html piece events events' is is' = is ∙ sym is'
  one_piece (K.Delimiters run) piece events events' is is' = is ∙ sym is'
  one_piece K.LinkOpener piece events events' is is' = is ∙ sym is'
  one_piece K.ImageOpener piece events events' is is' = is ∙ sym is'
  one_piece K.Closer piece events events' is is' = is ∙ sym is'

  module _ (links : List (Option Link)) where
    one_start : (inline : Inline) (from from' : ℕ) (tag tag' : TagView (List ℕ)) (shown shown' : List RangedEvent)
        → Begins source targets links inline from tag shown → Begins source targets links inline from' tag' shown'
        → (from ≡ from') × (tag ≡ tag') × (shown ≡ shown')
    one_start (I.StartEmphasis offset count) from from' tag tag' shown shown' is is' =
        (is.0 ∙ sym is'.0, is.1 ∙ sym is'.1, is.2 ∙ sym is'.2)
    one_start (I.StartStrikethrough offset count) from from' tag tag' shown shown' is is' =
        (is.0 ∙ sym is'.0, is.1 ∙ sym is'.1, is.2 ∙ sym is'.2)
    one_start (I.StartLink number) from from' tag tag' shown shown' is is' =
        let both : Some (Some is.0) ≡ Some (Some is'.0) = sym is.1 ∙ is'.1 in
        let same : is.0 ≡ is'.0 = cc in (
          is.2 ∙ (ap (λ (l : Link). l.source.start) same ∙ sym is'.2),
          one_link_tag is'.0 tag tag' (subst (λ l. IsLinkTag source targets l tag) same is.3) is'.3,
          is.4 ∙ (ap (λ (l : Link). shown_target source l.text l.target) same ∙ sym is'.4),
        )
    one_start (I.Leaf piece) from from' tag tag' shown shown' is is' = absurd is
    one_start (I.EndEmphasis offset count) from from' tag tag' shown shown' is is' = absurd is
    one_start (I.EndStrikethrough offset count) from from' tag tag' shown shown' is is' = absurd is
    one_start (I.EndLink piece) from from' tag tag' shown shown' is is' = absurd is

    abbrev HaveOne : List Inline → Type 0
    HaveOne inlines = (elements : List Element) (events events' : List RangedEvent) → AreEvents source targets links elements inlines events
        → AreEvents source targets links elements inlines events' → events ≡ events'

    begun : (inline : Inline) (later : List Inline) → HaveOne later → (elements : List Element) (from from' : ℕ)
        (tag tag' : TagView (List ℕ)) (shown shown' rest rest' events events' : List RangedEvent)
        → Begins source targets links inline from tag shown → Begins source targets links inline from' tag' shown'
        → AreEvents source targets links (record { tag = tag_end tag; from = from; to = end_in later } ∷ elements) later rest
        → AreEvents source targets links (record { tag = tag_end tag'; from = from'; to = end_in later } ∷ elements) later rest'
        → events ≡ ranged (start tag) from (end_in later) ∷ (shown ++ rest)
        → events' ≡ ranged (start tag') from' (end_in later) ∷ (shown' ++ rest') → events ≡ events'
    begun inline later one elements from from' tag tag' shown shown' rest rest' events events' begins begins' gives gives' is is' =
        let same = one_start inline from from' tag tag' shown shown' begins begins' in
        let moved = subst (λ t. AreEvents source targets links (record { tag = tag_end t; from = from'; to = end_in later } ∷ elements) later rest) same.1
        (subst (λ n. AreEvents source targets links (record { tag = tag_end tag; from = n; to = end_in later } ∷ elements) later rest) same.0 gives) in
        let rests = one (record { tag = tag_end tag'; from = from'; to = end_in later } ∷ elements) rest rest' moved gives' in
        is ∙ (ap (λ n. ranged (start tag) n (end_in later) ∷ (shown ++ rest)) same.0
        ∙ (ap (λ t. ranged (start t) from' (end_in later) ∷ (shown ++ rest)) same.1
        ∙ (ap (λ (s : List RangedEvent). ranged (start tag') from' (end_in later) ∷ (s ++ rest)) same.2
        ∙ (ap (λ (r : List RangedEvent). ranged (start tag') from' (end_in later) ∷ (shown' ++ r)) rests ∙ sym is'))))

    one_list : (inlines : List Inline) → HaveOne inlines
    one_list [] elements events events' is is' = is ∙ sym is'
    one_list (I.Leaf piece ∷ later) elements events events' (here, rest, are, gives, is) (here', rest', are', gives', is') =
        let same = one_piece piece.kind piece here here' are are' in
        let rests = one_list later elements rest rest' gives gives' in
        is ∙ (ap (λ h. h ++ rest) same ∙ (ap (λ r. here' ++ r) rests ∙ sym is'))
    one_list (I.EndEmphasis offset count ∷ later) elements events events' (rest, gives, is) (rest', gives', is') =
        is ∙ (ap (λ r. closing elements ++ r) (one_list later (drop 1 elements) rest rest' gives gives') ∙ sym is')
    one_list (I.EndStrikethrough offset count ∷ later) elements events events' (rest, gives, is) (rest', gives', is') =
        is ∙ (ap (λ r. closing elements ++ r) (one_list later (drop 1 elements) rest rest' gives gives') ∙ sym is')
    one_list (I.EndLink piece ∷ later) elements events events' (rest, gives, is) (rest', gives', is') =
        is ∙ (ap (λ r. closing elements ++ r) (one_list later (drop 1 elements) rest rest' gives gives') ∙ sym is')
    one_list (I.StartEmphasis p count ∷ later) elements events events' (from, tag, shown, rest, begins, gives, is)
        (from', tag', shown', rest', begins', gives', is') =
        begun (I.StartEmphasis p count) later (one_list later) elements from from' tag tag' shown shown' rest rest' events events'
        begins begins' gives gives' is is'
    one_list (I.StartStrikethrough p count ∷ later) elements events events' (from, tag, shown, rest, begins, gives, is)
        (from', tag', shown', rest', begins', gives', is') =
        begun (I.StartStrikethrough p count) later (one_list later) elements from from' tag tag' shown shown' rest rest' events events'
        begins begins' gives gives' is is'
    one_list (I.StartLink n ∷ later) elements events events' (from, tag, shown, rest, begins, gives, is)
        (from', tag', shown', rest', begins', gives', is') =
        begun (I.StartLink n) later (one_list later) elements from from' tag tag' shown shown' rest rest' events events'
        begins begins' gives gives' is is'

-- one text, read with one setting, has one list of events
pub one_list_of_inline_events : (source : List ℕ) (setting : EventSetting) (events events' : List RangedEvent)
    → AreInlineEvents source setting events → AreInlineEvents source setting events' → events ≡ events'
one_list_of_inline_events source setting events events' are are' =
    one_list source setting.targets are'.links are'.inlines [] events events'
    (subst (λ (l : List Inline). AreEvents source setting.targets are'.links [] l events) inlines
    (subst (λ (l : List (Option Link)). AreEvents source setting.targets l [] are.inlines events) same.1 are.are_events)) are'.are_events
  where
    same : (are.are_inlines.pieces ≡ are'.are_inlines.pieces) × (are.links ≡ are'.links)
        × (are.are_inlines.emphasis ≡ are'.are_inlines.emphasis)
    same = one_cut source _ are.are_inlines.pieces are'.are_inlines.pieces are.links are'.links are.are_inlines.emphasis are'.are_inlines.emphasis
        are.are_inlines.cut are'.are_inlines.cut

    inlines : are.inlines ≡ are'.inlines
    inlines = are.are_inlines.inlines_are
        ∙ (ap (λ (p : List Piece). inlines_from are.links are.are_inlines.emphasis 0 p) same.0
        ∙ (ap (λ (l : List (Option Link)). inlines_from l are.are_inlines.emphasis 0 are'.are_inlines.pieces) same.1
        ∙ (ap (λ (e : List Emphasis). inlines_from are'.links e 0 are'.are_inlines.pieces) same.2 ∙ sym are'.are_inlines.inlines_are)))
