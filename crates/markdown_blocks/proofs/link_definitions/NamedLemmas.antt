-- What the definitions of a page name, and which of them a label finds.
use Rattle.std.proofs.Common.{ℕ, List, [], ◌∷◌, ◌++◌, ◌+◌, ◌≡◌, ◌⊎◌, inl, inr, Option, Some, None, drop, take, cond, false, Bool, true}
use Rattle.std.proofs.Common.{arith, refl, sym, ap, ◌∙◌, subst, append_assoc}
use Rattle.std.specs.Prelude.{◌==◌, length, is_none, is_some, option_map, unwrap_or}
use Rattle.std.specs.Map.{lookup}
use Rattle.std.specs.Ordering.{is_eq, nat_cmp}
use Rattle.std.specs.Str.{IsUtf8, bytes_eq}
use Rattle.std.specs.Cmp.Lexicographic.{slice_cmp}
use Rattle.std.proofs.lemmas.Bool.{cases_Bool, eqb-true}
use Rattle.std.proofs.lemmas.List.{drop-drop}
use Rattle.std.proofs.lemmas.Map.Text.{is_eq-slice_cmp}
use Rattle.std.proofs.lemmas.Slice.Eq.{bytes_eq-Decides}
use Rattle.markdown_scanners_tree.specs.scanners.TextLines.{lines_of}
use Rattle.markdown_scanners_tree.specs.declared.scanners.reference_definitions.ReferenceDefinition.{ReferenceDefinition}
use Rattle.markdown_scanners_tree.specs.linklabel.Key.{key_bytes}
use Rattle.markdown_scanners_tree.specs.linklabel.Label.{Label, IsLabel, IsLabelInBytes}
use Rattle.markdown_scanners_tree.specs.NoSkips.{SkipsNothing}
use Rattle.markdown_scanners_tree.proofs.ForCallers.{one_label_unskipped}
use Rattle.markdown_blocks.specs.byte_order_mark.ByteOrderMark.{text_of}
use Rattle.markdown_blocks.specs.blocks.Pages.{Piece, IsPiece, AreBlocks, lines_in, root}
use Rattle.markdown_blocks.specs.containers.Containers.{Between, Rest}
use Rattle.markdown_values.specs.declared.values.extensions.Extensions.{Extensions}
use Rattle.markdown_blocks.specs.declared.step.Step.{Step}
use Rattle.markdown_blocks.specs.definitions.Content.{content_in}
use Rattle.markdown_blocks.specs.definitions.Definitions.{AreDefinitions, IsDefinition}
use Rattle.markdown_blocks.specs.events.Events.{piece_content}
use Rattle.markdown_blocks.specs.walk.Walk.{IsStep, IsGathered, IsContentOf}
use Rattle.markdown_blocks.specs.link_definitions.LinkDefinitions.{LentTarget, Target, Named, Known, Names, IsNamed, AreNamed, AreNamedIn, HasDefinitions}
use Rattle.markdown_blocks.specs.link_definitions.LinkDefinitions.{AreAddedBetween, AreAddedUpTo, do_match, first_of, known_as, known_before, target_in, target_of}
use Rattle.markdown_blocks.proofs.definitions.DefinitionLemmas.{no_text, one_list_of_definitions}
use Rattle.markdown_blocks.proofs.blocks.OneText.{one_page}

-- ---- what a label finds

pub none_later : (known : Known) (label : List ℕ) → known_as known label ≡ known_before known [] label
none_later known label = at (known_as known label)
  where
    at : (found : Option Target) → found ≡ elim found [ Some target ↦ Some target | None ↦ first_of label [] ]
    at (Some target) = refl
    at None = refl

-- the first of two
abbrev first : Option Target → Option Target → Option Target
first one other = elim one [ Some target ↦ Some target | None ↦ other ]

first_of_both : (label : List ℕ) (here later : List Named) → first_of label (here ++ later) ≡ first (first_of label here) (first_of label later)
first_of_both label [] later = refl
first_of_both label (named ∷ here) later = elim (cases_Bool (do_match label named.label)) [
  | inl same ↦ rw same refl
  | inr other ↦ rw other (first_of_both label here later)
]

first_of_three : (one two three : Option Target) → first (first one two) three ≡ first one (first two three)
first_of_three (Some target) two three = refl
first_of_three None two three = refl

-- where some are added, they stand before the later ones
pub added_before : (old new : Known) (here later : List Named) (label : List ℕ)
    → known_as new label ≡ known_before old here label → known_before new later label ≡ known_before old (here ++ later) label
added_before old new here later label added =
    ap (λ found. first found (first_of label later)) added
    ∙ first_of_three (known_as old label) (first_of label here) (first_of label later)
    ∙ ap (λ found. first (known_as old label) found) (sym (first_of_both label here later))

-- the labels match that have one key
same_key : (one other : List ℕ) → bytes_eq one other ≡ true → one ≡ other
same_key one other same = (bytes_eq-Decides one other).0 same

key_itself : (key : List ℕ) → bytes_eq key key ≡ true
key_itself key = (bytes_eq-Decides key key).1 refl

-- what the order of keys finds, their bytes find
pub found_by_order : (known : Known) (key : List ℕ) → lookup (λ k. is_eq (slice_cmp nat_cmp key k)) known ≡ lookup (bytes_eq key) known
found_by_order [] key = refl
found_by_order (item ∷ known) key =
    rw (is_eq-slice_cmp key item.0) (ap (λ found. cond (bytes_eq key item.0) (Some item.1) found) (found_by_order known key))

-- so it is where one is put in
pub put_in_order : (old new : Known) (key : List ℕ) (target : LentTarget)
    → ((k : List ℕ) → lookup (λ other. is_eq (slice_cmp nat_cmp k other)) new
    ≡ cond (is_eq (slice_cmp nat_cmp key k)) (Some target) (lookup (λ other. is_eq (slice_cmp nat_cmp k other)) old))
    → (k : List ℕ) → lookup (bytes_eq k) new ≡ cond (bytes_eq key k) (Some target) (lookup (bytes_eq k) old)
put_in_order old new key target put k =
    sym (found_by_order new k) ∙ put k ∙ ap (λ same. cond same (Some target) (lookup (λ other. is_eq (slice_cmp nat_cmp k other)) old)) (is_eq-slice_cmp key k)
    ∙ ap (λ found. cond (bytes_eq key k) (Some target) found) (found_by_order old k)

-- where a key leads
abbrev pub leads : Known → List ℕ → Option Target
leads known key = option_map target_in (lookup (bytes_eq key) known)

pub put_target : (old new : Known) (key : List ℕ) (lent : LentTarget)
    → ((k : List ℕ) → lookup (bytes_eq k) new ≡ cond (bytes_eq key k) (Some lent) (lookup (bytes_eq k) old))
    → (k : List ℕ) → leads new k ≡ cond (bytes_eq key k) (Some lent.target) (leads old k)
put_target old new key lent put k = ap (option_map target_in) (put k) ∙ by (bytes_eq key k)
  where
    by : (q : Bool) → option_map target_in (cond q (Some lent) (lookup (bytes_eq k) old)) ≡ cond q (Some lent.target) (leads old k)
    by true = refl
    by false = refl

pub target_or : (found : Option LentTarget) (other : LentTarget)
    → target_in (unwrap_or found other) ≡ unwrap_or (option_map target_in found) other.target
target_or (Some lent) other = refl
target_or None other = refl

pub none_in : (found : Option LentTarget) → is_none found ≡ is_none (option_map target_in found)
none_in (Some lent) = refl
none_in None = refl

-- a label that is known leads nowhere else
pub already_known : (known : Known) (label : List ℕ) (target : Target) → is_some (known_as known label) ≡ true
    → (asked : List ℕ) → known_as known asked ≡ known_before known (record { label = label; target = target } ∷ []) asked
already_known known label target there asked = elim (cases_Bool (bytes_eq (key_bytes asked) (key_bytes label))) [
  | inl same ↦ (
      let one : known_as known asked ≡ known_as known label =
      ap (leads known) (same_key (key_bytes asked) (key_bytes label) same) in
      is_first (known_as known asked) _ (ap is_some one ∙ there)
      )
  | inr other ↦ none_later known asked ∙ ap (λ b. first (known_as known asked) (cond b (Some target) None)) (sym other)
]
  where
    is_first : (found other : Option Target) → is_some found ≡ true → found ≡ first found other
    is_first (Some found) other some = refl
    is_first None other some = cc

-- a label that is added leads to its target
pub newly_known : (old new : Known) (label : List ℕ) (target : Target) → known_as old label ≡ None
    → ((key : List ℕ) → leads new key ≡ cond (bytes_eq (key_bytes label) key) (Some target) (leads old key))
    → (asked : List ℕ) → known_as new asked ≡ known_before old (record { label = label; target = target } ∷ []) asked
newly_known old new label target none added asked = elim (cases_Bool (bytes_eq (key_bytes label) (key_bytes asked))) [
  | inl same ↦ (
      let one : key_bytes label ≡ key_bytes asked = same_key (key_bytes label) (key_bytes asked) same in
      let itself : bytes_eq (key_bytes asked) (key_bytes label) ≡ true = (bytes_eq-Decides (key_bytes asked) (key_bytes label)).1 (sym one) in
      let nothing : known_as old asked ≡ None = ap (leads old) (sym one) ∙ none in
      added (key_bytes asked) ∙ ap (λ b. cond b (Some target) (known_as old asked)) same ∙ ap (λ b. cond b (Some target) None) (sym itself)
      ∙ ap (λ found. first found (cond (do_match asked label) (Some target) None)) (sym nothing)
      )
  | inr other ↦ (
      let apart : bytes_eq (key_bytes asked) (key_bytes label) ≡ false =
      not_same _ (λ same. true_not_false (sym ((bytes_eq-Decides (key_bytes label) (key_bytes asked)).1
      (sym (same_key (key_bytes asked) (key_bytes label) same))) ∙ other)) in
      added (key_bytes asked) ∙ ap (λ b. cond b (Some target) (known_as old asked)) other ∙ none_later old asked
      ∙ ap (λ b. first (known_as old asked) (cond b (Some target) None)) (sym apart)
      )
]
  where
    true_not_false : true ≡ false → ⊥
    true_not_false e = cc

    not_same : (b : Bool) → (b ≡ true → ⊥) → b ≡ false
    not_same false apart = refl
    not_same true apart = absurd (apart refl)

-- a label leads where it did, or where it did not, to the target that is put in then
pub known_once : (old new : Known) (label : List ℕ) (target : Target)
    → ((key : List ℕ) → leads new key
    ≡ cond (bytes_eq (key_bytes label) key) (Some (unwrap_or (known_as old label) target)) (leads old key))
    → (asked : List ℕ) → known_as new asked ≡ known_before old (record { label = label; target = target } ∷ []) asked
known_once old new label target put asked = by_found (known_as old label) refl
  where
    with : Option Target → List ℕ → Option Target
    with found key = cond (bytes_eq (key_bytes label) key) (Some (unwrap_or found target)) (leads old key)

    same : (there : Target) → known_as old label ≡ Some there → (is : Bool) → bytes_eq (key_bytes label) (key_bytes asked) ≡ is
        → cond is (Some there) (known_as old asked) ≡ known_as old asked
    same there found true is = sym (ap (leads old) (sym (same_key (key_bytes label) (key_bytes asked) is)) ∙ found)
    same there found false is = refl

    by_found : (found : Option Target) → known_as old label ≡ found
        → known_as new asked ≡ known_before old (record { label = label; target = target } ∷ []) asked
    by_found None is = newly_known old new label target is (λ key. put key ∙ ap (λ found. with found key) is) asked
    by_found (Some there) is = put (key_bytes asked) ∙ ap (λ found. with found (key_bytes asked)) is
        ∙ same there is (bytes_eq (key_bytes label) (key_bytes asked)) refl
        ∙ already_known old label target (ap is_some is) asked

-- ---- the definitions of a text

-- the label at the front of a text, where it is UTF-8
abbrev HasLabel : List ℕ → ReferenceDefinition → List ℕ → Type 0
HasLabel text d bytes = (label : Label) × IsLabelInBytes SkipsNothing (drop d.label.start text) false label × (label.text ≡ bytes)

pub is_named : (text : List ℕ) (d : ReferenceDefinition) (bytes : List ℕ) (target : Target) → HasLabel text d bytes
    → target ≡ target_of text d → IsNamed text d (record { label = bytes; target = target } ∷ [])
is_named text d bytes target found is = record {
  label = found.0;
  is_label = found.1.0;
  named_is = inl (
    found.1.1,
    ap (λ t. record { label = bytes; target = t } ∷ []) is
        ∙ ap (λ b. record { label = b; target = target_of text d } ∷ []) (sym found.2),
  );
}

pub unnamed : (text : List ℕ) (d : ReferenceDefinition) → IsDefinition text d → ((bytes : List ℕ) → ¬ HasLabel text d bytes) → IsNamed text d []
unnamed text d is none =
    let named = is.target.is_named in
    let label : Label = named.is_label.label in
    let inside : named.inside ≡ drop d.label.start text =
    sym (ap (λ n. drop n text) is.target.label_begins ∙ ap (drop 1) named.opens) in
    let here : IsLabel SkipsNothing (drop d.label.start text) false label =
    subst (λ s. IsLabel SkipsNothing s false label) inside named.is_label.is_label in
    record { label = label; is_label = here; named_is = inr (λ utf8. none label.text (label, (here, utf8), refl), refl) }

pub front_named : (text : List ℕ) (d : ReferenceDefinition) (here later : List Named)
    → IsDefinition text d → IsNamed text d here → Names (drop d.len text) later → Names text (here ++ later)
front_named text d here later is named more = record {
  definitions = d ∷ more.definitions;
  rest = more.rest;
  are_definitions = (is, more.are_definitions);
  are_named = (here, later, named, more.are_named, refl);
}

pub none_named : (text : List ℕ) → ((d : ReferenceDefinition) → ¬ IsDefinition text d) → Names text []
none_named text none = record { definitions = []; rest = text; are_definitions = (refl, none); are_named = refl }

pub names_nothing : (text : List ℕ) → (length text == 0) ≡ true → Names text []
names_nothing [] none = none_named [] no_text
names_nothing (b ∷ text) none = absurd (omega (arith, eqb-true (length (b ∷ text)) 0 none))

-- ---- the definitions that are added of a content

pub none_added : (start end : ℕ) (content : List ℕ) (old new : Known) → end ≡ start → new ≡ old → AreAddedBetween start end content old new
none_added start end content old new same unchanged = (
  [],
  λ more names. subst (λ n. Names (drop n content) more) same names,
  λ asked. ap (λ known. known_as known asked) unchanged ∙ none_later old asked,
)

pub first_added : (content : List ℕ) (d : ReferenceDefinition) (bytes : ℕ) (old new : Known) (here : List Named) → IsDefinition content d
    → bytes ≡ d.len → IsNamed content d here → ((asked : List ℕ) → known_as new asked ≡ known_before old here asked)
    → AreAddedUpTo bytes content old new
first_added content d bytes old new here is size named added = record {
  front = here;
  is_front = λ later names. front_named content d here later is named (subst (λ n. Names (drop n content) later) size names);
  added = added;
}

-- those of what is left of it
pub added_later : (start count : ℕ) (content left : List ℕ) (old new : Known) → left ≡ drop start content → AreAddedUpTo count left old new
    → AreAddedBetween start (start + count) content old new
added_later start count content left old new is some = (
  some.front,
  λ later names. subst (λ t. Names t (some.front ++ later)) is
      (some.is_front later (subst (λ t. Names t later) (sym (ap (drop count) is ∙ drop-drop count start content)) names)),
  some.added,
)

pub added_both : (start middle end : ℕ) (content : List ℕ) (old known new : Known) → AreAddedBetween start middle content old known
    → AreAddedBetween middle end content known new → AreAddedBetween start end content old new
added_both start middle end content old known new one other = (
  one.0 ++ other.0,
  λ later names. subst (λ named. Names (drop start content) named) (sym (append_assoc one.0 other.0 later))
      (one.1 (other.0 ++ later) (other.1 later names)),
  λ asked. other.2 asked ∙ added_before old known one.0 other.0 asked (one.2 asked),
)

-- what is gathered of a content has its definitions
gathered_named : (content gathered : List ℕ) (named : List Named) → IsGathered content gathered → Names gathered named → Names content named
gathered_named content gathered named (inl whole) names = subst (λ t. Names t named) whole names
gathered_named content gathered named (inr plain) names = at names.definitions names.are_definitions names.are_named
  where
    at : (ds : List ReferenceDefinition) → AreDefinitions gathered ds names.rest → AreNamed gathered ds named → Names content named
    at [] are none = subst (λ ns. Names content ns) (sym none) (none_named content plain.1)
    at (d ∷ ds) are some = absurd (no_text d (subst (λ t. IsDefinition t d) plain.0 are.0))

-- ---- the definitions of a page

-- what the blocks name that are left, where these containers are open
pub record Left (open_now : Between) (text : List ℕ) (named : List Named) : Type 0 where
  pub pieces : List Piece
  pub joined : lines_in pieces ≡ lines_of text
  pub each : AreBlocks open_now pieces []
  pub are_named : AreNamedIn pieces named

pub none_left : (open_now : Between) (text : List ℕ) → text ≡ [] → Left open_now text []
none_left open_now text last = record { pieces = []; joined = sym (ap lines_of last); each = tt; are_named = refl }

pub whole_page : (asked : Extensions) (page : List ℕ) (named : List Named) → Left (root asked) (text_of page) named
    → HasDefinitions asked page named
whole_page asked page named left = record {
  pieces = left.pieces;
  is_page = record { joined = left.joined; each = left.each };
  are_named = left.are_named;
}

pub block_named : (old new : Between) (lines : List ℕ) (step : Step) (content : List ℕ) (here later : List Named)
    → IsStep old lines [] step new → IsContentOf step new.containers content → Names content here
    → Left new (drop step.block.taken.bytes lines) later → Left old lines (here ++ later)
block_named old new lines step content here later s c names left =
    let gathered : IsGathered (piece_content s.piece) content =
    subst (λ (w : Rest). IsGathered (content_in s.piece.kind (s.piece.kept ++ s.piece.begun) w.text s.piece.later) content) (sym s.words)
    (subst (λ k. IsGathered (content_in k (s.piece.kept ++ s.piece.begun) step.text.now s.piece.later) content) (sym s.kind)
    (subst (λ (o : Between). IsGathered (content_in step.block.kind o.containers step.text.now s.piece.later) content) s.open_now
    (c s.piece.first s.piece.later s.all))) in
    record {
      pieces = s.piece ∷ left.pieces;
      joined = ap (λ ls. (s.piece.first ∷ s.piece.later) ++ ls) left.joined ∙ sym s.taken.parts;
      each = (
        subst (λ ls. IsPiece old s.piece (ls ++ [])) (sym left.joined) s.is_piece,
        subst (λ o. AreBlocks o left.pieces []) s.open_now left.each,
      );
      are_named = (here, later, gathered_named (piece_content s.piece) content here gathered names, left.are_named, refl);
    }

-- ---- a page has one list of definitions

one_named_front : (text : List ℕ) (d : ReferenceDefinition) (named others : List Named) → IsNamed text d named
    → IsNamed text d others → named ≡ others
one_named_front text d named others is is' = at is.named_is is'.named_is
  where
    source : List ℕ
    source = drop d.label.start text

    label : is.label ≡ is'.label
    label = one_label_unskipped source is.label is'.label is.is_label is'.is_label

    Either : Label → List Named → Type 0
    Either l ns = (IsUtf8 (take l.len source) × (ns ≡ record { label = l.text; target = target_of text d } ∷ []))
        ⊎ ((¬ IsUtf8 (take l.len source)) × (ns ≡ []))

    at : Either is.label named → Either is'.label others → named ≡ others
    at (inl found) (inl found') =
        found.1 ∙ ap (λ (l : Label). record { label = l.text; target = target_of text d } ∷ []) label ∙ sym found'.1
    at (inl found) (inr none) = absurd (none.0 (subst (λ (l : Label). IsUtf8 (take l.len source)) label found.0))
    at (inr none) (inl found) = absurd (none.0 (subst (λ (l : Label). IsUtf8 (take l.len source)) (sym label) found.0))
    at (inr none) (inr none') = none.1 ∙ sym none'.1

one_named : (text : List ℕ) (ds : List ReferenceDefinition) (named others : List Named) → AreNamed text ds named → AreNamed text ds others
    → named ≡ others
one_named text [] named others are are' = are ∙ sym are'
one_named text (d ∷ ds) named others are are' =
    are.4 ∙ ap (λ here. here ++ are.1) (one_named_front text d are.0 are'.0 are.2 are'.2)
    ∙ ap (λ later. are'.0 ++ later) (one_named (drop d.len text) ds are.1 are'.1 are.3 are'.3) ∙ sym are'.4

one_names : (content : List ℕ) (named others : List Named) → Names content named → Names content others → named ≡ others
one_names content named others is is' =
    let same = one_list_of_definitions content is.definitions is'.definitions is.rest is'.rest is.are_definitions is'.are_definitions in
    one_named content is'.definitions named others (subst (λ ds. AreNamed content ds named) same.0 is.are_named) is'.are_named

one_named_in : (pieces : List Piece) (named others : List Named) → AreNamedIn pieces named → AreNamedIn pieces others → named ≡ others
one_named_in [] named others are are' = are ∙ sym are'
one_named_in (piece ∷ pieces) named others are are' =
    are.4 ∙ ap (λ here. here ++ are.1) (one_names (piece_content piece) are.0 are'.0 are.2 are'.2)
    ∙ ap (λ more. are'.0 ++ more) (one_named_in pieces are.1 are'.1 are.3 are'.3) ∙ sym are'.4

pub one_list_of_named : (asked : Extensions) (page : List ℕ) (named others : List Named) → HasDefinitions asked page named
    → HasDefinitions asked page others → named ≡ others
one_list_of_named asked page named others h h' =
    let same = one_page (root asked) h.pieces h'.pieces (h.is_page.joined ∙ sym h'.is_page.joined) h.is_page.each h'.is_page.each in
    one_named_in h'.pieces named others (subst (λ ps. AreNamedIn ps named) same h.are_named) h'.are_named
