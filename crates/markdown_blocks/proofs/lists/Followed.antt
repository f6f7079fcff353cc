-- The lists of blocks that are followed one by one: of those before only the list of the last one counts, and whether a blank line
-- follows it.
use Rattle.std.proofs.Common.{ℕ, Bool, true, false, not, ◌&&◌, ◌||◌, ◌==◌, ◌≡◌, List, [], ◌∷◌, ◌++◌, Option, Some, None, if◌then◌else◌}
use Rattle.std.proofs.Common.{refl, sym, ap, ◌∙◌}
use Rattle.std.proofs.lemmas.Bool.{eqb-true}
use Rattle.std.specs.Option.{option_to_list}
use Rattle.markdown_blocks.specs.declared.containers.Container.{Container}
use Rattle.markdown_blocks.specs.declared.containers.Container.TheVariants.{Quote, Item, Footnote, TermDefinition}
use Rattle.markdown_blocks.specs.declared.lists.ListBlock.{ListBlock}
use Rattle.markdown_blocks.specs.lists.Lists.{Child, ends_blank, last_end, are_alike, are_parted, are_loose, list_from, list_of, lists_among}

-- the block is an item of the list
abbrev pub is_item_of : Option ListBlock → Option Container → Bool
is_item_of list None = false
is_item_of list (Some Quote) = false
is_item_of list (Some Footnote) = false
is_item_of list (Some (TermDefinition definition)) = false
is_item_of None (Some (Item item)) = false
is_item_of (Some list) (Some (Item item)) = list.delimiter == item.delimiter

-- the list that an item begins
abbrev pub item_list : ℕ → Child → Option Container → Option ListBlock
item_list depth child (Some (Item item)) = Some (record {
  delimiter = item.delimiter;
  is_loose = child.is_parted;
  start = item.start;
  depth = depth;
  line = child.line;
  end = child.end;
})
item_list depth child container = None

-- the list with one more item, after a blank line or not
abbrev pub longer : Option ListBlock → Bool → Child → Option ListBlock
longer None blank child = None
longer (Some list) blank child = Some (record list { is_loose = (list.is_loose || blank) || child.is_parted; end = child.end })

-- Items that follow each other, of one bullet or delimiter, are a list: it goes on with the next block or that begins anew.
abbrev pub list_after : ℕ → Option ListBlock → Bool → Child → Option ListBlock
list_after depth list blank child =
    if is_item_of list child.container then longer list blank child else item_list depth child child.container

-- the list, unless the next block goes on with it
abbrev pub list_before : Option ListBlock → Child → Option ListBlock
list_before list child = if is_item_of list child.container then None else list

-- The lists of blocks and in them, each where it ends, where the block before them is in this list, if in any, and followed by
-- a blank line or not.
abbrev pub lists_followed : ℕ → Option ListBlock → Bool → List Child → List ListBlock
lists_followed depth list blank [] = option_to_list list
lists_followed depth list blank (child ∷ later) =
    option_to_list (list_before list child) ++ child.inside ++ lists_followed depth (list_after depth list blank child) child.is_blank later

-- a blank line stands between two of the blocks, which are in no list together
abbrev pub parted_followed : ℕ → Option ListBlock → Bool → List Child → Bool
parted_followed depth list blank [] = false
parted_followed depth list blank (child ∷ later) =
    (blank && not (is_item_of list child.container)) || parted_followed depth (list_after depth list blank child) child.is_blank later

module _ (depth : ℕ) where
  loose_more : (first : Child) (more : List Child) (child : Child)
      → are_loose (first ∷ (more ++ child ∷ [])) ≡ ((are_loose (first ∷ more) || ends_blank first.is_blank more) || child.is_parted)
  loose_more first [] child = refl
  loose_more first (next ∷ more) child =
      ap (λ b. (first.is_parted || first.is_blank) || b) (loose_more next more child)
      ∙ regroup (first.is_parted || first.is_blank) (are_loose (next ∷ more)) (ends_blank next.is_blank more) child.is_parted
    where
      regroup : (a b c d : Bool) → (a || ((b || c) || d)) ≡ (((a || b) || c) || d)
      regroup true b c d = refl
      regroup false b c d = refl

  end_more : (end : ℕ) (more : List Child) (child : Child) → last_end end (more ++ child ∷ []) ≡ child.end
  end_more end [] child = refl
  end_more end (next ∷ more) child = end_more next.end more child

  blank_more : (blank : Bool) (more : List Child) (child : Child) → ends_blank blank (more ++ child ∷ []) ≡ child.is_blank
  blank_more blank [] child = refl
  blank_more blank (next ∷ more) child = blank_more next.is_blank more child

  -- a list with one more item
  list_more : (c : Option Container) (first : Child) (more : List Child) (child : Child)
      → longer (list_from depth first more c) (ends_blank first.is_blank more) child ≡ list_from depth first (more ++ child ∷ []) c
  list_more None first more child = refl
  list_more (Some Quote) first more child = refl
  list_more (Some Footnote) first more child = refl
  list_more (Some (TermDefinition definition)) first more child = refl
  list_more (Some (Item item)) first more child =
      let list : Bool → ℕ → Option ListBlock = λ loose end. Some (record {
        delimiter = item.delimiter;
        is_loose = loose;
        start = item.start;
        depth = depth;
        line = first.line;
        end = end;
      }) in
      ap (λ loose. list loose child.end) (sym (loose_more first more child))
      ∙ ap (λ end. list (are_loose (first ∷ (more ++ child ∷ []))) end) (sym (end_more first.end more child))

  list_alone : (c : Option Container) (child : Child) → item_list depth child c ≡ list_from depth child [] c
  list_alone None child = refl
  list_alone (Some Quote) child = refl
  list_alone (Some Footnote) child = refl
  list_alone (Some (TermDefinition definition)) child = refl
  list_alone (Some (Item item)) child = refl

  no_list : (c : Option Container) → is_item_of None c ≡ false
  no_list None = refl
  no_list (Some Quote) = refl
  no_list (Some Footnote) = refl
  no_list (Some (TermDefinition definition)) = refl
  no_list (Some (Item item)) = refl

  item_of_list : (one other : Option Container) (first : Child) (more : List Child)
      → is_item_of (list_from depth first more one) other ≡ are_alike one other
  item_of_list None other first more = no_list other
  item_of_list (Some Quote) other first more = no_list other
  item_of_list (Some Footnote) other first more = no_list other
  item_of_list (Some (TermDefinition definition)) other first more = no_list other
  item_of_list (Some (Item item)) None first more = refl
  item_of_list (Some (Item item)) (Some Quote) first more = refl
  item_of_list (Some (Item item)) (Some Footnote) first more = refl
  item_of_list (Some (Item item)) (Some (TermDefinition definition)) first more = refl
  item_of_list (Some (Item item)) (Some (Item i)) first more = refl

  -- the same lists
  abbrev AreSame : List Child → Type 0
  AreSame later = (items : List Child) (blank : Bool) → blank ≡ ends_blank blank items
      → lists_followed depth (list_of depth items) blank later ≡ lists_among depth items later

  module _ (child : Child) (later : List Child) (same : AreSame later) where
    abbrev given_with : Option ListBlock → Bool → Bool → List ListBlock
    given_with list blank goes =
        option_to_list (if goes then None else list) ++ child.inside
        ++ lists_followed depth (if goes then longer list blank child else item_list depth child child.container) child.is_blank later

    same_anew : (items : List Child) (blank : Bool)
        → given_with (list_of depth items) blank false
        ≡ option_to_list (list_of depth items) ++ child.inside ++ lists_among depth (child ∷ []) later
    same_anew items blank =
        ap (λ list. option_to_list (list_of depth items) ++ child.inside ++ lists_followed depth list child.is_blank later)
        (list_alone child.container child)
        ∙ ap (λ ls. option_to_list (list_of depth items) ++ child.inside ++ ls) (same (child ∷ []) child.is_blank refl)

    same_more : AreSame (child ∷ later)
    same_more [] blank marks = ap (given_with None blank) (no_list child.container) ∙ same_anew [] blank
    same_more (first ∷ more) blank marks =
        ap (given_with (list_of depth (first ∷ more)) blank) (item_of_list first.container child.container first more)
        ∙ by_case (are_alike first.container child.container)
      where
        by_case : (goes : Bool)
            → given_with (list_of depth (first ∷ more)) blank goes
            ≡ (if goes then [] else option_to_list (list_of depth (first ∷ more))) ++ child.inside
            ++ lists_among depth (if goes then (first ∷ more) ++ child ∷ [] else child ∷ []) later
        by_case false = same_anew (first ∷ more) blank
        by_case true =
            ap (λ b. [] ++ child.inside ++ lists_followed depth (longer (list_of depth (first ∷ more)) b child) child.is_blank later) marks
            ∙ ap (λ list. [] ++ child.inside ++ lists_followed depth list child.is_blank later) (list_more first.container first more child)
            ∙ ap (λ ls. [] ++ child.inside ++ ls)
            (same (first ∷ (more ++ child ∷ [])) child.is_blank (sym (blank_more first.is_blank more child)))

  same_lists : (later : List Child) → AreSame later
  same_lists [] = λ items blank marks. refl
  same_lists (child ∷ later) = same_more child later (same_lists later)

  pub lists_are_followed : (content : List Child) → lists_followed depth None false content ≡ lists_among depth [] content
  lists_are_followed content = same_lists content [] false refl

  -- what goes on with a block's list is alike
  item_after : (list : Option ListBlock) (blank : Bool) (child : Child) (c : Option Container)
      → is_item_of (list_after depth list blank child) c ≡ are_alike child.container c
  item_after list blank child c = by_case (is_item_of list child.container) refl
    where
      longer_alike : (list : Option ListBlock) (one other : Option Container) → is_item_of list one ≡ true
          → is_item_of (longer list blank child) other ≡ are_alike one other
      longer_alike None one other is = let none = no_list one in cc
      longer_alike (Some l) None other is = cc
      longer_alike (Some l) (Some Quote) other is = cc
      longer_alike (Some l) (Some Footnote) other is = cc
      longer_alike (Some l) (Some (TermDefinition definition)) other is = cc
      longer_alike (Some l) (Some (Item i)) None is = refl
      longer_alike (Some l) (Some (Item i)) (Some Quote) is = refl
      longer_alike (Some l) (Some (Item i)) (Some Footnote) is = refl
      longer_alike (Some l) (Some (Item i)) (Some (TermDefinition definition)) is = refl
      longer_alike (Some l) (Some (Item i)) (Some (Item j)) is = ap (λ d. d == j.delimiter) (eqb-true l.delimiter i.delimiter is)

      by_case : (goes : Bool) → is_item_of list child.container ≡ goes
          → is_item_of (if goes then longer list blank child else item_list depth child child.container) c ≡ are_alike child.container c
      by_case true is = longer_alike list child.container c is
      by_case false is = ap (λ l. is_item_of l c) (list_alone child.container child) ∙ item_of_list child.container c child []

  parted_after : (later : List Child) (child : Child) (list : Option ListBlock)
      → ((c : Option Container) → is_item_of list c ≡ are_alike child.container c)
      → parted_followed depth list child.is_blank later ≡ are_parted (child ∷ later)
  parted_after [] child list alike = refl
  parted_after (next ∷ later) child list alike =
      ap (λ b. (child.is_blank && not b) || parted_followed depth (list_after depth list child.is_blank next) next.is_blank later) (alike next.container)
      ∙ ap (λ b. (child.is_blank && not (are_alike child.container next.container)) || b)
      (parted_after later next (list_after depth list child.is_blank next) (item_after list child.is_blank next))

  pub parted_is_followed : (content : List Child) → parted_followed depth None false content ≡ are_parted content
  parted_is_followed [] = refl
  parted_is_followed (child ∷ later) = parted_after later child (list_after depth None false child) (item_after None false child)
