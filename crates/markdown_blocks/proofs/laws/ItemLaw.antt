-- The rules of list items. (CommonMark 0.31.2, section 5.2)
use Rattle.std.proofs.Common.{ℕ, true, false, not, ◌==◌, ◌≡◌, List, [], ◌∷◌, ◌++◌, refl, sym, ap, ◌∙◌, subst, inl, inr, append_assoc, arith}
use Rattle.std.specs.List.{AllZip, concat}
use Rattle.std.proofs.lemmas.Bool.{cases_Bool, eqb-true}
use Rattle.std.proofs.lemmas.Bool.Decides.{nat_tests}
use Rattle.markdown_scanners_tree.specs.Bytes.{is_digit, is_line_ending}
use Rattle.markdown_scanners_tree.specs.scanners.TextLines.{lines_of}
use Rattle.markdown_scanners_tree.specs.scanners.list_items.ListItem.{IsListMarker, bullet, ordered}
use Rattle.markdown_scanners_tree.proofs.PrefixLemmas.{list_all-implies}
use Rattle.markdown_blocks.specs.blank_lines.BlankLines.{is_blank}
use Rattle.markdown_blocks.specs.containers.Containers.{without_terms}
use Rattle.markdown_values.specs.declared.values.extensions.Extensions.{Extensions}
use Rattle.markdown_blocks.specs.blocks.Pages.{Piece, lines_in, root, AreBlocks, IsPage}
use Rattle.markdown_blocks.specs.laws.Items.{Lead, IsLead, width_of, item_by, IsItemLine, IsIndentedLine, IsLessIndented}
use Rattle.markdown_blocks.specs.laws.Items.{AreInItem, IsMarkerAlone, AreInBlankItem}
use Rattle.markdown_blocks.proofs.blocks.OneText.{one_page}
use Rattle.markdown_blocks.proofs.laws.BlankItem.{blank_item_blocks}
use Rattle.markdown_blocks.proofs.laws.HeldLaw.{held_blocks, held_lines, next_lines, each_later, zip_map, zip_append}
use Rattle.markdown_blocks.proofs.laws.ItemPlaces.{item_begins, item_goes_on, item_stays_out}
use Rattle.markdown_blocks.proofs.laws.MarkedLines.{IsMarked, ends_none, marked_lines, none_spaces, none_of_spaces, none_joined}
use Rattle.markdown_blocks.proofs.laws.Places.{spaces, not_true}

held_in_item : (asked : Extensions) (lead : Lead) → IsLead lead → (pieces others : List Piece) → AreInItem asked lead pieces others
    → AreBlocks (root asked) pieces [] → AreBlocks (root asked) others []
held_in_item asked lead is = held_blocks asked (item_by lead) (IsItemLine lead) (IsIndentedLine (width_of lead)) (IsLessIndented asked (width_of lead)) refl
    (λ line changed i. item_begins lead is line changed i (without_terms asked)) (item_goes_on lead) (item_stays_out lead asked)

-- the lines are those of the text that they make
marker_plain : (marker : List ℕ) (delimiter start : ℕ) → IsListMarker marker delimiter start → ends_none marker ≡ true
marker_plain marker delimiter start (bullet b is) =
    let plain : not (is_line_ending b) ≡ true = grind (arith, nat_tests) in rw plain refl
marker_plain marker delimiter start (ordered digits d one few all is) =
    let plain : not (is_line_ending d) ≡ true = grind (arith, nat_tests) in
    let last : ends_none (d ∷ []) ≡ true = rw plain refl in
    none_joined digits (d ∷ []) (list_all-implies is_digit (λ b. not (is_line_ending b)) digit_plain digits all) last
  where
    digit_plain : (b : ℕ) → is_digit b ≡ true → not (is_line_ending b) ≡ true
    digit_plain b digit = grind (arith, nat_tests)

module _ (lead : Lead) (is : IsLead lead) where
  lead_plain : (tail : List ℕ) → ends_none tail ≡ true → ends_none (spaces lead.indent ++ (lead.marker ++ tail)) ≡ true
  lead_plain tail h = none_spaces lead.indent (lead.marker ++ tail)
      (none_joined lead.marker tail (marker_plain lead.marker lead.delimiter lead.start is.is_marker) h)

  first_marked : (line changed : List ℕ) → IsItemLine lead line changed → IsMarked line changed
  first_marked line changed i =
      inl (
      record {
        front = spaces lead.indent ++ (lead.marker ++ spaces lead.gap);
        parts = i.parts ∙ sym (append_assoc (spaces lead.indent) (lead.marker ++ spaces lead.gap) line
            ∙ ap (λ bytes. spaces lead.indent ++ bytes) (append_assoc lead.marker (spaces lead.gap) line));
        plain = lead_plain (spaces lead.gap) (none_of_spaces lead.gap);
      }
      )

  alone_marked : (line changed : List ℕ) → IsMarkerAlone lead line changed → IsMarked line changed
  alone_marked line changed i =
      inl (
      record {
        front = spaces lead.indent ++ (lead.marker ++ []);
        parts = i.parts ∙ sym (append_assoc (spaces lead.indent) (lead.marker ++ []) line
            ∙ ap (λ bytes. spaces lead.indent ++ bytes) (append_assoc lead.marker [] line));
        plain = lead_plain [] refl;
      }
      )

later_marked : (width : ℕ) (line changed : List ℕ) → IsIndentedLine width line changed → IsMarked line changed
later_marked width line changed (inl h) = inl (record { front = spaces width; parts = h.1; plain = none_of_spaces width })
later_marked width line changed (inr h) = inl (record { front = []; parts = h.1; plain = refl })

not_feed : (b : ℕ) (bs : List ℕ) → is_blank (b ∷ bs) ≡ false → (b == 10) ≡ false
not_feed b bs text = elim (cases_Bool (b == 10)) [
  | inl feed ↦ absurd (feed_blank b bs feed text)
  | inr other ↦ other
]
  where
    feed_blank : (c : ℕ) (cs : List ℕ) → (c == 10) ≡ true → is_blank (c ∷ cs) ≡ false → ⊥
    feed_blank c cs feed text =
        let none : is_blank (10 ∷ cs) ≡ false = subst (λ d. is_blank (d ∷ cs) ≡ false) (eqb-true c 10 feed) text in cc

less_by : (rest line bare : List ℕ) (n m : ℕ) → line ≡ spaces n ++ rest → bare ≡ spaces m ++ rest → is_blank rest ≡ false → IsMarked line bare
less_by [] line bare n m parts bare_parts text = cc
less_by (b ∷ rest) line bare n m parts bare_parts text =
    inr (
    record {
      cut = spaces n;
      front = spaces m;
      byte = b;
      rest = rest;
      parts = parts;
      moved_parts = bare_parts;
      plain = none_of_spaces m;
      other = not_feed b rest text;
    }
    )

less_marked : (asked : Extensions) (width : ℕ) (line bare : List ℕ) → IsLessIndented asked width line bare → IsMarked line bare
less_marked asked width line bare q = less_by q.rest line bare q.spaces q.left q.parts q.bare_parts (not_true (is_blank q.rest) q.some)

item_lines : (asked : Extensions) (lead : Lead) (text : List ℕ) (pieces others : List Piece) → IsLead lead → lines_in pieces ≡ lines_of text
    → AreInItem asked lead pieces others
    → lines_of (concat (lines_in others)) ≡ lines_in others
item_lines asked lead text pieces others is joined z =
    marked_lines text (lines_in others) (subst (λ ls. AllZip IsMarked ls (lines_in others)) joined
    (held_lines (item_by lead) (IsItemLine lead) (IsIndentedLine (width_of lead)) (IsLessIndented asked (width_of lead)) IsMarked (first_marked lead is)
    (later_marked (width_of lead)) (less_marked asked (width_of lead)) pieces others z))

-- Rules 1, 2, 4 and 5: where a text has these blocks, its lines after a marker and as far indented, or a paragraph's lazily less, make a
-- text that is a list item of these blocks, and nothing else.
pub list_item : (asked : Extensions) (lead : Lead) (text : List ℕ) (pieces others : List Piece) → IsLead lead → IsPage asked text pieces
    → AreInItem asked lead pieces others
    → IsPage asked (concat (lines_in others)) others
list_item asked lead text pieces others is page z =
    record { joined = sym (item_lines asked lead text pieces others is page.joined z); each = held_in_item asked lead is pieces others z page.each }

pub one_list_item : (asked : Extensions) (lead : Lead) (text : List ℕ) (pieces others found : List Piece) → IsLead lead → IsPage asked text pieces
    → AreInItem asked lead pieces others → IsPage asked (concat (lines_in others)) found → found ≡ others
one_list_item asked lead text pieces others found is page z at =
    one_page (root asked) found others (at.joined ∙ item_lines asked lead text pieces others is page.joined z) at.each
    (held_in_item asked lead is pieces others z page.each)

-- Rule 3: the same where these blocks begin with a single blank line, before which the marker stands.
blank_lines_in : (asked : Extensions) (lead : Lead) (pieces others : List Piece) → IsLead lead → AreInBlankItem asked lead pieces others
    → AllZip IsMarked (lines_in pieces) (lines_in others)
blank_lines_in asked lead [] others is z = absurd z
blank_lines_in asked lead (p ∷ pieces) [] is z = absurd z
blank_lines_in asked lead (p ∷ pieces) (q ∷ others) is z =
    let w = width_of lead in
    zip_append IsMarked (p.first ∷ p.later) (q.first ∷ q.later) (lines_in pieces) (lines_in others) (
      alone_marked lead is p.first q.first z.2.first,
      zip_map _ IsMarked (each_later (item_by lead) (IsItemLine lead) (IsIndentedLine w) (IsLessIndented asked w) IsMarked (first_marked lead is)
          (later_marked w) (less_marked asked w) p q) p.later q.later z.2.later,
    ) (next_lines (item_by lead) (IsItemLine lead) (IsIndentedLine w) (IsLessIndented asked w) IsMarked (first_marked lead is) (later_marked w)
    (less_marked asked w) pieces others z.3)

blank_item_lines : (asked : Extensions) (lead : Lead) (text : List ℕ) (pieces others : List Piece) → IsLead lead → lines_in pieces ≡ lines_of text
    → AreInBlankItem asked lead pieces others → lines_of (concat (lines_in others)) ≡ lines_in others
blank_item_lines asked lead text pieces others is joined z =
    marked_lines text (lines_in others) (subst (λ ls. AllZip IsMarked ls (lines_in others)) joined (blank_lines_in asked lead pieces others is z))

pub blank_list_item : (asked : Extensions) (lead : Lead) (text : List ℕ) (pieces others : List Piece) → IsLead lead → IsPage asked text pieces
    → AreInBlankItem asked lead pieces others → IsPage asked (concat (lines_in others)) others
blank_list_item asked lead text pieces others is page z =
    record { joined = sym (blank_item_lines asked lead text pieces others is page.joined z); each = blank_item_blocks asked lead is pieces others z page.each }

pub one_blank_list_item : (asked : Extensions) (lead : Lead) (text : List ℕ) (pieces others found : List Piece) → IsLead lead → IsPage asked text pieces
    → AreInBlankItem asked lead pieces others → IsPage asked (concat (lines_in others)) found → found ≡ others
one_blank_list_item asked lead text pieces others found is page z at =
    one_page (root asked) found others (at.joined ∙ blank_item_lines asked lead text pieces others is page.joined z) at.each
    (blank_item_blocks asked lead is pieces others z page.each)
