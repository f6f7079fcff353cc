-- A list item that begins with a blank line.
use Rattle.std.proofs.Common.{ℕ, suc, zero, Bool, true, false, not, ◌||◌, ◌==◌, ◌+◌, ◌≡◌, List, [], ◌∷◌, ◌++◌, length}
use Rattle.std.proofs.Common.{take, drop, refl, sym, ap, ◌∙◌, subst, arith, inl, inr}
use Rattle.std.specs.Prelude.{nat_lt, IsTrue}
use Rattle.std.specs.List.{list_all, AllZip}
use Rattle.std.proofs.lemmas.Bool.Decides.{nat_tests}
use Rattle.markdown_scanners_tree.specs.Bytes.{begins_with, is_at_line_end, is_line_ending, is_space_or_tab}
use Rattle.markdown_scanners_tree.specs.line.Outcome.{space_or_end_follows}
use Rattle.markdown_scanners_tree.specs.line.State.{LineState, unscanned, rest_of, leading_spaces, after_space}
use Rattle.markdown_scanners_tree.specs.scanners.Breaks.{is_thematic_break}
use Rattle.markdown_scanners_tree.proofs.PrefixLemmas.{both_true, list_all-implies}
use Rattle.markdown_scanners_tree.proofs.line.ItemSpaces.{or_true}
use Rattle.markdown_blocks.specs.blank_lines.BlankLines.{is_blank}
use Rattle.markdown_blocks.specs.containers.Containers.{Between, Rest, asked_first, match_line, Opens, rest_at, rest_in, last_past_first_line, without_terms}
use Rattle.markdown_blocks.specs.containers.ItemMarkers.{further_spaces}
use Rattle.markdown_blocks.specs.declared.blocks.BlockKind.{BlockKind}
use Rattle.markdown_blocks.specs.declared.blocks.BlockKind.TheVariants.{Blank, Paragraph}
use Rattle.markdown_values.specs.declared.values.extensions.Extensions.{Extensions}
use Rattle.markdown_blocks.specs.declared.containers.Container.{Container}
use Rattle.markdown_blocks.specs.blocks.Leaves.{IsBlank, OutOr, OnFirst, IsLeaf, IsLeafAfter}
use Rattle.markdown_blocks.specs.blocks.Pages.{Piece, lines_in, root, containers_of, opened_by, AreOpened, AreBlocks, IsTerm, is_paragraph_kind}
use Rattle.markdown_blocks.specs.laws.Held.{has_no_tab, IsHeldIn}
use Rattle.markdown_blocks.specs.laws.Items.{Lead, IsLead, width_of, item_by, begun_by, IsItemLine, IsMarkerAlone, IsIndentedLine, IsLessIndented}
use Rattle.markdown_blocks.specs.laws.Items.{AreInBlankItem}
use Rattle.markdown_blocks.proofs.blocks.AfterLemmas.{blank_kind}
use Rattle.markdown_blocks.proofs.laws.AlikeLemmas.{same_rest}
use Rattle.markdown_blocks.proofs.laws.HeldLaw.{Begins, between, first_opened, never, next_blocks, no_header, opened}
use Rattle.markdown_blocks.proofs.laws.ItemPlaces.{item_begins, item_goes_on, item_stays_out, begun_same, still_text}
use Rattle.markdown_blocks.proofs.laws.MarkerPlaces.{after_marker, at_tail, begun_there}
use Rattle.markdown_blocks.proofs.laws.Places.{IsAt, at_space, alike_at, not_true}

-- nothing but a line ending
record IsEmptyLine (line : List ℕ) : Type 0 where
  ends : is_at_line_end line ≡ true
  plain : begins_with is_space_or_tab line ≡ false
  blank : is_blank line ≡ true
  no_tab : has_no_tab line ≡ true

no_tab_ends : (b : ℕ) → is_line_ending b ≡ true → not (b == 9) ≡ true
no_tab_ends b ends = grind (arith, nat_tests)

empty_line : (line : List ℕ) → list_all is_line_ending line ≡ true → IsEmptyLine line
empty_line [] all = record { ends = refl; plain = refl; blank = refl; no_tab = refl }
empty_line (b ∷ bs) all =
    let here : is_line_ending b ≡ true = (both_true (is_line_ending b) (list_all is_line_ending bs) all).0 in
    let other : is_space_or_tab b ≡ false = grind (arith, nat_tests) in
    record {
      ends = here;
      plain = other;
      blank = rw here refl;
      no_tab = list_all-implies is_line_ending (λ c. not (c == 9)) no_tab_ends (b ∷ bs) all;
    }

-- the first line
module _ (lead : Lead) (is : IsLead lead) (one : lead.gap ≡ 1) (line changed : List ℕ) (i : IsMarkerAlone lead line changed) where
  abbrev marked : LineState
  marked = after_marker lead is changed line i.parts

  abbrev after : LineState
  after = after_space 1 marked

  abbrev next : LineState
  next = after_space 0 after

  abbrev passed : ℕ
  passed = 0 + lead.indent + length lead.marker

  empty : IsEmptyLine line
  empty = empty_line line i.empty

  at_end : IsAt marked line passed
  at_end = at_tail lead is changed line i.parts

  at_after : IsAt after line (passed + 0)
  at_after = at_space marked 0 line passed at_end 1 (omega arith) (inr empty.plain)

  at_next : IsAt next line (passed + 0 + 0)
  at_next = at_space after 0 line (passed + 0) at_after 0 (omega arith) (inl refl)

  end_follows : space_or_end_follows marked ≡ true
  end_follows =
      let here : is_at_line_end (unscanned marked) ≡ true = ap is_at_line_end at_end.text ∙ empty.ends in
      ap (λ b. nat_lt 0 (leading_spaces (rest_of marked)) || b) here ∙ or_true (nat_lt 0 (leading_spaces (rest_of marked)))

  none_further : further_spaces after ≡ 0
  none_further = let here : is_blank (unscanned after) ≡ true = ap is_blank at_after.text ∙ empty.blank in rw here refl

  pub blank_begins : (asked : Extensions) → Begins asked (begun_by lead) line changed
  blank_begins asked =
      let width : lead.indent + length lead.marker + 1 + 0 ≡ width_of lead = omega (arith, one) in
      let blank : is_blank (unscanned next) ≡ true = ap is_blank at_next.text ∙ empty.blank in (
        next,
        begun_there lead is changed line i.parts asked next 0 (width_of lead) true (not_true (is_thematic_break (lead.marker ++ line)) i.no_break)
            end_follows none_further refl width blank,
        alike_at line next (passed + 0 + 0) at_next (inl empty.no_tab),
      )

module _ (asked : Extensions) (lead : Lead) where
  abbrev IsNext : Piece → Piece → Type 0
  IsNext p q = IsHeldIn (IsIndentedLine (width_of lead)) (IsIndentedLine (width_of lead)) (IsLessIndented asked (width_of lead))
      (item_by lead ∷ p.kept) p.begun p q

  abbrev Text : List ℕ → Type 0
  Text line = IsTrue (not (is_blank line))

  -- after the first line
  same_settled : (n : ℕ) → last_past_first_line (take n (item_by lead ∷ [])) ≡ last_past_first_line (take n (begun_by lead ∷ []))
  same_settled zero = refl
  same_settled (suc zero) = refl
  same_settled (suc (suc n)) = refl

  same_asked : (term : Bool) (n : ℕ) → asked_first asked term (drop n (item_by lead ∷ [])) ≡ asked_first asked term (drop n (begun_by lead ∷ []))
  same_asked term zero = refl
  same_asked term (suc zero) = refl
  same_asked term (suc (suc n)) = refl

  begun_opened : (term : Bool) (line : List ℕ) (kept begun : List Container) (rest : Rest) → is_blank line ≡ false
      → AreOpened (between asked (item_by lead ∷ []) term false) false line kept begun rest
      → AreOpened (between asked (begun_by lead ∷ []) term false) false line kept begun rest
  begun_opened term line kept begun rest text o =
      let same = begun_same lead [] line text in
      record {
        goes_on = o.goes_on ∙ ap (λ b. last_past_first_line (take b.kept (item_by lead ∷ []))) (sym same)
            ∙ same_settled (match_line (begun_by lead ∷ []) line).kept;
        position = o.position;
        begins = subst (λ x. Opens x (match_line (begun_by lead ∷ []) line).state begun o.position) (same_asked term (match_line (begun_by lead ∷ []) line).kept)
            (subst (λ b. Opens (asked_first asked term (drop b.kept (item_by lead ∷ []))) b.state begun o.position) (sym same) o.begins);
        is_rest = o.is_rest;
      }

  begun_blocks : (term : Bool) (pieces others : List Piece) → AllZip IsNext pieces others → OnFirst Text (lines_in pieces)
      → AreBlocks (between asked (item_by lead ∷ []) term false) others [] → AreBlocks (between asked (begun_by lead ∷ []) term false) others []
  begun_blocks term [] [] z text h = tt
  begun_blocks term [] (q ∷ others) z text h = absurd z
  begun_blocks term (p ∷ pieces) [] z text h = absurd z
  begun_blocks term (p ∷ pieces) (q ∷ others) z text h =
      let full = still_text lead p.first q.first (not_true (is_blank p.first) text) z.0.first in
      let here : Between = between asked (item_by lead ∷ []) term false in
      let there : Between = between asked (begun_by lead ∷ []) term false in
      let plain = no_header here q (lines_in others ++ []) refl h.0 in
      let opened = begun_opened term q.first q.kept q.begun q.words full
      (subst (λ header. AreOpened here header q.first q.kept q.begun q.words) plain h.0.opened) in (
        record {
          is_header = never there q (lines_in others ++ []) refl plain;
          opened = subst (λ header. AreOpened there header q.first q.kept q.begun q.words) (sym plain) opened;
          leaf = h.0.leaf;
          is_term = h.0.is_term;
        },
        h.1,
      )

  -- the blank line ends before text
  abbrev Ends : List Container → List ℕ → Type 0
  Ends outer = OutOr outer (λ r. ¬ IsBlank r)

  ends_there : (line changed : List ℕ) → is_blank line ≡ false → IsIndentedLine (width_of lead) line changed → Ends [] line
      → Ends (begun_by lead ∷ []) changed
  ends_there line changed text i (inl out) = absurd (out refl)
  ends_there line changed text i (inr here) =
      let on = item_goes_on lead line changed i [] in
      let same = begun_same lead [] changed (still_text lead line changed text i) in
      let kept : (match_line (begun_by lead ∷ []) changed).kept ≡ 1 = ap (λ b. b.kept) same ∙ on.0 in
      let rest : rest_in [] line ≡ rest_in (item_by lead ∷ []) changed = same_rest _ _ on.1 in
      let rest' : rest_in [] line ≡ rest_in (begun_by lead ∷ []) changed = rest ∙ ap (λ b. rest_at b.state) (sym same) in
      inr (kept, subst (λ (r : Rest). ¬ IsBlank r) rest' here.1)

  first_ends : (pieces others : List Piece) → AllZip IsNext pieces others → OnFirst Text (lines_in pieces)
      → OnFirst (Ends []) (lines_in pieces ++ []) → OnFirst (Ends (begun_by lead ∷ [])) (lines_in others ++ [])
  first_ends [] [] z text h = tt
  first_ends [] (q ∷ others) z text h = absurd z
  first_ends (p ∷ pieces) [] z text h = absurd z
  first_ends (p ∷ pieces) (q ∷ others) z text h = ends_there p.first q.first (not_true (is_blank p.first) text) z.0.first h

  blank_leaf : (pieces others : List Piece) (words : Rest) (later : List (List ℕ)) → AllZip IsNext pieces others → OnFirst Text (lines_in pieces)
      → IsLeaf (opened asked []) Blank words later (lines_in pieces ++ []) → later ≡ []
      → IsLeaf (opened asked (begun_by lead ∷ [])) Blank words [] (lines_in others ++ [])
  blank_leaf pieces others words later z text leaf none =
      (leaf.0, record { none = tt; stopped = first_ends pieces others z text leaf.1.stopped })

no_lines : (R : List ℕ → List ℕ → Type 0) (lines others : List (List ℕ)) → lines ≡ [] → AllZip R lines others → others ≡ []
no_lines R [] [] none z = refl
no_lines R [] (line ∷ others) none z = absurd z
no_lines R (line ∷ lines) others none z = cc

-- the blocks in the item
pub blank_item_blocks : (asked : Extensions) (lead : Lead) → IsLead lead → (pieces others : List Piece) → AreInBlankItem asked lead pieces others
    → AreBlocks (root asked) pieces []
    → AreBlocks (root asked) others []
blank_item_blocks asked lead is [] others z h = absurd z
blank_item_blocks asked lead is (p ∷ pieces) [] z h = absurd z
blank_item_blocks asked lead is (p ∷ pieces) (q ∷ others) (one, single, i, z) h =
    let w = width_of lead in
    let plain = no_header (root asked) p (lines_in pieces ++ []) refl h.0 in
    let opened_p = subst (λ header. AreOpened (root asked) header p.first p.kept p.begun p.words) plain h.0.opened in
    let outside : containers_of p ≡ [] = ap (λ cs. cs ++ p.begun) opened_p.goes_on ∙ single.outside in
    let leaf : IsLeaf (opened asked []) Blank p.words p.later (lines_in pieces ++ []) =
    subst (λ cs. IsLeaf (opened asked cs) Blank p.words p.later (lines_in pieces ++ [])) outside
    (blank_kind p.header (opened asked (containers_of p)) p.kind p.words p.later (lines_in pieces ++ []) single.kind h.0.leaf).1 in
    let there : begun_by lead ∷ [] ≡ containers_of q =
    ap (λ cs. begun_by lead ∷ cs) (sym single.outside) ∙ ap (λ cs. cs ++ begun_by lead ∷ p.begun) (sym i.kept_are)
    ∙ ap (λ cs. q.kept ++ cs) (sym i.begun_are) in
    let none : [] ≡ q.later = sym (no_lines _ p.later q.later single.alone i.later) in
    let kind : Blank ≡ q.kind = sym (i.kind ∙ single.kind) in
    let held : IsLeaf (opened asked (begun_by lead ∷ [])) Blank p.words [] (lines_in others ++ []) =
    blank_leaf asked lead pieces others p.words p.later z single.text_follows leaf single.alone in
    let term = p.term || false in
    let here : AreBlocks (between asked [] term false) pieces [] =
    subst (λ k. AreBlocks (between asked [] term (is_paragraph_kind k)) pieces []) single.kind
    (subst (λ cs. AreBlocks (between asked cs term (is_paragraph_kind p.kind)) pieces []) outside h.1) in
    let next : AreBlocks (between asked (item_by lead ∷ []) term false) others [] =
    next_blocks asked (item_by lead) (IsItemLine lead) (IsIndentedLine w) (IsLessIndented asked w) refl
    (λ line changed i. item_begins lead is line changed i (without_terms asked)) (item_goes_on lead) (item_stays_out lead asked) [] term false pieces others z
    here in
    let between_is : between asked (begun_by lead ∷ []) term false ≡ opened_by (root asked) q =
    ap (λ cs. between asked cs term false) there ∙ ap (λ t. between asked (containers_of q) (t || false) false) (sym i.term)
    ∙ ap (λ k. between asked (containers_of q) (q.term || false) (is_paragraph_kind k)) kind in (
      record {
        is_header = never (root asked) q (lines_in others ++ []) refl (i.header ∙ plain);
        opened = subst (λ header. AreOpened (root asked) header q.first q.kept q.begun q.words) (sym (i.header ∙ plain))
            (first_opened asked (begun_by lead) (IsMarkerAlone lead) (IsIndentedLine w) (IsLessIndented asked w) p q
            (blank_begins lead is one p.first q.first i.first (without_terms asked)) i opened_p);
        leaf = subst (λ header. IsLeafAfter header (opened asked (containers_of q)) q.kind q.words q.later (lines_in others ++ [])) (sym (i.header ∙ plain))
            (subst (λ cs. IsLeaf (opened asked cs) q.kind q.words q.later (lines_in others ++ [])) there
            (subst (λ k. IsLeaf (opened asked (begun_by lead ∷ [])) k q.words q.later (lines_in others ++ [])) kind
            (subst (λ ls. IsLeaf (opened asked (begun_by lead ∷ [])) Blank q.words ls (lines_in others ++ [])) none
            (subst (λ r. IsLeaf (opened asked (begun_by lead ∷ [])) Blank r [] (lines_in others ++ [])) (sym i.words) held))));
        is_term = (
          λ t. no_term p.kind _ single.kind (h.0.is_term.0 (sym i.term ∙ t)),
          λ given. no_term q.kind _ (sym kind) given,
        );
      },
      subst (λ b. AreBlocks b others []) between_is (begun_blocks asked lead term pieces others z single.text_follows next),
    )
  where
    no_term : {A : Type 0} (k : BlockKind) (content : List ℕ) → k ≡ Blank → IsTerm asked k content → A
    no_term k content is given = let both : Blank ≡ Paragraph = sym is ∙ given.1 in cc
