-- What is known of each inline of a text.
use Rattle.std.proofs.Common.{ℕ, zero, suc, Bool, true, false, List, [], ◌∷◌, ◌++◌, ◌≡◌, ◌<◌, ◌≤◌, ◌+◌, ◌-◌, ◌∙◌, length, get_or}
use Rattle.std.proofs.Common.{codes, arith, refl, sym, ap, subst, inl, inr}
use Rattle.std.proofs.Common.{Option, Some, None, if◌then◌else◌}
use Rattle.std.specs.Prelude.{slice_get, IfSome}
use Rattle.std.specs.List.{AllByRecursion, flat_map, range_with_len}
use Rattle.std.specs.Option.{is_some}
use Rattle.std.specs.Str.{IsUtf8, IsCharBoundary}
use Rattle.std.proofs.lemmas.Bool.{cases_lt}
use Rattle.std.proofs.Math.ListN.{get_or-eq_default}
use Rattle.std.proofs.lemmas.Option.{slice_get_within, get_or_from_slice_get, slice_get-get_or}
use Rattle.memchr.proofs.lemmas.MatchLemmas.{OccursAt-true}
use Rattle.markdown_scanners_tree.proofs.ForCallers.{cut_after_ascii}
use Rattle.markdown_inlines.specs.Inlines.{Setting}
use Rattle.markdown_inlines.specs.Links.{Known, IsTarget}
use Rattle.markdown_inlines.specs.Marks.{ends_link, marks_by}
use Rattle.markdown_inlines.specs.Output.{AreInlines, begins_link, byte_at, counted, delimiter_at, delimiter_with, inlines_at}
use Rattle.markdown_inlines.specs.Output.{inlines_from}
use Rattle.markdown_inlines.specs.Sources.{IsLinkSource, AreLinkSources}
use Rattle.markdown_inlines.specs.declared.emphasis.Emphasis.{Emphasis}
use Rattle.markdown_inlines.specs.declared.inlines.Inline.{Inline}
use Rattle.markdown_inlines.specs.declared.inlines.Inline.TheVariants as I
use Rattle.markdown_inlines.specs.declared.links.Link.{Link}
use Rattle.markdown_inlines.specs.declared.links.LinkTarget.{LinkTarget}
use Rattle.markdown_inlines.specs.declared.links.LinkTarget.TheVariants.{Inline as Within, Full, Collapsed, Shortcut, Wiki}
use Rattle.markdown_inlines.specs.declared.marks.Mark.{Mark}
use Rattle.markdown_inlines.specs.declared.marks.Mark.TheVariants as M
use Rattle.markdown_inlines.specs.declared.pieces.Piece.{Piece}
use Rattle.markdown_inlines.specs.declared.pieces.PieceKind.{PieceKind}
use Rattle.markdown_inlines.specs.declared.pieces.PieceKind.TheVariants as K
use Rattle.markdown_events.specs.Found.{HasTargetBefore, IsAimed, IsKnownLink, IsThere, IsThereWith, IsLabelCut}
use Rattle.markdown_events.proofs.found.CutFacts.{links_aimed, pieces_known}
use Rattle.markdown_events.proofs.found.PieceFacts.{IsKnown, HasDelimiters, low_cut}

-- ---- links

pub defined : {A : Type 0} (found : Option A) → is_some found ≡ true → (a : A) × (found ≡ Some a)
defined None is = (let lost : false ≡ true = is in absurd cc)
defined (Some a) is = (a, refl)

-- the text may be cut before the label that follows a link text
label_cut : (text : List ℕ) (known : Known) (from close : ℕ) (target : LinkTarget) (end : ℕ) → IsUtf8 text
    → IsTarget text known from close target end → IsLabelCut text target
label_cut text known from close (Within destination title) end utf8 is = tt
label_cut text known from close (Full range) end utf8 is =
    let full = is.1 in
    let opens = OccursAt-true text (codes "[") (close + 1) full.known_after.0 in
    let fits : close + 1 + 1 ≤ length text = opens.fits in
    let low : get_or text (close + 1 + 0) 0 ≡ 91 = opens.reads 0 (omega arith) in
    let before : range.start + 1 - 1 ≡ close + 1 + 0 = omega (arith, full.begins) in
    let byte : get_or text (range.start + 1 - 1) 0 ≡ 91 = ap (λ n. get_or text n 0) before ∙ low in
    cut_after_ascii text (range.start + 1) utf8 (omega (arith, fits, full.begins)) (omega arith) (omega (arith, byte))
label_cut text known from close Collapsed end utf8 is = tt
label_cut text known from close Shortcut end utf8 is = tt
label_cut text known from close (Wiki range) end utf8 is = tt

aimed_cut : (text : List ℕ) (known : Known) (it : Link) → IsUtf8 text → IsAimed text known it → IsLabelCut text it.target
aimed_cut text known it utf8 (inl is) = label_cut text known it.text.start it.text.end it.target it.source.end utf8 is
aimed_cut text known it utf8 (inr is) = subst (IsLabelCut text) (sym is.1) tt

-- the target of a wikilink stands before its link text
before : (text : List ℕ) (known : Known) (it : Link) → IsAimed text known it → HasTargetBefore it.target it
before text known it (inl is) = no_wiki it.target is
  where
    no_wiki : (target : LinkTarget) → IsTarget text known it.text.start it.text.end target it.source.end → HasTargetBefore target it
    no_wiki (Within destination title) is = tt
    no_wiki (Full range) is = tt
    no_wiki Collapsed is = tt
    no_wiki Shortcut is = tt
    no_wiki (Wiki range) is = absurd is
before text known it (inr (range, same, head, closes, end)) = subst (λ t. HasTargetBefore t it) (sym same) (
  omega (arith, head.begins, bracket_later it.is_image),
  omega (arith, head.some),
  elim head.ends [ inl piped ↦ omega (arith, piped.1) | inr bare ↦ omega (arith, bare.1) ],
)
  where
    bracket_later : (is_image : Bool) → it.source.start ≤ (if is_image then it.source.start + 1 else it.source.start)
    bracket_later true = omega arith
    bracket_later false = omega arith

-- ---- inlines of pieces

pub all_both : {X : Type 0} (P : X → Type 0) (xs ys : List X) → AllByRecursion P xs → AllByRecursion P ys → AllByRecursion P (xs ++ ys)
all_both P [] ys these those = those
all_both P (x ∷ xs) ys these those = (these.0, all_both P xs ys these.1 those)

module _ (text : List ℕ) (links : List (Option Link)) (emphasis : List Emphasis) (utf8 : IsUtf8 text) (Holds : Link → Type 0)
    (holds : (n : ℕ) (a : Link) → slice_get links n ≡ Some (Some a) → Holds a) where
  abbrev IsFact : Inline → Type 0
  IsFact = IsThereWith text links Holds

  leaf_fact : (piece : Piece) → IsKnown text piece → IsFact (I.Leaf piece)
  leaf_fact piece known = (known.source, known.parts)

  opener_fact : (number : ℕ) (piece : Piece) (test : Bool) → begins_link links number ≡ test → IsKnown text piece
      → IsFact (if test then I.StartLink number else I.Leaf piece)
  opener_fact number piece false none known = leaf_fact piece known
  opener_fact number piece true begins known =
      let found = defined (get_or links number None) begins in
      let inside : number < length links = below number found.0 found.1 in
      let there : slice_get links number ≡ Some (Some found.0) = slice_get-get_or links number None inside ∙ ap (λ o. Some o) found.1 in
      (found.0, there, holds number found.0 there)
    where
      below : (n : ℕ) (it : Link) → get_or links n None ≡ Some it → n < length links
      below n it is = elim (cases_lt n (length links)) [
        | inl inside ↦ inside
        | inr past ↦ (let none : None ≡ Some it = sym (get_or-eq_default links None past) ∙ is in absurd cc)
      ]

  closer_fact : (test : Bool) (piece : Piece) → IsKnown text piece → IsFact (if test then I.EndLink piece else I.Leaf piece)
  closer_fact true piece known = known.source
  closer_fact false piece known = leaf_fact piece known

  byte_fact : (offset : ℕ) → offset < length text → get_or text offset 0 < 128 → IsFact (byte_at offset)
  byte_fact offset inside low =
      let same : offset + 1 - 1 ≡ offset = omega arith in
      let before : get_or text (offset + 1 - 1) 0 < 128 = subst (λ n. get_or text n 0 < 128) (sym same) low in (
        record {
          some = omega arith;
          begins = low_cut text offset (omega (arith, inside)) low;
          ends = cut_after_ascii text (offset + 1) utf8 (omega (arith, inside)) (omega arith) before;
        },
        tt,
      )

  delimiter_facts : (mark : Mark) (offset : ℕ) → offset < length text → get_or text offset 0 < 128
      → AllByRecursion IsFact (delimiter_with mark offset)
  delimiter_facts M.Nothing offset inside low = (byte_fact offset inside low, tt)
  delimiter_facts M.OpensEmphasis offset inside low = (low_cut text offset (omega (arith, inside)) low, tt)
  delimiter_facts M.OpensStrong offset inside low = (low_cut text offset (omega (arith, inside)) low, tt)
  delimiter_facts M.ClosesEmphasis offset inside low = (low_cut text offset (omega (arith, inside)) low, tt)
  delimiter_facts M.ClosesStrong offset inside low = (low_cut text offset (omega (arith, inside)) low, tt)
  delimiter_facts M.OpensStrikethrough offset inside low = (low_cut text offset (omega (arith, inside)) low, tt)
  delimiter_facts M.OpensStrikethroughOfTwo offset inside low = (low_cut text offset (omega (arith, inside)) low, tt)
  delimiter_facts M.ClosesStrikethrough offset inside low = (low_cut text offset (omega (arith, inside)) low, tt)
  delimiter_facts M.ClosesStrikethroughOfTwo offset inside low = (low_cut text offset (omega (arith, inside)) low, tt)
  delimiter_facts M.Second offset inside low = tt

  run_facts : (n offset end : ℕ) → offset + n ≡ end → end ≤ length text
      → ((k : ℕ) → offset ≤ k → k < end → get_or text k 0 < 128)
      → AllByRecursion IsFact (flat_map (delimiter_at emphasis) (range_with_len offset n))
  run_facts zero offset end last inside low = tt
  run_facts (suc n) offset end last inside low =
      all_both IsFact (delimiter_at emphasis offset) (flat_map (delimiter_at emphasis) (range_with_len (offset + 1) n))
      (delimiter_facts (marks_by emphasis offset) offset (omega (arith, last, inside)) (low offset (omega arith) (omega (arith, last))))
      (run_facts n (offset + 1) end (omega (arith, last)) inside (λ k least less. low k (omega (arith, least)) less))

  piece_facts : (kind : PieceKind) (number : ℕ) (piece : Piece) → piece.kind ≡ kind → IsKnown text piece
      → AllByRecursion IsFact (inlines_at kind links emphasis number piece)
  piece_facts K.Text number piece is known = (leaf_fact piece known, tt)
  piece_facts K.Escape number piece is known = (leaf_fact piece known, tt)
  piece_facts K.HardBreak number piece is known = (leaf_fact piece known, tt)
  piece_facts K.SoftBreak number piece is known = (leaf_fact piece known, tt)
  piece_facts K.Reference number piece is known = (leaf_fact piece known, tt)
  piece_facts (K.Code backticks) number piece is known = (leaf_fact piece known, tt)
  piece_facts K.Uri number piece is known = (leaf_fact piece known, tt)
  piece_facts K.Email number piece is known = (leaf_fact piece known, tt)
  piece_facts K.Html number piece is known = (leaf_fact piece known, tt)
  piece_facts (K.Delimiters run) number piece is known =
      run_facts (piece.end - piece.start) piece.start piece.end (omega (arith, known.source.some)) known.source.ends.0
      (subst (λ k. HasDelimiters k text piece) is known.delimiters)
  piece_facts K.LinkOpener number piece is known = (opener_fact number piece (begins_link links number) refl known, tt)
  piece_facts K.ImageOpener number piece is known = (opener_fact number piece (begins_link links number) refl known, tt)
  piece_facts K.Closer number piece is known = (closer_fact (ends_link links piece.start) piece known, tt)

  all_facts : (number : ℕ) (pieces : List Piece) → AllByRecursion (IsKnown text) pieces
      → AllByRecursion IsFact (inlines_from links emphasis number pieces)
  all_facts number [] known = tt
  all_facts number (piece ∷ later) known =
      all_both IsFact (inlines_at piece.kind links emphasis number piece) (inlines_from links emphasis (counted piece.kind number) later)
      (piece_facts piece.kind number piece refl known.0) (all_facts (counted piece.kind number) later known.1)

-- where each piece of a text stands in it, each inline does, and of each link this holds
pub inlines_there : (text : List ℕ) (setting : Setting) (inlines : List Inline) (links : List (Option Link)) → IsUtf8 text
    → ((n : ℕ) (a : Link) → slice_get links n ≡ Some (Some a) → IsCharBoundary text a.source.end) → (Holds : Link → Type 0)
    → ((n : ℕ) (a : Link) → slice_get links n ≡ Some (Some a) → Holds a) → AreInlines text setting inlines links
    → AllByRecursion (IsThereWith text links Holds) inlines
inlines_there text setting inlines links utf8 ends_cut Holds holds are =
    subst (AllByRecursion (IsThereWith text links Holds)) (sym are.inlines_are)
    (all_facts text links are.emphasis utf8 Holds holds 0 are.pieces
    (pieces_known text setting are.pieces links are.emphasis utf8 are.cut ends_cut))

-- each inline of a text stands in it
pub inlines_found : (text : List ℕ) (setting : Setting) (inlines : List Inline) (links : List (Option Link)) → IsUtf8 text
    → AreLinkSources text links → AreInlines text setting inlines links → AllByRecursion (IsThere text setting.known links) inlines
inlines_found text setting inlines links utf8 sources are =
    inlines_there text setting inlines links utf8 (λ n a is. (source n a is).source.1) (IsKnownLink text setting.known) known are
  where
    source : (n : ℕ) (a : Link) → slice_get links n ≡ Some (Some a) → IsLinkSource text a
    source n a is =
        let inside = slice_get_within links n (Some a) is in
        let there = get_or_from_slice_get links n (Some a) None is in
        subst (λ (o : Option Link). IfSome o (IsLinkSource text)) there (sources n None inside)

    known : (n : ℕ) (a : Link) → slice_get links n ≡ Some (Some a) → IsKnownLink text setting.known a
    known n a is =
        let aimed = links_aimed text setting are.pieces links are.emphasis are.cut n a is in
        (source n a is, aimed_cut text setting.known a utf8 aimed, before text setting.known a aimed, aimed)
