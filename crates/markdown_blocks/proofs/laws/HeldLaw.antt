-- Blocks that are put into a container, their lines changed so that each stands there as it did: they are one container of these blocks.
use Rattle.std.proofs.Common.{ℕ, suc, Bool, true, false, IsTrue, ◌&&◌, ◌||◌, ◌==◌, ◌≡◌, ◌⊎◌, ◌↔◌, List, [], ◌∷◌, ◌++◌, length, take, drop}
use Rattle.std.proofs.Common.{Some, refl, sym, ap, ◌∙◌, subst, inl, inr, append_assoc, arith, eq-eqb}
use Rattle.std.specs.List.{AllZip}
use Rattle.std.specs.Prelude.{⊤}
use Rattle.std.proofs.lemmas.Bool.{eqb-true}
use Rattle.std.proofs.lemmas.Bool.Decides.{nat_tests}
use Rattle.markdown_scanners_tree.specs.line.ItemRules.{start_of}
use Rattle.markdown_scanners_tree.specs.line.State.{LineState}
use Rattle.markdown_blocks.specs.containers.Containers.{LineMatch, Between, OpenContainers, Rest, asked_between, asked_first, asked_in, begun_at}
use Rattle.markdown_blocks.specs.containers.Containers.{match_line, IsInside, Opens, past_first_line, last_past_first_line, rest_at, rest_in, without_terms}
use Rattle.markdown_blocks.specs.declared.blocks.BlockKind.{BlockKind}
use Rattle.markdown_blocks.specs.declared.blocks.BlockKind.TheVariants.{Paragraph}
use Rattle.markdown_values.specs.declared.values.extensions.Extensions.{Extensions}
use Rattle.markdown_blocks.specs.declared.containers.Container.{Container}
use Rattle.markdown_blocks.specs.blocks.Leaves.{BeginTable, EndsContent, EndsRead, IsLazy, IsLeafAfter, Leaves, LeavesAfter, OnFirst}
use Rattle.markdown_blocks.specs.blocks.Pages.{Piece, lines_in, root, containers_of, is_blank_kind, is_blank_between, opened_by, outer_of}
use Rattle.markdown_blocks.specs.blocks.Pages.{AreOpened, BeginWithHeader, IsTerm, IsPiece, AreBlocks, is_paragraph_kind}
use Rattle.markdown_blocks.specs.definitions.Content.{content_in, content_of, words_in}
use Rattle.markdown_blocks.specs.definitions.Definitions.{HasText}
use Rattle.markdown_blocks.specs.laws.Held.{Change, HasSameWords, IsHeldIn, AreIn}
use Rattle.markdown_blocks.proofs.laws.AlikeLemmas.{Alike, same_rest}
use Rattle.markdown_blocks.proofs.laws.SameContainers.{same_opens}
use Rattle.markdown_blocks.proofs.laws.LeafMoves.{Moves, FirstTwo, Follows, LaterMoves, leaf_after_moves, given_moves, leaves_by, moves_back, table_back, table_on, two_moves}
use Rattle.markdown_blocks.proofs.blocks.AfterLemmas.{paragraph_leaf}

pub zip_map : (R S : Change) → ((line moved : List ℕ) → R line moved → S line moved) → (lines others : List (List ℕ))
    → AllZip R lines others → AllZip S lines others
zip_map R S to [] [] z = tt
zip_map R S to [] (moved ∷ others) z = absurd z
zip_map R S to (line ∷ lines) [] z = absurd z
zip_map R S to (line ∷ lines) (moved ∷ others) z = (to line moved z.0, zip_map R S to lines others z.1)

pub zip_append : (R : Change) (lines others lines' others' : List (List ℕ)) → AllZip R lines others → AllZip R lines' others'
    → AllZip R (lines ++ lines') (others ++ others')
zip_append R [] [] lines' others' z z' = z'
zip_append R [] (moved ∷ others) lines' others' z z' = absurd z
zip_append R (line ∷ lines) [] lines' others' z z' = absurd z
zip_append R (line ∷ lines) (moved ∷ others) lines' others' z z' = (z.0, zip_append R lines others lines' others' z.1 z')

zip_length : (R : Change) (lines others : List (List ℕ)) → AllZip R lines others → length lines ≡ length others
zip_length R [] [] z = refl
zip_length R [] (moved ∷ others) z = absurd z
zip_length R (line ∷ lines) [] z = absurd z
zip_length R (line ∷ lines) (moved ∷ others) z = ap suc (zip_length R lines others z.1)

suc_eq : (a b : ℕ) → (a == b) ≡ (suc a == suc b)
suc_eq a b = by (a == b) refl
  where
    by : (t : Bool) → (a == b) ≡ t → t ≡ (suc a == suc b)
    by true is = sym (eq-eqb (suc a) (suc b) (ap suc (eqb-true a b is)))
    by false is = grind (arith, nat_tests)

-- the first line of the container, where the line stands after its marker
abbrev pub Begins : Extensions → Container → List ℕ → List ℕ → Type 0
Begins asked c line moved = (next : LineState) × (begun_at asked (start_of moved) ≡ Some (c, next)) × Alike (start_of line) next

-- another line, which stands in the container as the line does without
abbrev pub GoesOn : Container → List ℕ → List ℕ → Type 0
GoesOn c line moved = (outer : List Container) → ((match_line (c ∷ outer) moved).kept ≡ suc (match_line outer line).kept)
    × Alike (match_line outer line).state (match_line (c ∷ outer) moved).state

-- a line of a paragraph, which stands outside as a lazy one
abbrev pub StaysOut : Extensions → Container → List ℕ → Type 0
StaysOut asked c moved = (outer : List Container) → (match_line (c ∷ outer) moved ≡ record { kept = 0; state = start_of moved })
    × IsLazy (asked_first asked false (c ∷ outer)) (start_of moved)

-- with these extensions on these containers are open
abbrev pub opened : Extensions → List Container → OpenContainers
opened asked cs = record { extensions = asked; containers = cs }

-- the same between two blocks, where a term stands or not, and a paragraph
abbrev pub between : Extensions → List Container → Bool → Bool → Between
between asked cs term paragraph = record { extensions = asked; containers = cs; term = term; paragraph = paragraph }

-- where none stands, no line goes on with it
pub no_header : (before : Between) (piece : Piece) (rest : List (List ℕ)) → before.paragraph ≡ false → IsPiece before piece rest → piece.header ≡ false
no_header before piece rest none is = by piece.header refl
  where
    by : (h : Bool) → piece.header ≡ h → piece.header ≡ false
    by true header = let both : false ≡ true = sym none ∙ (is.is_header.0 header).0 in cc
    by false header = header

pub never : (before : Between) (piece : Piece) (rest : List (List ℕ)) → before.paragraph ≡ false → piece.header ≡ false
    → IsTrue piece.header ↔ BeginWithHeader before (piece.first ∷ (piece.later ++ rest))
never before piece rest none plain = (
  λ t. let both : false ≡ true = sym plain ∙ t in cc,
  λ h. let both : false ≡ true = sym none ∙ h.0 in cc,
)

-- what has a property by which lines leave a block has one by which they leave another
leaves_as : (outer : OpenContainers) (P Q : Rest → Type 0) (line : List ℕ) → ((rest : Rest) → P rest → Q rest) → Leaves outer P line → Leaves outer Q line
leaves_as outer P Q line to (inl out) = inl out
leaves_as outer P Q line to (inr here) = inr (here.0, to (rest_in outer.containers line) here.1)

read_ends : (asked : Extensions) (term : Bool) (content : List ℕ) → (IsTrue term → HasText content) → (rest : Rest) → EndsRead asked term rest
    → EndsContent asked content rest
read_ends asked term content text rest (inl blank) = inl blank
read_ends asked term content text rest (inr (inl marks)) = inr (inl (inr marks.1, text marks.0))
read_ends asked term content text rest (inr (inr interrupts)) = inr (inr interrupts)

own_term : (own stood blank : Bool) → blank ≡ false → IsTrue (own || (stood && blank)) → IsTrue own
own_term true stood blank none t = refl
own_term false true blank none t = let both : false ≡ true = sym none ∙ t in cc
own_term false false blank none t = cc

stays_outside : (asked : Extensions) (c : Container) (moved : List ℕ) → StaysOut asked c moved → (outer : List Container)
    → (¬ IsInside (c ∷ outer) moved) × IsLazy (asked_in (opened asked (c ∷ outer)) moved) (match_line (c ∷ outer) moved).state
stays_outside asked c moved out outer =
    let there = (out outer).0 in
    let kept : (match_line (c ∷ outer) moved).kept ≡ 0 = ap (λ (b : LineMatch). b.kept) there in (
      λ inside. omega (arith, kept, inside),
      subst (λ (b : LineMatch). IsLazy (asked_first asked false (drop b.kept (c ∷ outer))) b.state) (sym there) (out outer).1,
    )

moves : (asked : Extensions) (c : Container) (line moved : List ℕ) → GoesOn c line moved → (outer : List Container)
    → Moves (opened asked outer) (opened asked (c ∷ outer)) line moved
moves asked c line moved on outer =
    let kept = (on outer).0 in
    let state = (on outer).1 in
    record {
      same = refl;
      asked = ap (λ n. asked_first asked false (drop n (c ∷ outer))) (sym kept);
      inside = (λ i. omega (arith, kept, i), λ i. omega (arith, kept, i));
      state = state;
    }

settled_cons : (c : Container) (cs : List Container) → past_first_line c ≡ c → last_past_first_line (c ∷ cs) ≡ c ∷ last_past_first_line cs
settled_cons c [] steady = ap (λ d. d ∷ []) steady
settled_cons c (d ∷ cs) steady = refl

-- the first line begins the container
pub first_opened : (asked : Extensions) (c : Container) (First Later Lazy : Change) (p q : Piece) → Begins (without_terms asked) c p.first q.first
    → IsHeldIn First Later Lazy [] (c ∷ p.begun) p q → AreOpened (root asked) false p.first p.kept p.begun p.words
    → AreOpened (root asked) false q.first q.kept q.begun q.words
first_opened asked c First Later Lazy p q here i h =
    let opens = same_opens (without_terms asked) p.begun (start_of p.first) here.0 h.position here.2 h.begins in
    record {
      goes_on = i.kept_are;
      position = opens.0;
      begins = subst (λ cs. Opens (without_terms asked) (start_of q.first) cs opens.0) (sym i.begun_are) (here.0, here.1, opens.1);
      is_rest = i.words ∙ h.is_rest ∙ same_rest h.position opens.0 opens.2;
    }

module _ (asked : Extensions) (c : Container) (First Later Lazy : Change) (steady : past_first_line c ≡ c)
    (begins : (line moved : List ℕ) → First line moved → Begins (without_terms asked) c line moved)
    (on : (line moved : List ℕ) → Later line moved → GoesOn c line moved) (out : (line moved : List ℕ) → Lazy line moved → StaysOut asked c moved) where
  -- a block after the first in the container, and a line after the first of a block
  abbrev IsNext : Piece → Piece → Type 0
  IsNext p q = IsHeldIn Later Later Lazy (c ∷ p.kept) p.begun p q

  -- The first of the pieces is no paragraph where its first line is a header row that goes on with a paragraph of this text and these
  -- later lines.
  abbrev IsNoParagraph : List Container → List ℕ → List (List ℕ) → List Piece → Type 0
  IsNoParagraph outer text later [] = ⊤
  IsNoParagraph outer text later (n ∷ pieces) =
      (¬ LeavesAfter (opened asked outer) text later n.first)
      → BeginTable (opened asked outer) (n.first ∷ (n.later ++ (lines_in pieces ++ []))) → ¬ (n.kind ≡ Paragraph)

  abbrev IsLater : Piece → Piece → Change
  IsLater p q line changed =
      Later line changed
      ⊎ ((p.kind ≡ Paragraph) × Lazy line changed × HasSameWords p q line changed)

  module _ (outer : List Container) where
    later_moves : (p q : Piece) → outer ≡ p.kept ++ p.begun → c ∷ outer ≡ q.kept ++ q.begun → (line moved : List ℕ) → IsLater p q line moved
        → LaterMoves (opened asked outer) (opened asked (c ∷ outer)) p.kind line moved
    later_moves p q here there line moved (inl h) = inl (moves asked c line moved (on line moved h) outer)
    later_moves p q here there line moved (inr h) = inr (
      h.0,
      (stays_outside asked c moved (out line moved h.1) outer).0,
      (stays_outside asked c moved (out line moved h.1) outer).1,
      ap (λ cs. words_in cs line) here ∙ h.2 ∙ ap (λ cs. words_in cs moved) (sym there),
    )

    abbrev MovesOrOut : Change
    MovesOrOut line moved = Moves (opened asked outer) (opened asked (c ∷ outer)) line moved ⊎ (¬ IsInside (c ∷ outer) moved)

    each_moves : (p q : Piece) (line moved : List ℕ) → IsLater p q line moved → MovesOrOut line moved
    each_moves p q line moved (inl h) = inl (moves asked c line moved (on line moved h) outer)
    each_moves p q line moved (inr h) = inr (stays_outside asked c moved (out line moved h.1) outer).0

    follow_each : (pieces others : List Piece) → AllZip IsNext pieces others → AllZip MovesOrOut (lines_in pieces ++ []) (lines_in others ++ [])
    follow_each [] [] z = tt
    follow_each [] (q ∷ others) z = absurd z
    follow_each (p ∷ pieces) [] z = absurd z
    follow_each (p ∷ pieces) (q ∷ others) z =
        let lines : AllZip MovesOrOut (p.first ∷ p.later) (q.first ∷ q.later) = (
          inl (moves asked c p.first q.first (on p.first q.first z.0.first) outer),
          zip_map (IsLater p q) MovesOrOut (each_moves p q) p.later q.later z.0.later,
        ) in
        let more = follow_each pieces others z.1 in
        subst (λ ls. AllZip MovesOrOut (lines_in (p ∷ pieces) ++ []) ls) (sym (joined q others))
        (subst (λ ls. AllZip MovesOrOut ls ((q.first ∷ q.later) ++ (lines_in others ++ []))) (sym (joined p pieces))
        (zip_append MovesOrOut (p.first ∷ p.later) (q.first ∷ q.later) (lines_in pieces ++ []) (lines_in others ++ []) lines more))
      where
        joined : (r : Piece) (rs : List Piece) → lines_in (r ∷ rs) ++ [] ≡ (r.first ∷ r.later) ++ (lines_in rs ++ [])
        joined r rs = append_assoc (r.first ∷ r.later) (lines_in rs) []

    follow_first : (pieces others : List Piece) → AllZip IsNext pieces others
        → FirstTwo (Moves (opened asked outer) (opened asked (c ∷ outer))) (lines_in pieces ++ []) (lines_in others ++ [])
    follow_first [] [] z = tt
    follow_first [] (q ∷ others) z = absurd z
    follow_first (p ∷ pieces) [] z = absurd z
    follow_first (p ∷ pieces) (q ∷ others) z = moves asked c p.first q.first (on p.first q.first z.0.first) outer

    follow : (pieces others : List Piece) → AllZip IsNext pieces others
        → Follows (opened asked outer) (opened asked (c ∷ outer)) (lines_in pieces ++ []) (lines_in others ++ [])
    follow pieces others z = record { first = follow_first pieces others z; each = follow_each pieces others z }

    -- the lines after a first line with which a table begins: that is no paragraph's, and so none of them is a lazy one
    two_next : (ls ms rest after : List (List ℕ)) (p q : Piece) → ¬ (p.kind ≡ Paragraph) → AllZip (IsLater p q) ls ms
        → FirstTwo (Moves (opened asked outer) (opened asked (c ∷ outer))) rest after
        → FirstTwo (Moves (opened asked outer) (opened asked (c ∷ outer))) (ls ++ rest) (ms ++ after)
    two_next [] [] rest after p q plain z two = two
    two_next [] (moved ∷ ms) rest after p q plain z two = absurd z
    two_next (line ∷ ls) [] rest after p q plain z two = absurd z
    two_next (line ∷ ls) (moved ∷ ms) rest after p q plain (inl h, z) two = moves asked c line moved (on line moved h) outer
    two_next (line ∷ ls) (moved ∷ ms) rest after p q plain (inr lazy, z) two = absurd (plain lazy.0)

    follow_table : (text : List ℕ) (later : List (List ℕ)) (pieces others : List Piece) → AllZip IsNext pieces others
        → IsNoParagraph outer text later pieces
        → OnFirst (λ line. ¬ LeavesAfter (opened asked outer) text later line) (lines_in pieces ++ [])
        → BeginTable (opened asked outer) (lines_in pieces ++ []) → BeginTable (opened asked (c ∷ outer)) (lines_in others ++ [])
    follow_table text later [] [] z plain goes table = absurd table
    follow_table text later [] (q ∷ others) z plain goes table = absurd z
    follow_table text later (p ∷ pieces) [] z plain goes table = absurd z
    follow_table text later (p ∷ pieces) (q ∷ others) z plain goes table =
        subst (λ ls. BeginTable (opened asked (c ∷ outer)) (q.first ∷ ls)) (sym (append_assoc q.later (lines_in others) []))
        (table_on (opened asked outer) (opened asked (c ∷ outer)) p.first q.first (p.later ++ (lines_in pieces ++ [])) (q.later ++ (lines_in others ++ []))
        (moves asked c p.first q.first (on p.first q.first z.0.first) outer)
        (two_next p.later q.later (lines_in pieces ++ []) (lines_in others ++ []) p q (plain goes here) z.0.later (follow_first pieces others z.1)) here)
      where
        here : BeginTable (opened asked outer) (p.first ∷ (p.later ++ (lines_in pieces ++ [])))
        here = subst (λ ls. BeginTable (opened asked outer) (p.first ∷ ls)) (append_assoc p.later (lines_in pieces) []) table

  -- the block in the container
  module _ (p q : Piece) (pieces others : List Piece) (z : AllZip IsNext pieces others) where
    abbrev Given : Bool → BlockKind → List Container → Rest → List (List ℕ) → Type 0
    Given term kind cs words later = IsTrue term ↔ IsTerm asked kind (content_in kind cs words.text later)

    there_by : (Start : Change) (kept begun : List Container) → IsHeldIn Start Later Lazy kept begun p q → kept ++ begun ≡ c ∷ containers_of p
        → c ∷ containers_of p ≡ containers_of q
    there_by Start kept begun i open_now =
        sym open_now ∙ ap (λ cs. cs ++ begun) (sym i.kept_are) ∙ ap (λ cs. q.kept ++ cs) (sym i.begun_are)

    given_in : (Start : Change) (kept begun : List Container) → IsHeldIn Start Later Lazy kept begun p q → kept ++ begun ≡ c ∷ containers_of p
        → Given p.term p.kind (containers_of p) p.words p.later → Given q.term q.kind (containers_of q) q.words q.later
    given_in Start kept begun i open_now given =
        let outer = containers_of p in
        let there = there_by Start kept begun i open_now in
        let moved : Given p.term p.kind (c ∷ outer) p.words q.later =
        given_moves (opened asked outer) (opened asked (c ∷ outer)) p.kind p.words.text p.later q.later
        (zip_map (IsLater p q) (LaterMoves (opened asked outer) (opened asked (c ∷ outer)) p.kind)
        (later_moves outer p q refl there) p.later q.later i.later) asked p.term given in
        subst (λ t. Given t q.kind (containers_of q) q.words q.later) (sym i.term)
        (subst (λ k. Given p.term k (containers_of q) q.words q.later) (sym i.kind)
        (subst (λ w. Given p.term p.kind (containers_of q) w q.later) (sym i.words)
        (subst (λ cs. Given p.term p.kind cs p.words q.later) there moved)))

    no_next : (before : Between) → before.extensions ≡ asked → IsPiece before p (lines_in pieces ++ []) → p.kind ≡ Paragraph
        → AreBlocks (opened_by before p) pieces [] → IsNoParagraph (containers_of p) p.words.text p.later pieces
    no_next before same h paragraph more = by pieces h more
      where
        read : IsPiece before p (lines_in pieces ++ []) → IsTrue (opened_by before p).term
            → HasText (content_of (containers_of p) p.words.text p.later)
        read is t =
            let none : is_blank_between before.containers p ≡ false =
            ap (λ k. is_blank_kind k && (length p.later == 0) && (length p.kept == length before.containers) && (length p.begun == 0)) paragraph in
            let given = is.is_term.0 (own_term p.term before.term (is_blank_between before.containers p) none t) in
            subst HasText (ap (λ k. content_in k (containers_of p) p.words.text p.later) paragraph) given.2

        by : (ps : List Piece) → IsPiece before p (lines_in pieces ++ []) → AreBlocks (opened_by before p) ps []
            → IsNoParagraph (containers_of p) p.words.text p.later ps
        by [] is more = tt
        by (next ∷ ps) is more = λ goes table kind.
            let outer = outer_of before p in
            let here : opened asked (containers_of p) ≡ outer = ap (λ x. opened x (containers_of p)) (sym same) in
            let stays = subst (λ o. ¬ LeavesAfter o p.words.text p.later next.first) here goes in
            let begins = subst (λ o. BeginTable o (next.first ∷ (next.later ++ (lines_in ps ++ [])))) here table in
            let header = more.0.is_header.1 (
              ap is_paragraph_kind paragraph,
              λ leaves. stays (leaves_as outer (EndsRead before.extensions (opened_by before p).term)
                  (EndsContent before.extensions (content_of (containers_of p) p.words.text p.later)) next.first
                  (read_ends before.extensions (opened_by before p).term (content_of (containers_of p) p.words.text p.later) (read is)) leaves),
              begins,
            ) in
            let plain = paragraph_leaf next.header (outer_of (opened_by before p) next) next.kind next.words next.later (lines_in ps ++ []) kind
            more.0.leaf in
            let both : true ≡ false = sym header ∙ plain.0 in cc

    leaf_in : (Start : Change) (kept begun : List Container) → IsHeldIn Start Later Lazy kept begun p q → kept ++ begun ≡ c ∷ containers_of p
        → (p.kind ≡ Paragraph → IsNoParagraph (containers_of p) p.words.text p.later pieces)
        → IsLeafAfter p.header (opened asked (p.kept ++ p.begun)) p.kind p.words p.later (lines_in pieces ++ [])
        → IsLeafAfter q.header (opened asked (q.kept ++ q.begun)) q.kind q.words q.later (lines_in others ++ [])
    leaf_in Start kept begun i open_now plain leaf =
        let outer = p.kept ++ p.begun in
        let there = there_by Start kept begun i open_now in
        let moved : IsLeafAfter p.header (opened asked (c ∷ outer)) p.kind p.words q.later (lines_in others ++ []) =
        leaf_after_moves (opened asked outer) (opened asked (c ∷ outer)) p.words p.later q.later (lines_in pieces ++ []) (lines_in others ++ [])
        (follow outer pieces others z) p.header p.kind
        (λ paragraph goes table. follow_table outer p.words.text p.later pieces others z (plain paragraph) goes table)
        (zip_map (IsLater p q) (LaterMoves (opened asked outer) (opened asked (c ∷ outer)) p.kind)
        (later_moves outer p q refl there) p.later q.later i.later) leaf in
        subst (λ h. IsLeafAfter h (opened asked (q.kept ++ q.begun)) q.kind q.words q.later (lines_in others ++ [])) (sym i.header)
        (subst (λ cs. IsLeafAfter p.header (opened asked cs) q.kind q.words q.later (lines_in others ++ [])) there
        (subst (λ w. IsLeafAfter p.header (opened asked (c ∷ outer)) q.kind w q.later (lines_in others ++ [])) (sym i.words)
        (subst (λ k. IsLeafAfter p.header (opened asked (c ∷ outer)) k p.words q.later (lines_in others ++ [])) (sym i.kind) moved)))

    -- a line that goes on with the paragraph before it does so there
    module _ (outer : List Container) (term paragraph : Bool) (i : IsNext p q) where
      abbrev here : Between
      here = between asked outer term paragraph

      abbrev there : Between
      there = between asked (c ∷ outer) term paragraph

      first_moves : Moves (opened asked outer) (opened asked (c ∷ outer)) p.first q.first
      first_moves = moves asked c p.first q.first (on p.first q.first i.first) outer

      header_in : IsPiece here p (lines_in pieces ++ [])
          → IsTrue q.header ↔ BeginWithHeader there (q.first ∷ (q.later ++ (lines_in others ++ [])))
      header_in h = (to, from)
        where
          to : IsTrue q.header → BeginWithHeader there (q.first ∷ (q.later ++ (lines_in others ++ [])))
          to t =
              let header : p.header ≡ true = sym i.header ∙ t in
              let given = h.is_header.0 header in
              let plain : ¬ (p.kind ≡ Paragraph) = λ kind.
              (let none = paragraph_leaf p.header (outer_of here p) p.kind p.words p.later (lines_in pieces ++ []) kind h.leaf in
              let both : true ≡ false = sym header ∙ none.0 in cc) in (
                given.0,
                λ leaves. given.1 (leaves_by (opened asked (c ∷ outer)) (opened asked outer) q.first p.first
                    (moves_back (opened asked outer) (opened asked (c ∷ outer)) p.first q.first first_moves) (EndsRead asked term) leaves),
                table_on (opened asked outer) (opened asked (c ∷ outer)) p.first q.first (p.later ++ (lines_in pieces ++ [])) (q.later ++ (lines_in others ++ []))
                    first_moves
                    (two_next outer p.later q.later (lines_in pieces ++ []) (lines_in others ++ []) p q plain i.later (follow_first outer pieces others z))
                    given.2,
              )

          from : BeginWithHeader there (q.first ∷ (q.later ++ (lines_in others ++ []))) → IsTrue q.header
          from given =
              i.header ∙ h.is_header.1 (
                given.0,
                λ leaves. given.1 (leaves_by (opened asked outer) (opened asked (c ∷ outer)) p.first q.first first_moves (EndsRead asked term) leaves),
                table_back (opened asked outer) (opened asked (c ∷ outer)) Paragraph p.first q.first (p.later ++ (lines_in pieces ++ []))
                    (q.later ++ (lines_in others ++ [])) (inl first_moves)
                    (two_moves (Moves (opened asked outer) (opened asked (c ∷ outer))) (MovesOrOut outer) (λ l k m. inl m) p.later q.later
                    (lines_in pieces ++ []) (lines_in others ++ [])
                    (zip_map (IsLater p q) (MovesOrOut outer) (each_moves outer p q) p.later q.later i.later) (follow_first outer pieces others z))
                    given.2,
              )

      opened_in : (header : Bool) → AreOpened here header p.first p.kept p.begun p.words → AreOpened there header q.first q.kept q.begun q.words
      opened_in true o =
          let on_state = (on p.first q.first i.first outer).1 in
          record {
            goes_on = i.kept_are ∙ ap (λ cs. c ∷ cs) o.goes_on;
            position = (match_line (c ∷ outer) q.first).state;
            begins = (i.begun_are ∙ o.begins.0, refl);
            is_rest = i.words ∙ o.is_rest ∙ ap rest_at o.begins.1 ∙ same_rest (match_line outer p.first).state (match_line (c ∷ outer) q.first).state on_state;
          }
      opened_in false o =
          let on_here = on p.first q.first i.first outer in
          let asks : asked_between here p.first ≡ asked_between there q.first = ap (λ n. asked_first asked term (drop n (c ∷ outer))) (sym on_here.0) in
          let opens = same_opens (asked_between here p.first) p.begun (match_line outer p.first).state (match_line (c ∷ outer) q.first).state
          o.position on_here.1 o.begins in
          record {
            goes_on = i.kept_are ∙ ap (λ cs. c ∷ cs) o.goes_on ∙ sym (settled_cons c (take (match_line outer p.first).kept outer) steady)
                ∙ ap (λ n. last_past_first_line (take n (c ∷ outer))) (sym on_here.0);
            position = opens.0;
            begins = subst (λ x. Opens x (match_line (c ∷ outer) q.first).state q.begun opens.0) asks
                (subst (λ cs. Opens (asked_between here p.first) (match_line (c ∷ outer) q.first).state cs opens.0) (sym i.begun_are) opens.1);
            is_rest = i.words ∙ o.is_rest ∙ same_rest o.position opens.0 opens.2;
          }

      next_piece : IsPiece here p (lines_in pieces ++ []) → AreBlocks (opened_by here p) pieces [] → IsPiece there q (lines_in others ++ [])
      next_piece h more = record {
        is_header = header_in h;
        opened = subst (λ header. AreOpened there header q.first q.kept q.begun q.words) (sym i.header) (opened_in p.header h.opened);
        leaf = leaf_in Later (c ∷ p.kept) p.begun i refl (λ paragraph. no_next here refl h paragraph more) h.leaf;
        is_term = given_in Later (c ∷ p.kept) p.begun i refl h.is_term;
      }

    first_piece : IsHeldIn First Later Lazy [] (c ∷ p.begun) p q → IsPiece (root asked) p (lines_in pieces ++ [])
        → AreBlocks (opened_by (root asked) p) pieces [] → IsPiece (root asked) q (lines_in others ++ [])
    first_piece i h more =
        let plain = no_header (root asked) p (lines_in pieces ++ []) refl h in
        let opened = subst (λ header. AreOpened (root asked) header p.first p.kept p.begun p.words) plain h.opened in
        let none = ap (λ cs. c ∷ (cs ++ p.begun)) (sym opened.goes_on) in
        record {
          is_header = never (root asked) q (lines_in others ++ []) refl (i.header ∙ plain);
          opened = subst (λ header. AreOpened (root asked) header q.first q.kept q.begun q.words) (sym (i.header ∙ plain))
              (first_opened asked c First Later Lazy p q (begins p.first q.first i.first) i opened);
          leaf = leaf_in First [] (c ∷ p.begun) i none (λ paragraph. no_next (root asked) refl h paragraph more) h.leaf;
          is_term = given_in First [] (c ∷ p.begun) i none h.is_term;
        }

    -- one blank line between is one there too
    blank_in : (outer : List Container) → IsNext p q → is_blank_between outer p ≡ is_blank_between (c ∷ outer) q
    blank_in outer i =
        let test : BlockKind → ℕ → Bool → List Container → Bool =
        λ kind lines kept begun. is_blank_kind kind && (lines == 0) && kept && (length begun == 0) in
        let kept : (length p.kept == length outer) ≡ (length q.kept == length (c ∷ outer)) =
        suc_eq (length p.kept) (length outer) ∙ ap (λ (cs : List Container). length cs == length (c ∷ outer)) (sym i.kept_are) in
        ap (λ k. test k (length p.later) (length p.kept == length outer) p.begun) (sym i.kind)
        ∙ ap (λ n. test q.kind n (length p.kept == length outer) p.begun) (zip_length _ p.later q.later i.later)
        ∙ ap (λ t. test q.kind (length q.later) t p.begun) kept
        ∙ ap (λ cs. test q.kind (length q.later) (length q.kept == length (c ∷ outer)) cs) (sym i.begun_are)

    after_in : (outer : List Container) (term paragraph : Bool) → IsNext p q
        → between asked (c ∷ containers_of p) (opened_by (between asked outer term paragraph) p).term (is_paragraph_kind p.kind)
        ≡ opened_by (between asked (c ∷ outer) term paragraph) q
    after_in outer term paragraph i =
        ap (λ cs. between asked cs (p.term || (term && is_blank_between outer p)) (is_paragraph_kind p.kind)) (there_by Later (c ∷ p.kept) p.begun i refl)
        ∙ ap (λ t. between asked (containers_of q) (t || (term && is_blank_between outer p)) (is_paragraph_kind p.kind)) (sym i.term)
        ∙ ap (λ b. between asked (containers_of q) (q.term || (term && b)) (is_paragraph_kind p.kind)) (blank_in outer i)
        ∙ ap (λ k. between asked (containers_of q) (q.term || (term && is_blank_between (c ∷ outer) q)) (is_paragraph_kind k)) (sym i.kind)

  -- the blocks in the container
  pub next_blocks : (outer : List Container) (term paragraph : Bool) (pieces others : List Piece) → AllZip IsNext pieces others
      → AreBlocks (between asked outer term paragraph) pieces [] → AreBlocks (between asked (c ∷ outer) term paragraph) others []
  next_blocks outer term paragraph [] [] z h = tt
  next_blocks outer term paragraph [] (q ∷ others) z h = absurd z
  next_blocks outer term paragraph (p ∷ pieces) [] z h = absurd z
  next_blocks outer term paragraph (p ∷ pieces) (q ∷ others) z h = (
    next_piece p q pieces others z.1 outer term paragraph z.0 h.0 h.1,
    subst (λ b. AreBlocks b others []) (after_in p q pieces others z.1 outer term paragraph z.0)
        (next_blocks (containers_of p) (opened_by (between asked outer term paragraph) p).term (is_paragraph_kind p.kind) pieces others z.1 h.1),
  )

  pub held_blocks : (pieces others : List Piece) → AreIn c First Later Lazy pieces others → AreBlocks (root asked) pieces [] → AreBlocks (root asked) others []
  held_blocks [] [] z h = tt
  held_blocks [] (q ∷ others) z h = absurd z
  held_blocks (p ∷ pieces) [] z h = absurd z
  held_blocks (p ∷ pieces) (q ∷ others) z h =
      let plain = no_header (root asked) p (lines_in pieces ++ []) refl h.0 in
      let opened = subst (λ header. AreOpened (root asked) header p.first p.kept p.begun p.words) plain h.0.opened in
      let none = ap (λ cs. c ∷ (cs ++ p.begun)) (sym opened.goes_on) in
      let there = there_by p q pieces others z.1 First [] (c ∷ p.begun) z.0 none in
      let after_first : between asked (c ∷ containers_of p) (opened_by (root asked) p).term (is_paragraph_kind p.kind) ≡ opened_by (root asked) q =
      ap (λ cs. between asked cs (p.term || false) (is_paragraph_kind p.kind)) there
      ∙ ap (λ t. between asked (containers_of q) (t || false) (is_paragraph_kind p.kind)) (sym z.0.term)
      ∙ ap (λ k. between asked (containers_of q) (q.term || false) (is_paragraph_kind k)) (sym z.0.kind) in (
        first_piece p q pieces others z.1 z.0 h.0 h.1,
        subst (λ b. AreBlocks b others []) after_first
            (next_blocks (containers_of p) (opened_by (root asked) p).term (is_paragraph_kind p.kind) pieces others z.1 h.1),
      )

-- the lines of the blocks, each beside the line that stands for it
module _ (c : Container) (First Later Lazy R : Change) (by_first : (line held : List ℕ) → First line held → R line held)
    (by_later : (line held : List ℕ) → Later line held → R line held) (by_lazy : (line held : List ℕ) → Lazy line held → R line held) where
  pub each_later : (p q : Piece) (line held : List ℕ)
      → Later line held ⊎ ((p.kind ≡ Paragraph) × Lazy line held × HasSameWords p q line held) → R line held
  each_later p q line held (inl h) = by_later line held h
  each_later p q line held (inr h) = by_lazy line held h.1

  pub next_lines : (pieces others : List Piece) → AllZip (λ p q. IsHeldIn Later Later Lazy (c ∷ p.kept) p.begun p q) pieces others
      → AllZip R (lines_in pieces) (lines_in others)
  next_lines [] [] z = tt
  next_lines [] (q ∷ others) z = absurd z
  next_lines (p ∷ pieces) [] z = absurd z
  next_lines (p ∷ pieces) (q ∷ others) z =
      zip_append R (p.first ∷ p.later) (q.first ∷ q.later) (lines_in pieces) (lines_in others) (
        by_later p.first q.first z.0.first,
        zip_map _ R (each_later p q) p.later q.later z.0.later,
      ) (next_lines pieces others z.1)

  pub held_lines : (pieces others : List Piece) → AreIn c First Later Lazy pieces others → AllZip R (lines_in pieces) (lines_in others)
  held_lines [] [] z = tt
  held_lines [] (q ∷ others) z = absurd z
  held_lines (p ∷ pieces) [] z = absurd z
  held_lines (p ∷ pieces) (q ∷ others) z =
      zip_append R (p.first ∷ p.later) (q.first ∷ q.later) (lines_in pieces) (lines_in others) (
        by_first p.first q.first z.0.first,
        zip_map _ R (each_later p q) p.later q.later z.0.later,
      ) (next_lines pieces others z.1)
