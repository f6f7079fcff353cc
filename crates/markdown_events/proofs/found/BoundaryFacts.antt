-- A text that is UTF-8 may be cut where each of its inlines begins, and on both sides of what a wikilink shows.
use Rattle.std.proofs.Common.{ℕ, List, [], ◌∷◌, ◌≡◌, inl, inr, sym, subst, Option, Some}
use Rattle.std.specs.Prelude.{⊤, slice_get}
use Rattle.std.specs.List.{AllByRecursion}
use Rattle.std.specs.Str.{IsUtf8, IsCharBoundary}
use Rattle.markdown_scanners_tree.specs.scanners.reference_definitions.ReferenceDefinition.{IsCutAt}
use Rattle.markdown_inlines.specs.Inlines.{Setting}
use Rattle.markdown_inlines.specs.Links.{Known, IsTarget}
use Rattle.markdown_inlines.specs.Output.{AreInlines, counted}
use Rattle.markdown_inlines.specs.declared.inlines.Inline.{Inline}
use Rattle.markdown_inlines.specs.declared.links.Link.{Link}
use Rattle.markdown_inlines.specs.declared.links.LinkTarget.{LinkTarget}
use Rattle.markdown_inlines.specs.declared.links.LinkTarget.TheVariants.{Inline as Within, Full, Collapsed, Shortcut, Wiki}
use Rattle.markdown_inlines.specs.declared.pieces.Piece.{Piece}
use Rattle.markdown_inlines.proofs.inlines.LaidLemmas.{cut_is_laid}
use Rattle.markdown_inlines.proofs.inlines.NumberedPieces.{numbered}
use Rattle.markdown_inlines.proofs.inlines.Spans.{IsIn}
use Rattle.markdown_inlines.proofs.ForCallers.{head_ends}
use Rattle.markdown_events.specs.Found.{IsAimed, IsThereWith, link_bracket}
use Rattle.markdown_events.proofs.found.CutFacts.{links_aimed, pieces_known}
use Rattle.markdown_events.proofs.found.InlineFacts.{inlines_there}
use Rattle.markdown_events.proofs.found.PieceFacts.{IsKnown}
use Rattle.markdown_events.proofs.found.TargetEnds.{aimed_end}

-- what a wikilink shows may be cut out
abbrev pub IsShownCut : List ℕ → LinkTarget → Type 0
IsShownCut text (Wiki range) = IsCutAt text range
IsShownCut text target = ⊤

-- and a link, where it begins
abbrev pub BeginsCut : List ℕ → Link → Type 0
BeginsCut text it = IsCharBoundary text it.source.start × IsShownCut text it.target

shown_cut : (text : List ℕ) (known : Known) (it : Link) → IsUtf8 text → IsAimed text known it → IsShownCut text it.target
shown_cut text known it utf8 (inl is) = no_wiki it.target is
  where
    no_wiki : (target : LinkTarget) → IsTarget text known it.text.start it.text.end target it.source.end → IsShownCut text target
    no_wiki (Within destination title) is = tt
    no_wiki (Full range) is = tt
    no_wiki Collapsed is = tt
    no_wiki Shortcut is = tt
    no_wiki (Wiki range) is = absurd is
shown_cut text known it utf8 (inr (range, same, head, closes, end)) =
    subst (IsShownCut text) (sym same) ((head_ends text (link_bracket it) range it.text.start head).source utf8)

-- a numbered piece is one of the pieces
numbered_of : (P : Piece → Type 0) (pieces : List Piece) (number : ℕ) (x : ℕ × Piece) → AllByRecursion P pieces → IsIn x (numbered number pieces)
    → P x.1
numbered_of P [] number x all is = absurd is
numbered_of P (piece ∷ later) number x all (inl here) = subst (λ (y : ℕ × Piece). P y.1) (sym here) all.0
numbered_of P (piece ∷ later) number x all (inr is) = numbered_of P later (counted piece.kind number) x all.1 is

-- each inline of a text that is UTF-8 stands in it
pub inlines_cut : (text : List ℕ) (setting : Setting) (inlines : List Inline) (links : List (Option Link)) → IsUtf8 text
    → AreInlines text setting inlines links → AllByRecursion (IsThereWith text links (BeginsCut text)) inlines
inlines_cut text setting inlines links utf8 are =
    inlines_there text setting inlines links utf8 ends_cut (BeginsCut text) begins are
  where
    aimed : (n : ℕ) (a : Link) → slice_get links n ≡ Some (Some a) → IsAimed text setting.known a
    aimed = links_aimed text setting are.pieces links are.emphasis are.cut

    ends_cut : (n : ℕ) (a : Link) → slice_get links n ≡ Some (Some a) → IsCharBoundary text a.source.end
    ends_cut n a is = aimed_end text setting.known a utf8 (aimed n a is)

    begins : (n : ℕ) (a : Link) → slice_get links n ≡ Some (Some a) → BeginsCut text a
    begins n a is =
        let opener = ((cut_is_laid text setting are.pieces links are.emphasis are.cut).has (inr (n, a)) is).0 in
        let known = pieces_known text setting are.pieces links are.emphasis utf8 are.cut ends_cut in
        ((numbered_of (IsKnown text) are.pieces 0 _ known opener).source.begins, shown_cut text setting.known a utf8 (aimed n a is))
