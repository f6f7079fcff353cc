-- The inlines of a text nest, and stand one after another.
use Rattle.std.proofs.Common.{ℕ, List, [], ◌≡◌, ◌++◌, ◌∙◌, sym, ap, subst, Option, length}
use Rattle.std.specs.List.{flat_map}
use Rattle.markdown_inlines.specs.Inlines.{Setting}
use Rattle.markdown_inlines.specs.Marks.{AreMarks}
use Rattle.markdown_inlines.specs.Nesting.{Nest, StandFrom}
use Rattle.markdown_inlines.specs.Output.{AreInlines}
use Rattle.markdown_inlines.specs.Written.{spread}
use Rattle.markdown_inlines.specs.declared.emphasis.Emphasis.{Emphasis}
use Rattle.markdown_inlines.specs.declared.inlines.Inline.{Inline}
use Rattle.markdown_inlines.specs.declared.links.Link.{Link}
use Rattle.markdown_inlines.specs.declared.marks.Mark.{Mark}
use Rattle.markdown_inlines.proofs.inlines.LaidLemmas.{cut_is_laid}
use Rattle.markdown_inlines.proofs.inlines.NestLemmas.{laid_nest}
use Rattle.markdown_inlines.proofs.inlines.StandLemmas.{laid_stand}

-- what begins in a text ends in it, and no two cross
pub inlines_nest : (text : List ℕ) (setting : Setting) (inlines : List Inline) (links : List (Option Link)) → AreInlines text setting inlines links
    → Nest links inlines
inlines_nest text setting inlines links are =
    subst (Nest links) (sym are.inlines_are)
    (laid_nest links are.emphasis are.pieces (length text) (cut_is_laid text setting are.pieces links are.emphasis are.cut))

-- each begins where the one before it ends, from the beginning of the text up to its end
pub inlines_stand : (text : List ℕ) (setting : Setting) (inlines : List Inline) (links : List (Option Link)) → AreInlines text setting inlines links
    → StandFrom links 0 inlines (length text)
inlines_stand text setting inlines links are =
    subst (λ (l : List Inline). StandFrom links 0 l (length text)) (sym are.inlines_are)
    (laid_stand links are.emphasis are.pieces (length text) (cut_is_laid text setting are.pieces links are.emphasis are.cut))

-- the inlines with their delimiters by the marks of a text, of which each list is also known by another name
pub by_marks : (inlines inlines' : List Inline) (emphasis : List Emphasis) (marks marks' : List Mark) (len : ℕ) (before all : List Inline)
    → inlines' ≡ inlines → marks' ≡ marks → before ≡ [] → AreMarks emphasis len marks
    → ((e : List Emphasis) → AreMarks e (length marks') marks' → all ≡ before ++ flat_map (spread e) inlines')
    → all ≡ flat_map (spread emphasis) inlines
by_marks inlines inlines' emphasis marks marks' len before all i m none are all_are =
    all_are emphasis moved ∙ (ap (λ (b : List Inline). b ++ flat_map (spread emphasis) inlines') none
    ∙ ap (λ (is : List Inline). flat_map (spread emphasis) is) i)
  where
    moved : AreMarks emphasis (length marks') marks'
    moved =
        subst (λ (ms : List Mark). AreMarks emphasis (length ms) ms) (sym m)
        (subst (λ n. AreMarks emphasis n marks) (sym are.counted) are)
