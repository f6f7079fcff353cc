use Rattle.std.proofs.Common.{◌≡◌, ◌≤◌, ◌+◌, ◌-◌, ◌∙◌, length, take, drop, get_or, ap, sym, subst, arith, inl, inr, Some}
use Rattle.std.specs.Prelude.{IfSome}
use Rattle.markdown_scanners_tree.specs.inline_html.InlineHtml.{find_at}
use Rattle.markdown_scanners_tree.proofs.PrefixLemmas.{from_offset}
use Rattle.markdown_scanners_tree.proofs.SomeExactlyLemmas.{SomeExactly-map}
use Rattle.markdown_inlines.specs.Pieces.{IsHtmlPiece, IsTagPiece}
use Rattle.markdown_inlines.specs.Searches.{IsSearchedTo}
use Rattle.markdown_inlines.proofs.pieces.Openings.{no_html}
use Rattle.markdown_inlines.proofs.searches.SearchLemmas.{html_stays}
use Rattle.markdown_inlines.proofs.angles.html_len.Goals as goal

pub returns-in-Some-clause-found : goal.returns-in-Some-clause-found
returns-in-Some-clause-found c =
    let length_is : c.in-Some.end ≡ c.args.offset + (c.in-Some.end - c.args.offset) = omega (arith, c.in-Some.ensures.later) in
    inr (ap (λ t. find_at t (c.args.offset + 2)) (sym c.requires.same) ∙ (sym c.in-Some.ensures.found ∙ ap Some length_is))

pub returns-in-Some-clause-stays : goal.returns-in-Some-clause-stays
returns-in-Some-clause-stays c = λ q less within.
    let offset = c.args.offset in
    let here = ap (λ t. get_or t offset 0) c.requires.same ∙ c.requires.opens in
    subst (IsSearchedTo q) (sym c.in-Some.ensures.after) (html_stays offset q c.args.searches.now c.requires.searched here less
    (subst (λ r. IfSome r (λ end. end ≤ q)) c.in-Some.ensures.found (omega (arith, within, c.in-Some.ensures.later))))

pub returns-clause-found : goal.returns-clause-found
returns-clause-found c =
    let bytes = c.args.bytes.now in
    let offset = c.args.offset in
    let rest = from_offset bytes offset in
    let none = ap (λ t. find_at t (offset + 2)) (sym c.requires.same) ∙ sym c.in_default.ensures.found in
    SomeExactly-map (IsTagPiece (take (length bytes - offset) (drop offset bytes))) (IsHtmlPiece bytes offset) c.tag_len.result
    (λ n is. inl (subst (λ t. IsTagPiece t n) rest is))
    (λ no_tag. no_html bytes offset (λ n is. no_tag n (subst (λ t. IsTagPiece t n) (sym rest) is)) none) c.tag_len.ensures.found

pub returns-clause-stays : goal.returns-clause-stays
returns-clause-stays c = λ q less within.
    let offset = c.args.offset in
    let here = ap (λ t. get_or t offset 0) c.requires.same ∙ c.requires.opens in
    subst (IsSearchedTo q) (sym c.in_default.ensures.after) (html_stays offset q c.args.searches.now c.requires.searched here less
    (subst (λ r. IfSome r (λ end. end ≤ q)) c.in_default.ensures.found tt))
