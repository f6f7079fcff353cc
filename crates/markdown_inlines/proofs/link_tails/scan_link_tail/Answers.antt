use Rattle.std.proofs.Common.{◌+◌, ◌-◌, ◌∙◌, sym, subst, arith, inl}
use Rattle.std.specs.Str.{IsCharBoundary}
use Rattle.markdown_scanners_tree.proofs.ForCallers.{offset_of_rest}
use Rattle.markdown_scanners_tree.proofs.PrefixLemmas.{from_offset}
use Rattle.markdown_scanners_tree.proofs.SomeExactlyLemmas.{IsOnly-found}
use Rattle.markdown_inlines.specs.LinkTails.{IsLinkTail}
use Rattle.markdown_inlines.proofs.link_tails.LinkTailLemmas.{opened, cut_opened, no_tail_unopened, empty_found, tail_or_none}
use Rattle.markdown_inlines.proofs.link_tails.OneLinkTail.{one_link_tail}
use Rattle.markdown_inlines.proofs.link_tails.scan_link_tail.Goals as goal

pub returns-then-not-is_opened-clause-found : goal.returns-then-not-is_opened-clause-found
returns-then-not-is_opened-clause-found c =
    no_tail_unopened (c.args.max_next + 1) c.args.bytes.now (sym c.is_opened.ensures ∙ c.if-not-is_opened.true)

pub returns-in-Some-clause-found : goal.returns-in-Some-clause-found
returns-in-Some-clause-found c =
    inl (empty_found c.args.bytes.now c.in-Some.closing (opened c.args.bytes.now (sym c.is_opened.ensures ∙ c.if-not-is_opened.false)) c.in-Some.ensures.found)

pub returns-in-Some-clause-only : goal.returns-in-Some-clause-only
returns-in-Some-clause-only c = λ other is.
    one_link_tail (c.args.max_next + 1) c.args.bytes.now other _ is (returns-in-Some-clause-found c)

pub returns-in-Some-clause-destination_cut : goal.returns-in-Some-clause-destination_cut
returns-in-Some-clause-destination_cut c = λ utf8.
    let bytes = c.args.bytes.now in
    let begins = sym c.is_opened.ensures ∙ c.if-not-is_opened.false in
    let here : IsCharBoundary bytes c.in-Some.closing =
    subst (IsCharBoundary bytes) (omega (arith, c.in-Some.ensures.within.0))
    (offset_of_rest _ bytes 1 (c.in-Some.closing - 1) (from_offset bytes 1) utf8 (λ _. cut_opened bytes begins utf8) c.in-Some.ensures.before) in
    (here, here)

pub returns-in-Some-clause-after : goal.returns-in-Some-clause-after
returns-in-Some-clause-after c = λ utf8.
    let bytes = c.args.bytes.now in
    let begins = sym c.is_opened.ensures ∙ c.if-not-is_opened.false in
    subst (IsCharBoundary bytes) (omega arith)
    (offset_of_rest _ bytes 1 c.in-Some.closing (from_offset bytes 1) utf8 (λ _. cut_opened bytes begins utf8) c.in-Some.ensures.after)

pub returns-in-None-clause-found : goal.returns-in-None-clause-found
returns-in-None-clause-found c =
    tail_or_none (c.args.max_next + 1) c.args.bytes.now (opened c.args.bytes.now (sym c.is_opened.ensures ∙ c.if-not-is_opened.false))
    c.in-None.ensures.found c.scan_filled.result c.scan_filled.ensures.found

pub returns-in-None-clause-only : goal.returns-in-None-clause-only
returns-in-None-clause-only c =
    IsOnly-found (IsLinkTail (c.args.max_next + 1) c.args.bytes.now) (one_link_tail (c.args.max_next + 1) c.args.bytes.now)
    c.scan_filled.result (returns-in-None-clause-found c)
