use Rattle.std.proofs.Common.{sym, ap, ◌∙◌, subst, arith}
use Rattle.markdown_scanners_tree.proofs.PrefixLemmas.{from_offset}
use Rattle.markdown_inlines.specs.Pieces.{BeginsAt, IsUriPiece, IsEmailPiece}
use Rattle.markdown_inlines.proofs.pieces.Openings.{begins_class, byte_class, only_angle}
use Rattle.markdown_inlines.proofs.searches.SearchLemmas.{searched_later}
use Rattle.markdown_inlines.proofs.angles.angle_at.Goals as goal

pub returns-in-Some-clause-stays : goal.returns-in-Some-clause-stays
returns-in-Some-clause-stays c = λ q less within. searched_later c.args.offset q c.args.searches.now (omega (arith, less)) c.requires.searched

pub returns-in-Some-email_len-clause-stays : goal.returns-in-Some-email_len-clause-stays
returns-in-Some-email_len-clause-stays c = λ q less within.
    searched_later c.args.offset q c.args.searches.now (omega (arith, less)) c.requires.searched

pub returns-in-Some-html_len-clause-stays : goal.returns-in-Some-html_len-clause-stays
returns-in-Some-html_len-clause-stays c = λ q less within. c.in-Some-html_len.ensures.stays q less within

pub returns-in-None-clause-stays : goal.returns-in-None-clause-stays
returns-in-None-clause-stays c = λ q less within. c.in-None.ensures.stays q less tt

pub returns-in-Some-email_len-clause-found : goal.returns-in-Some-email_len-clause-found
returns-in-Some-email_len-clause-found c = λ asked from.
    let same = from_offset c.args.bytes.now c.args.offset in (
      λ n is. c.in_default.ensures.found n (subst (λ t. IsUriPiece t n) (sym same) is),
      subst (λ t. IsEmailPiece t c.in-Some-email_len.len) same c.in-Some-email_len.ensures.found,
    )

pub returns-in-Some-html_len-clause-found : goal.returns-in-Some-html_len-clause-found
returns-in-Some-html_len-clause-found c = λ asked from.
    let same = from_offset c.args.bytes.now c.args.offset in (
      λ n is. c.in_default.ensures.found n (subst (λ t. IsUriPiece t n) (sym same) is),
      λ n is. c.in_default-email_len.ensures.found n (subst (λ t. IsEmailPiece t n) (sym same) is),
      c.in-Some-html_len.ensures.found,
    )

pub returns-in-None-clause-found : goal.returns-in-None-clause-found
returns-in-None-clause-found c = λ asked from r begins.
    let bytes = c.args.bytes.now in
    let offset = c.args.offset in
    let rest = from_offset bytes offset in
    let same = sym (ap byte_class c.requires.opens) ∙ begins_class asked bytes from offset r.0 r.1 begins in
    only_angle (λ kind. BeginsAt asked bytes from offset kind r.1 → ⊥) r.0 same
    (λ is. c.in_default.ensures.found r.1 (subst (λ t. IsUriPiece t r.1) (sym rest) is))
    (λ is. c.in_default-email_len.ensures.found r.1 (subst (λ t. IsEmailPiece t r.1) (sym rest) is.1))
    (λ is. c.in-None.ensures.found r.1 is.2) begins
