use Rattle.std.proofs.Common.{rules, tests}
use Rattle.std.proofs.lemmas.Iterator.Search.{all_from_yields_List}
use Rattle.std.proofs.lemmas.Iterator.{YieldsList-from_slice}
use Rattle.std.proofs.lemmas.Bool.{le-leb, ne_eqb}
use Rattle.markdown_inlines.specs.Emails.{is_label_byte}
use Rattle.markdown_inlines.proofs.emails.is_label.Goals as goal

pub returns : goal.returns
returns c =
    let label = c.args.label.now in
    let all = all_from_yields_List is_label_byte _ _ c.all.result c.all.ensures.ran (YieldsList-from_slice label cc) (λ x b q k. search (rules, tests)) in
    rw (
      le-leb 1 _ c.in-len1-up.len_at_least,
      le-leb _ 63 c.if-label-gt-MOST_LABEL_BYTES.false,
      ne_eqb _ 45 c.if-first-eq45.false,
      ne_eqb _ 45 c.if-label-eq45.false,
    ) all
