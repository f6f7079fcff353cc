use Rattle.std.proofs.Common.{◌∙◌, ap, arith, get_or, refl, sym}
use Rattle.std.proofs.lemmas.Bool.{eq-eqb, false≢true}
use Rattle.std.proofs.lemmas.List.{take_rest}
use Rattle.markdown_scanners_tree.specs.scanners.titles.private.TitleFrom.{is_before_blank_line}
use Rattle.markdown_scanners_tree.proofs.scanners.titles.TitleLemmas.{closing_mark, title_plain, title_escape, title_single, title_reopened, title_blank, title_unclosed, title_here}
use Rattle.markdown_scanners_tree.proofs.scanners.titles.inner_len.Goals as goal
use Rattle.markdown_scanners_tree.proofs.scanners.titles.inner_len.Goals.{then-bytes-i-2, else-bytes-i-2, then-loop-i-test+else-bytes-i, else-loop-i-test}

pub loop-i-preserved-then-is_in_destination : goal.loop-i-preserved-then-is_in_destination
loop-i-preserved-then-is_in_destination c =
    title_plain c.args.opening c.args.closing c.loop-i.i c.args.bytes.now c.requires c.loop-i.invariant
    c.loop-i-test.true c.if-bytes-i.true (sym c.is_in_destination.ensures ∙ c.if-is_in_destination.true)

pub loop-i-preserved-then-starts_escape : goal.loop-i-preserved-then-starts_escape
loop-i-preserved-then-starts_escape c =
    title_escape c.args.opening c.args.closing c.loop-i.i c.args.bytes.now c.loop-i.invariant
    (c.if-starts_escape.ensures.two refl) (sym c.if-starts_escape.ensures.value)

pub returns-then-is_before_blank_line-clause-found : goal.returns-then-is_before_blank_line-clause-found
returns-then-is_before_blank_line-clause-found c =
    let bytes = c.args.bytes.now in
    let i = c.loop-i.i in
    elim c.if-bytes-i-2.branch [
      | then-bytes-i-2 w ↦
          title_reopened c.args.opening c.args.closing i bytes c.loop-i.invariant c.loop-i-test.true
          (sym c.if-starts_escape.ensures.value) c.if-bytes-i.true w.if-bytes-i-2.true
      | else-bytes-i-2 w ↦
          title_blank c.args.opening c.args.closing i bytes (closing_mark c.args.opening c.args.closing c.requires)
          c.loop-i.invariant c.loop-i-test.true (sym c.if-starts_escape.ensures.value) c.if-bytes-i.true
          (sym (ap is_before_blank_line (take_rest bytes i)) ∙ (sym w.is_before_blank_line.ensures
          ∙ (sym w.value-is ∙ c.if-is_before_blank_line.true)))
    ]

pub loop-i-preserved : goal.loop-i-preserved
loop-i-preserved c =
    let bytes = c.args.bytes.now in
    let i = c.loop-i.i in
    elim c.if-bytes-i-2.branch [
      | then-bytes-i-2 w ↦
          absurd (false≢true (sym c.if-is_before_blank_line.false ∙ (w.value-is
          ∙ eq-eqb (get_or bytes i 0) c.args.opening w.if-bytes-i-2.true)))
      | else-bytes-i-2 w ↦
          title_single c.args.opening c.args.closing i bytes (closing_mark c.args.opening c.args.closing c.requires)
          c.loop-i.invariant c.loop-i-test.true (sym c.if-starts_escape.ensures.value) c.if-bytes-i.true
          w.if-bytes-i-2.false
          (sym (ap is_before_blank_line (take_rest bytes i)) ∙ (sym w.is_before_blank_line.ensures
          ∙ (sym w.value-is ∙ c.if-is_before_blank_line.false)))
    ]

pub returns-then-i-bytes-clause-found : goal.returns-then-i-bytes-clause-found
returns-then-i-bytes-clause-found c = elim c.loop-i-test.branch [
  | then-loop-i-test+else-bytes-i w ↦
      title_here c.args.opening c.args.closing c.loop-i.i c.args.bytes.now
      (closing_mark c.args.opening c.args.closing c.requires) c.loop-i.invariant c.if-i-bytes.true w.if-bytes-i.false
  | else-loop-i-test w ↦ absurd (omega (arith, c.if-i-bytes.true, w.loop-i-test.false))
]

pub returns-else-i-bytes-clause-found : goal.returns-else-i-bytes-clause-found
returns-else-i-bytes-clause-found c =
    title_unclosed c.args.opening c.args.closing c.loop-i.i c.args.bytes.now c.loop-i.invariant c.if-i-bytes.false
