use Rattle.std.proofs.Common.{◌∙◌, inl, inr, refl, sym, take}
use Rattle.std.proofs.lemmas.Bool.{eqb-true}
use Rattle.markdown_scanners_c.specs.BlockLines.{IsLineReturned}
use Rattle.markdown_scanners_c.specs.Extensions.{unknown_bits}
use Rattle.markdown_scanners_c.proofs.block_lines.mds_block_line.Goals as goal

pub returns-in_default-clause-line : goal.returns-in_default-clause-line
unfolding IsLineReturned
returns-in_default-clause-line c =
    inr (inr (
      eqb-true (unknown_bits c.args.page.now.extensions) 0 (sym c.are_extensions.ensures ∙ c.if-not-are_extensions.false),
      c.are_open.ensures.0 c.if-not-are_open.false,
      take c.front_of.result c.args.text.now,
      (c.front_of.result, c.front_of.ensures.front, refl),
      inl (c.no_line-in_default.ensures, refl, refl, refl),
    ))

pub returns-clause-line : goal.returns-clause-line
unfolding IsLineReturned
returns-clause-line c =
    inr (inr (
      eqb-true (unknown_bits c.args.page.now.extensions) 0 (sym c.are_extensions.ensures ∙ c.if-not-are_extensions.false),
      c.are_open.ensures.0 c.if-not-are_open.false,
      take c.front_of.result c.args.text.now,
      (c.front_of.result, c.front_of.ensures.front, refl),
      rw c.in-Ok.ensures at c.write_line.ensures.line,
    ))
