use Rattle.std.proofs.Common.{◌≡◌, ◌∙◌, sym, ap, drop, false, arith}
use Rattle.std.proofs.lemmas.List.{drop_more}
use Rattle.markdown_scanners_tree.specs.Bytes.{begins_with, is_space_or_tab}
use Rattle.markdown_scanners_tree.specs.line.State.{IsLineState}
use Rattle.markdown_scanners_c.specs.LineStarts.{state_on}
use Rattle.markdown_scanners_c.proofs.NoSpaces.{no_space, all_space_stays, is_not}
use Rattle.markdown_scanners_c.proofs.line_starts.Start.has_no_space.Goals as goal

pub returns : goal.returns
returns c none =
    let bytes = c.args.bytes.now in
    let offset = c.args.self.now.offset in
    let is : IsLineState (state_on bytes c.args.self.now) = (omega arith, omega arith, omega arith) in
    let other : begins_with is_space_or_tab (drop offset bytes) ≡ false =
    ap (begins_with is_space_or_tab) (drop_more bytes offset 0 (omega arith)) ∙ sym c.is_space.ensures
    ∙ is_not c.is_space.result none in
    let s = state_on bytes c.args.self.now in
    (is, no_space s is (omega arith) other, all_space_stays s is (omega arith) other)
