use Rattle.std.proofs.Common.{take, arith}
use Rattle.std.proofs.lemmas.List.{get_or-take, length-take-le}
use Rattle.markdown_inlines.proofs.code_content.EightLanes.{any_ends}
use Rattle.markdown_inlines.proofs.code_content.eight_have_ending.Goals as goal

pub returns : goal.returns
returns c =
    let bytes = c.args.bytes.now in
    any_ends (take 8 bytes) (length-take-le 8 bytes c.requires)
    (λ k less. omega (arith, get_or-take 8 bytes k 0 less, c.type_inv.bytes k))
