use Rattle.std.proofs.Common.{refl, arith, inl, inr, encode_utf8}
use Rattle.markdown_scanners_tree.proofs.scanners.unescaping.FirstPieceLemmas.{reference_changed, number_plain, lone_piece}
use Rattle.markdown_scanners_tree.proofs.scanners.unescaping.number_size.Goals as goal

pub returns-in-Some-clause-size : goal.returns-in-Some-clause-size
returns-in-Some-clause-size c in_table known =
    let meaning = encode_utf8 c.in-Some.meaning in
    rw c.piece_size.ensures (inr (
      meaning,
      reference_changed in_table known c.args.bytes.now c.in-Some.source meaning
          (c.requires.begins, c.in-Some.ensures.found known),
      c.len_utf8.ensures.len,
    ))

pub returns-in-None-clause-size : goal.returns-in-None-clause-size
returns-in-None-clause-size c in_table known =
    let first =
    lone_piece in_table known c.args.bytes.now (omega (arith, c.requires.long))
    (λ b. absurd (omega (arith, b, c.requires.begins))) (λ b. absurd (omega (arith, b, c.requires.begins)))
    (λ n meaning starts. c.in-None.ensures.found known n meaning starts.1) in
    rw c.piece_size-in-None.ensures (inl (
      refl,
      refl,
      number_plain in_table known c.args.bytes.now c.lone_len.result first c.requires.number
          c.lone_len.ensures.within c.lone_len.ensures.at_most_two c.lone_len.ensures.plain,
    ))
