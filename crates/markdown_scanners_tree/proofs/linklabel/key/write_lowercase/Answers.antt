use Rattle.std.proofs.Common.{◌<◌, ◌++◌, ◌∷◌, [], ap, arith, length, map, sym, take, ◌∙◌}
use Rattle.std.specs.Char.{to_ascii_lowercase}
use Rattle.std.proofs.lemmas.List.{length-set, map_more, take_more_set}
use Rattle.markdown_scanners_tree.proofs.linklabel.key.write_lowercase.Goals as goal

pub loop-offset-preserved : goal.loop-offset-preserved
loop-offset-preserved g c =
    let lower = c.loop-offset.lower in
    let offset = c.loop-offset.offset in
    let below : offset < length lower = omega arith in record {
      size = length-set lower offset c.to_ascii_lowercase.result ∙ c.loop-offset.invariant.size;
      same = take_more_set lower offset c.to_ascii_lowercase.result below
          ∙ ap (λ front. front ++ c.to_ascii_lowercase.result ∷ []) c.loop-offset.invariant.same
          ∙ ap (λ byte. map to_ascii_lowercase (take offset c.args.block.now) ++ byte ∷ [])
          c.to_ascii_lowercase.ensures.value
          ∙ sym (map_more to_ascii_lowercase c.args.block.now offset 0 c.loop-offset-test.true);
    }
