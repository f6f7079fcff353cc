use Rattle.std.proofs.Common.{◌≡◌, ℕ, List, encode_utf8, flat_map, fold, take}
use Rattle.std.specs.Str.Iter.{chars_steps}
use Rattle.caseless.specs.CaseFold.{FoldsCaseTo}
use Rattle.markdown_scanners_tree.specs.linklabel.Key.{blocks, blocks_after, key_bytes}
use Rattle.markdown_scanners_tree.proofs.linklabel.key.hash_folded.Given as goal

abbrev pub invariant-loop-c : goal.invariant-loop-c
invariant-loop-c g l = record {
  left : List ℕ;
  folds : FoldsCaseTo chars_steps l.c-iterator left;
  same : fold g.H.Hasher.write l.state
      (blocks_after (take l.block.len l.block.bytes) (flat_map encode_utf8 left))
      ≡ fold g.H.Hasher.write l.fn.state (blocks (key_bytes l.fn.text));
}
