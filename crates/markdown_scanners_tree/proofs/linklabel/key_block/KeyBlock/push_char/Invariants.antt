use Rattle.std.proofs.Common.{◌≡◌, ◌++◌, List, ℕ, drop, encode_utf8, fold, take}
use Rattle.markdown_scanners_tree.specs.linklabel.Key.{blocks_after}
use Rattle.markdown_scanners_tree.proofs.linklabel.key_block.KeyBlock.push_char.Given as goal

abbrev pub invariant-loop-byte : goal.invariant-loop-byte
invariant-loop-byte g l = (rest : List ℕ)
    → fold g.H.Hasher.write l.state
    (blocks_after (take l.self.len l.self.bytes) (drop l.byte-index (encode_utf8 l.fn.c) ++ rest))
    ≡ fold g.H.Hasher.write l.initial.state
    (blocks_after (take l.initial.self.len l.initial.self.bytes) (encode_utf8 l.fn.c ++ rest))
