use Rattle.std.proofs.Common.{◌≡◌, fold, length, map}
use Rattle.std.specs.Char.{to_ascii_lowercase}
use Rattle.markdown_scanners_tree.specs.linklabel.Key.{blocks}
use Rattle.markdown_scanners_tree.proofs.linklabel.key.hash_ascii.Given as goal

abbrev pub decreases-loop-rest : goal.decreases-loop-rest
decreases-loop-rest g l = length l.rest

abbrev pub invariant-loop-rest : goal.invariant-loop-rest
invariant-loop-rest g l =
    fold g.H.Hasher.write l.state (blocks (map to_ascii_lowercase l.rest))
    ≡ fold g.H.Hasher.write l.initial.state (blocks (map to_ascii_lowercase l.text))
