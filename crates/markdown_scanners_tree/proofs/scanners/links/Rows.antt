-- Worked examples of link destinations and autolinks, held against the definitions.
use Rattle.std.proofs.Common.{ℕ, [], ◌∷◌, refl, arith}
use Rattle.std.specs.Prelude.{codes}
use Rattle.markdown_scanners_tree.specs.scanners.links.Autolink.{IsUriAutolink}
use Rattle.markdown_scanners_tree.specs.scanners.Escapes.{units}
use Rattle.markdown_scanners_tree.specs.scanners.links.LinkDestination.{IsBareFrom, IsPointedDestination}
use Rattle.markdown_scanners_tree.proofs.scanners.links.BareLemmas.{step_forth, step_back, bare_here, too_deep}

pointed_row : IsPointedDestination (codes "<a\\>b>c") 6 (codes "a\\>b")
pointed_row = record {
  after = codes "a\\>b>c";
  n = 4;
  opens = refl;
  pointed = record {
    inner = codes "a" ∷ codes "\\>" ∷ codes "b" ∷ [];
    more = codes "c" ∷ [];
    splits = refl;
    each_stands = refl;
    n_is_length = refl;
  };
  with_brackets = refl;
  slice = refl;
}

-- `((a))`, at most two deep
bare_row : IsBareFrom 2 0 (codes "((a))") 5
bare_row =
    step_forth 2 0 1 4 (codes "((a))") (codes "(a))") (codes "(") refl refl refl (omega arith)
    (step_forth 2 1 2 3 (codes "(a))") (codes "a))") (codes "(") refl refl refl (omega arith)
    (step_forth 2 2 2 2 (codes "a))") (codes "))") (codes "a") refl refl refl (omega arith)
    (step_forth 2 2 1 1 (codes "))") (codes ")") (codes ")") refl refl refl (omega arith)
    (step_forth 2 1 0 0 (codes ")") [] (codes ")") refl refl refl (omega arith) (bare_here 2 [] refl)))))

-- `(((a)))` is three deep
deep_row : (n : ℕ) → ¬ IsBareFrom 2 0 (codes "(((a)))") n
deep_row n is =
    let after_one = step_back 2 0 1 n (codes "(((a)))") (codes "((a)))") (codes "(") refl refl refl is in
    let after_two = step_back 2 1 2 after_one.0 (codes "((a)))") (codes "(a)))")
    (codes "(") refl refl refl after_one.2 in
    too_deep 2 after_two.0 (codes "(a)))") (units (codes "a)))")) refl after_two.2

-- the empty text
empty_row : IsBareFrom 1 0 [] 0
empty_row = bare_here 1 [] refl

-- `<ab:>` after its `<`
autolink_row : IsUriAutolink (codes "ab:>") (codes "ab:")
autolink_row = record {
  scheme = codes "ab";
  address = [];
  rest = [];
  parts = refl;
  spelled = refl;
  is_scheme = record {
    first = 97;
    others = codes "b";
    spelled = refl;
    letter = refl;
    scheme_bytes = refl;
    at_least_one = omega arith;
    at_most_thirty_one = omega arith;
  };
  uri_bytes = refl;
}
