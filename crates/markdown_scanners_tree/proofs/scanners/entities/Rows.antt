-- Worked examples of character references, held against the definitions.
use Rattle.std.proofs.Common.{◌≡◌, [], refl, arith, encode_utf8}
use Rattle.std.specs.Prelude.{codes}
use Rattle.markdown_scanners_tree.specs.scanners.entities.CharacterReference.{Lookup, referenced_char, StartsWithReference}
use Rattle.markdown_scanners_tree.proofs.scanners.entities.ReferenceLemmas.{decimal_found, hexadecimal_found}

-- `&#0;` is U+FFFD, `&#x1F354;` is U+1F354, `&#xD800;` and `&#x110000;` are U+FFFD
zero_row : (known : Lookup) → StartsWithReference known (codes "&#0;") 4 (encode_utf8 0xFFFD)
zero_row known =
    decimal_found known (codes "&#0;") 1 0 (omega arith) refl
    (record { digits = codes "0"; rest = []; splits = refl; digits_only = (omega arith, tt); at_least_one = omega arith; at_most_limit = omega arith; n_is_length = refl; means = refl })

number_row : (known : Lookup) → StartsWithReference known (codes "&#x1F354;") 9 (encode_utf8 0x1F354)
number_row known = hexadecimal_found known (codes "&#x1F354;") 5 0x1F354 (omega arith) refl refl
    (record {
      digits = codes "1F354";
      rest = [];
      splits = refl;
      digits_only = (omega arith, (omega arith, (omega arith, (omega arith, (omega arith, tt)))));
      at_least_one = omega arith;
      at_most_limit = omega arith;
      n_is_length = refl;
      means = refl;
    })

surrogate_row : (referenced_char 0xD800 ≡ 0xFFFD) × (referenced_char 0x110000 ≡ 0xFFFD)
    × (referenced_char 0x10FFFF ≡ 0x10FFFF)
surrogate_row = (refl, refl, refl)
