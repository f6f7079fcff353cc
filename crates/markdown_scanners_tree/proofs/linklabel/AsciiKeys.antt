-- The key of an ASCII text is the text in lower case, and its characters are single bytes.
use Rattle.std.proofs.Common.{ℕ, suc, List, [], ◌∷◌, ◌≡◌, ◌<◌, refl, ap, ◌∙◌, arith, map, flat_map, encode_utf8, IsAscii}
use Rattle.std.specs.Char.{to_ascii_lowercase}
use Rattle.std.specs.Prelude.{chars}
use Rattle.std.proofs.lemmas.Bool.Decides.{nat_tests}
use Rattle.std.proofs.lemmas.Str.{chars-IsAscii, encode_ascii}
use Rattle.caseless.proofs.CaselessLemmas.{All-chars, default_case_fold-ascii}
use Rattle.markdown_scanners_tree.specs.linklabel.Key.{label_key, key_bytes}

pub label_key-ascii : (text : List ℕ) → IsAscii text → label_key text ≡ map to_ascii_lowercase text
label_key-ascii text ascii = default_case_fold-ascii (chars text) (All-chars text ascii)
    ∙ ap (map to_ascii_lowercase) (chars-IsAscii text ascii)

lower_ascii : (c : ℕ) → c < 128 → to_ascii_lowercase c < 128
lower_ascii c below = grind (arith, nat_tests)

encoded : (text : List ℕ) → IsAscii text
    → flat_map encode_utf8 (map to_ascii_lowercase text) ≡ map to_ascii_lowercase text
encoded [] ascii = refl
encoded (b ∷ bs) ascii =
    rw (encode_ascii (to_ascii_lowercase b) (lower_ascii b (ascii 0)))
    (ap (λ rest. to_ascii_lowercase b ∷ rest) (encoded bs (λ i. ascii (suc i))))

pub key_bytes-ascii : (text : List ℕ) → IsAscii text → key_bytes text ≡ map to_ascii_lowercase text
key_bytes-ascii text ascii = ap (flat_map encode_utf8) (label_key-ascii text ascii) ∙ encoded text ascii
