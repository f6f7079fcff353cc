-- Matching of labels. (CommonMark 0.31.2, section 6.3, link labels: labels match where their case
-- foldings are equal)
use Rattle.std.specs.Prelude.{ℕ, ◌==◌, List, [], ◌∷◌, ◌++◌, chars, encode_utf8, flat_map, length, if◌then◌else◌}
use Rattle.caseless.specs.Caseless.{default_case_fold}

-- the characters of the text, with full case folding
abbrev pub label_key : List ℕ → List ℕ
label_key text = default_case_fold (chars text)

-- the key, as UTF-8
abbrev pub key_bytes : List ℕ → List ℕ
key_bytes text = flat_map encode_utf8 (label_key text)

-- what follows the bytes that are gathered, with these in blocks of sixteen; the last may be shorter
abbrev pub blocks_after : List ℕ → List ℕ → List (List ℕ)
blocks_after gathered [] = gathered ∷ []
blocks_after gathered (b ∷ bs) =
    if length gathered == 16 then gathered ∷ blocks_after (b ∷ []) bs
    else blocks_after (gathered ++ (b ∷ [])) bs

-- bytes in blocks, as a hasher is fed with them
abbrev pub blocks : List ℕ → List (List ℕ)
blocks bytes = blocks_after [] bytes
