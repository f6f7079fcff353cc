-- The text that a page is read as: itself where it is UTF-8, and three bytes for each of its own at most.
use Rattle.std.proofs.Common.{ℕ, zero, suc, Bool, true, false, List, [], ◌∷◌, ◌++◌, ◌≡◌, ◌≤◌, ◌<◌, ◌+◌, ◌*◌, Option, Some, None, IsUtf8}
use Rattle.std.proofs.Common.{length, drop, take, ap, arith, refl}
use Rattle.std.specs.Prelude.{◌==◌, if◌then◌else◌, nat_lt, slice_index}
use Rattle.std.specs.Int.{is_in_range}
use Rattle.std.specs.Option.{unwrap_or}
use Rattle.std.specs.Str.Lossy.{after_first_chunk, error_len_after_one, error_len_after_two, error_len_of_some, replacement_bytes, second_byte_max}
use Rattle.std.specs.Str.Lossy.{second_byte_min, utf8_error_len, utf8_invalid_len, utf8_lossy, utf8_lossy_within, utf8_valid_len}
use Rattle.std.proofs.lemmas.Bool.{eqb-false}
use Rattle.std.proofs.lemmas.List.{length-append, length-drop, length-take}
use Rattle.std.proofs.lemmas.Str.{utf8_lossy-IsUtf8, utf8_valid_len_le}
use Rattle.markdown_events.specs.InsecureCharacters.{replace_nul}

pub lossy_text : (bytes : List ℕ) → IsUtf8 bytes → utf8_lossy bytes ≡ bytes
lossy_text bytes utf8 = utf8_lossy-IsUtf8 bytes utf8

nul_few : (text : List ℕ) → length (replace_nul text) ≤ 3 * length text
nul_few [] = omega arith
nul_few (zero ∷ text) = omega (arith, nul_few text)
nul_few (suc b ∷ text) = omega (arith, nul_few text)

nul_append : (text more : List ℕ) → replace_nul (text ++ more) ≡ replace_nul text ++ replace_nul more
nul_append [] more = refl
nul_append (zero ∷ text) more = ap (λ t. 239 ∷ 191 ∷ 189 ∷ t) (nul_append text more)
nul_append (suc b ∷ text) more = ap (λ t. suc b ∷ t) (nul_append text more)

-- One U+FFFD stands for one byte at least.
either : (n : ℕ) (b : Bool) (x y : Option ℕ) → 1 ≤ unwrap_or x n → 1 ≤ unwrap_or y n → 1 ≤ unwrap_or (if b then x else y) n
either n true x y p q = p
either n false x y p q = q

some_after_two : (bytes : List ℕ) → 0 < length bytes → 1 ≤ unwrap_or (error_len_after_two bytes) (length bytes)
some_after_two bytes some =
    let n = length bytes in
    let none : 1 ≤ unwrap_or None n = omega (arith, some) in
    let end : 1 ≤ unwrap_or (if nat_lt n 4 then None else Some 3) n = either n (nat_lt n 4) None (Some 3) none (omega arith) in
    let third = is_in_range 0x80 0xBF (slice_index bytes 2) in
    let more : 1 ≤ unwrap_or (if third then (if nat_lt n 4 then None else Some 3) else Some 2) n =
    either n third (if nat_lt n 4 then None else Some 3) (Some 2) end (omega arith) in
    either n (nat_lt n 3) None (if third then (if nat_lt n 4 then None else Some 3) else Some 2) none more

some_after_one : (bytes : List ℕ) → 0 < length bytes → 1 ≤ unwrap_or (error_len_after_one bytes) (length bytes)
some_after_one bytes some =
    let n = length bytes in
    let first = slice_index bytes 0 in
    let second = is_in_range (second_byte_min first) (second_byte_max first) (slice_index bytes 1) in
    let more : 1 ≤ unwrap_or (if second then error_len_after_two bytes else Some 1) n =
    either n second (error_len_after_two bytes) (Some 1) (some_after_two bytes some) (omega arith) in
    let none : 1 ≤ unwrap_or None n = omega (arith, some) in
    either n (nat_lt n 2) None (if second then error_len_after_two bytes else Some 1) none more

some_invalid : (bytes : List ℕ) → 0 < length bytes → 1 ≤ utf8_invalid_len bytes
unfolding utf8_error_len
some_invalid bytes some =
    let n = length bytes in
    let none : 1 ≤ unwrap_or None n = omega (arith, some) in
    let begun : 1 ≤ unwrap_or (error_len_of_some bytes) n =
    either n (is_in_range 0xC2 0xF4 (slice_index bytes 0)) (error_len_after_one bytes) (Some 1) (some_after_one bytes some) (omega arith) in
    either n (n == 0) None (error_len_of_some bytes) none begun

within_few : (k : ℕ) (bytes : List ℕ) → length (replace_nul (utf8_lossy_within k bytes)) ≤ 3 * length bytes
within_few zero bytes = nul_few bytes
within_few (suc k) bytes = by (utf8_valid_len bytes == length bytes) refl (within_few k (after_first_chunk bytes))
  where
    by : (whole : Bool) → (utf8_valid_len bytes == length bytes) ≡ whole
        → length (replace_nul (utf8_lossy_within k (after_first_chunk bytes))) ≤ 3 * length (after_first_chunk bytes)
        → length (replace_nul (if whole then bytes
        else take (utf8_valid_len bytes) bytes ++ (replacement_bytes ++ utf8_lossy_within k (after_first_chunk bytes)))) ≤ 3 * length bytes
    by true is more = nul_few bytes
    by false is more =
        let n = utf8_valid_len bytes in
        let m = utf8_invalid_len (drop n bytes) in
        let rest = utf8_lossy_within k (after_first_chunk bytes) in
        let short : n < length bytes = omega (arith, utf8_valid_len_le bytes, eqb-false n (length bytes) is) in
        let some : 1 ≤ m = some_invalid (drop n bytes) (omega (arith, length-drop n bytes, short)) in
        let front = nul_few (take n bytes) in
        let three : length (replace_nul (replacement_bytes ++ rest)) ≤ 3 + length (replace_nul rest) = omega arith in
        let joined = ap length (nul_append (take n bytes) (replacement_bytes ++ rest)) in
        let parts = length-append (replace_nul (take n bytes)) (replace_nul (replacement_bytes ++ rest)) in
        omega (arith, short, some, front, more, three, joined, parts, length-take n bytes, length-drop (n + m) bytes)

-- A page that is read so, each U+0000 as U+FFFD, has no more than three bytes for each of its own.
pub lossy_few : (bytes : List ℕ) → length (replace_nul (utf8_lossy bytes)) ≤ 3 * length bytes
unfolding utf8_lossy
lossy_few bytes = within_few (length bytes) bytes
