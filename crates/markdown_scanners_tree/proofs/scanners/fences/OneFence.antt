-- A text begins with one code fence at most, and with one that closes a block.
use Rattle.std.proofs.Common.{◌≡◌, ℕ, ◌≤◌, List, [], ◌∷◌, length, sym, ap, ◌∙◌, arith, refl}
use Rattle.markdown_scanners_tree.specs.Bytes.{is_space_or_tab}
use Rattle.markdown_scanners_tree.specs.scanners.Fences.{IsCodeFence, IsFenceClose, IsClosingCodeFence}
use Rattle.markdown_scanners_tree.proofs.SomeExactlyLemmas.{same_pair}
use Rattle.markdown_scanners_tree.proofs.RunLemmas.{one_run, one_begun_run, one_prefix}

-- how many bytes it has, and its byte
pub one_code_fence : (bytes : List ℕ) (n byte n' byte' : ℕ) → IsCodeFence bytes n byte → IsCodeFence bytes n' byte'
    → ◌≡◌ {A = ℕ × ℕ} (n, byte) (n', byte')
one_code_fence bytes n byte n' byte' is is' =
    let some : 1 ≤ length is.run = omega (arith, is.at_least_three) in
    let some' : 1 ≤ length is'.run = omega (arith, is'.at_least_three) in
    let same =
    one_begun_run bytes byte is.run is.rest byte' is'.run is'.rest is.is_run is'.is_run some some' in
    same_pair (is.counted ∙ (ap length same.1 ∙ sym is'.counted)) same.0

one_fence_close : (bytes : List ℕ) (byte least n n' : ℕ) → IsFenceClose bytes byte least n
    → IsFenceClose bytes byte least n' → n ≡ n'
one_fence_close bytes byte least n n' is is' =
    let runs = one_run byte bytes is.run is.rest is'.run is'.rest is.is_run is'.is_run in
    let spaces =
    one_prefix is_space_or_tab refl refl is.space is.after is'.space is'.after is.ending is'.ending is.spaces is.ends
    is'.spaces is'.ends (sym is.parts ∙ (runs.1 ∙ is'.parts)) in
    omega (arith, is.counted, is'.counted, ap length runs.0, ap length spaces.0)

-- how many bytes it has
pub one_closing_fence : (bytes : List ℕ) (byte least n n' : ℕ) → IsClosingCodeFence bytes byte least n
    → IsClosingCodeFence bytes byte least n' → n ≡ n'
one_closing_fence [] byte least n n' is is' = is ∙ sym is'
one_closing_fence (b ∷ bs) byte least n n' is is' = one_fence_close (b ∷ bs) byte least n n' is is'
