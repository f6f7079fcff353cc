-- The text of a tag that is handed back, by its length and the offset after it.
use Rattle.std.proofs.Common.{ℕ, List, [], ◌≡◌, ◌==◌, true, false, cond, length, refl, sym, ap, subst, Option, Some, None, IfNone, arith}
use Rattle.std.specs.Fn.{Shared}
use denote.Ref.{Bor}
use Rattle.std.proofs.lemmas.Bool.Decides.{nat_tests}
use Rattle.markdown_scanners_tree.specs.Kept.{KeptByte, bytes_of}
use Rattle.markdown_scanners_tree.specs.Handler.{Answers}
use Rattle.markdown_scanners_tree.specs.scanners.html_tag.KeptTag.{AnswersIfAny, IsKeptPrefix, offset_after, tag_buffer}

pub buffer_built : (prefix : List KeptByte) (kept end : ℕ) → kept ≡ length prefix → end ≡ offset_after 0 prefix
    → (kept ≡ end → ⊥) → bytes_of prefix ≡ tag_buffer prefix
buffer_built prefix kept end e f other =
    let differ : (offset_after 0 prefix == length prefix) ≡ false = rw (sym e, sym f) (by) in
    sym (ap (λ t. cond t [] (bytes_of prefix)) differ)
  where
    by : (end == kept) ≡ false
    by = grind (arith, nat_tests)

pub buffer_empty : (prefix : List KeptByte) (kept end : ℕ) → kept ≡ length prefix → end ≡ offset_after 0 prefix
    → kept ≡ end → [] ≡ tag_buffer prefix
buffer_empty prefix kept end e f same =
    let equal : (offset_after 0 prefix == length prefix) ≡ true = rw (sym e, sym f, same) (by) in
    sym (ap (λ t. cond t [] (bytes_of prefix)) equal)
  where
    by : (end == end) ≡ true
    by = grind (arith, nat_tests)

-- a prefix of the text that is kept under the handler that is there
pub prefix_under : {F : Type 0} (g : Shared F (Bor (List ℕ) × Unit {0}) ℕ) (handler : Option (Bor F)) (f : Bor F)
    (source : List ℕ) (prefix : List KeptByte)
    → handler ≡ Some f → IsKeptPrefix (AnswersIfAny g handler) source prefix
    → IsKeptPrefix (Answers g f.now) source prefix
prefix_under g handler f source prefix is k = subst (λ h. IsKeptPrefix (AnswersIfAny g h) source prefix) is k

-- one number for another, where there is no handler
pub if_none : {A : Type 0} (handler : Option A) (m n : ℕ) → (handler ≡ None → m ≡ n) → IfNone handler (m ≡ n)
if_none None m n f = f refl
if_none (Some f) m n e = tt

pub none_given : {A : Type 0} (handler : Option A) (m n : ℕ) → IfNone handler (m ≡ n) → handler ≡ None → m ≡ n
none_given None m n f e = f
none_given (Some f) m n t e = cc
