-- A page and its text after a byte order mark.
use Rattle.std.proofs.Common.{ℕ, ◌≤◌, ◌≡◌, ◌⊎◌, List, ◌++◌, length, length-append, drop, refl, sym, ap, ◌∙◌, subst, arith, inl, inr}
use Rattle.std.specs.Prelude.{nat_eq, true, if◌then◌else◌}
use Rattle.std.specs.List.{starts_with}
use Rattle.std.specs.Str.{IsUtf8}
use Rattle.std.specs.Char.{encode_utf8}
use Rattle.std.proofs.lemmas.Bool.{cases_Bool}
use Rattle.std.proofs.lemmas.Bool.Decides.{Decides-eqb}
use Rattle.std.proofs.lemmas.Slice.Eq.{starts_is}
use Rattle.std.proofs.lemmas.Str.{IsUtf8-past_char}
use Rattle.markdown_blocks.specs.byte_order_mark.ByteOrderMark.{byte_order_mark, text_of, text_start}

-- the mark is the character U+FEFF
pub mark_is : byte_order_mark ≡ encode_utf8 0xFEFF
unfolding encode_utf8
mark_is = refl

-- the text begins at the front of the page, or after the mark that stands there
pub text_parts : (page : List ℕ) → (text_start page ≡ 0) ⊎ (page ≡ byte_order_mark ++ text_of page)
text_parts page = elim (cases_Bool (starts_with nat_eq page byte_order_mark)) [
  | inl is ↦ inr (
      (starts_is Decides-eqb page byte_order_mark true (sym is)).0 refl
      ∙ ap (λ b. byte_order_mark ++ drop (if b then length byte_order_mark else 0) page) (sym is))
  | inr other ↦ inl (ap (λ b. if b then length byte_order_mark else 0) other)
]

pub text_within : (page : List ℕ) → text_start page ≤ length page
text_within page = elim (cases_Bool (starts_with nat_eq page byte_order_mark)) [
  | inl is ↦ (
      let parts = (starts_is Decides-eqb page byte_order_mark true (sym is)).0 refl in
      let start : text_start page ≡ 3 = ap (λ b. if b then length byte_order_mark else 0) is in
      omega (arith, start, ap length parts ∙ length-append byte_order_mark (drop (length byte_order_mark) page)))
  | inr other ↦ (let start : text_start page ≡ 0 = ap (λ b. if b then length byte_order_mark else 0) other in omega (arith, start))
]

-- the text of a page that is UTF-8 is UTF-8
pub text_utf8 : (page : List ℕ) → IsUtf8 page → IsUtf8 (text_of page)
text_utf8 page utf8 = elim (text_parts page) [
  | inl front ↦ subst (λ n. IsUtf8 (drop n page)) (sym front) utf8
  | inr parts ↦ IsUtf8-past_char page (text_of page) 0xFEFF utf8 (parts ∙ ap (λ mark. mark ++ text_of page) mark_is)
]
