-- The pieces of HTML.
use Rattle.std.proofs.Common.{ℕ, Bool, true, false, List, ◌∷◌, ◌++◌, ◌≡◌, ◌+◌, ◌<◌, Option, Some, None, drop, get_or, length}
use Rattle.std.proofs.Common.{refl, ap, subst, sym, ◌∙◌, if◌then◌else◌}
use Rattle.std.specs.Prelude.{MatchBool, MatchOption}
use Rattle.std.specs.List.{cons_option, filter_map}
use Rattle.std.specs.Option.{option_to_list}
use Rattle.std.proofs.lemmas.List.{drop_more}
use Rattle.html_attributes.specs.StartTags.{IsPiece, IsTag, IsTagOrByte, Piece, begins_tag, closer_of, from, stands}

-- what stands from a text on, where it does not stand at the front
pub from_further : (text bytes : List ℕ) (i : ℕ) → i < length bytes → stands text (drop i bytes) ≡ false
    → from text (drop (i + 1) bytes) ≡ from text (drop i bytes)
from_further text bytes i low other =
    let rest = drop (i + 1) bytes in
    let b = get_or bytes i 0 in
    let parts = drop_more bytes i 0 low in
    let here : stands text (b ∷ rest) ≡ false = sym (ap (stands text) parts) ∙ other in
    sym (ap (from text) parts ∙ ap (λ (found : Bool). if found then b ∷ rest else from text rest) here)

module _ (offset : ℕ) (bytes : List ℕ) where
  -- what holds no tags
  pub is_closed : (closer rest : List ℕ) → closer_of bytes ≡ Some closer → rest ≡ from closer (drop 2 bytes)
      → IsPiece offset bytes (record { tag = None; rest = rest })
  is_closed closer rest begins is =
      let it : Piece = record { tag = None; rest = rest } in
      subst (λ (found : Option (List ℕ)). MatchOption found (IsTagOrByte offset bytes it)
      (λ one. it ≡ record { tag = None; rest = from one (drop 2 bytes) })) (sym begins) (ap (λ (later : List ℕ). record { tag = None; rest = later }) is)

  -- a start tag or a byte
  is_open : (it : Piece) → closer_of bytes ≡ None → IsTagOrByte offset bytes it → IsPiece offset bytes it
  is_open it none = subst (λ (found : Option (List ℕ)). MatchOption found (IsTagOrByte offset bytes it)
      (λ one. it ≡ record { tag = None; rest = from one (drop 2 bytes) })) (sym none)

  pub is_tag : (it : Piece) → closer_of bytes ≡ None → begins_tag bytes ≡ true → IsTag offset (drop 1 bytes) it → IsPiece offset bytes it
  is_tag it none begins tag =
      is_open it none (subst (λ (b : Bool). MatchBool b (IsTag offset (drop 1 bytes) it) (it ≡ record { tag = None; rest = drop 1 bytes })) (sym begins) tag)

  pub is_byte : closer_of bytes ≡ None → begins_tag bytes ≡ false → IsPiece offset bytes (record { tag = None; rest = drop 1 bytes })
  is_byte none other =
      let it : Piece = record { tag = None; rest = drop 1 bytes } in
      is_open it none (subst (λ (b : Bool). MatchBool b (IsTag offset (drop 1 bytes) it) (it ≡ record { tag = None; rest = drop 1 bytes })) (sym other) refl)

-- what is made of the first of some, and of the others
pub mapped_first : {A B : Type 0} (f : A → Option B) (first : A) (later : List A)
    → filter_map f (first ∷ later) ≡ option_to_list (f first) ++ filter_map f later
mapped_first f first later =
    elim (f first) as (λ o. cons_option o (filter_map f later) ≡ option_to_list o ++ filter_map f later) [
      | None ↦ refl
      | Some one ↦ refl
    ]
