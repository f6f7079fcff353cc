-- The links of a page, event by event.
use Rattle.std.proofs.Common.{◌≡◌, List, ◌∷◌, ◌++◌, Option, None, Some, refl}
use Rattle.std.specs.List.{cons_option, filter_map}
use Rattle.std.specs.Option.{option_to_list}

-- what is made of the first of some, and of the others
pub mapped_first : {A B : Type 0} (f : A → Option B) (first : A) (later : List A)
    → filter_map f (first ∷ later) ≡ option_to_list (f first) ++ filter_map f later
mapped_first f first later =
    elim (f first) as (λ o. cons_option o (filter_map f later) ≡ option_to_list o ++ filter_map f later) [
      | None ↦ refl
      | Some one ↦ refl
    ]
