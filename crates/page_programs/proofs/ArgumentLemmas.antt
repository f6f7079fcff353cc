-- Words of the command line, and what stands in them.
use Rattle.std.proofs.Common.{rules, ℕ, Bool, ◌||◌, ◌++◌, refl, ◌⊎◌, inl, inr, [], ◌∷◌, true, false, ◌≡◌, List, Option, Some, None}
use Rattle.std.proofs.Common.{drop, length, sym, ap, subst, ◌∙◌, if◌then◌else◌}
use Rattle.std.specs.Borrow.{Bor}
use Rattle.std.specs.Option.{MatchOption, option_map}
use Rattle.std.specs.Str.{IsCharBoundary}
use Rattle.std.specs.Str.Pattern.{FindsTextPrefix, StripsPrefix}
use Rattle.std.proofs.lemmas.Str.Pattern.{starts_text}
use Rattle.page_programs.specs.Values.{joined, respelled, takes_value, with_value}
use Rattle.page_programs.specs.Arguments.{after, is_last, is_named, is_this}

pub stripped : (front word : List ℕ) (r : Option (Bor (List ℕ)))
    → MatchOption r (FindsTextPrefix front word None) (λ x. StripsPrefix (FindsTextPrefix front) word x.now)
    → option_map (λ rest. rest.now) r ≡ after front word
stripped front word None none =
    ap (λ starts. if starts then Some (drop (length front) word) else None) (starts_text false front word none)
stripped front word (Some x) found =
    ap Some (found.2 ∙ ap (λ n. drop n word) found.1.0)
    ∙ ap (λ starts. if starts then Some (drop (length front) word) else None) (starts_text true front word (found.0, found.1, subst (IsCharBoundary word) (sym found.1.0) found.1.2))

-- one of these options or those
pub named_in_either : (options others : List (List ℕ)) (word : List ℕ)
    → is_named (options ++ others) word ≡ is_named options word || is_named others word
named_in_either [] others word = refl
named_in_either (option ∷ options) others word = by (is_this option word) (named_in_either options others word)
  where
    by : (is : Bool) → is_named (options ++ others) word ≡ is_named options word || is_named others word
        → (is || is_named (options ++ others) word) ≡ (is || is_named options word) || is_named others word
    by true later = refl
    by false later = later

-- a word that takes none of those after it
pub joined_alone : (word : List ℕ) (arguments : List (List ℕ)) → is_last word ≡ false → (takes_value word ≡ false) ⊎ (arguments ≡ [])
    → joined (word ∷ arguments) ≡ respelled word ∷ joined arguments
joined_alone word [] more alone = ap (λ (last : Bool). if last then word ∷ [] else respelled word ∷ []) more
joined_alone word (value ∷ arguments) more (inl none) =
    ap (λ (last : Bool). if last then word ∷ value ∷ arguments else if takes_value word then with_value word value ∷ joined arguments
    else respelled word ∷ joined (value ∷ arguments)) more
    ∙ ap (λ (takes : Bool). if takes then with_value word value ∷ joined arguments else respelled word ∷ joined (value ∷ arguments)) none
joined_alone word (value ∷ arguments) more (inr none) = absurd (search rules)
