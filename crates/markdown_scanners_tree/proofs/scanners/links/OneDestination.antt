-- A text begins with one link destination at most.
use Rattle.std.proofs.Common.{◌≡◌, ℕ, ◌+◌, ◌-◌, ◌≤◌, Bool, true, false, List, [], ◌∷◌, ◌++◌, length, take, drop, refl, ap, ◌∙◌, sym, subst, arith, inl, inr}
use Rattle.std.specs.Prelude.{slice_range}
use Rattle.std.specs.List.{concat, list_all}
use Rattle.std.proofs.lemmas.Bool.{false≢true}
use Rattle.markdown_scanners_tree.specs.Ascii.{greater_than_sign, right_parenthesis}
use Rattle.markdown_scanners_tree.specs.scanners.links.LinkDestination.{stands_pointed, stands_bare, opening_count, closing_count, ends_bare, IsBalanced, IsPointedFrom, IsBareFrom, IsLinkDestination}
use Rattle.markdown_scanners_tree.proofs.PrefixLemmas.{both_true}
use Rattle.markdown_scanners_tree.proofs.SomeExactlyLemmas.{same_pair}
use Rattle.markdown_scanners_tree.proofs.scanners.links.BareLemmas.{Turns, head_of, balanced_off, ends_unit}

-- the units before the first that does not pass a test, which is known
module _ (test : List ℕ → Bool) (stop : List ℕ) (refused : test stop ≡ false) where
  pub one_inner : (inner inner' more more' : List (List ℕ)) → inner ++ stop ∷ more ≡ inner' ++ stop ∷ more'
      → list_all test inner ≡ true → list_all test inner' ≡ true → inner ≡ inner'
  one_inner [] [] more more' same made made' = refl
  one_inner [] (v ∷ inner') more more' same made made' =
      absurd (false≢true (sym refused ∙ (ap test (ap head_of same)
      ∙ (both_true (test v) (list_all test inner') made').0)))
  one_inner (u ∷ inner) [] more more' same made made' =
      absurd (false≢true (sym refused ∙ (ap test (ap head_of (sym same))
      ∙ (both_true (test u) (list_all test inner) made).0)))
  one_inner (u ∷ inner) (v ∷ inner') more more' same made made' =
      let rest =
      one_inner inner inner' more more' (ap (drop 1) same)
      (both_true (test u) (list_all test inner) made).1
      (both_true (test v) (list_all test inner') made').1 in
      ap (λ x. x ∷ inner) (ap head_of same) ∙ ap (λ us. v ∷ us) rest

-- a balanced list is not balanced up to a unit of it that ends a destination
ended : (most d : ℕ) (v : List ℕ) (inner us : List (List ℕ)) → IsBalanced most d [] → IsBalanced most d (v ∷ inner)
    → stands_bare v ≡ true → ends_bare (v ∷ us) ≡ true → ⊥
ended most d v inner us here there stands ends =
    let close : v ≡ right_parenthesis ∷ [] = ends_unit v us stands ends in
    let below : closing_count (v ∷ []) ≤ d + opening_count (v ∷ []) = there.never_below 1 (omega arith) in
    let below' : closing_count ((right_parenthesis ∷ []) ∷ []) ≤ d + opening_count ((right_parenthesis ∷ []) ∷ []) =
    rw close at below in
    absurd (omega (arith, here.closed, below'))

one_inner_bare : (most d : ℕ) (inner inner' more more' : List (List ℕ)) → inner ++ more ≡ inner' ++ more'
    → list_all stands_bare inner ≡ true → list_all stands_bare inner' ≡ true → IsBalanced most d inner
    → IsBalanced most d inner'
    → ends_bare more ≡ true → ends_bare more' ≡ true → inner ≡ inner'
one_inner_bare most d [] [] more more' same made made' is is' ends ends' = refl
one_inner_bare most d [] (v ∷ inner') more more' same made made' is is' ends ends' =
    absurd (ended most d v inner' (inner' ++ more') is is'
    (both_true (stands_bare v) (list_all stands_bare inner') made').0 (ap ends_bare (sym same) ∙ ends))
one_inner_bare most d (u ∷ inner) [] more more' same made made' is is' ends ends' =
    absurd (ended most d u inner (inner ++ more) is' is (both_true (stands_bare u) (list_all stands_bare inner) made).0
    (ap ends_bare same ∙ ends'))
one_inner_bare most d (u ∷ inner) (v ∷ inner') more more' same made made' is is' ends ends' =
    let head : u ≡ v = ap head_of same in
    let below : closing_count (u ∷ []) ≤ d + opening_count (u ∷ []) = is.never_below 1 (omega arith) in
    let after = d + opening_count (u ∷ []) - closing_count (u ∷ []) in
    let turns : Turns u d after = omega (arith, below) in
    let turns' : Turns v d after = subst (λ x. Turns x d after) head turns in
    let rest = one_inner_bare most after inner inner' more more' (ap (drop 1) same)
    (both_true (stands_bare u) (list_all stands_bare inner) made).1
    (both_true (stands_bare v) (list_all stands_bare inner') made').1
    (balanced_off most d after u inner turns is) (balanced_off most d after v inner' turns' is') ends ends' in
    ap (λ x. x ∷ inner) head ∙ ap (λ us. v ∷ us) rest

one_pointed : (after : List ℕ) (n n' : ℕ) → IsPointedFrom after n → IsPointedFrom after n' → n ≡ n'
one_pointed after n n' is is' =
    let same =
    one_inner stands_pointed (greater_than_sign ∷ []) refl is.inner is'.inner is.more is'.more
    (sym is.splits ∙ is'.splits) is.each_stands is'.each_stands in
    is.n_is_length ∙ (ap (λ us. length (concat us)) same ∙ sym is'.n_is_length)

one_bare : (most d : ℕ) (text : List ℕ) (n n' : ℕ) → IsBareFrom most d text n → IsBareFrom most d text n' → n ≡ n'
one_bare most d text n n' is is' =
    let same =
    one_inner_bare most d is.inner is'.inner is.more is'.more (sym is.splits ∙ is'.splits) is.each_stands
    is'.each_stands is.balanced is'.balanced is.ends is'.ends in
    is.n_is_length ∙ (ap (λ us. length (concat us)) same ∙ sym is'.n_is_length)

-- how many bytes it takes, and its raw text
pub one_destination : (most : ℕ) (text : List ℕ) (taken : ℕ) (destination : List ℕ) (taken' : ℕ) (destination' : List ℕ)
    → IsLinkDestination most text taken destination → IsLinkDestination most text taken' destination'
    → ◌≡◌ {A = ℕ × List ℕ} (taken, destination) (taken', destination')
one_destination most text taken destination taken' destination' (inl is) (inl is') =
    let after : is.after ≡ is'.after = ap (drop 1) (sym is.opens ∙ is'.opens) in
    let long = one_pointed is'.after is.n is'.n (rw after at is.pointed) is'.pointed in
    let same : taken ≡ taken' = omega (arith, is.with_brackets, is'.with_brackets, long) in
    same_pair same
    (is.slice ∙ (ap (λ k. slice_range text 1 (k - 1)) same ∙ sym is'.slice))
one_destination most text taken destination taken' destination' (inl is) (inr is') =
    absurd (is'.unpointed is.after is.opens)
one_destination most text taken destination taken' destination' (inr is) (inl is') =
    absurd (is.unpointed is'.after is'.opens)
one_destination most text taken destination taken' destination' (inr is) (inr is') =
    let same = one_bare most 0 text taken taken' is.bare is'.bare in
    same_pair same (is.slice ∙ (ap (λ k. take k text) same ∙ sym is'.slice))
