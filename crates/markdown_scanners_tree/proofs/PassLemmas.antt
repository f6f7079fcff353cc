-- Lists of bytes that all pass a test, built and taken apart byte by byte.
use Rattle.std.proofs.Common.{ℕ, suc, List, [], ◌∷◌, ◌++◌, ◌≡◌, Bool, true, refl, ◌∙◌, arith}
use Rattle.std.specs.List.{AllPass}
use Rattle.std.proofs.lemmas.Bool.{and_from}
use Rattle.std.proofs.lemmas.List.Folds.{list_all-append}
use Rattle.std.proofs.lemmas.List.Sums.{AllPass-from_list_all, list_all-from_AllPass}

module _ (test : ℕ → Bool) where
  pub AllPass-nil : AllPass test []
  AllPass-nil k d low = absurd (omega arith)

  pub AllPass-cons : (b : ℕ) (bs : List ℕ) → test b ≡ true → AllPass test bs → AllPass test (b ∷ bs)
  AllPass-cons b bs first others =
      AllPass-from_list_all test (b ∷ bs) (and_from _ _ first (list_all-from_AllPass test bs others))

  pub AllPass-one : (b : ℕ) → test b ≡ true → AllPass test (b ∷ [])
  AllPass-one b passes = AllPass-cons b [] passes AllPass-nil

  pub AllPass-head : (b : ℕ) (bs : List ℕ) → AllPass test (b ∷ bs) → test b ≡ true
  AllPass-head b bs all = all 0 b (omega arith)

  pub AllPass-tail : (b : ℕ) (bs : List ℕ) → AllPass test (b ∷ bs) → AllPass test bs
  AllPass-tail b bs all k d low = all (suc k) d (omega arith)

  -- one more byte at the end
  pub AllPass-snoc : (bs : List ℕ) (b : ℕ) → AllPass test bs → test b ≡ true → AllPass test (bs ++ b ∷ [])
  AllPass-snoc bs b all passes =
      AllPass-from_list_all test (bs ++ b ∷ []) (list_all-append test bs (b ∷ [])
      ∙ and_from _ _ (list_all-from_AllPass test bs all) (and_from _ _ passes refl))
