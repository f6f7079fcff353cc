-- What a scan asks of a closure, for one that may always be called.
use Rattle.std.proofs.Common.{ℕ, Bool, true, List, [], ◌∷◌, refl, subst}
use Rattle.std.specs.List.{FoldsTo}
use Rattle.markdown_scanners_tree.specs.scanners.Runs.{IsCallableInTurn}
use denote.Param.Members.{Mut, Called}
use denote.Param.Always.{always_mut, mut_next}

module _ {F : Type 0} (g : Mut F (ℕ × Unit {0}) Bool) where
  always-after : (bytes : List ℕ) (f last : F) → FoldsTo (λ p b q. Called g p (b, tt) true q) f bytes last
      → always_mut g f → always_mut g last
  always-after [] f last same always = subst (always_mut g) same always
  always-after (b ∷ bytes) f last steps always =
      always-after bytes steps.0 last steps.2 (mut_next g _ _ _ _ _ steps.1 refl always)

  -- a closure that may always be called may be called in turn
  pub callable_in_turn : (f : F) (bytes : List ℕ) → always_mut g f
      → IsCallableInTurn (λ p b. g.pre p (b, tt)) (λ p b r q. Called g p (b, tt) r q) f bytes
  callable_in_turn f bytes always =
      record { at = λ before after b now parts accepted. ((always-after before f now accepted always).at ((b, tt) ∷ [])).0 }
