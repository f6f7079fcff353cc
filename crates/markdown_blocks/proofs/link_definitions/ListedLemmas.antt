-- The definitions that are known, one after another.
use Rattle.std.specs.List.{slice_get}
use Rattle.std.proofs.Common.{ℕ, ◌<◌, List, ◌≡◌, Option, Some, None, map, option_map, refl, subst, sym}
use Rattle.std.proofs.lemmas.List.{get_or-map, length-map}
use Rattle.std.proofs.lemmas.Map.Entries.{place_from_lookup}
use Rattle.std.proofs.lemmas.Option.{get_or_from_slice_get, slice_get_within}
use Rattle.std.proofs.lemmas.Slice.Eq.{bytes_eq-Decides}
use Rattle.std.specs.List.{All, IsAmong}
use Rattle.std.specs.Map.{lookup}
use Rattle.std.specs.Str.{bytes_eq}
use Rattle.markdown_blocks.specs.link_definitions.LinkDefinitions.{Known, LentTarget, Target, target_in}
use Rattle.markdown_blocks.proofs.link_definitions.NamedLemmas.{leads}

-- what holds of each value of a function holds of each that has it
pub all_unmapped : {X Y : Type 0} (P : Y → Type 0) (f : X → Y) (xs : List X) → All P (map f xs) → All (λ x. P (f x)) xs
all_unmapped P f xs all k d inside =
    subst P (get_or-map f xs k d (f d) inside) (all k (f d) (subst (λ (n : ℕ). k < n) (sym (length-map xs f)) inside))

-- a definition that is found is among them
among_found : (known : Known) (key : List ℕ) (target : LentTarget) → lookup (bytes_eq key) known ≡ Some target → IsAmong known (key, target)
among_found known key target found =
    let offset = place_from_lookup (bytes_eq key) known target found in
    let same : key ≡ offset.1 = (bytes_eq-Decides key offset.1).0 offset.3 in
    let there = subst (λ (k : List ℕ). slice_get known offset.0 ≡ Some (k, target)) (sym same) offset.2 in
    (offset.0, (slice_get_within known offset.0 (key, target) there, sym (get_or_from_slice_get known offset.0 (key, target) (key, target) there)))

-- and so is one that leads to a target
pub among_target : (known : Known) (key : List ℕ) (target : Target) → leads known key ≡ Some target
    → (found : LentTarget) × IsAmong known (key, found) × (found.target ≡ target)
among_target known key target found = by (lookup (bytes_eq key) known) refl found
  where
    by : (lent : Option LentTarget) → lookup (bytes_eq key) known ≡ lent → option_map target_in lent ≡ Some target
        → (it : LentTarget) × IsAmong known (key, it) × (it.target ≡ target)
    by None is found = cc
    by (Some lent) is same = (lent, among_found known key lent is, let there : lent.target ≡ target = cc in there)
