-- Links by the numbers of their brackets, where one more is added.
use Rattle.std.proofs.Common.{ℕ, zero, suc, List, [], ◌∷◌, ◌++◌, ◌≡◌, ◌≤◌, ◌∙◌, ap, arith, length, map, refl, slice_set, Some}
use Rattle.std.proofs.lemmas.List.{map-set}
use Rattle.std.specs.List.{All, slice_get}
use Rattle.markdown_inlines.specs.LinkLists.{link_of}
use Rattle.markdown_inlines.specs.declared.links.Link.{Link}

-- an element within a list stays where it is where one is added at the end
pub stays : (links : List Link) (link : Link) (index : ℕ) → suc index ≤ length links → slice_get (links ++ link ∷ []) index ≡ slice_get links index
stays [] link index within = absurd (omega (arith, within))
stays (first ∷ later) link zero within = refl
stays (first ∷ later) link (suc index) within = stays later link index (omega (arith, within))

-- a number means what it did
pub means_the_same : (links : List Link) (link : Link) (number : ℕ) → number ≤ length links → link_of (links ++ link ∷ []) number ≡ link_of links number
means_the_same links link zero within = refl
means_the_same links link (suc index) within = stays links link index within

pub all_mean_the_same : (links : List Link) (link : Link) (numbers : List ℕ) → All (λ number. number ≤ length links) numbers
    → map (link_of (links ++ link ∷ [])) numbers ≡ map (link_of links) numbers
all_mean_the_same links link [] within = refl
all_mean_the_same links link (number ∷ later) within =
    ap (λ first. first ∷ map (link_of (links ++ link ∷ [])) later) (means_the_same links link number (within 0 0 (omega arith)))
    ∙ ap (λ rest. link_of links number ∷ rest) (all_mean_the_same links link later (λ k d inside. within (suc k) d (omega (arith, inside))))

-- the one that is added has the next number
pub is_added : (links : List Link) (link : Link) → slice_get (links ++ link ∷ []) (length links) ≡ Some link
is_added [] link = refl
is_added (first ∷ later) link = is_added later link

-- the bracket with a number begins the link that is added
pub is_put : (links : List Link) (link : Link) (numbers : List ℕ) (number : ℕ) → All (λ number. number ≤ length links) numbers
    → map (link_of (links ++ link ∷ [])) (slice_set numbers number (suc (length links))) ≡ slice_set (map (link_of links) numbers) number (Some link)
is_put links link numbers number within =
    map-set (link_of (links ++ link ∷ [])) numbers number (suc (length links))
    ∙ ap (λ shown. slice_set shown number (link_of (links ++ link ∷ []) (suc (length links)))) (all_mean_the_same links link numbers within)
    ∙ ap (λ found. slice_set (map (link_of links) numbers) number found) (is_added links link)
