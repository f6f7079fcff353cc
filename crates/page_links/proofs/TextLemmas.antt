-- Texts that grow, piece by piece.
use Rattle.std.proofs.Common.{ℕ, ◌+◌, ◌<◌, ◌≤◌, List, ◌++◌, Result, Ok, Err, OnOk, is_ok, length, drop, get_or, map, ◌≡◌, ◌∙◌, sym, ap}
use Rattle.std.proofs.Common.{append_assoc, append-nil, if◌then◌else◌}
use Rattle.std.specs.List.{flat_map}
use Rattle.std.proofs.lemmas.List.{at_drop_all, at_drop_more}

-- the text is the longer one where memory was not refused
pub longer : {T E : Type 0} (r : Result T E) (text more less all : List ℕ) → text ≡ (if is_ok r then more else less) → more ≡ all → OnOk r (text ≡ all)
longer (Ok value) text more less all is same = is ∙ same
longer (Err error) text more less all is same = tt

-- what is written and what is made of the items that are left, one item further
pub written_more : {X Y A : Type 0} (see : X → Y) (f : Y → List A) (xs : List X) (i : ℕ) (x : X) (text more all : List A)
    → i < length xs → x ≡ get_or xs i x → text ++ flat_map f (map see (drop i xs)) ≡ all → more ≡ text ++ f (see x)
    → more ++ flat_map f (map see (drop (i + 1) xs)) ≡ all
written_more {X} {Y} {A} see f xs i x text more all low is before added =
    let later = flat_map f (map see (drop (i + 1) xs)) in
    let left : flat_map f (map see (drop i xs)) ≡ f (see (get_or xs i x)) ++ later
    = at_drop_more (λ (ys : List X). flat_map f (map see ys)) xs i x low in
    let here : f (see (get_or xs i x)) ++ later ≡ f (see x) ++ later = ap (λ (y : X). f (see y) ++ later) (sym is) in
    ap (λ (t : List A). t ++ later) added ∙ append_assoc text (f (see x)) later
    ∙ ap (λ (rest : List A). text ++ rest) (sym (left ∙ here)) ∙ before

-- where no item is left it is all written
pub written_all : {X Y A : Type 0} (see : X → Y) (f : Y → List A) (xs : List X) (i : ℕ) (text all : List A)
    → length xs ≤ i → text ++ flat_map f (map see (drop i xs)) ≡ all → text ≡ all
written_all {X} {Y} {A} see f xs i text all high before =
    sym (ap (λ (rest : List A). text ++ rest) (at_drop_all (λ (ys : List X). flat_map f (map see ys)) xs i high) ∙ append-nil text) ∙ before
