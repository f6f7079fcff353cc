-- How often a node stands in a forest, and the roots and paths of one, before and after a change.
use Rattle.std.proofs.Common.{◌≡◌, ◌≢◌, ◌⊎◌, inl, inr, ℕ, ◌+◌, ◌≤◌, List, [], ◌∷◌, refl, arith}
use Rattle.std.proofs.lemmas.Bool.{cases_eq, eq-eqb, ne_eqb}
use Rattle.markdown_values.specs.tree.Forest.{Forest, no_tree, tree, first, IsRoot, count_in, children_of, with_children, IsPath, at_end, with_at_end}
use Rattle.markdown_values.specs.tree.Forest.{put_after}

-- the tests of the definitions, at equal and at different nodes

pub count_in-here : (a r : ℕ) (cs later : Forest) → a ≡ r → count_in a (tree r cs later) ≡ 1 + (count_in a cs + count_in a later)
count_in-here a r cs later e = rw (eq-eqb a r e)

pub count_in-there : (a r : ℕ) (cs later : Forest) → a ≢ r → count_in a (tree r cs later) ≡ count_in a cs + count_in a later
count_in-there a r cs later ne = rw (ne_eqb a r ne) (omega arith)

pub children_of-here : (a r : ℕ) (cs later : Forest) → a ≡ r → children_of a (tree r cs later) ≡ cs
children_of-here a r cs later e = rw (eq-eqb a r e)

pub children_of-there : (a r : ℕ) (cs later : Forest) → a ≢ r → children_of a (tree r cs later) ≡ children_of a later
children_of-there a r cs later ne = rw (ne_eqb a r ne)

pub with_children-here : (a r : ℕ) (new cs later : Forest) → a ≡ r → with_children a new (tree r cs later) ≡ tree r new later
with_children-here a r new cs later e = rw (eq-eqb a r e)

pub with_children-there : (a r : ℕ) (new cs later : Forest) → a ≢ r → with_children a new (tree r cs later) ≡ tree r cs (with_children a new later)
with_children-there a r new cs later ne = rw (ne_eqb a r ne)

pub put_after-here : (f n r : ℕ) (cs later : Forest) → f ≡ r → put_after f n (tree r cs later) ≡ tree r cs (tree n no_tree no_tree)
put_after-here f n r cs later e = rw (eq-eqb f r e)

pub put_after-there : (f n r : ℕ) (cs later : Forest) → f ≢ r → put_after f n (tree r cs later) ≡ tree r cs (put_after f n later)
put_after-there f n r cs later ne = rw (ne_eqb f r ne)

-- a root stands in the forest
pub count_in-root : (a : ℕ) (forest : Forest) → IsRoot a forest → 1 ≤ count_in a forest
count_in-root a no_tree h = absurd h
count_in-root a (tree r cs later) (inl e) = omega (arith, count_in-here a r cs later e)
count_in-root a (tree r cs later) (inr h) =
    elim (cases_eq a r) [
      | inl e ↦ omega (arith, count_in-here a r cs later e)
      | inr ne ↦ omega
          (arith, count_in-there a r cs later ne, count_in-root a later h)
    ]

-- what stands among the children of a root stands in the forest
pub count_in-children : (k a : ℕ) (forest : Forest) → count_in k (children_of a forest) ≤ count_in k forest
count_in-children k a no_tree = omega arith
count_in-children k a (tree r cs later) =
    elim (cases_eq a r) [
      | inl e ↦ rw (children_of-here a r cs later e) (omega arith)
      | inr ne ↦ rw (children_of-there a r cs later ne) (omega (arith, count_in-children k a later))
    ]

pub count_in-at_end : (k : ℕ) (path : List ℕ) (forest : Forest) → count_in k (at_end path forest) ≤ count_in k forest
count_in-at_end k [] forest = omega arith
count_in-at_end k (a ∷ path) forest = omega (arith, count_in-at_end k path (children_of a forest), count_in-children k a forest)

-- other children change the count by what they have more
count_in-with_children : (k a : ℕ) (new forest : Forest) → IsRoot a forest → count_in k (with_children a new forest) + count_in k (children_of a forest) ≡ count_in k forest + count_in k new
count_in-with_children k a new no_tree h = absurd h
count_in-with_children k a new (tree r cs later) h =
    elim (cases_eq a r) [
      | inl e ↦ rw (with_children-here a r new cs later e, children_of-here a r cs later e) (omega arith)
      | inr ne ↦ rw (with_children-there a r new cs later ne, children_of-there a r cs later ne) (omega (arith, count_in-with_children k a new later (in_later ne h)))
    ]
  where
    in_later : a ≢ r → (a ≡ r) ⊎ IsRoot a later → IsRoot a later
    in_later ne (inl e) = absurd (ne e)
    in_later ne (inr h) = h

pub count_in-with_at_end : (k : ℕ) (path : List ℕ) (new forest : Forest) → IsPath path forest
    → count_in k (with_at_end path new forest) + count_in k (at_end path forest) ≡ count_in k forest + count_in k new
count_in-with_at_end k [] new forest h = omega arith
count_in-with_at_end k (a ∷ path) new forest h =
    omega (arith, count_in-with_children k a (with_at_end path new (children_of a forest)) forest h.0, count_in-with_at_end k path new (children_of a forest) h.1)

-- the new node is once more in the forest, and no other
pub count_in-put_after : (k f n : ℕ) (forest : Forest) → count_in k (put_after f n forest) ≤ count_in k forest + count_in k (tree n no_tree no_tree)
count_in-put_after k f n no_tree = omega arith
count_in-put_after k f n (tree r cs later) =
    elim (cases_eq f r) [
      | inl e ↦ rw (put_after-here f n r cs later e) (omega arith)
      | inr ne ↦ rw (put_after-there f n r cs later ne) (omega (arith, count_in-put_after k f n later))
    ]

-- a root that is not the first is among the later ones
pub IsRoot-later : (a r : ℕ) (cs later : Forest) → a ≢ r → IsRoot a (tree r cs later) → IsRoot a later
IsRoot-later a r cs later ne (inl e) = absurd (ne e)
IsRoot-later a r cs later ne (inr h) = h

children_of-with_children : (a : ℕ) (new forest : Forest) → IsRoot a forest → children_of a (with_children a new forest) ≡ new
children_of-with_children a new no_tree h = absurd h
children_of-with_children a new (tree r cs later) h =
    elim (cases_eq a r) [
      | inl e ↦ rw (with_children-here a r new cs later e, children_of-here a r new later e)
      | inr ne ↦ rw (with_children-there a r new cs later ne, children_of-there a r cs (with_children a new later) ne) (children_of-with_children a new later (IsRoot-later a r cs later ne h))
    ]

IsRoot-with_children : (a : ℕ) (new forest : Forest) → IsRoot a forest → IsRoot a (with_children a new forest)
IsRoot-with_children a new no_tree h = absurd h
IsRoot-with_children a new (tree r cs later) h =
    elim (cases_eq a r) [
      | inl e ↦ rw (with_children-here a r new cs later e) (inl e)
      | inr ne ↦ rw (with_children-there a r new cs later ne) (inr (IsRoot-with_children a new later (IsRoot-later a r cs later ne h)))
    ]

pub IsPath-with_at_end : (path : List ℕ) (new forest : Forest) → IsPath path forest → IsPath path (with_at_end path new forest)
IsPath-with_at_end [] new forest h = tt
IsPath-with_at_end (a ∷ path) new forest h =
    (IsRoot-with_children a _ forest h.0, rw (children_of-with_children a (with_at_end path new (children_of a forest)) forest h.0) (IsPath-with_at_end path new (children_of a forest) h.1))

pub at_end-with_at_end : (path : List ℕ) (new forest : Forest) → IsPath path forest → at_end path (with_at_end path new forest) ≡ new
at_end-with_at_end [] new forest h = refl
at_end-with_at_end (a ∷ path) new forest h =
    rw (children_of-with_children a (with_at_end path new (children_of a forest)) forest h.0) (at_end-with_at_end path new (children_of a forest) h.1)

pub IsRoot-put_after : (f n : ℕ) (forest : Forest) → IsRoot f forest → IsRoot n (put_after f n forest)
IsRoot-put_after f n no_tree h = absurd h
IsRoot-put_after f n (tree r cs later) h =
    elim (cases_eq f r) [
      | inl e ↦ rw (put_after-here f n r cs later e) (inr (inl refl))
      | inr ne ↦ rw (put_after-there f n r cs later ne) (inr (IsRoot-put_after f n later (IsRoot-later f r cs later ne h)))
    ]
