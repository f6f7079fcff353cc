-- Where a handler has one answer for each rest, a source has one kept text, which is read up to some line.
use Rattle.std.proofs.Common.{ℕ, List, [], ◌∷◌, ◌++◌, ◌+◌, ◌≡◌, ◌==◌, drop, refl, sym, ap, ◌∙◌, subst, ◌⊎◌, inl, inr, append_assoc, append-nil}
use Rattle.std.proofs.lemmas.Bool.{cases_Bool, or_parts}
use Rattle.markdown_scanners_tree.specs.Ascii.{line_feed, carriage_return}
use Rattle.markdown_scanners_tree.specs.Bytes.{is_line_ending}
use Rattle.markdown_scanners_tree.specs.Kept.{KeptByte, in_line, kept_head, kept_line, kept_from, line_len, AreSkips}

-- the list goes on from this front
abbrev pub Extends : {A : Type 0} → List A → List A → Type 0
Extends {A = A} xs front = (more : List A) × (xs ≡ front ++ more)

-- two beginnings of one list
pub two_fronts : {A : Type 0} (xs ys us vs : List A) → xs ++ us ≡ ys ++ vs → Extends ys xs ⊎ Extends xs ys
two_fronts [] ys us vs same = inl (ys, refl)
two_fronts (x ∷ xs) [] us vs same = inr (x ∷ xs, refl)
two_fronts (x ∷ xs) (y ∷ ys) us vs same =
    let head : x ≡ y = cc in
    let tails : xs ++ us ≡ ys ++ vs = cc in
    elim (two_fronts xs ys us vs tails) [
      | inl more ↦ inl (more.0, λ i. sym head i ∷ more.1 i)
      | inr more ↦ inr (more.0, λ i. head i ∷ more.1 i)
    ]

-- a line begins with its head
line_begins : (offset : ℕ) (source : List ℕ) → Extends (kept_line offset source) (kept_head offset source)
line_begins offset [] = ([], refl)
line_begins offset (b ∷ bs) = elim (cases_Bool (is_line_ending b)) [
  | inl ends ↦ (
      let none : kept_head offset (b ∷ bs) ≡ [] = rw ends refl in
      (kept_line offset (b ∷ bs), sym (ap (λ head. head ++ kept_line offset (b ∷ bs)) none))
      )
  | inr plain ↦ (
      let others = or_parts (b == line_feed) (b == carriage_return) plain in
      let more = line_begins (offset + 1) bs in
      (more.0, rw (others.0, others.1) (ap (λ line. in_line b offset ∷ line) more.1))
      )
]

-- what a head goes on to, where its line is followed by others
head_goes_on : (offset : ℕ) (source : List ℕ) (others : List KeptByte)
    → Extends (kept_line offset source ++ others) (kept_head offset source)
head_goes_on offset source others =
    let more = line_begins offset source in
    (more.0 ++ others, ap (λ line. line ++ others) more.1 ∙ append_assoc (kept_head offset source) more.0 others)

line_goes_on : (line xs ys : List KeptByte) → Extends xs ys → Extends (line ++ xs) (line ++ ys)
line_goes_on line xs ys more = (more.0, ap (λ others. line ++ others) more.1 ∙ sym (append_assoc line ys more.0))

module _ (answers : List ℕ → ℕ → Type 0)
    (one_answer : (rest : List ℕ) (m n : ℕ) → answers rest m → answers rest n → m ≡ n) where
  -- of two kept texts of a source, one begins with the other
  pub one_kept_text : (offset : ℕ) (source skips skips' : List ℕ) → AreSkips answers source skips
      → AreSkips answers source skips'
      → Extends (kept_from offset source skips') (kept_from offset source skips)
      ⊎ Extends (kept_from offset source skips) (kept_from offset source skips')
  one_kept_text offset source [] [] are are' = inl ([], sym (append-nil (kept_head offset source)))
  one_kept_text offset source [] (n ∷ ns) are are' = inl (head_goes_on offset source _)
  one_kept_text offset source (m ∷ ms) [] are are' = inr (head_goes_on offset source _)
  one_kept_text offset source (m ∷ ms) (n ∷ ns) are are' =
      let same : m ≡ n = one_answer (drop (line_len source) source) m n are.1 are'.1 in
      let others : AreSkips answers (drop (line_len source + n) source) ms =
      subst (λ k. AreSkips answers (drop (line_len source + k) source) ms) same are.2 in
      let later = one_kept_text (offset + (line_len source + n)) (drop (line_len source + n) source) ms ns others are'.2 in
      let moved : kept_from (offset + (line_len source + m)) (drop (line_len source + m) source) ms
      ≡ kept_from (offset + (line_len source + n)) (drop (line_len source + n) source) ms =
      ap (λ k. kept_from (offset + (line_len source + k)) (drop (line_len source + k) source) ms) same in
      rw moved (elim later [
        | inl more ↦ inl (line_goes_on (kept_line offset source) _ _ more)
        | inr more ↦ inr (line_goes_on (kept_line offset source) _ _ more)
      ])
