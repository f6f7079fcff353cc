-- Labels over lines of which ASCII is left out, and where their texts stand.
use Rattle.std.proofs.Common.{ℕ, zero, suc, ◌+◌, ◌-◌, ◌≤◌, ◌<◌, ◌≡◌, ◌≢◌, ◌==◌, Some, Bool, true, false, nat_le, nat_lt, List, []}
use Rattle.std.proofs.Common.{◌∷◌, ◌++◌, length, take, drop, get_or, IsAscii, IsTrue, if◌then◌else◌, inl, inr, refl, sym, ap, subst, ◌∙◌, arith}
use Rattle.std.specs.List.{list_all}
use Rattle.std.specs.Str.{IsNotAscii}
use Rattle.std.specs.Bool.{MatchBool}
use Rattle.std.proofs.lemmas.Bool.{cases_Bool, cases_lt, and_parts, and_from, lt-ltb, ltb-true, le-leb, leb-true, eqb-true}
use Rattle.std.proofs.lemmas.List.{length-drop, length-take, take-take, drop-drop, drop_all, drop-append-le, take-append-le}
use Rattle.markdown_scanners_tree.specs.Ascii.{space}
use Rattle.markdown_scanners_tree.specs.Handler.{IsAsciiFront}
use Rattle.markdown_scanners_tree.specs.linklabel.Answer.{slice_before, without_first_space, without_last_space}
use Rattle.markdown_scanners_tree.specs.linklabel.Label.{Label, IsLabel, label_of}
use Rattle.markdown_scanners_c.specs.Answers.{none}
use Rattle.markdown_scanners_c.specs.Buffer.{IsChangedFront}
use Rattle.markdown_scanners_c.specs.Labels.{IsGiven, IsStart}
use Rattle.markdown_scanners_c.specs.Skips.{is_ascii_front, are_skips, are_ascii_skips, left_out, LeavesOut}
use Rattle.markdown_scanners_c.specs.Status.{past_end}
use Rattle.markdown_scanners_c.specs.private.LabelText.{ReturnedAscii, space_len}
use Rattle.markdown_scanners_c.specs.private.Searched.{searched, returned_skip}
use Rattle.markdown_scanners_c.specs.declared.skips.Skip.{Skip}
use Rattle.markdown_scanners_c.proofs.Buffers.{front_changed, no_refused_offset}
use Rattle.markdown_scanners_c.proofs.SameKept.{AgreeOnRests, kept_too}
use Rattle.markdown_scanners_c.proofs.SkipLemmas.{finds}

-- ---- ASCII

all_ascii : (xs : List ℕ) → IsAscii xs → list_all (λ b. nat_lt b 128) xs ≡ true
all_ascii [] ascii = refl
all_ascii (b ∷ xs) ascii = and_from _ _ (lt-ltb b 128 (ascii 0)) (all_ascii xs (λ i. ascii (suc i)))

each_ascii : (xs : List ℕ) → list_all (λ b. nat_lt b 128) xs ≡ true → (i : ℕ) → get_or xs i 0 < 128
each_ascii [] all i = omega arith
each_ascii (b ∷ xs) all zero = ltb-true b 128 (and_parts (nat_lt b 128) _ all).0
each_ascii (b ∷ xs) all (suc i) = each_ascii xs (and_parts (nat_lt b 128) _ all).1 i

-- what `is_ascii` answers
pub ascii_test : (xs : List ℕ) (answer : Bool) → MatchBool answer (IsAscii xs) (IsNotAscii xs)
    → answer ≡ list_all (λ b. nat_lt b 128) xs
ascii_test xs true ascii = sym (all_ascii xs ascii)
ascii_test xs false other = elim (cases_Bool (list_all (λ b. nat_lt b 128) xs)) [
  | inl all ↦ absurd (omega (arith, other.1, each_ascii xs all other.0))
  | inr some ↦ sym some
]

-- ---- what is left out of labels

pub front_at : (bytes : List ℕ) (skips : List Skip) (offset : ℕ) → are_ascii_skips skips bytes ≡ true
    → is_ascii_front (drop offset bytes) (left_out skips offset) ≡ true
front_at bytes [] offset ascii = and_from _ _ (le-leb 0 _ (omega arith)) refl
front_at bytes (skip ∷ skips) offset ascii =
    let parts = and_parts (is_ascii_front (drop skip.offset bytes) skip.length) (are_ascii_skips skips bytes) ascii in
    elim (cases_Bool (skip.offset == offset)) [
      | inl here ↦
          rw here (subst (λ p. is_ascii_front (drop p bytes) skip.length ≡ true) (eqb-true skip.offset offset here) parts.0)
      | inr other ↦ rw other (front_at bytes skips offset parts.1)
    ]

all_take : (test : ℕ → Bool) (m : ℕ) (xs : List ℕ) → list_all test xs ≡ true → list_all test (take m xs) ≡ true
all_take test zero xs all = refl
all_take test (suc m) [] all = refl
all_take test (suc m) (b ∷ xs) all =
    let parts = and_parts (test b) (list_all test xs) all in
    and_from _ _ parts.0 (all_take test m xs parts.1)

module _ (skips : List Skip) (bytes : List ℕ) where
  -- what is returned is what a search finds, all of the rest where that is more, and is ASCII
  returned_is : (rest : List ℕ) (skip : ℕ) → ReturnedAscii skips bytes rest skip
      → (skip ≡ returned_skip skips bytes rest) × (is_ascii_front rest skip ≡ true)
  returned_is rest skip returned =
      let found = returned_skip skips bytes rest in
      elim (cases_Bool (is_ascii_front rest found)) [
        | inl front ↦
            (let same : Some found ≡ Some skip = rw front at returned in
            let is : found ≡ skip = cc in
            (sym is, subst (λ n. is_ascii_front rest n ≡ true) is front))
        | inr other ↦ absurd (let none = rw other at returned in cc)
      ]

  pub returned_front : (rest : List ℕ) (skip : ℕ) → ReturnedAscii skips bytes rest skip → IsAsciiFront rest skip
  returned_front rest skip returned =
      let parts = and_parts (nat_le skip (length rest)) _ (returned_is rest skip returned).1 in
      (leb-true skip (length rest) parts.0, parts.1)

  -- with a table of a text that the bytes begin
  module _ (after : List ℕ) (stand : are_skips skips (bytes ++ after) ≡ true)
      (ascii : are_ascii_skips skips (bytes ++ after) ≡ true) where
    ascii_there : (p : ℕ) → let rest = drop p bytes in list_all (λ b. nat_lt b 128) (take (returned_skip skips bytes rest) rest) ≡ true
    ascii_there p =
        let rest = drop p bytes in
        let m = returned_skip skips bytes rest in
        let size = length-drop p bytes in
        elim (cases_lt (length bytes) p) [
          | inl past ↦
              (let none : rest ≡ [] = drop_all p bytes (omega (arith, past)) in
              all_take (λ b. nat_lt b 128) m rest (ap (list_all (λ b. nat_lt b 128)) none))
          | inr within ↦
              (let n = left_out skips p in
              let here : length bytes - length rest ≡ p = omega (arith, size, within) in
              let found : searched skips (length bytes - length rest) ≡ n =
              finds skips bytes after stand (length bytes - length rest) ∙ ap (left_out skips) here in
              let front = and_parts (nat_le n (length (drop p (bytes ++ after)))) _
              (front_at (bytes ++ after) skips p ascii) in
              let whole : drop p (bytes ++ after) ≡ rest ++ after = drop-append-le p bytes after within in
              let same : take m (take n (rest ++ after)) ≡ take m rest =
              take-take m n (rest ++ after) (omega (arith, found)) ∙ take-append-le m rest after (omega arith) in
              subst (λ xs. list_all (λ b. nat_lt b 128) xs ≡ true) same
              (all_take (λ b. nat_lt b 128) m (take n (rest ++ after))
              (subst (λ xs. list_all (λ b. nat_lt b 128) (take n xs) ≡ true) whole front.1)))
        ]

    returned_is_left_out : AgreeOnRests bytes (ReturnedAscii skips bytes) (LeavesOut skips bytes)
    returned_is_left_out p n returned =
        let rest = drop p bytes in
        let offset = length bytes - length rest in
        (left_out skips offset, refl, omega (arith, (returned_is rest n returned).0, finds skips bytes after stand offset))

    left_out_is_returned : AgreeOnRests bytes (LeavesOut skips bytes) (ReturnedAscii skips bytes)
    left_out_is_returned p n leaves =
        let rest = drop p bytes in
        let m = returned_skip skips bytes rest in
        let front : is_ascii_front rest m ≡ true = and_from _ _ (le-leb m (length rest) (omega arith)) (ascii_there p) in
        (m, rw front refl, omega (arith, leaves, finds skips bytes after stand (length bytes - length rest)))

    -- A label of what is returned is one of what is left out, and the other way.
    pub label_of_returned : (p : ℕ) (t : Bool) (label : Label) → IsLabel (ReturnedAscii skips bytes) (drop p bytes) t label
        → IsLabel (LeavesOut skips bytes) (drop p bytes) t label
    label_of_returned p t label is =
        let too = kept_too bytes (ReturnedAscii skips bytes) (LeavesOut skips bytes) returned_is_left_out 0 p is.skips is.answered in
        record { skips = too.0; answered = too.1; label_is = ap (label_of t) too.2 ∙ is.label_is }

    pub label_as_returned : (p : ℕ) (t : Bool) (label : Label) → IsLabel (LeavesOut skips bytes) (drop p bytes) t label
        → IsLabel (ReturnedAscii skips bytes) (drop p bytes) t label
    label_as_returned p t label is =
        let too = kept_too bytes (LeavesOut skips bytes) (ReturnedAscii skips bytes) left_out_is_returned 0 p is.skips is.answered in
        record { skips = too.0; answered = too.1; label_is = ap (label_of t) too.2 ∙ is.label_is }

-- ---- where a label stands

last_cut : (xs : List ℕ) → without_last_space xs ≡ take (length (without_last_space xs)) xs
last_cut [] = refl
last_cut (b ∷ []) = elim (cases_Bool (b == space)) [
  | inl ends ↦ rw ends refl
  | inr goes ↦ rw goes refl
]
last_cut (b ∷ c ∷ bs) = ap (λ ys. b ∷ ys) (last_cut (c ∷ bs))

shorter : (xs : List ℕ) → length (without_last_space xs) ≤ length xs
shorter xs = omega (arith, ap length (last_cut xs), length-take (length (without_last_space xs)) xs)

-- a text that is cut at its end, and which stands where it stood
stands : (n : ℕ) (xs : List ℕ) → let cut = without_last_space (take n xs) in take (length cut) xs ≡ cut
stands n xs =
    let cut = without_last_space (take n xs) in
    let short : length cut ≤ n = omega (arith, shorter (take n xs), length-take n xs) in
    sym (take-take (length cut) n xs short) ∙ sym (last_cut (take n xs))

fits : (n : ℕ) (xs : List ℕ) → length (without_last_space (take n xs)) ≤ length xs
fits n xs = omega (arith, shorter (take n xs), length-take n xs)

abbrev StandsAt : List ℕ → List ℕ → ℕ → Type 0
StandsAt bytes text start = (start + length text ≤ length bytes) × (take (length text) (drop start bytes) ≡ text)

cut_stands : (n : ℕ) (bytes : List ℕ) → StandsAt bytes (without_last_space (without_first_space (take n bytes))) (space_len bytes)
cut_stands zero [] = (omega arith, refl)
cut_stands zero (b ∷ bs) = elim (cases_Bool (b == space)) [
  | inl begins ↦ rw begins (omega arith, refl)
  | inr other ↦ rw other (omega arith, refl)
]
cut_stands (suc n) [] = (omega arith, refl)
cut_stands (suc n) (b ∷ bs) = elim (cases_Bool (b == space)) [
  | inl begins ↦ rw begins (omega (arith, fits n bs), stands n bs)
  | inr other ↦ rw other (omega (arith, fits (suc n) (b ∷ bs)), stands (suc n) (b ∷ bs))
]

pub slice_stands : (bytes : List ℕ) (n : ℕ) → StandsAt bytes (slice_before bytes n) (space_len bytes)
slice_stands bytes n = cut_stands (n - 1) bytes

-- where a label is lent from the bytes from an offset on, and else nowhere
pub started : (bytes : List ℕ) (start : ℕ) → start ≤ length bytes → (label : Label) (n offset : ℕ) (lent : Bool)
    → label.plain ≡ lent → offset ≡ (if lent then start + space_len (drop start bytes) else none)
    → (IsTrue lent → label.text ≡ slice_before (drop start bytes) n) → IsStart bytes label offset
started bytes start within label n offset true plain at slice =
    let front = drop start bytes in
    let space = space_len front in
    let stands = slice_stands front n in
    let text = slice refl in
    let count = length (slice_before front n) in
    let there : take count (drop (start + space) bytes) ≡ slice_before front n =
    ap (take count) (sym (drop-drop space start bytes)) ∙ stands.1 in
    inl (
      plain,
      omega (arith, at, ap length text, stands.0, length-drop start bytes, within),
      subst (λ t. take (length t) (drop offset bytes) ≡ t) (sym text)
          (subst (λ s. take count (drop s bytes) ≡ slice_before front n) (sym at) there),
    )
started bytes start within label n offset false plain at slice = inr (plain, at)

-- ---- a text that is given

module _ (stands : Bool) (text old new : List ℕ) (status needed : ℕ) where
  pub given_length : IsGiven stands text old new status needed → needed ≡ length text
  given_length (inl is) = is.3
  given_length (inr is) = is.1.0

  pub label_changed : IsGiven stands text old new status needed → IsChangedFront old new status needed
  label_changed (inl is) = (ap (drop needed) is.4, λ other. is.4)
  label_changed (inr is) = front_changed text old new status needed is.1

  pub no_refused_label : IsGiven stands text old new status needed → status ≢ past_end
  no_refused_label (inl is) past = omega (arith, is.2, past)
  no_refused_label (inr is) past = no_refused_offset text old new status needed is.1 past
