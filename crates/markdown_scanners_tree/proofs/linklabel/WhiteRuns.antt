-- Runs of white space, read from the left: at most one line ending is in each (`few`), and each is
-- one space (`lone`).
use Rattle.std.proofs.Common.{ℕ, Bool, true, false, ◌||◌, ◌&&◌, ◌==◌, not, nat_le, List, [], ◌∷◌, ◌++◌, ◌≡◌, ◌+◌, refl, sym, ◌∙◌, ap, subst, cond}
use Rattle.std.proofs.Common.{arith, true≢false, eqb-true, zero-add, if◌then◌else◌}
use Rattle.std.proofs.Math.Bool.{and-true, and-false}
use Rattle.std.proofs.lemmas.Bool.Decides.{nat_tests}
use Rattle.std.proofs.lemmas.List.Sums.{sum_by-cons}
use Rattle.std.specs.List.{list_all}
use Rattle.markdown_scanners_tree.specs.Bytes.{begins_with, is_line_ending}
use Rattle.markdown_scanners_tree.specs.Ascii.{space}
use Rattle.markdown_scanners_tree.specs.Kept.{KeptByte, in_line, at_line_end, kept_line, kept_return, line_endings}
use Rattle.markdown_scanners_tree.specs.linklabel.Label.{is_white, onto_runs, white_runs, is_one_space}

-- a line ending may still come in this run
abbrev pub few : Bool → List KeptByte → Bool
few ended [] = true
few ended (k ∷ ks) =
    if is_white k then (if k.ends_line then (if ended then false else few true ks) else few ended ks) else few false ks

-- each run is one space, where a run is open or not
abbrev pub lone : Bool → List KeptByte → Bool
lone in_run [] = true
lone in_run (k ∷ ks) = if is_white k then (k.byte == space && not in_run) && lone true ks else lone false ks

line_endings-cons : (k : KeptByte) (ks : List KeptByte) → line_endings (k ∷ ks) ≡ cond k.ends_line 1 0 + line_endings ks
line_endings-cons k ks = sum_by-cons (λ l. cond l.ends_line 1 0) k ks

abbrev few_run : List KeptByte → Bool
few_run run = nat_le (line_endings run) 1

abbrev few_run_of : ℕ → Bool
few_run_of n = nat_le n 1

-- the runs, where the first one is open and a line ending was in it
abbrev open_few : Bool → List (List KeptByte) → Bool
open_few begins [] = true
open_few begins (run ∷ runs) =
    cond begins ((line_endings run == 0) && list_all few_run runs) (few_run run && list_all few_run runs)

closed_few : (runs : List (List KeptByte)) → open_few false runs ≡ list_all few_run runs
closed_few [] = refl
closed_few (run ∷ runs) = refl

one_more_first : (n : ℕ) → nat_le (1 + n) 1 ≡ (n == 0)
one_more_first n = grind (arith, nat_tests)

one_more_none : (n : ℕ) → false ≡ (1 + n == 0)
one_more_none n = grind (arith, nat_tests)

few_step : (e B : Bool) (k : KeptByte) (R : List (List KeptByte)) (some none : Bool) → k.ends_line ≡ e
    → some ≡ open_few B R → none ≡ list_all few_run R
    → cond e some none ≡ list_all few_run (onto_runs B k R)
few_step true B k [] some none e s n = s ∙ sym (ap (λ v. few_run_of (0 + cond v 1 0) && true) e)
few_step false B k [] some none e s n = n ∙ sym (ap (λ v. few_run_of (0 + cond v 1 0) && true) e)
few_step true true k (r ∷ R) some none e s n = s
    ∙ ap (λ v. v && list_all few_run R)
    (sym (one_more_first (line_endings r))
    ∙ sym (ap (λ m. nat_le m 1) (line_endings-cons k r ∙ ap (λ v. cond v 1 0 + line_endings r) e)))
few_step false true k (r ∷ R) some none e s n = n
    ∙ ap (λ v. v && list_all few_run R)
    (sym (ap (λ m. nat_le m 1)
    (line_endings-cons k r ∙ ap (λ v. cond v 1 0 + line_endings r) e ∙ zero-add (line_endings r))))
few_step true false k (r ∷ R) some none e s n = s
    ∙ sym (ap (λ v. few_run_of (0 + cond v 1 0) && (few_run r && list_all few_run R)) e)
few_step false false k (r ∷ R) some none e s n = n
    ∙ sym (ap (λ v. few_run_of (0 + cond v 1 0) && (few_run r && list_all few_run R)) e)

open_step : (e B : Bool) (k : KeptByte) (R : List (List KeptByte)) (some : Bool) → k.ends_line ≡ e → some ≡ open_few B R
    → cond e false some ≡ open_few true (onto_runs B k R)
open_step true B k [] some e s = sym (ap (λ v. (0 + cond v 1 0 == 0) && true) e)
open_step false B k [] some e s = s ∙ sym (ap (λ v. (0 + cond v 1 0 == 0) && true) e)
open_step true true k (r ∷ R) some e s =
    ap (λ v. v && list_all few_run R)
    (one_more_none (line_endings r)
    ∙ sym (ap (λ m. m == 0) (line_endings-cons k r ∙ ap (λ v. cond v 1 0 + line_endings r) e)))
open_step false true k (r ∷ R) some e s = s
    ∙ ap (λ v. v && list_all few_run R)
    (sym (ap (λ m. m == 0) (line_endings-cons k r ∙ ap (λ v. cond v 1 0 + line_endings r) e
    ∙ zero-add (line_endings r))))
open_step true false k (r ∷ R) some e s = sym (ap (λ v. (0 + cond v 1 0 == 0) && (few_run r && list_all few_run R)) e)
open_step false false k (r ∷ R) some e s = s
    ∙ sym (ap (λ v. (0 + cond v 1 0 == 0) && (few_run r && list_all few_run R)) e)

few_runs : (ks : List KeptByte)
    → (few false ks ≡ list_all few_run (white_runs ks))
    × (few true ks ≡ open_few (begins_with is_white ks) (white_runs ks))
few_runs [] = (refl, refl)
few_runs (k ∷ ks) =
    let rest = few_runs ks in
    elim (is_white k) as
    (λ v. (cond v (cond k.ends_line (few true ks) (few false ks)) (few false ks)
    ≡ list_all few_run (cond v (onto_runs (begins_with is_white ks) k (white_runs ks)) (white_runs ks)))
    × (cond v (cond k.ends_line false (few true ks)) (few false ks)
    ≡ open_few v (cond v (onto_runs (begins_with is_white ks) k (white_runs ks)) (white_runs ks)))) [
      | true ↦ (
        few_step k.ends_line (begins_with is_white ks) k (white_runs ks) (few true ks) (few false ks) refl rest.1
            rest.0,
        open_step k.ends_line (begins_with is_white ks) k (white_runs ks) (few true ks) refl rest.1,
      )
      | false ↦ (rest.0, rest.0 ∙ sym (closed_few (white_runs ks)))
    ]

pub few-white_runs : (ks : List KeptByte) → list_all few_run (white_runs ks) ≡ few false ks
few-white_runs ks = sym (few_runs ks).0

pub few_at_ending : (p b : ℕ) (bs : List ℕ) (ks : List KeptByte) → is_line_ending b ≡ true
    → few true (kept_line p (b ∷ bs) ++ ks) ≡ false
few_at_ending p b bs ks ends = by (b == 10) (b == 13) (eqb-true b 10) (eqb-true b 13) ends
  where
    return : (cs : List ℕ) → few true (kept_return p cs ++ ks) ≡ false
    return [] = refl
    return (c ∷ cs) =
        elim (c == 10) as
        (λ v. few true (cond v (in_line 13 p ∷ at_line_end 10 (p + 1) ∷ []) (at_line_end 13 p ∷ []) ++ ks) ≡ false)
        [ true ↦ refl | false ↦ refl ]

    by : (x y : Bool) → (x ≡ true → b ≡ 10) → (y ≡ true → b ≡ 13) → (x || y) ≡ true
        → few true (cond x (at_line_end b p ∷ []) (cond y (kept_return p bs) (in_line b p ∷ kept_line (p + 1) bs))
        ++ ks) ≡ false
    by true y f g h = subst (λ n. few true (at_line_end n p ∷ ks) ≡ false) (sym (f refl)) refl
    by false true f g h = return bs
    by false false f g h = absurd (true≢false (sym h))

-- the first run has a byte
abbrev first_filled : List (List KeptByte) → Bool
first_filled [] = true
first_filled ([] ∷ runs) = false
first_filled ((k ∷ ks) ∷ runs) = true

abbrev some_run : List (List KeptByte) → Bool
some_run [] = false
some_run (run ∷ runs) = true

filled_onto : (B : Bool) (k : KeptByte) (R : List (List KeptByte))
    → (first_filled (onto_runs B k R) ≡ true) × (some_run (onto_runs B k R) ≡ true)
filled_onto B k [] = (refl, refl)
filled_onto true k (r ∷ R) = (refl, refl)
filled_onto false k (r ∷ R) = (refl, refl)

filled : (ks : List KeptByte)
    → (first_filled (white_runs ks) ≡ true) × (begins_with is_white ks ≡ true → some_run (white_runs ks) ≡ true)
filled [] = (refl, λ e. absurd (true≢false (sym e)))
filled (k ∷ ks) =
    elim (is_white k) as
    (λ v. (first_filled (cond v (onto_runs (begins_with is_white ks) k (white_runs ks)) (white_runs ks)) ≡ true)
    × (v ≡ true → some_run (cond v (onto_runs (begins_with is_white ks) k (white_runs ks)) (white_runs ks)) ≡ true)) [
      | true ↦ (
        (filled_onto (begins_with is_white ks) k (white_runs ks)).0,
        λ e. (filled_onto (begins_with is_white ks) k (white_runs ks)).1,
      )
      | false ↦ ((filled ks).0, λ e. absurd (true≢false (sym e)))
    ]

lone_step : (B x : Bool) (k : KeptByte) (R : List (List KeptByte)) → (k.byte == 32) ≡ x → first_filled R ≡ true
    → (B ≡ true → some_run R ≡ true)
    → ((x && true) && cond B false (list_all is_one_space R)) ≡ list_all is_one_space (onto_runs B k R)
lone_step true x k [] e f s = absurd (true≢false (sym (s refl)))
lone_step false x k [] e f s = ap (λ v. v && true) (and-true x ∙ sym e)
lone_step true x k ([] ∷ R) e f s = absurd (true≢false (sym f))
lone_step true x k ((l ∷ r) ∷ R) e f s = and-false (x && true)
lone_step false x k (r ∷ R) e f s = ap (λ v. v && (is_one_space r && list_all is_one_space R)) (and-true x ∙ sym e)

pub lone_runs : (ks : List KeptByte)
    → (lone false ks ≡ list_all is_one_space (white_runs ks))
    × (lone true ks ≡ cond (begins_with is_white ks) false (list_all is_one_space (white_runs ks)))
lone_runs [] = (refl, refl)
lone_runs (k ∷ ks) =
    let rest = lone_runs ks in
    elim (is_white k) as
    (λ v. (cond v ((k.byte == 32 && true) && lone true ks) (lone false ks)
    ≡ list_all is_one_space (cond v (onto_runs (begins_with is_white ks) k (white_runs ks)) (white_runs ks)))
    × (cond v ((k.byte == 32 && false) && lone true ks) (lone false ks)
    ≡ cond v false
    (list_all is_one_space (cond v (onto_runs (begins_with is_white ks) k (white_runs ks)) (white_runs ks))))) [
      | true ↦ (
        ap (λ b. (k.byte == 32 && true) && b) rest.1
            ∙ lone_step (begins_with is_white ks) (k.byte == 32) k (white_runs ks) refl (filled ks).0 (filled ks).1,
        ap (λ b. b && lone true ks) (and-false (k.byte == 32)),
      )
      | false ↦ (rest.0, rest.0)
    ]
