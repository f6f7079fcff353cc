-- What a label's handler skips is good where it is ASCII, as the markers of containers are; and what is asked of a
-- handler.
use Rattle.std.proofs.Common.{ℕ, zero, suc, ◌≡◌, ◌+◌, ◌-◌, ◌<◌, ◌≤◌, ◌==◌, ◌∙◌, Bool, true, false, ◌||◌, cond, List}
use Rattle.std.proofs.Common.{[], ◌∷◌, length, take, drop, get_or, nat_lt, nat_eq, refl, sym, ap, subst, arith, Option, Some, None}
use Rattle.std.specs.List.{list_all, starts_with}
use Rattle.std.specs.Fn.{FnReturnsAt, Shared}
use Rattle.std.specs.Str.{IsUtf8, IsCharBoundary}
use Rattle.std.proofs.lemmas.Bool.{eqb-true, ltb-true}
use Rattle.std.proofs.lemmas.Str.{IsCharBoundary-start, IsCharBoundary-after_ascii}
use Rattle.markdown_scanners_tree.specs.Ascii.{carriage_return, line_feed}
use Rattle.markdown_scanners_tree.specs.Bytes.{begins_with, line_ending}
use Rattle.markdown_scanners_tree.specs.Handler.{IsAfterLineEnding, IsCallableAfterLineEndings, IsSteadyAtChars, IsAsciiFront}
use Rattle.markdown_scanners_tree.specs.Kept.{line_len}
use Rattle.markdown_scanners_tree.specs.linklabel.private.NextPart.{IsEnding}
use Rattle.markdown_scanners_tree.proofs.PrefixLemmas.{both_true}
use denote.Param.Always.{always_fn}
use denote.Ref.{Bor}

-- after an ASCII byte a text may be cut
pub cut_after_ascii : (rest : List ℕ) (skip : ℕ) → IsUtf8 rest → skip ≤ length rest → 0 < skip
    → get_or rest (skip - 1) 0 < 128 → IsCharBoundary rest skip
cut_after_ascii rest skip utf8 within some ascii =
    subst (IsCharBoundary rest) (omega (arith, some)) (IsCharBoundary-after_ascii rest (skip - 1) utf8 (omega (arith, some, within)) ascii)

pub last_ascii : (rest : List ℕ) (k : ℕ) → k < length rest → list_all (λ b. nat_lt b 128) (take (suc k) rest) ≡ true
    → get_or rest k 0 < 128
last_ascii [] k inside all = absurd (omega (arith, inside))
last_ascii (b ∷ rest) zero inside all = ltb-true b 128 (both_true (nat_lt b 128) true all).0
last_ascii (b ∷ rest) (suc k) inside all =
    last_ascii rest k (omega (arith, inside)) (both_true (nat_lt b 128) (list_all (λ c. nat_lt c 128) (take (suc k) rest)) all).1

-- and after an ASCII front
pub cut_after_front : (rest : List ℕ) (skip : ℕ) → IsUtf8 rest → IsAsciiFront rest skip → IsCharBoundary rest skip
cut_after_front rest zero utf8 front = IsCharBoundary-start rest utf8
cut_after_front rest (suc k) utf8 front =
    subst (IsCharBoundary rest) (omega arith) (IsCharBoundary-after_ascii rest k utf8 (omega (arith, front.0))
    (last_ascii rest k (omega (arith, front.0)) front.1))

-- a front that `starts_with` finds
pub front_found : (rest front : List ℕ) → starts_with nat_eq rest front ≡ true
    → list_all (λ b. nat_lt b 128) front ≡ true → IsAsciiFront rest (length front)
front_found rest [] found ascii = (omega arith, refl)
front_found [] (b ∷ front) found ascii = cc
front_found (c ∷ rest) (b ∷ front) found ascii =
    let both = both_true (nat_eq b c) (starts_with nat_eq rest front) found in
    let low = both_true (nat_lt b 128) (list_all (λ x. nat_lt x 128) front) ascii in
    let first : nat_lt c 128 ≡ true = subst (λ x. nat_lt x 128 ≡ true) (eqb-true b c both.0) low.0 in
    let more = front_found rest front both.1 low.1 in
    (omega (arith, more.0), rw first more.1)

-- a handler that skips an ASCII front is good
pub steady_at_ascii : {F : Type 0} (g : Shared F (Bor (List ℕ) × Unit {0}) (Option ℕ)) (f : F)
    → ((rest : List ℕ) (a b : Option ℕ) → IsUtf8 rest → FnReturnsAt g f rest a → FnReturnsAt g f rest b → a ≡ b)
    → ((rest : List ℕ) (skip : ℕ) → IsUtf8 rest → FnReturnsAt g f rest (Some skip) → IsAsciiFront rest skip)
    → IsSteadyAtChars g f
steady_at_ascii g f one ascii = record {
  one_answer = one;
  inside = λ rest skip utf8 answers some. cut_after_front rest skip utf8 (ascii rest skip utf8 answers);
}

-- an ASCII front, and that a text may be cut after it
pub ruleset ascii_fronts = (cut_after_ascii, cut_after_front, front_found)

-- a handler that may always be called may be called after the line endings of a text
pub callable_after_line_endings : {F R : Type 0} (g : Shared F (Bor (List ℕ) × Unit {0}) R) (f : F) (text : List ℕ)
    → always_fn g f → IsCallableAfterLineEndings g f text
callable_after_line_endings g f text always = record { at = λ rest after. always.at (rest, tt) }

-- by the byte, and whether LF follows
ending_len : (lf cr next : Bool) (n : ℕ) → (lf || cr) ≡ true
    → (cond lf (Some 1) (cond cr (cond next (Some 2) (Some 1)) None) ≡ Some (cond lf 1 (cond cr (cond next 2 1) n)))
    × (0 < cond lf 1 (cond cr (cond next 2 1) n))
ending_len true cr next n h = (refl, omega arith)
ending_len false true true n h = (refl, omega arith)
ending_len false true false n h = (refl, omega arith)
ending_len false false next n h = absurd (let none : false ≡ true = h in cc)

-- after a line ending that stands next in a label
pub after_label_line : (source : List ℕ) (offset len : ℕ) → IsEnding (drop offset source) len
    → IsAfterLineEnding source (drop (offset + len) source)
after_label_line source offset len h =
    let b = h.byte in
    let some = ending_len (b == line_feed) (b == carriage_return) (begins_with (λ c. c == line_feed) h.others)
    (suc (line_len h.others)) h.ends in
    let size : len ≡ line_len (b ∷ h.others) = h.takes ∙ ap line_len h.parts in
    record {
      offset = offset;
      taken = len;
      some = rw size some.1;
      ending = ap line_ending h.parts ∙ some.0 ∙ ap Some (sym size);
      follows = refl;
    }
