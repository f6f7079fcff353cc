-- ATX headings, and underlines of setext headings.
use Rattle.std.proofs.Common.{◌≡◌, ℕ, ◌+◌, ◌-◌, ◌≤◌, true, false, ◌==◌, List, [], ◌∷◌, length, take, drop, replicate, refl, sym, ap, subst, ◌∙◌, arith, inl, inr, Some}
use Rattle.std.specs.List.{prefix_len}
use Rattle.std.proofs.lemmas.Bool.{cases_Bool, eqb-true}
use Rattle.std.proofs.lemmas.List.{length-replicate}
use Rattle.std.proofs.Math.Seq.{drop-append_seam}
use Rattle.markdown_values.specs.values.Headings.{heading_number}
use Rattle.markdown_values.specs.declared.values.HeadingLevel.{HeadingLevel}
use Rattle.markdown_scanners_tree.specs.Ascii.{number_sign}
use Rattle.markdown_scanners_tree.specs.Bytes.{begins_with, ends_or_begins_with, is_white_space, IsBlankLine}
use Rattle.markdown_scanners_tree.specs.scanners.Headings.{IsAtxHeading, underline_byte, IsSetextUnderline}
use Rattle.markdown_scanners_tree.proofs.PrefixLemmas.{from_offset, prefix_len-parts}
use Rattle.markdown_scanners_tree.proofs.RunLemmas.{list_all-replicate, run-scanned, run-only, begun_by, run_begins}

-- the run of `#` of a heading has the level's number
no_hash : (rest : List ℕ) → ends_or_begins_with is_white_space rest ≡ true
    → begins_with (λ b. b == number_sign) rest ≡ false
no_hash [] ends = refl
no_hash (b ∷ rest) ends = elim (cases_Bool (b == number_sign)) [
  | inl hash ↦ absurd (let space = rw (eqb-true b number_sign hash) at ends in cc)
  | inr other ↦ other
]

pub atx-only : (bytes : List ℕ) (level : HeadingLevel) → IsAtxHeading bytes level
    → (prefix_len (λ b. b == number_sign) bytes ≡ heading_number level)
    × (ends_or_begins_with is_white_space (drop (prefix_len (λ b. b == number_sign) bytes) bytes) ≡ true)
atx-only bytes level heading =
    let hashes = replicate (heading_number level) number_sign in
    let counted : length hashes ≡ heading_number level = length-replicate (heading_number level) number_sign in
    let run : prefix_len (λ b. b == number_sign) bytes ≡ length hashes =
    ap (prefix_len (λ b. b == number_sign)) heading.parts
    ∙ prefix_len-parts (λ b. b == number_sign) hashes heading.rest (list_all-replicate (λ b. b == number_sign)
    (heading_number level) number_sign refl) (no_hash heading.rest heading.ends) in
    let rest : drop (prefix_len (λ b. b == number_sign) bytes) bytes ≡ heading.rest =
    ap (λ n. drop n bytes) run ∙ ap (drop (length hashes)) heading.parts ∙ drop-append_seam hashes heading.rest in
    (run ∙ counted, ap (ends_or_begins_with is_white_space) rest ∙ heading.ends)

pub underline-scanned : (bytes : List ℕ) (byte run blank : ℕ) (level : HeadingLevel)
    → underline_byte level ≡ Some byte → begins_with (λ b. b == byte) bytes ≡ true
    → run ≡ prefix_len (λ b. b == byte) bytes → IsBlankLine (take (length bytes - run) (drop run bytes)) blank
    → IsSetextUnderline bytes (run + blank) level
underline-scanned bytes byte run blank level of_level begins is_run line =
    let scanned = run-scanned byte bytes run is_run in
    record {
      byte = byte;
      run = take run bytes;
      rest = drop run bytes;
      blank = blank;
      of_level = of_level;
      is_run = scanned.0;
      at_least_one = let some = run_some bytes begins in omega (arith, scanned.1, is_run, some);
      blank_rest = subst (λ (rest : List ℕ). IsBlankLine rest blank) (from_offset bytes run) line;
      counted = ap (λ n. n + blank) (sym scanned.1);
    }
  where
    run_some : (bytes : List ℕ) → begins_with (λ b. b == byte) bytes ≡ true → 1 ≤ prefix_len (λ b. b == byte) bytes
    run_some [] begins = cc
    run_some (b ∷ bytes) begins = let first : (b == byte) ≡ true = begins in rw first (omega arith)

pub underline-open : (bytes : List ℕ) (byte run : ℕ) → begins_with (λ b. b == byte) bytes ≡ true
    → run ≡ prefix_len (λ b. b == byte) bytes
    → ((n : ℕ) → ¬ IsBlankLine (take (length bytes - run) (drop run bytes)) n) → (n : ℕ) (level : HeadingLevel)
    → ¬ IsSetextUnderline bytes n level
underline-open bytes byte run begins is_run none n level line =
    let only = run-only line.byte bytes line.run line.rest line.is_run in
    let same : line.byte ≡ byte =
    begun_by bytes line.byte byte (run_begins line.byte bytes line.run line.rest line.is_run line.at_least_one) begins in
    let rest : line.rest ≡ drop run bytes =
    only.1 ∙ ap (λ k. drop (prefix_len (λ b. b == k) bytes) bytes) same ∙ ap (λ n. drop n bytes) (sym is_run) in
    none line.blank
    (subst (λ (rest : List ℕ). IsBlankLine rest line.blank) (rest ∙ sym (from_offset bytes run)) line.blank_rest)
