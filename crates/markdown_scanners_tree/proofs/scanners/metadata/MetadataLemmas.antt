-- Metadata blocks: lines of three, the first line, and a later line that closes.
use Rattle.std.specs.Prelude.{◌≡◌, ◌⊎◌, ℕ, zero, suc, ◌+◌, ◌-◌, ◌<◌, true, false, ◌==◌, List, [], ◌∷◌, ◌++◌, length, take, drop, get_or, refl, Some, None}
use Rattle.std.proofs.Common.{sym, ap, subst, ◌∙◌, arith, inl, inr, add-one}
use Rattle.std.specs.List.{prefix_len}
use Rattle.std.proofs.lemmas.Bool.{cases_Bool, eqb-true}
use Rattle.std.proofs.lemmas.Bool.Decides.{nat_tests}
use Rattle.std.proofs.lemmas.List.Folds.{length-prefix_len}
use Rattle.std.proofs.lemmas.List.{take-append-drop, drop-drop, length-drop, get_or-drop}
use Rattle.std.proofs.Math.Seq.{drop-append_seam, drop-cons}
use Rattle.memchr.specs.Find.{Nowhere, NoneBefore, Passes, is_byte}
use Rattle.markdown_scanners_tree.specs.Ascii.{line_feed, hyphen, full_stop}
use Rattle.markdown_scanners_tree.specs.Bytes.{begins_with, line_ending, IsBlankLine}
use Rattle.markdown_scanners_tree.specs.scanners.Lines.{is_no_line_feed}
use Rattle.markdown_scanners_tree.specs.scanners.Metadata.{is_closing_byte, IsLineOfThree, is_after_opening, IsOpeningLine, IsClosingMetadataBlock, HasLaterClose, IsBlockOf}
use Rattle.markdown_scanners_tree.proofs.PrefixLemmas.{from_offset, list_all-prefix, prefix_len-parts}
use Rattle.markdown_scanners_tree.proofs.ScanLemmas.{prefix_len-found, prefix_len-not_found}
use Rattle.markdown_scanners_tree.proofs.RunLemmas.{run-scanned, run-only, prefix-only}

-- lines of exactly three of a byte, by what the scans answered
module _ (bytes : List ℕ) (byte run : ℕ) (is_run : run ≡ prefix_len (λ b. b == byte) bytes) where
  pub three-other : ¬ (run ≡ 3) → (n : ℕ) → ¬ IsLineOfThree byte bytes n
  three-other other n line =
      let only = run-only byte bytes line.run line.rest line.is_run in
      other (is_run ∙ sym only.0 ∙ line.exactly_three)

  pub three-scanned : (space ending : ℕ) → run ≡ 3 → space ≡ prefix_len (λ b. b == 32) (drop 3 bytes)
      → line_ending (drop space (drop 3 bytes)) ≡ Some ending → IsLineOfThree byte bytes (3 + space)
  three-scanned space ending three is_space ends =
      let scanned = run-scanned byte bytes 3 (sym three ∙ is_run) in
      let rest = drop 3 bytes in
      let counted : length (take space rest) ≡ space = rw is_space (length-prefix_len (λ b. b == 32) rest) in
      record {
        run = take 3 bytes;
        rest = rest;
        spaces = take space rest;
        after = drop space rest;
        is_run = scanned.0;
        exactly_three = scanned.1;
        parts = sym (take-append-drop space rest);
        spaces_only = rw is_space (list_all-prefix (λ b. b == 32) rest);
        ending = ending;
        ends = ends;
        counted = omega (arith, counted);
      }

  pub three-open : (space : ℕ) → run ≡ 3 → space ≡ prefix_len (λ b. b == 32) (drop 3 bytes)
      → line_ending (drop space (drop 3 bytes)) ≡ None → (n : ℕ) → ¬ IsLineOfThree byte bytes n
  three-open space three is_space ends n line =
      let only = run-only byte bytes line.run line.rest line.is_run in
      let rest : line.rest ≡ drop 3 bytes = only.1 ∙ ap (λ n. drop n bytes) (sym is_run ∙ three) in
      let longest = prefix-only (λ b. b == 32) refl refl line.rest line.spaces line.after line.ending line.parts
      line.spaces_only line.ends in
      let after : line.after ≡ drop space (drop 3 bytes) = longest.1 ∙ (rw (rest, is_space) refl) in
      let some : line_ending (drop space (drop 3 bytes)) ≡ Some line.ending =
      ap line_ending (sym after) ∙ line.ends in
      cc

-- A line that closes a block is made of the byte that opened it, or of dots after `-`.
pub not_closing : (bytes : List ℕ) (opening : ℕ) → ¬ (opening ≡ hyphen) → ((n : ℕ) → ¬ IsLineOfThree opening bytes n)
    → (n : ℕ) → ¬ IsClosingMetadataBlock bytes opening n
not_closing bytes opening other none n close =
    let same : close.byte ≡ opening = same_byte opening close.byte other close.closing in
    none n (subst (λ b. IsLineOfThree b bytes n) same close.line)
  where
    same_byte : (opening byte : ℕ) → ¬ (opening ≡ hyphen) → is_closing_byte opening byte ≡ true → byte ≡ opening
    same_byte opening byte other closing = grind (arith, nat_tests)

pub closing-dots : (bytes : List ℕ) (opening : ℕ) → opening ≡ hyphen → (n : ℕ) → IsLineOfThree full_stop bytes n
    → IsClosingMetadataBlock bytes opening n
closing-dots bytes opening is_hyphen n line = record { byte = full_stop; closing = rw is_hyphen refl; line = line }

pub not_closing-dots : (bytes : List ℕ) (opening : ℕ) → ((n : ℕ) → ¬ IsLineOfThree opening bytes n)
    → ((n : ℕ) → ¬ IsLineOfThree full_stop bytes n) → (n : ℕ) → ¬ IsClosingMetadataBlock bytes opening n
not_closing-dots bytes opening none no_dots n close =
    elim (one_of opening close.byte close.closing) [
      | inl same ↦ none n (subst (λ b. IsLineOfThree b bytes n) same close.line)
      | inr dot ↦ no_dots n (subst (λ b. IsLineOfThree b bytes n) dot close.line)
    ]
  where
    one_of : (opening byte : ℕ) → is_closing_byte opening byte ≡ true → (byte ≡ opening) ⊎ (byte ≡ full_stop)
    one_of opening byte closing = elim (cases_Bool (byte == opening)) [
      | inl same ↦ inl (eqb-true byte opening same)
      | inr other ↦ inr (grind (arith, nat_tests))
    ]

-- A first line is the run of three, the longest prefix of what may follow it, and its LF.
opening-parts : (byte : ℕ) (bytes body : List ℕ) → IsOpeningLine byte bytes body
    → (prefix_len (λ b. b == byte) bytes ≡ 3)
    × (drop (prefix_len is_after_opening (drop 3 bytes)) (drop 3 bytes) ≡ line_feed ∷ body)
opening-parts byte bytes body line =
    let only = run-only byte bytes line.run line.rest line.is_run in
    let three : prefix_len (λ b. b == byte) bytes ≡ 3 = sym only.0 ∙ line.exactly_three in
    let rest : drop 3 bytes ≡ line.after ++ line_feed ∷ body =
    ap (λ n. drop n bytes) (sym three) ∙ sym only.1 ∙ line.parts in
    let whole = prefix_len-parts is_after_opening line.after (line_feed ∷ body) line.all_after_opening refl in
    (three, rw (rest, whole) (drop-append_seam line.after (line_feed ∷ body)))

opening-unique : (byte : ℕ) (bytes body other : List ℕ) → IsOpeningLine byte bytes body
    → IsOpeningLine byte bytes other → body ≡ other
opening-unique byte bytes body other line line' =
    let parts = (opening-parts byte bytes body line).1 in
    let parts' = (opening-parts byte bytes other line').1 in
    let same : line_feed ∷ body ≡ line_feed ∷ other = sym parts ∙ parts' in
    cc

first_and_rest : (bytes : List ℕ) (byte : ℕ) → begins_with (λ b. b == byte) bytes ≡ true → bytes ≡ byte ∷ drop 1 bytes
first_and_rest [] byte begins = cc
first_and_rest (b ∷ bytes) byte begins = ap (λ k. k ∷ bytes) (eqb-true b byte begins)

-- first lines, by what the scans answered
module _ (bytes : List ℕ) (byte run : ℕ) (is_run : run ≡ prefix_len (λ b. b == byte) bytes) where
  pub opening-other : ¬ (run ≡ 3) → (body : List ℕ) → ¬ IsOpeningLine byte bytes body
  opening-other other body line = other (is_run ∙ (opening-parts byte bytes body line).0)

  module _ (space : ℕ) (three : run ≡ 3) (is_space : space ≡ prefix_len is_after_opening (drop 3 bytes)) where
    pub opening-scanned : begins_with (λ b. b == line_feed) (drop (3 + space) bytes) ≡ true
        → IsOpeningLine byte bytes (drop (3 + space + 1) bytes)
    opening-scanned begins =
        let scanned = run-scanned byte bytes 3 (sym three ∙ is_run) in
        let split : drop (3 + space) bytes ≡ line_feed ∷ drop 1 (drop (3 + space) bytes) =
        first_and_rest (drop (3 + space) bytes) line_feed begins in
        let after : drop space (drop 3 bytes) ≡ line_feed ∷ drop (3 + space + 1) bytes =
        drop-drop space 3 bytes ∙ split ∙ ap (λ tail. line_feed ∷ tail) (drop-drop 1 (3 + space) bytes) in
        record {
          run = take 3 bytes;
          rest = drop 3 bytes;
          after = take space (drop 3 bytes);
          is_run = scanned.0;
          exactly_three = scanned.1;
          parts = sym (take-append-drop space (drop 3 bytes)) ∙ ap (λ tail. take space (drop 3 bytes) ++ tail) after;
          all_after_opening = rw is_space (list_all-prefix is_after_opening (drop 3 bytes));
        }

    pub opening-open : begins_with (λ b. b == line_feed) (drop (3 + space) bytes) ≡ false → (body : List ℕ)
        → ¬ IsOpeningLine byte bytes body
    opening-open stops body line =
        let after : drop (3 + space) bytes ≡ line_feed ∷ body = sym (drop-drop space 3 bytes)
        ∙ ap (λ n. drop n (drop 3 bytes)) is_space ∙ (opening-parts byte bytes body line).1 in
        let begins : begins_with (λ b. b == line_feed) (drop (3 + space) bytes) ≡ true =
        ap (begins_with (λ b. b == line_feed)) after in
        cc

-- a closing line after the LF at offset k
later-at : (opening n : ℕ) (bytes : List ℕ) (k : ℕ) → k < length bytes → get_or bytes k 0 ≡ line_feed
    → IsClosingMetadataBlock (drop (k + 1) bytes) opening n → HasLaterClose bytes opening
later-at opening n bytes k inside here close = record {
  before = take k bytes;
  after = drop (k + 1) bytes;
  n = n;
  later = sym (take-append-drop k bytes)
      ∙ ap (λ tail. take k bytes ++ tail) (drop-cons bytes k 0 inside ∙ rw (here, add-one) refl);
  closed = close;
}

-- a closing line that does not follow the first LF directly stands after it
later-skip : (opening : ℕ) (bytes : List ℕ) (k : ℕ) → prefix_len is_no_line_feed bytes ≡ k
    → ((n : ℕ) → ¬ IsClosingMetadataBlock (drop (suc k) bytes) opening n)
    → HasLaterClose bytes opening → HasLaterClose (drop (suc k) bytes) opening
later-skip opening bytes k first none close =
    skip bytes k first none close.before close.after close.n close.later close.closed
  where
    skip : (bytes : List ℕ) (k : ℕ) → prefix_len is_no_line_feed bytes ≡ k
        → ((n : ℕ) → ¬ IsClosingMetadataBlock (drop (suc k) bytes) opening n)
        → (before after : List ℕ) (n : ℕ) → bytes ≡ before ++ line_feed ∷ after
        → IsClosingMetadataBlock after opening n → HasLaterClose (drop (suc k) bytes) opening
    skip [] k first none [] after n later closed = cc
    skip [] k first none (x ∷ before) after n later closed = cc
    skip (b ∷ bytes) zero first none [] after n later closed = let same : bytes ≡ after = cc in
        absurd (none n (rw same closed))
    skip (b ∷ bytes) zero first none (x ∷ before) after n later closed =
        record { before = before; after = after; n = n; later = cc; closed = closed }
    skip (b ∷ bytes) (suc k) first none [] after n later closed =
        let feed : b ≡ line_feed = cc in
        let first_10 = rw feed at first in
        absurd (omega (arith, first_10))
    skip (b ∷ bytes) (suc k) first none (x ∷ before) after n later closed =
        let next : prefix_len is_no_line_feed bytes ≡ k = elim (cases_Bool (is_no_line_feed b)) [
          | inl goes ↦ (let more = rw goes at first in omega (arith, more))
          | inr stops ↦ absurd (let none = rw stops at first in omega (arith, none))
        ] in
        let tail : bytes ≡ before ++ line_feed ∷ after = cc in
        skip bytes k next none before after n tail closed

-- without an LF there is no later line
later-none : (opening : ℕ) (bytes : List ℕ) → prefix_len is_no_line_feed bytes ≡ length bytes
    → ¬ HasLaterClose bytes opening
later-none opening bytes none close = no_feed bytes none close.before close.after close.later
  where
    no_feed : (bytes : List ℕ) → prefix_len is_no_line_feed bytes ≡ length bytes → (before after : List ℕ)
        → bytes ≡ before ++ line_feed ∷ after → ⊥
    no_feed [] none [] after later = cc
    no_feed [] none (x ∷ before) after later = cc
    no_feed (b ∷ bytes) none [] after later =
        let feed : b ≡ line_feed = cc in
        let none_10 = rw feed at none in
        omega (arith, none_10)
    no_feed (b ∷ bytes) none (x ∷ before) after later =
        let tail : bytes ≡ before ++ line_feed ∷ after = cc in
        elim (cases_Bool (is_no_line_feed b)) [
          | inl goes ↦ (let more = rw goes at none in no_feed bytes (omega (arith, more)) before after tail)
          | inr stops ↦ (let more = rw stops at none in omega (arith, more))
        ]

-- what a search for the next LF from offset i on tells of later lines that close
module _ (opening : ℕ) (bytes : List ℕ) (i : ℕ) where
  module _ (line : ℕ) (first : NoneBefore (Passes (is_byte line_feed) (take (length bytes - i) (drop i bytes))) 0
      (length (take (length bytes - i) (drop i bytes))) line
      × Passes (is_byte line_feed) (take (length bytes - i) (drop i bytes)) line) where
    at_offset : NoneBefore (Passes (is_byte line_feed) (drop i bytes)) 0 (length (drop i bytes)) line
        × Passes (is_byte line_feed) (drop i bytes) line
    at_offset = subst (λ (rest : List ℕ). NoneBefore (Passes (is_byte line_feed) rest) 0 (length rest) line
        × Passes (is_byte line_feed) rest line) (from_offset bytes i) first

    pub line-within : i + line < length bytes
    line-within = let high = at_offset.0.high in omega (arith, high, length-drop i bytes)

    next_offset : drop (i + (line + 1)) bytes ≡ drop (suc line) (drop i bytes)
    next_offset = ap (λ n. drop (i + n) bytes) (add-one line) ∙ sym (drop-drop (suc line) i bytes)

    pub line-closed : (n : ℕ)
        → IsClosingMetadataBlock (take (length bytes - (i + (line + 1))) (drop (i + (line + 1)) bytes)) opening n
        → HasLaterClose bytes opening
    line-closed n close =
        let here : get_or bytes (i + line) 0 ≡ line_feed =
        sym (get_or-drop i bytes line 0) ∙ eqb-true (get_or (drop i bytes) line 0) line_feed at_offset.1 in
        let offset : i + (line + 1) ≡ i + line + 1 = omega arith in
        later-at opening n bytes (i + line) line-within here
        (subst (λ (rest : List ℕ). IsClosingMetadataBlock rest opening n) (from_offset bytes (i + (line + 1))
        ∙ ap (λ k. drop k bytes) offset) close)

    pub line-open : ((n : ℕ)
        → ¬ IsClosingMetadataBlock (take (length bytes - (i + (line + 1))) (drop (i + (line + 1)) bytes)) opening n)
        → HasLaterClose (drop i bytes) opening → HasLaterClose (drop (i + (line + 1)) bytes) opening
    line-open none close =
        let after : take (length bytes - (i + (line + 1))) (drop (i + (line + 1)) bytes)
        ≡ drop (suc line) (drop i bytes) = from_offset bytes (i + (line + 1)) ∙ next_offset in
        let none_there : (n : ℕ)
        → ¬ IsClosingMetadataBlock (drop (suc line) (drop i bytes)) opening n = λ n closed. none n
        (subst (λ (rest : List ℕ). IsClosingMetadataBlock rest opening n) (sym after) closed) in
        subst (λ (rest : List ℕ). HasLaterClose rest opening) (sym next_offset) (later-skip opening (drop i bytes) line
        (prefix_len-found line_feed (drop i bytes) line at_offset) none_there close)

  pub no_line : Nowhere (Passes (is_byte line_feed) (take (length bytes - i) (drop i bytes))) 0
      (length (take (length bytes - i) (drop i bytes))) → ¬ HasLaterClose (drop i bytes) opening
  no_line none =
      let none_there = subst (λ (rest : List ℕ). Nowhere (Passes (is_byte line_feed) rest) 0 (length rest))
      (from_offset bytes i) none in
      later-none opening (drop i bytes) (prefix_len-not_found line_feed (drop i bytes) none_there)

-- blocks, by what the scans of the body answered
module _ (byte : ℕ) (bytes : List ℕ) (n : ℕ) (opening : IsOpeningLine byte bytes (drop n bytes)) where
  body_is : (block : IsBlockOf byte bytes) → block.body ≡ take (length bytes - n) (drop n bytes)
  body_is block = opening-unique byte bytes block.body (drop n bytes) block.opening opening ∙ sym (from_offset bytes n)

  pub block-blank : (k : ℕ) → IsBlankLine (take (length bytes - n) (drop n bytes)) k → ¬ IsBlockOf byte bytes
  block-blank k line block =
      block.not_blank k (subst (λ (body : List ℕ). IsBlankLine body k) (sym (body_is block)) line)

  pub block-closed : (k : ℕ) → IsClosingMetadataBlock (take (length bytes - n) (drop n bytes)) byte k
      → ¬ IsBlockOf byte bytes
  block-closed k close block =
      block.not_closed k (subst (λ (body : List ℕ). IsClosingMetadataBlock body byte k) (sym (body_is block)) close)

  pub block-later : IsBlockOf byte bytes → HasLaterClose (take (length bytes - n) (drop n bytes)) byte
  block-later block = subst (λ (body : List ℕ). HasLaterClose body byte) (body_is block) block.closed

  pub block-scanned : ((k : ℕ) → ¬ IsBlankLine (take (length bytes - n) (drop n bytes)) k)
      → ((k : ℕ) → ¬ IsClosingMetadataBlock (take (length bytes - n) (drop n bytes)) byte k)
      → HasLaterClose (take (length bytes - n) (drop n bytes)) byte → IsBlockOf byte bytes
  block-scanned not_blank not_closed close = record {
    body = take (length bytes - n) (drop n bytes);
    opening = subst (λ (body : List ℕ). IsOpeningLine byte bytes body) (sym (from_offset bytes n)) opening;
    not_blank = not_blank;
    not_closed = not_closed;
    closed = close;
  }
