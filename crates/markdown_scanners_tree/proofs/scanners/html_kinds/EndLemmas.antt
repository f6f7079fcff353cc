-- Names among the rows of a table, and searches for what ends an HTML block.
use Rattle.std.proofs.Common.{ℕ, zero, suc, List, [], ◌∷◌, ◌+◌, ◌-◌, ◌<◌, ◌≤◌, ◌≡◌, ◌&&◌, ◌||◌, ◌==◌, Bool, true}
use Rattle.std.proofs.Common.{false, cond, Option, Some, None, take, drop, length, get_or, refl, sym, ap, ◌∙◌, arith, inl, inr, length-drop}
use Rattle.std.specs.Prelude.{codes}
use Rattle.std.specs.Str.{str_eq_ignore_ascii_case}
use Rattle.std.proofs.lemmas.Bool.{cases_Bool}
use Rattle.std.proofs.lemmas.List.{drop_more, drop_all, drop-drop}
use denote.Ref.{Bor}
use Rattle.memchr.specs.Find.{Nowhere, NoneBefore, Passes, is_byte}
use Rattle.markdown_scanners_tree.specs.Bytes.{begins_with}
use Rattle.markdown_scanners_tree.specs.declared.scanners.html_kinds.HtmlBlockKind.{HtmlBlockKind}
use Rattle.markdown_scanners_tree.specs.declared.scanners.html_kinds.HtmlBlockKind.TheVariants.{RawText, Comment, Processing, Declaration, Cdata, BlockName, TagAlone}
use Rattle.markdown_scanners_tree.specs.scanners.html_block.private.BlockRows.{texts}
use Rattle.markdown_scanners_tree.specs.scanners.html_kinds.HtmlKinds.{begins_with_text, name_among, raw_text_names, begins_html_end, is_somewhere}
use Rattle.markdown_scanners_tree.specs.scanners.html_kinds.private.Marks.{first_of_end}
use Rattle.markdown_scanners_tree.proofs.PrefixLemmas.{both_true, from_offset}

-- a row that does not stand at the front is passed over
pub name_next : (rows : List (Bor (List ℕ))) (row : Bor (List ℕ)) (bytes : List ℕ) (i : ℕ) {answer : _}
    → i < length rows
    → str_eq_ignore_ascii_case (take (length (get_or rows i row).now) bytes) (get_or rows i row).now ≡ false
    → name_among (texts (drop i rows)) bytes ≡ answer → name_among (texts (drop (i + 1) rows)) bytes ≡ answer
name_next rows row bytes i inside other so_far =
    let others = name_among (texts (drop (i + 1) rows)) bytes in
    sym (ap (λ r. name_among (texts r) bytes) (drop_more rows i row inside)
    ∙ ap (λ t. cond t (Some (length (get_or rows i row).now)) others) other) ∙ so_far

-- what ends a block begins with the byte that is looked for
pub first_is : (kind : HtmlBlockKind) (b : ℕ) (bs : List ℕ) → begins_html_end kind (b ∷ bs) ≡ true
    → (b == first_of_end kind) ≡ true
first_is RawText b bs h = (both_true _ _ (both_true _ _ h).0).0
first_is Comment b bs h = (both_true _ _ h).0
first_is Processing b bs h = (both_true _ _ h).0
first_is Declaration b bs h = (both_true _ _ h).0
first_is Cdata b bs h = (both_true _ _ h).0
first_is BlockName b bs h = cc
first_is TagAlone b bs h = cc

module _ (test : List ℕ → Bool) where
  here : (b : ℕ) (bs : List ℕ) → test (b ∷ bs) ≡ false → is_somewhere test (b ∷ bs) ≡ is_somewhere test bs
  here b bs none = ap (λ t. t || is_somewhere test bs) none

  pub somewhere_there : (bytes : List ℕ) (k : ℕ) → k < length bytes → test (drop k bytes) ≡ true
      → is_somewhere test (drop k bytes) ≡ true
  somewhere_there bytes k inside there =
      let cut = drop_more bytes k 0 inside in
      ap (is_somewhere test) cut
      ∙ ap (λ t. t || is_somewhere test (drop (k + 1) bytes)) (ap test (sym cut) ∙ there)

  pub somewhere_later : (bytes : List ℕ) (k : ℕ) → k < length bytes → test (drop k bytes) ≡ false
      → is_somewhere test (drop k bytes) ≡ is_somewhere test (drop (k + 1) bytes)
  somewhere_later bytes k inside gone =
      let cut = drop_more bytes k 0 inside in
      ap (is_somewhere test) cut ∙ here _ _ (ap test (sym cut) ∙ gone)

  module _ (first : ℕ) (only : (b : ℕ) (bs : List ℕ) → test (b ∷ bs) ≡ true → (b == first) ≡ true) where
    none_here : (b : ℕ) (bs : List ℕ) → ¬ ((b == first) ≡ true) → test (b ∷ bs) ≡ false
    none_here b bs other = elim (cases_Bool (test (b ∷ bs))) [
      | inl passes ↦ absurd (other (only b bs passes))
      | inr fails ↦ fails
    ]

    pub somewhere_after : (bytes : List ℕ) (k : ℕ) → k ≤ length bytes → Nowhere (Passes (is_byte first) bytes) 0 k
        → is_somewhere test bytes ≡ is_somewhere test (drop k bytes)
    somewhere_after bytes zero inside none = refl
    somewhere_after [] (suc k) inside none = refl
    somewhere_after (b ∷ bs) (suc k) inside none =
        here b bs (none_here b bs (none 0 (omega arith) (omega arith)))
        ∙ somewhere_after bs k (omega arith) (λ j low high. none (suc j) (omega arith) (omega arith))

-- `>` stands after the name that was found
abbrev at_name : Option ℕ → List ℕ → Bool
at_name found bytes = elim found [ Some n ↦ begins_with (λ b. b == 62) (drop n bytes) | None ↦ false ]

pub raw_end-found : (bytes name : List ℕ) (n : ℕ) → begins_with_text (codes "</") bytes ≡ true → name ≡ drop 2 bytes
    → Some n ≡ name_among raw_text_names name
    → begins_with (λ b. b == 62) (take (length name - n) (drop n name)) ≡ begins_html_end RawText bytes
raw_end-found bytes name n opens is found =
    ap (begins_with (λ b. b == 62)) (from_offset name n)
    ∙ ap (λ t. at_name t name) found
    ∙ ap (λ z. at_name (name_among raw_text_names z) z) is
    ∙ sym (ap (λ t. t && at_name (name_among raw_text_names (drop 2 bytes)) (drop 2 bytes)) opens)

-- the three answers of a search for the first byte of what ends a block, from an offset on
module _ (kind : HtmlBlockKind) (bytes : List ℕ) (from : ℕ) where
  abbrev rest : List ℕ
  rest = take (length bytes - from) (drop from bytes)

  abbrev ends : List ℕ → Bool
  ends = is_somewhere (begins_html_end kind)

  is_first : (first : ℕ) → first ≡ first_of_end kind → (b : ℕ) (bs : List ℕ) → begins_html_end kind (b ∷ bs) ≡ true
      → (b == first) ≡ true
  is_first first e b bs h = ap (λ f. b == f) e ∙ first_is kind b bs h

  after : (k first : ℕ) → first ≡ first_of_end kind → k ≤ length rest → Nowhere (Passes (is_byte first) rest) 0 k
      → ends (drop from bytes) ≡ ends (drop (from + k) bytes)
  after k first e inside none =
      ap ends (sym (from_offset bytes from))
      ∙ somewhere_after (begins_html_end kind) first (is_first first e) rest k inside none
      ∙ ap (λ z. ends (drop k z)) (from_offset bytes from)
      ∙ ap ends (drop-drop k from bytes)

  pub search_none : (first : ℕ) → first ≡ first_of_end kind → Nowhere (Passes (is_byte first) rest) 0 (length rest)
      → ends (drop from bytes) ≡ false
  search_none first e none =
      ap ends (sym (from_offset bytes from))
      ∙ somewhere_after (begins_html_end kind) first (is_first first e) rest (length rest) (omega arith) none
      ∙ ap ends (drop_all (length rest) rest (omega arith))

  module _ (k first : ℕ) (e : first ≡ first_of_end kind)
      (found : NoneBefore (Passes (is_byte first) rest) 0 (length rest) k × Passes (is_byte first) rest k) where
    at : from + k < length bytes
    at = let size : length rest ≡ length bytes - from = ap length (from_offset bytes from) ∙ length-drop from bytes in
        let high = found.0.high in omega arith

    here_is : begins_html_end kind (take (length bytes - (from + k)) (drop (from + k) bytes))
        ≡ begins_html_end kind (drop (from + k) bytes)
    here_is = ap (begins_html_end kind) (from_offset bytes (from + k))

    pub search_found : begins_html_end kind (take (length bytes - (from + k)) (drop (from + k) bytes)) ≡ true
        → ends (drop from bytes) ≡ true
    search_found there =
        after k first e (omega (arith, found.0.high)) found.0.before
        ∙ somewhere_there (begins_html_end kind) bytes (from + k) at (sym here_is ∙ there)

    pub search_later : begins_html_end kind (take (length bytes - (from + k)) (drop (from + k) bytes)) ≡ false
        → ends (drop from bytes) ≡ ends (drop (from + k + 1) bytes)
    search_later gone =
        after k first e (omega (arith, found.0.high)) found.0.before
        ∙ somewhere_later (begins_html_end kind) bytes (from + k) at (sym here_is ∙ gone)
