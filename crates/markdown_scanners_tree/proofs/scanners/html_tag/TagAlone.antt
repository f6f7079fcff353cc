-- Without a handler a kept text is the head of the first line, so a tag is one in its line.
use Rattle.std.proofs.Common.{ℕ, suc, List, [], ◌∷◌, ◌++◌, ◌+◌, ◌-◌, ◌≤◌, ◌≡◌, true, false, cond, length, take, drop, refl, sym, ap, ◌∙◌, subst, ◌⊎◌, inl, inr, arith}
use Rattle.std.specs.List.{AllPass}
use Rattle.std.proofs.lemmas.Bool.{cases_Bool}
use Rattle.std.proofs.lemmas.List.{length-map}
use Rattle.std.proofs.Math.Seq.{drop-append_seam}
use Rattle.std.proofs.lemmas.List.Sums.{sum_by-append}
use Rattle.markdown_scanners_tree.specs.Bytes.{is_line_ending, IsBlankLine}
use Rattle.markdown_scanners_tree.specs.Kept.{KeptByte, in_line, bytes_of, kept_head, kept_text, AreSkips, line_endings}
use Rattle.markdown_scanners_tree.specs.scanners.html_tag.KeptTag.{IsKeptTag, offset_after}
use Rattle.markdown_scanners_tree.specs.scanners.html_tag.HtmlTag.{IsTag, IsTagAloneInLine, IsOpenTag, IsClosingTag}
use Rattle.markdown_scanners_tree.proofs.scanners.lines.BlankLemmas.{ends_no_line}
use Rattle.markdown_scanners_tree.proofs.PrefixLemmas.{from_offset}
use Rattle.markdown_scanners_tree.proofs.PassLemmas.{AllPass-nil, AllPass-cons, AllPass-head, AllPass-tail}
use Rattle.markdown_scanners_tree.proofs.RunLemmas.{not_true}

-- a prefix of a head: bytes that end no line, one after the other
record Plain (offset : ℕ) (source : List ℕ) (prefix : List KeptByte) : Type 0 where
  pub after : List ℕ
  pub parts : source ≡ bytes_of prefix ++ after
  pub plain : AllPass ends_no_line (bytes_of prefix)
  pub end : offset_after offset prefix ≡ offset + length prefix

plain_head : (offset b : ℕ) (bs : List ℕ) → is_line_ending b ≡ false
    → kept_head offset (b ∷ bs) ≡ in_line b offset ∷ kept_head (offset + 1) bs
plain_head offset b bs plain = rw plain refl

no_head : (offset b : ℕ) (bs : List ℕ) → is_line_ending b ≡ true → kept_head offset (b ∷ bs) ≡ []
no_head offset b bs ends = rw ends refl

plain_more : (offset b : ℕ) (bs : List ℕ) (ks : List KeptByte) → is_line_ending b ≡ false → Plain (offset + 1) bs ks
    → Plain offset (b ∷ bs) (in_line b offset ∷ ks)
plain_more offset b bs ks plain more = record {
  after = more.after;
  parts = ap (λ z. b ∷ z) more.parts;
  plain = AllPass-cons ends_no_line b (bytes_of ks) (rw plain refl) more.plain;
  end = more.end ∙ by (length ks);
}
  where
    by : (n : ℕ) → offset + 1 + n ≡ offset + suc n
    by n = omega arith

head_prefix : (offset : ℕ) (source : List ℕ) (prefix rest : List KeptByte) → kept_head offset source ≡ prefix ++ rest
    → Plain offset source prefix
head_prefix offset source [] rest e =
    record { after = source; parts = refl; plain = AllPass-nil ends_no_line; end = omega arith }
head_prefix offset [] (k ∷ ks) rest e = cc
head_prefix offset (b ∷ bs) (k ∷ ks) rest e =
    elim (cases_Bool (is_line_ending b)) [
      | inl ends ↦ absurd (let none : [] ≡ k ∷ (ks ++ rest) = sym (no_head offset b bs ends) ∙ e in cc)
      | inr plain ↦ (
          let some : in_line b offset ∷ kept_head (offset + 1) bs ≡ k ∷ (ks ++ rest) =
          sym (plain_head offset b bs plain) ∙ e in
          let head : in_line b offset ≡ k = cc in
          let tail : kept_head (offset + 1) bs ≡ ks ++ rest = cc in
          subst (λ z. Plain offset (b ∷ bs) (z ∷ ks)) head
          (plain_more offset b bs ks plain (head_prefix (offset + 1) bs ks rest tail))
          )
    ]

-- such bytes at the front of a text are kept
pub record Kept (offset : ℕ) (bytes after : List ℕ) : Type 0 where
  pub prefix : List KeptByte
  pub rest : List KeptByte
  pub begins : kept_head offset (bytes ++ after) ≡ prefix ++ rest
  pub same : bytes_of prefix ≡ bytes
  pub none : line_endings prefix ≡ 0

prefix_kept : (offset : ℕ) (bytes after : List ℕ) → AllPass ends_no_line bytes → Kept offset bytes after
prefix_kept offset [] after all =
    record { prefix = []; rest = kept_head offset after; begins = refl; same = refl; none = refl }
prefix_kept offset (b ∷ bs) after all =
    let plain : is_line_ending b ≡ false = not_true (is_line_ending b) (AllPass-head ends_no_line b bs all) in
    let more = prefix_kept (offset + 1) bs after (AllPass-tail ends_no_line b bs all) in
    record {
      prefix = in_line b offset ∷ more.prefix;
      rest = more.rest;
      begins = plain_head offset b (bs ++ after) plain ∙ ap (λ z. in_line b offset ∷ z) more.begins;
      same = ap (λ z. b ∷ z) more.same;
      none =
          sum_by-append (λ (k : KeptByte). cond k.ends_line 1 0) (in_line b offset ∷ []) more.prefix
          ∙ (let rest : line_endings more.prefix ≡ 0 = more.none in omega arith);
    }

either_tag : (bytes : List ℕ) (endings : ℕ) → IsOpenTag bytes ⊎ (IsClosingTag bytes × (endings ≤ 1)) → IsTag bytes
either_tag bytes endings (inl o) = inl o
either_tag bytes endings (inr c) = inr c.0

tag_either : (bytes : List ℕ) (endings : ℕ) → endings ≡ 0 → IsTag bytes
    → IsOpenTag bytes ⊎ (IsClosingTag bytes × (endings ≤ 1))
tag_either bytes endings none (inl o) = inl o
tag_either bytes endings none (inr c) = inr (c, omega arith)

module _ (answers : List ℕ → ℕ → Type 0) (none : (rest : List ℕ) (n : ℕ) → answers rest n → ⊥) (bytes : List ℕ) where
  no_skips : (skips : List ℕ) (kept : List KeptByte) → AreSkips answers bytes skips → kept_text bytes skips ≡ kept
      → kept_head 0 bytes ≡ kept
  no_skips [] kept s e = e
  no_skips (skip ∷ skips) kept s e = absurd (none _ _ s.1)

  pub tag_alone : (end blank : ℕ) (prefix : List KeptByte) → IsKeptTag answers bytes prefix → end ≡ offset_after 0 prefix
      → IsBlankLine (take (length bytes - end) (drop end bytes)) blank → IsTagAloneInLine bytes end
  tag_alone end blank prefix k e b =
      let p = head_prefix 0 bytes prefix k.kept.rest (no_skips k.kept.skips _ k.kept.answered k.kept.begins) in
      let sized : length (bytes_of prefix) ≡ length prefix = length-map prefix (λ x. x.byte) in
      let offset : offset_after 0 prefix ≡ 0 + length prefix = p.end in
      let n_is_length : end ≡ length (bytes_of prefix) = omega arith in
      let rest : take (length bytes - end) (drop end bytes) ≡ p.after =
      from_offset bytes end ∙ ap (λ z. drop z bytes) n_is_length ∙ ap (drop (length (bytes_of prefix))) p.parts
      ∙ drop-append_seam (bytes_of prefix) p.after in
      record {
        tag = bytes_of prefix;
        rest = p.after;
        blank = blank;
        parts = p.parts;
        tag_in_line = (either_tag (bytes_of prefix) (line_endings prefix) k.tag, p.plain);
        blank_rest = subst (λ z. IsBlankLine z blank) rest b;
        n_is_length = n_is_length;
      }

  pub kept_from_alone : (n : ℕ) → IsTagAloneInLine bytes n
      → (prefix : List KeptByte) × IsKeptTag answers bytes prefix × (offset_after 0 prefix ≡ n)
  kept_from_alone n a =
      let k = prefix_kept 0 a.tag a.rest a.tag_in_line.1 in
      let begins : kept_head 0 bytes ≡ k.prefix ++ k.rest = ap (kept_head 0) a.parts ∙ k.begins in
      let p = head_prefix 0 bytes k.prefix k.rest begins in
      let offset : offset_after 0 k.prefix ≡ 0 + length k.prefix = p.end in
      let sized : length (bytes_of k.prefix) ≡ length k.prefix = length-map k.prefix (λ x. x.byte) in
      let same : length (bytes_of k.prefix) ≡ length a.tag = ap length k.same in (
        k.prefix,
        record {
          kept = record { skips = []; rest = k.rest; answered = tt; begins = begins };
          tag =
              tag_either (bytes_of k.prefix) (line_endings k.prefix) k.none (subst IsTag (sym k.same) a.tag_in_line.0);
        },
        omega (arith, a.n_is_length),
      )

  pub no_tag_alone : ((prefix : List KeptByte) → IsKeptTag answers bytes prefix → ⊥) → (n : ℕ)
      → ¬ IsTagAloneInLine bytes n
  no_tag_alone no_tag n a = let k = kept_from_alone n a in no_tag k.0 k.1

  pub not_alone : (end : ℕ) → ((prefix : List KeptByte) → IsKeptTag answers bytes prefix → end ≡ offset_after 0 prefix)
      → ((blank : ℕ) → ¬ IsBlankLine (take (length bytes - end) (drop end bytes)) blank) → (n : ℕ)
      → ¬ IsTagAloneInLine bytes n
  not_alone end only not_blank n a =
      let k = kept_from_alone n a in
      let ends : end ≡ length a.tag = only k.0 k.1 ∙ k.2 ∙ a.n_is_length in
      let rest : take (length bytes - end) (drop end bytes) ≡ a.rest =
      from_offset bytes end ∙ ap (λ z. drop z bytes) ends ∙ ap (drop (length a.tag)) a.parts
      ∙ drop-append_seam a.tag a.rest in
      not_blank a.blank (subst (λ z. IsBlankLine z a.blank) (sym rest) a.blank_rest)
