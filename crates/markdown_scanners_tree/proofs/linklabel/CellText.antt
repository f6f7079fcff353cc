-- What a kept byte adds to the text that is still to be written of a label: white space adds
-- nothing, a byte of a word adds itself, and a backslash that a cell of a table drops adds nothing.
use Rattle.std.proofs.Common.{ℕ, Bool, true, false, ◌||◌, ◌&&◌, ◌==◌, List, [], ◌∷◌, ◌++◌, ◌≡◌, ◌+◌, refl, sym, ◌∙◌, ap, subst, cond, append_assoc}
use Rattle.std.proofs.Common.{true≢false, eqb-true, eq-eqb}
use Rattle.std.proofs.Math.Bool.{and-true, and-false, and-or_distrib_left}
use Rattle.std.proofs.lemmas.Bool.{and_parts}
use Rattle.markdown_scanners_tree.specs.Bytes.{begins_with, is_line_ending, is_white_space}
use Rattle.markdown_scanners_tree.specs.Ascii.{space, backslash}
use Rattle.markdown_scanners_tree.specs.Kept.{KeptByte, in_line, at_line_end, kept_line, kept_return}
use Rattle.markdown_scanners_tree.specs.scanners.tables.DelimiterRow.{is_pipe}
use Rattle.markdown_scanners_tree.specs.linklabel.Label.{is_white, pipe_at, without_pipe_backslashes, has_pipe_backslash, in_cell}
use Rattle.markdown_scanners_tree.specs.linklabel.private.Pass.{starts_dropped}
use Rattle.markdown_scanners_tree.proofs.linklabel.JoinedWords.{text_from}

-- these kept bytes begin with a pipe exactly where the source does
abbrev pub Follows : ℕ → List ℕ → List KeptByte → Type 0
Follows ix rest ks = pipe_at ix ks ≡ begins_with is_pipe rest

pub follows_byte : (ix b : ℕ) (bs : List ℕ) (ks : List KeptByte) → Follows ix (b ∷ bs) (in_line b ix ∷ ks)
follows_byte ix b bs ks = ap (λ v. b == 124 && v) (eq-eqb ix ix refl) ∙ and-true (b == 124)

-- whether the first kept byte is a backslash that a cell drops
abbrev dropped : KeptByte → List KeptByte → Bool
dropped k ks = k.byte == backslash && pipe_at (k.offset + 1) ks

in_cell-cons : (t : Bool) (k : KeptByte) (ks : List KeptByte)
    → in_cell t (k ∷ ks) ≡ cond (t && dropped k ks) (in_cell t ks) (k ∷ in_cell t ks)
in_cell-cons true k ks = refl
in_cell-cons false k ks = refl

has_dropped-cons : (t : Bool) (k : KeptByte) (ks : List KeptByte)
    → (t && has_pipe_backslash (k ∷ ks)) ≡ ((t && dropped k ks) || (t && has_pipe_backslash ks))
has_dropped-cons t k ks = and-or_distrib_left t (dropped k ks) (has_pipe_backslash ks)

-- of a byte of the source
dropped_is : (t : Bool) (ix b : ℕ) (bs : List ℕ) (ks : List KeptByte) → Follows (ix + 1) bs ks
    → (t && dropped (in_line b ix) ks) ≡ starts_dropped t (b ∷ bs)
dropped_is t ix b bs ks f = ap (λ v. t && (b == 92 && v)) f

-- a byte that is no backslash is not dropped
no_backslash : (k : KeptByte) (ks : List KeptByte) → (k.byte == backslash) ≡ false → (t : Bool)
    → in_cell t (k ∷ ks) ≡ k ∷ in_cell t ks
no_backslash k ks h t = in_cell-cons t k ks
    ∙ ap (λ v. cond v (in_cell t ks) (k ∷ in_cell t ks))
    (ap (λ v. t && (v && pipe_at (k.offset + 1) ks)) h ∙ and-false t)

pub white_no_backslash : (b : ℕ) → is_white_space b ≡ true → (b == backslash) ≡ false
white_no_backslash b w = by (b == 92) (eqb-true b 92)
  where
    by : (x : Bool) → (x ≡ true → b ≡ 92) → x ≡ false
    by true f = absurd (true≢false (sym w ∙ ap is_white_space (f refl)))
    by false f = refl

-- white space is left out
pub text_from-white : (t has_word in_run : Bool) (k : KeptByte) (ks : List KeptByte) → is_white k ≡ true
    → text_from has_word in_run (in_cell t (k ∷ ks)) ≡ text_from has_word true (in_cell t ks)
text_from-white t has_word in_run k ks w =
    ap (text_from has_word in_run) (no_backslash k ks (white_no_backslash k.byte w) t) ∙ rw w refl

abbrev pub space_of : Bool → Bool → List ℕ
space_of has_word in_run = cond (has_word && in_run) (space ∷ []) []

word_first : (has_word in_run : Bool) (k : KeptByte) (ks : List KeptByte) → is_white k ≡ false
    → text_from has_word in_run (k ∷ ks) ≡ space_of has_word in_run ++ (k.byte ∷ text_from true false ks)
word_first has_word in_run k ks w =
    ap (λ v. cond v (text_from has_word true ks)
    (cond (has_word && in_run) (32 ∷ k.byte ∷ text_from true false ks) (k.byte ∷ text_from true false ks))) w
    ∙ elim (has_word && in_run) as
    (λ v. cond v (32 ∷ k.byte ∷ text_from true false ks) (k.byte ∷ text_from true false ks)
    ≡ cond v (32 ∷ []) [] ++ (k.byte ∷ text_from true false ks)) [ true ↦ refl | false ↦ refl ]

-- a pipe begins or goes on with a word
pipe_first : (t has_word in_run : Bool) (p : ℕ) (ks : List KeptByte) → pipe_at p ks ≡ true
    → text_from has_word in_run (in_cell t ks) ≡ space_of has_word in_run ++ text_from true false (in_cell t ks)
pipe_first t has_word in_run p [] h = absurd (true≢false (sym h))
pipe_first t has_word in_run p (k ∷ ks) h =
    let e : k.byte ≡ 124 = eqb-true k.byte 124 (and_parts (k.byte == 124) (k.offset == p) h).0 in
    let w : is_white k ≡ false = ap is_white_space e in
    let c : in_cell t (k ∷ ks) ≡ k ∷ in_cell t ks = no_backslash k ks (ap (λ b. b == 92) e) t in
    ap (text_from has_word in_run) c ∙ word_first has_word in_run k (in_cell t ks) w
    ∙ ap (λ z. space_of has_word in_run ++ z)
    (sym (ap (text_from true false) c ∙ word_first true false k (in_cell t ks) w))

-- a word's byte is written, or dropped before a pipe
pub text_from-word : (t has_word in_run : Bool) (ix b : ℕ) (bs : List ℕ) (ks : List KeptByte) → is_white_space b ≡ false
    → Follows (ix + 1) bs ks
    → text_from has_word in_run (in_cell t (in_line b ix ∷ ks))
    ≡ (space_of has_word in_run ++ cond (starts_dropped t (b ∷ bs)) [] (b ∷ [])) ++ text_from true false (in_cell t ks)
text_from-word t has_word in_run ix b bs ks w f =
    ap (text_from has_word in_run)
    (in_cell-cons t (in_line b ix) ks
    ∙ ap (λ v. cond v (in_cell t ks) (in_line b ix ∷ in_cell t ks)) (dropped_is t ix b bs ks f))
    ∙ by (starts_dropped t (b ∷ bs)) refl
    ∙ sym (append_assoc (space_of has_word in_run) (cond (starts_dropped t (b ∷ bs)) [] (b ∷ []))
    (text_from true false (in_cell t ks)))
  where
    by : (v : Bool) → (t && (b == 92 && begins_with is_pipe bs)) ≡ v
        → text_from has_word in_run (cond v (in_cell t ks) (in_line b ix ∷ in_cell t ks))
        ≡ space_of has_word in_run ++ (cond v [] (b ∷ []) ++ text_from true false (in_cell t ks))
    by true h = pipe_first t has_word in_run (ix + 1) ks (f ∙ (and_parts (b == 92) _ (and_parts t _ h).1).1)
    by false h = word_first has_word in_run (in_line b ix) (in_cell t ks) w

-- what is known of dropped backslashes
pub has_dropped-byte : (t : Bool) (ix b : ℕ) (bs : List ℕ) (ks : List KeptByte) → Follows (ix + 1) bs ks
    → (t && has_pipe_backslash (in_line b ix ∷ ks)) ≡ (starts_dropped t (b ∷ bs) || (t && has_pipe_backslash ks))
has_dropped-byte t ix b bs ks f = has_dropped-cons t (in_line b ix) ks
    ∙ ap (λ v. v || (t && has_pipe_backslash ks)) (dropped_is t ix b bs ks f)

has_dropped-white : (k : KeptByte) (ks : List KeptByte) → is_white k ≡ true
    → has_pipe_backslash (k ∷ ks) ≡ has_pipe_backslash ks
has_dropped-white k ks w =
    ap (λ v. (v && pipe_at (k.offset + 1) ks) || has_pipe_backslash ks) (white_no_backslash k.byte w)

pub not_dropped-white : (t : Bool) (b : ℕ) (bs : List ℕ) → is_white_space b ≡ true → starts_dropped t (b ∷ bs) ≡ false
not_dropped-white t b bs w = ap (λ v. t && (v && begins_with is_pipe bs)) (white_no_backslash b w) ∙ and-false t

-- a line ending is white space of one or two bytes
module _ (t has_word in_run : Bool) where
  -- what it leaves to be written, that no backslash before it is dropped, and that none in it is
  pub record IsGap (ix : ℕ) (front ks : List KeptByte) : Type 0 where
    pub text : text_from has_word in_run (in_cell t (front ++ ks)) ≡ text_from has_word true (in_cell t ks)
    pub starts : pipe_at ix (front ++ ks) ≡ false
    pub drops : has_pipe_backslash (front ++ ks) ≡ has_pipe_backslash ks

  gap_of_one : (ix : ℕ) (k : KeptByte) (ks : List KeptByte) → is_white k ≡ true → (k.byte == 124) ≡ false
      → IsGap ix (k ∷ []) ks
  gap_of_one ix k ks w p = record {
    text = text_from-white t has_word in_run k ks w;
    starts = ap (λ v. v && (k.offset == ix)) p;
    drops = has_dropped-white k ks w;
  }

  gap_of_return : (ix : ℕ) (bs : List ℕ) (ks : List KeptByte) → IsGap ix (kept_return ix bs) ks
  gap_of_return ix [] ks = gap_of_one ix (at_line_end 13 ix) ks refl refl
  gap_of_return ix (b ∷ bs) ks =
      elim (b == 10) as (λ v. IsGap ix (cond v (in_line 13 ix ∷ at_line_end 10 (ix + 1) ∷ []) (at_line_end 13 ix ∷ []))
      ks) [
        | true ↦ record {
          text = text_from-white t has_word in_run (in_line 13 ix) (at_line_end 10 (ix + 1) ∷ ks) refl
              ∙ text_from-white t has_word true (at_line_end 10 (ix + 1)) ks refl;
          starts = refl;
          drops = refl;
        }
        | false ↦ gap_of_one ix (at_line_end 13 ix) ks refl refl
      ]

  pub gap_of_line : (ix b : ℕ) (bs : List ℕ) (ks : List KeptByte) → is_line_ending b ≡ true
      → IsGap ix (kept_line ix (b ∷ bs)) ks
  gap_of_line ix b bs ks ends = by (b == 10) (b == 13) (eqb-true b 10) ends
    where
      by : (x y : Bool) → (x ≡ true → b ≡ 10) → (x || y) ≡ true
          → IsGap ix (cond x (at_line_end b ix ∷ [])
          (cond y (kept_return ix bs) (in_line b ix ∷ kept_line (ix + 1) bs))) ks
      by true y f h =
          subst (λ n. IsGap ix (at_line_end n ix ∷ []) ks) (sym (f refl))
          (gap_of_one ix (at_line_end 10 ix) ks refl refl)
      by false true f h = gap_of_return ix bs ks
      by false false f h = absurd (true≢false (sym h))

-- nothing dropped: the content is read as it is
pub in_cell-same : (ks : List KeptByte) (t : Bool) → (t && has_pipe_backslash ks) ≡ false → in_cell t ks ≡ ks
in_cell-same ks false h = refl
in_cell-same [] true h = refl
in_cell-same (k ∷ ks) true h = by (dropped k ks) (λ e. in_cell-same ks true e) h
  where
    by : (v : Bool) → (has_pipe_backslash ks ≡ false → without_pipe_backslashes ks ≡ ks)
        → (v || has_pipe_backslash ks) ≡ false
        → cond v (without_pipe_backslashes ks) (k ∷ without_pipe_backslashes ks) ≡ k ∷ ks
    by true more h = absurd (true≢false h)
    by false more h = ap (λ z. k ∷ z) (more h)
