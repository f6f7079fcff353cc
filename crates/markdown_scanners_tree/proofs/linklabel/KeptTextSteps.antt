-- One step over a kept text: past a byte or a line ending the label that comes is the one that
-- comes of the rest (`Goes`); at the end and at an opening bracket none comes, at a closing one
-- that of the bytes that were seen.
use Rattle.std.proofs.Common.{ℕ, Bool, true, false, ◌||◌, ◌&&◌, ◌==◌, not, List, [], ◌∷◌, ◌++◌, ◌≡◌, ◌+◌, Option, Some, None}
use Rattle.std.proofs.Common.{refl, sym, ◌∙◌, ap, subst, drop, cond, append_assoc, append-nil, true≢false, eqb-true}
use Rattle.markdown_scanners_tree.specs.Bytes.{begins_with, is_line_ending, is_punctuation}
use Rattle.markdown_scanners_tree.specs.Kept.{KeptByte, in_line, at_line_end, kept_head, kept_line, kept_return, line_len, kept_from, AreSkips}
use Rattle.markdown_scanners_tree.proofs.KeptStep.{kept_from-in_line, AreSkips-in_line}
use Rattle.std.proofs.lemmas.Bool.{and_parts}
use Rattle.markdown_scanners_tree.specs.linklabel.Label.{kept_units, Bracketed, preceded, bracketed, Label, label_between}

-- whether the first kept byte is punctuation
abbrev pub punctuation_next : List KeptByte → Bool
punctuation_next [] = false
punctuation_next (k ∷ ks) = is_punctuation k.byte

return_not_punctuation : (p : ℕ) (bs : List ℕ) (ks : List KeptByte) → punctuation_next (kept_return p bs ++ ks) ≡ false
return_not_punctuation p [] ks = refl
return_not_punctuation p (b ∷ bs) ks =
    elim (b == 10) as (λ v. punctuation_next
    (cond v (in_line 13 p ∷ at_line_end 10 (p + 1) ∷ []) (at_line_end 13 p ∷ []) ++ ks) ≡ false)
    [ true ↦ refl | false ↦ refl ]

line_not_punctuation : (p b : ℕ) (bs : List ℕ) (ks : List KeptByte) → is_punctuation b ≡ false
    → punctuation_next (kept_line p (b ∷ bs) ++ ks) ≡ false
line_not_punctuation p b bs ks h =
    elim (b == 10) as (λ v. punctuation_next
    (cond v (at_line_end b p ∷ []) (cond (b == 13) (kept_return p bs) (in_line b p ∷ kept_line (p + 1) bs)) ++ ks)
    ≡ false) [
      | true ↦ h
      | false ↦
          elim (b == 13) as (λ v. punctuation_next
          (cond v (kept_return p bs) (in_line b p ∷ kept_line (p + 1) bs) ++ ks) ≡ false)
          [ true ↦ return_not_punctuation p bs ks | false ↦ h ]
    ]

-- only punctuation of the source is kept as punctuation
next_from_first : (a : List ℕ → ℕ → Type 0) (p : ℕ) (bs skips : List ℕ) → AreSkips a bs skips
    → begins_with is_punctuation bs ≡ false → punctuation_next (kept_from p bs skips) ≡ false
next_from_first a p [] [] s h = refl
next_from_first a p [] (k ∷ ks) s h = absurd (true≢false (sym s.0))
next_from_first a p (b ∷ bs) [] s h =
    elim (is_line_ending b) as (λ v. punctuation_next (cond v [] (in_line b p ∷ kept_head (p + 1) bs)) ≡ false)
    [ true ↦ refl | false ↦ h ]
next_from_first a p (b ∷ bs) (k ∷ ks) s h = line_not_punctuation p b bs _ h

-- a byte that is no backslash before punctuation is a unit
kept_units-single : (k : KeptByte) (ks : List KeptByte) → (k.byte == 92 && punctuation_next ks) ≡ false
    → kept_units (k ∷ ks) ≡ (k ∷ []) ∷ kept_units ks
kept_units-single k [] h = refl
kept_units-single k (l ∷ ks) h = rw h refl

kept_units-escaped : (k l : KeptByte) (ks : List KeptByte) → k.byte ≡ 92 → is_punctuation l.byte ≡ true
    → kept_units (k ∷ l ∷ ks) ≡ (k ∷ l ∷ []) ∷ kept_units ks
kept_units-escaped k l ks e h = rw (e, h) refl

bracketed-single : (k : KeptByte) (ps : List (List KeptByte)) → (k.byte == 93) ≡ false → (k.byte == 91) ≡ false
    → bracketed ((k ∷ []) ∷ ps) ≡ preceded (k ∷ []) (bracketed ps)
bracketed-single k ps a b = rw (a, b) refl

preceded-preceded : (xs ys : List KeptByte) (b : Option Bracketed) → preceded xs (preceded ys b) ≡ preceded (xs ++ ys) b
preceded-preceded xs ys None = refl
preceded-preceded xs ys (Some b) = rw append_assoc refl

-- what stands before the bracket, where the first byte may be escaped
abbrev pub bracketed_after : Bool → List KeptByte → Option Bracketed
bracketed_after false ks = bracketed (kept_units ks)
bracketed_after true [] = None
bracketed_after true (k ∷ ks) = preceded (k ∷ []) (bracketed (kept_units ks))

-- what a label's rest makes of it, after what was seen
abbrev pub label_from : Bool → Bool → List KeptByte → ℕ → List ℕ → List ℕ → Option Label
label_from e t seen p bs skips = label_between t (preceded seen (bracketed_after e (kept_from p bs skips)))

-- the rest makes this label
pub record Goes (a : List ℕ → ℕ → Type 0) (e t : Bool) (seen : List KeptByte) (p : ℕ) (bs : List ℕ)
    (label : Label) : Type 0 where
  pub skips : List ℕ
  pub answered : AreSkips a bs skips
  pub label_is : label_from e t seen p bs skips ≡ Some label

seen_more : (t : Bool) (seen : List KeptByte) (k : KeptByte) (ks : List KeptByte)
    → (k.byte == 92 && punctuation_next ks) ≡ false → (k.byte == 93) ≡ false → (k.byte == 91) ≡ false
    → label_between t (preceded seen (bracketed (kept_units (k ∷ ks))))
    ≡ label_between t (preceded (seen ++ k ∷ []) (bracketed (kept_units ks)))
seen_more t seen k ks e c o = ap (λ ps. label_between t (preceded seen (bracketed ps))) (kept_units-single k ks e)
    ∙ ap (λ b. label_between t (preceded seen b)) (bracketed-single k (kept_units ks) c o)
    ∙ ap (label_between t) (preceded-preceded seen (k ∷ []) (bracketed (kept_units ks)))

no_escape : (a : List ℕ → ℕ → Type 0) (p b : ℕ) (bs skips : List ℕ) → AreSkips a bs skips
    → (b == 92 && begins_with is_punctuation bs) ≡ false → (b == 92 && punctuation_next (kept_from p bs skips)) ≡ false
no_escape a p b bs skips s h =
    elim (b == 92) as (λ v. (v && begins_with is_punctuation bs) ≡ false
    → (v && punctuation_next (kept_from p bs skips)) ≡ false)
    [ true ↦ λ g. next_from_first a p bs skips s g | false ↦ λ g. refl ] h

nothing : {A : Type 0} {x : A} → None ≡ Some x → ⊥
nothing e = cc

not_ending-punctuation : (c : ℕ) → is_punctuation c ≡ true → is_line_ending c ≡ false
not_ending-punctuation c h =
    let ten : (c == 10) ≡ true → ⊥ = λ e. true≢false (sym h ∙ ap is_punctuation (eqb-true c 10 e)) in
    let thirteen : (c == 13) ≡ true → ⊥ = λ e. true≢false (sym h ∙ ap is_punctuation (eqb-true c 13 e)) in
    both (c == 10) (c == 13) ten thirteen
  where
    both : (x y : Bool) → (x ≡ true → ⊥) → (y ≡ true → ⊥) → (x || y) ≡ false
    both true y f g = absurd (f refl)
    both false true f g = absurd (g refl)
    both false false f g = refl

-- past a backslash that escapes
escaping : (t : Bool) (seen : List KeptByte) (p : ℕ) (bs skips : List ℕ) → begins_with is_punctuation bs ≡ true
    → label_from false t seen p (92 ∷ bs) skips ≡ label_from true t (seen ++ in_line 92 p ∷ []) (p + 1) bs skips
escaping t seen p [] skips h = absurd (true≢false (sym h))
escaping t seen p (c ∷ cs) skips h =
    let k = in_line 92 p in
    let l = in_line c (p + 1) in
    let ks = kept_from (p + 1 + 1) cs skips in
    let next : kept_from (p + 1) (c ∷ cs) skips ≡ l ∷ ks =
    kept_from-in_line (p + 1) c cs skips (not_ending-punctuation c h) in
    ap (λ zs. label_between t (preceded seen (bracketed (kept_units zs))))
    (kept_from-in_line p 92 (c ∷ cs) skips refl ∙ ap (λ zs. k ∷ zs) next)
    ∙ ap (λ ps. label_between t (preceded seen (bracketed ps))) (kept_units-escaped k l ks refl h)
    ∙ ap (λ b. label_between t (preceded seen b))
    (sym (preceded-preceded (k ∷ []) (l ∷ []) (bracketed (kept_units ks))))
    ∙ ap (label_between t) (preceded-preceded seen (k ∷ []) (preceded (l ∷ []) (bracketed (kept_units ks))))
    ∙ ap (λ zs. label_between t (preceded (seen ++ k ∷ []) (bracketed_after true zs))) (sym next)

-- past a byte of a line that is no single bracket
module _ (a : List ℕ → ℕ → Type 0) (e t : Bool) (seen : List KeptByte) (p b : ℕ) (bs : List ℕ) (label : Label)
    (plain : is_line_ending b ≡ false) (close : e ≡ false → (b == 93) ≡ false) (opening : e ≡ false → (b == 91) ≡ false)
  where
    abbrev after_byte : Bool
    after_byte = not e && (b == 92 && begins_with is_punctuation bs)

    step : (skips : List ℕ) → AreSkips a bs skips
        → label_from e t seen p (b ∷ bs) skips ≡ label_from after_byte t (seen ++ in_line b p ∷ []) (p + 1) bs skips
    step skips s = by e close opening
      where
        single : (c : (b == 93) ≡ false) (o : (b == 91) ≡ false) (v : Bool)
            → (b == 92 && begins_with is_punctuation bs) ≡ v
            → label_from false t seen p (b ∷ bs) skips ≡ label_from v t (seen ++ in_line b p ∷ []) (p + 1) bs skips
        single c o true h =
            subst (λ n. label_from false t seen p (n ∷ bs) skips
            ≡ label_from true t (seen ++ in_line n p ∷ []) (p + 1) bs skips)
            (sym (eqb-true b 92 (and_parts (b == 92) _ h).0)) (escaping t seen p bs skips (and_parts (b == 92) _ h).1)
        single c o false h =
            ap (λ ks. label_between t (preceded seen (bracketed (kept_units ks))))
            (kept_from-in_line p b bs skips plain)
            ∙ seen_more t seen (in_line b p) (kept_from (p + 1) bs skips) (no_escape a (p + 1) b bs skips s h) c o

        by : (e : Bool) → (e ≡ false → (b == 93) ≡ false) → (e ≡ false → (b == 91) ≡ false)
            → label_from e t seen p (b ∷ bs) skips
            ≡ label_from (not e && (b == 92 && begins_with is_punctuation bs)) t (seen ++ in_line b p ∷ []) (p + 1) bs
            skips
        by true c o =
            ap (λ ks. label_between t (preceded seen (bracketed_after true ks))) (kept_from-in_line p b bs skips plain)
            ∙ ap (label_between t) (preceded-preceded seen (in_line b p ∷ [])
            (bracketed (kept_units (kept_from (p + 1) bs skips))))
        by false c o = single (c refl) (o refl) (b == 92 && begins_with is_punctuation bs) refl

    pub past_byte : Goes a e t seen p (b ∷ bs) label → Goes a after_byte t (seen ++ in_line b p ∷ []) (p + 1) bs label
    past_byte g =
        let s : AreSkips a bs g.skips = subst (λ X. X) (AreSkips-in_line a b bs g.skips plain) g.answered in
        record { skips = g.skips; answered = s; label_is = sym (step g.skips s) ∙ g.label_is }

    pub at_byte : Goes a after_byte t (seen ++ in_line b p ∷ []) (p + 1) bs label → Goes a e t seen p (b ∷ bs) label
    at_byte g = record {
      skips = g.skips;
      answered = subst (λ X. X) (sym (AreSkips-in_line a b bs g.skips plain)) g.answered;
      label_is = step g.skips g.answered ∙ g.label_is;
    }

module _ (a : List ℕ → ℕ → Type 0) (t : Bool) (seen : List KeptByte) (p : ℕ) (label : Label) where
  -- at the end, and at an opening bracket, there is no label
  pub no_label_at_end : (e : Bool) → Goes a e t seen p [] label → ⊥
  no_label_at_end e g = by e g.skips g.answered g.label_is
    where
      by : (e : Bool) (skips : List ℕ) → AreSkips a [] skips → label_from e t seen p [] skips ≡ Some label → ⊥
      by true [] s h = nothing h
      by false [] s h = nothing h
      by e (k ∷ ks) s h = true≢false (sym s.0)

  pub no_label_at_opening : (bs : List ℕ) → Goes a false t seen p (91 ∷ bs) label → ⊥
  no_label_at_opening bs g =
      nothing (sym (ap (λ ks. label_between t (preceded seen (bracketed (kept_units ks))))
      (kept_from-in_line p 91 bs g.skips refl)
      ∙ ap (λ ps. label_between t (preceded seen (bracketed ps))) (kept_units-single (in_line 91 p) _ refl))
      ∙ g.label_is)

  closing : (bs skips : List ℕ)
      → label_from false t seen p (93 ∷ bs) skips ≡ label_between t (Some (record { content = seen; close = p }))
  closing bs skips =
      ap (λ ks. label_between t (preceded seen (bracketed (kept_units ks)))) (kept_from-in_line p 93 bs skips refl)
      ∙ ap (λ ps. label_between t (preceded seen (bracketed ps))) (kept_units-single (in_line 93 p) _ refl)
      ∙ ap (λ c. label_between t (Some (record { content = c; close = p }))) (append-nil seen)

  -- at the closing bracket the label is that of what was seen
  pub label_at_closing : (bs : List ℕ) → Goes a false t seen p (93 ∷ bs) label
      → label_between t (Some (record { content = seen; close = p })) ≡ Some label
  label_at_closing bs g = sym (closing bs g.skips) ∙ g.label_is

  pub closing_label : (bs : List ℕ) → label_between t (Some (record { content = seen; close = p })) ≡ Some label
      → Goes a false t seen p (93 ∷ bs) label
  closing_label bs e = record { skips = []; answered = tt; label_is = closing bs [] ∙ e }

return_seen : (t : Bool) (seen : List KeptByte) (p : ℕ) (bs : List ℕ) (ks : List KeptByte)
    → label_between t (preceded seen (bracketed (kept_units (kept_return p bs ++ ks))))
    ≡ label_between t (preceded (seen ++ kept_return p bs) (bracketed (kept_units ks)))
return_seen t seen p [] ks = seen_more t seen (at_line_end 13 p) ks refl refl refl
return_seen t seen p (b ∷ bs) ks =
    elim (b == 10) as (λ v. label_between t
    (preceded seen
    (bracketed (kept_units (cond v (in_line 13 p ∷ at_line_end 10 (p + 1) ∷ []) (at_line_end 13 p ∷ []) ++ ks))))
    ≡ label_between t
    (preceded (seen ++ cond v (in_line 13 p ∷ at_line_end 10 (p + 1) ∷ []) (at_line_end 13 p ∷ []))
    (bracketed (kept_units ks)))) [
      | true ↦ seen_more t seen (in_line 13 p) (at_line_end 10 (p + 1) ∷ ks) refl refl refl
          ∙ seen_more t (seen ++ in_line 13 p ∷ []) (at_line_end 10 (p + 1)) ks refl refl refl
          ∙ ap (λ c. label_between t (preceded c (bracketed (kept_units ks))))
          (append_assoc seen (in_line 13 p ∷ []) (at_line_end 10 (p + 1) ∷ []))
      | false ↦ seen_more t seen (at_line_end 13 p) ks refl refl refl
    ]

-- past a line ending
module _ (a : List ℕ → ℕ → Type 0) (t : Bool) (seen : List KeptByte) (p b : ℕ) (bs : List ℕ) (label : Label)
    (ends : is_line_ending b ≡ true) where
  pub ending_seen : (ks : List KeptByte)
      → label_between t (preceded seen (bracketed (kept_units (kept_line p (b ∷ bs) ++ ks))))
      ≡ label_between t (preceded (seen ++ kept_line p (b ∷ bs)) (bracketed (kept_units ks)))
  ending_seen ks = by (b == 10) (b == 13) (eqb-true b 10) (eqb-true b 13) ends
    where
      by : (x y : Bool) → (x ≡ true → b ≡ 10) → (y ≡ true → b ≡ 13) → (x || y) ≡ true
          → label_between t
          (preceded seen
          (bracketed
          (kept_units (cond x (at_line_end b p ∷ []) (cond y (kept_return p bs) (in_line b p ∷ kept_line (p + 1) bs))
          ++ ks))))
          ≡ label_between t
          (preceded (seen ++ cond x (at_line_end b p ∷ [])
          (cond y (kept_return p bs) (in_line b p ∷ kept_line (p + 1) bs))) (bracketed (kept_units ks)))
      by true y f g h = let e = f refl in seen_more t seen (at_line_end b p) ks (rw e refl) (rw e refl) (rw e refl)
      by false true f g h = return_seen t seen p bs ks
      by false false f g h = absurd (true≢false (sym h))

  pub past_ending : (k : ℕ) → ((m : ℕ) → a (drop (line_len (b ∷ bs)) (b ∷ bs)) m → m ≡ k)
      → Goes a false t seen p (b ∷ bs) label
      → Goes a false t (seen ++ kept_line p (b ∷ bs)) (p + (line_len (b ∷ bs) + k))
      (drop (line_len (b ∷ bs) + k) (b ∷ bs)) label
  past_ending k one g = by g.skips g.answered g.label_is
    where
      by : (skips : List ℕ) → AreSkips a (b ∷ bs) skips → label_from false t seen p (b ∷ bs) skips ≡ Some label
          → Goes a false t (seen ++ kept_line p (b ∷ bs)) (p + (line_len (b ∷ bs) + k))
          (drop (line_len (b ∷ bs) + k) (b ∷ bs)) label
      by [] s e = absurd (nothing (rw ends at e))
      by (m ∷ ms) s e =
          subst (λ n. Goes a false t (seen ++ kept_line p (b ∷ bs)) (p + (line_len (b ∷ bs) + n))
          (drop (line_len (b ∷ bs) + n) (b ∷ bs)) label) (one m s.1)
          (record {
            skips = ms;
            answered = s.2;
            label_is =
                sym (ending_seen (kept_from (p + (line_len (b ∷ bs) + m)) (drop (line_len (b ∷ bs) + m) (b ∷ bs)) ms))
                ∙ e;
          })

  pub at_ending : (k : ℕ) → a (drop (line_len (b ∷ bs)) (b ∷ bs)) k
      → Goes a false t (seen ++ kept_line p (b ∷ bs)) (p + (line_len (b ∷ bs) + k))
      (drop (line_len (b ∷ bs) + k) (b ∷ bs)) label → Goes a false t seen p (b ∷ bs) label
  at_ending k h g = record {
    skips = k ∷ g.skips;
    answered = (rw ends refl, h, g.answered);
    label_is = ending_seen (kept_from (p + (line_len (b ∷ bs) + k)) (drop (line_len (b ∷ bs) + k) (b ∷ bs)) g.skips)
        ∙ g.label_is;
  }

  pub no_label_at_ending : ((m : ℕ) → a (drop (line_len (b ∷ bs)) (b ∷ bs)) m → ⊥)
      → Goes a false t seen p (b ∷ bs) label → ⊥
  no_label_at_ending none g = by g.skips g.answered g.label_is
    where
      by : (skips : List ℕ) → AreSkips a (b ∷ bs) skips → label_from false t seen p (b ∷ bs) skips ≡ Some label → ⊥
      by [] s e = nothing (rw ends at e)
      by (m ∷ ms) s e = none m s.1
