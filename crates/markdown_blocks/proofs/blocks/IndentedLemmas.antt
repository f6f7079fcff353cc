-- Indented code, line by line: what is taken, and the blank lines that are seen after it.
use Rattle.std.proofs.Common.{ℕ, true, false, ◌⊎◌, length, List, [], ◌∷◌, ◌++◌, ◌≡◌, inl, inr, drop, refl, sym, ap, ◌∙◌, append_assoc, append-nil}
use Rattle.std.specs.List.{AllByRecursion}
use Rattle.std.proofs.lemmas.Bool.{cases_Bool}
use Rattle.std.proofs.lemmas.Bool.Decides.{eqb_tells}
use Rattle.std.proofs.Math.Dec.{eqb}
use Rattle.markdown_scanners_tree.specs.scanners.TextLines.{lines_of}
use Rattle.markdown_blocks.specs.blank_lines.BlankLines.{is_blank}
use Rattle.markdown_blocks.specs.containers.Containers.{OpenContainers, match_line, IsInside, rest_in}
use Rattle.markdown_blocks.specs.declared.blocks.Ending.TheVariants.{Text}
use Rattle.markdown_blocks.specs.declared.taken.Extent.{Extent}
use Rattle.markdown_blocks.specs.taken.Lines.{IsTaken, IsNext}
use Rattle.markdown_blocks.specs.blocks.Endings.{IsEnd}
use Rattle.markdown_blocks.specs.blocks.Leaves.{HasIndent, In, IsBlankIn, EndsIndented, NoMoreIndented, LastHasText, GoesOnIndented}
use Rattle.markdown_blocks.proofs.taken.TakenLemmas.{taken-next, all-push}

all-append : (P : List ℕ → Type 0) (xs ys : List (List ℕ)) → AllByRecursion P xs → AllByRecursion P ys → AllByRecursion P (xs ++ ys)
all-append P [] ys all more = more
all-append P (x ∷ xs) ys all more = (all.0, all-append P xs ys all.1 more)

module _ (outer : OpenContainers) where
  abbrev Inside : List ℕ → Type 0
  Inside line = ¬ EndsIndented outer.containers line

  blank_line_inside : (line : List ℕ) → IsBlankIn outer.containers line → Inside line
  blank_line_inside line blank (inl out) = out blank.0
  blank_line_inside line blank (inr here) = here.1.0 blank.1

  -- a line with text, and an indent or none
  pub code_inside : (line : List ℕ) → In outer.containers HasIndent line → ¬ EndsIndented outer.containers line
  code_inside line here (inl out) = out here.0
  code_inside line here (inr near) = near.1.1 here.1

  pub code_has_text : (line : List ℕ) → IsEnd outer Text line → In outer.containers HasIndent line → ¬ IsBlankIn outer.containers line
  code_has_text line (inl out) here blank = out here.0
  code_has_text line (inr text) here blank = text.1 blank.1

  pub text_ends : (line : List ℕ) → IsEnd outer Text line → ¬ In outer.containers HasIndent line → EndsIndented outer.containers line
  text_ends line (inl out) near = inl out
  text_ends line (inr text) near = inr (text.0, (text.1, λ indent. near (text.0, indent)))

  -- a line that ends nothing by its text is blank
  pub blank_given : (line : List ℕ) → ¬ IsEnd outer Text line → IsBlankIn outer.containers line
  blank_given line none = by (eqb_tells (match_line outer.containers line).kept (length outer.containers))
      (cases_Bool (is_blank (rest_in outer.containers line).text))
    where
      by : ((eqb (match_line outer.containers line).kept (length outer.containers) ≡ true) × IsInside outer.containers line)
          ⊎ ((eqb (match_line outer.containers line).kept (length outer.containers) ≡ false) ×
          (¬ IsInside outer.containers line))
          → (is_blank (rest_in outer.containers line).text ≡ true) ⊎ (is_blank (rest_in outer.containers line).text ≡ false) → IsBlankIn outer.containers line
      by (inr out) blank = absurd (none (inl out.1))
      by (inl here) (inl blank) = (here.1, blank)
      by (inl here) (inr text) = absurd (none (inr (here.1, λ blank. let both : true ≡ false = sym blank ∙ text in cc)))

  blank_inside : (blanks : List (List ℕ)) → AllByRecursion (IsBlankIn outer.containers) blanks → AllByRecursion Inside blanks
  blank_inside [] all = tt
  blank_inside (b ∷ blanks) all = (blank_line_inside b all.0, blank_inside blanks all.1)

  last-push : (xs : List (List ℕ)) (line : List ℕ) → ¬ IsBlankIn outer.containers line → LastHasText outer.containers (xs ++ line ∷ [])
  last-push [] line text = text
  last-push (x ∷ []) line text = text
  last-push (x ∷ y ∷ xs) line text = last-push (y ∷ xs) line text

  no_more-blank : (blanks rest : List (List ℕ)) → AllByRecursion (IsBlankIn outer.containers) blanks → NoMoreIndented outer.containers rest
      → NoMoreIndented outer.containers (blanks ++ rest)
  no_more-blank [] rest all none = none
  no_more-blank (b ∷ blanks) rest all none = inl (all.0, no_more-blank blanks rest all.1 none)

  -- what is taken of the code after its first lines, and what is seen: blank lines more
  pub record Seen (text : List ℕ) (lines : List (List ℕ)) (taken seen : Extent) : Type 0 where
    pub more : List (List ℕ)
    pub blanks : List (List ℕ)
    pub is_taken : IsTaken text taken (lines ++ more)
    pub is_seen : IsTaken text seen ((lines ++ more) ++ blanks)
    pub inside : AllByRecursion Inside more
    pub last : LastHasText outer.containers more
    pub all_blank : AllByRecursion (IsBlankIn outer.containers) blanks
    pub after : lines_of (drop taken.bytes text) ≡ blanks ++ lines_of (drop seen.bytes text)

  module _ (text : List ℕ) (lines : List (List ℕ)) where
    pub seen-first : (first : Extent) → IsTaken text first lines → Seen text lines first first
    seen-first first h =
        record {
          more = [];
          blanks = [];
          is_taken = rw append-nil h;
          is_seen = rw (append-nil, append-nil) h;
          inside = tt;
          last = tt;
          all_blank = tt;
          after = refl;
        }

    pub seen-blank : (taken seen more : Extent) (l : List ℕ) → Seen text lines taken seen → IsNext text seen l more → IsBlankIn outer.containers l
        → Seen text lines taken more
    seen-blank taken seen more l s n blank = record {
      more = s.more;
      blanks = s.blanks ++ l ∷ [];
      is_taken = s.is_taken;
      is_seen = rw (← append_assoc) (taken-next text seen more ((lines ++ s.more) ++ s.blanks) l s.is_seen n);
      inside = s.inside;
      last = s.last;
      all_blank = all-push (IsBlankIn outer.containers) s.blanks l s.all_blank blank;
      after = s.after ∙ ap (λ r. s.blanks ++ r) n.parts ∙ sym (append_assoc s.blanks (l ∷ []) (lines_of (drop more.bytes text)));
    }

    pub seen-code : (taken seen more : Extent) (l : List ℕ) → Seen text lines taken seen → IsNext text seen l more → IsEnd outer Text l
        → In outer.containers HasIndent l
        → Seen text lines more more
    seen-code taken seen more l s n has_text indent =
        let all : IsTaken text more (lines ++ (s.more ++ (s.blanks ++ l ∷ []))) =
        rw (← append_assoc, ← append_assoc) (taken-next text seen more ((lines ++ s.more) ++ s.blanks) l s.is_seen n) in
        record {
          more = s.more ++ (s.blanks ++ l ∷ []);
          blanks = [];
          is_taken = all;
          is_seen = rw append-nil all;
          inside = all-append Inside s.more (s.blanks ++ l ∷ []) s.inside (all-push Inside s.blanks l (blank_inside s.blanks s.all_blank)
              (code_inside l indent));
          last = rw (← append_assoc) (last-push (s.more ++ s.blanks) l (code_has_text l has_text indent));
          all_blank = tt;
          after = refl;
        }

    -- the code ends where its taken lines do
    pub seen-ends : (taken seen : Extent) → Seen text lines taken seen → NoMoreIndented outer.containers (lines_of (drop seen.bytes text))
        → (more : List (List ℕ)) × IsTaken text taken (lines ++ more) × GoesOnIndented outer.containers more (lines_of (drop taken.bytes text))
    seen-ends taken seen s none = (
      s.more,
      s.is_taken,
      record {
        inside = s.inside;
        last = s.last;
        stopped = rw s.after (no_more-blank s.blanks (lines_of (drop seen.bytes text)) s.all_blank none);
      },
    )
