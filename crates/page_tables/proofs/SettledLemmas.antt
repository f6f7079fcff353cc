-- What a formatter makes of a page, it leaves as it is.
use Rattle.std.proofs.Common.{ℕ, Bool, false, List, ◌≡◌, ◌∙◌, ap, sym, subst, refl, inl, inr}
use Rattle.std.proofs.lemmas.Bool.{false≢true}
use Rattle.std.specs.Str.{IsUtf8}
use Rattle.page_tables.specs.Formatted.{HaveSameTables, IsFormatted, IsLaidOut, IsSettled, seen_tables}
use Rattle.page_tables.specs.Layout.{laid_out}
use Rattle.page_tables.specs.Looks.{IsMade}
use Rattle.page_tables.specs.Marks.{AreMarksOf, MarkView}
use Rattle.page_tables.proofs.MarkLemmas.{one_list_of_marks}

-- a page is laid out in one way
pub one_layout : (width : List ℕ → ℕ) (page text other : List ℕ) → IsLaidOut width page text → IsLaidOut width page other → text ≡ other
one_layout width page text other h k =
    h.is_laid_out ∙ ap (laid_out width page) (one_list_of_marks page h.marks k.marks h.are_marks k.are_marks) ∙ sym k.is_laid_out

-- a page that is laid out stays as it is
pub settled_stays : (width : List ℕ → ℕ) (text other : List ℕ) → IsLaidOut width text text → IsFormatted width text other → other ≡ text
settled_stays width text other again made =
    let same = one_layout width text made.laid text made.is_laid_out again in
    elim made.is_one [
      | inl past_first_line ↦ past_first_line.1 ∙ same
      | inr unsettled ↦ unsettled.1
    ]

module _ (width : List ℕ → ℕ) (page text : List ℕ) (marks others : List MarkView)
    (h : AreMarksOf page marks) (k : AreMarksOf text others) where
  -- the tables of a past_first_line text are the same
  pub settled_same : IsSettled width page text → seen_tables page marks ≡ seen_tables text others
  settled_same past_first_line =
      let same = past_first_line.same in
      ap (seen_tables page) (one_list_of_marks page marks same.marks h same.are_marks) ∙ same.are_same
      ∙ ap (seen_tables text) (one_list_of_marks text same.others others same.are_others k)

  -- it is laid out
  pub settled_again : IsSettled width page text → laid_out width text others ≡ text
  settled_again past_first_line =
      let again = past_first_line.again in
      ap (laid_out width text) (one_list_of_marks text others again.marks k again.are_marks) ∙ sym again.is_laid_out

  -- and what has the same tables and is laid out is past_first_line
  pub settled_if : IsUtf8 text → seen_tables page marks ≡ seen_tables text others → laid_out width text others ≡ text
      → IsSettled width page text
  settled_if utf8 same again = record {
    is_text = utf8;
    same = record { marks = marks; others = others; are_marks = h; are_others = k; are_same = same };
    again = record { marks = others; are_marks = k; is_laid_out = sym again };
  }

module _ (width : List ℕ → ℕ) (page : List ℕ) (marks : List MarkView) (h : AreMarksOf page marks) where
  -- a page has its own tables
  pub same_page : HaveSameTables page page
  same_page = record { marks = marks; others = marks; are_marks = h; are_others = h; are_same = refl }

  -- one that is laid out is past_first_line
  pub stays_settled : IsUtf8 page → laid_out width page marks ≡ page → IsMade width page marks page false
  stays_settled utf8 stays =
      inl (subst (λ t. IsSettled width page t) (sym stays) (settled_if width page page marks marks h h utf8 refl stays), sym stays, refl)

  -- what is made of a page is what a formatter makes
  pub made_formatted : (text : List ℕ) (left : Bool) → IsMade width page marks text left → IsFormatted width page text
  made_formatted text left made = record {
    laid = laid_out width page marks;
    is_laid_out = record { marks = marks; are_marks = h; is_laid_out = refl };
    is_one = elim made [
      | inl past_first_line ↦ inl (past_first_line.0, past_first_line.1)
      | inr unsettled ↦ inr (unsettled.0, unsettled.1)
    ];
  }

  -- it has the same tables
  pub made_same : (text : List ℕ) (left : Bool) → IsMade width page marks text left → HaveSameTables page text
  made_same text left made = elim made [
    | inl past_first_line ↦ subst (λ t. HaveSameTables page t) (sym past_first_line.1) past_first_line.0.same
    | inr unsettled ↦ subst (λ t. HaveSameTables page t) (sym unsettled.1) same_page
  ]

  -- and if it is not left stays as it is
  pub made_again : (text other : List ℕ) → IsMade width page marks text false → IsFormatted width text other → other ≡ text
  made_again text other made next = elim made [
    | inl past_first_line ↦ settled_stays width text other (subst (λ t. IsLaidOut width t t) (sym past_first_line.1) past_first_line.0.again) next
    | inr unsettled ↦ absurd (false≢true unsettled.2)
  ]
