-- What a mark says of the emphasis and the links of a text.
use Rattle.std.proofs.Common.{ℕ, suc, Bool, true, false, ◌&&◌, ◌||◌, ◌==◌, List, [], ◌∷◌, ◌≡◌, ◌+◌, ◌⊎◌, ◌∙◌, inl, inr, refl, sym, ap, subst}
use Rattle.std.proofs.Common.{Option, Some, None, slice_get, if◌then◌else◌}
use Rattle.std.proofs.lemmas.Bool.{eqb-true, eqb-false, eq-eqb}
use Rattle.std.proofs.lemmas.Map.Keys.{any_passes_from_place}
use Rattle.markdown_scanners_tree.specs.Ascii.{tilde}
use Rattle.markdown_inlines.specs.Marks.{marks_by, ends_at, ends_link}
use Rattle.markdown_inlines.specs.declared.emphasis.Emphasis.{Emphasis}
use Rattle.markdown_inlines.specs.declared.links.Link.{Link}
use Rattle.markdown_inlines.specs.declared.marks.Mark.{Mark}
use Rattle.markdown_inlines.specs.declared.marks.Mark.TheVariants as M
use Rattle.markdown_inlines.proofs.inlines.Spans.{IsIn}

-- ---- links

-- the link text of a link ends where a link ends
pub link_there : (links : List (Option Link)) (offset : ℕ) → ends_link links offset ≡ true
    → (n : ℕ) × (link : Link) × (slice_get links n ≡ Some (Some link)) × (offset ≡ link.text.end)
link_there [] offset is = (let none : false ≡ true = is in cc)
link_there (None ∷ links) offset is =
    let later = link_there links offset is in (suc later.0, later.1, later.2, later.3)
link_there (Some link ∷ links) offset is = by (λ more. link_there links offset more) (offset == link.text.end) refl is
  where
    by : (ends_link links offset ≡ true
        → (n : ℕ) × (a : Link) × (slice_get links n ≡ Some (Some a)) × (offset ≡ a.text.end))
        → (test : Bool) → (offset == link.text.end) ≡ test → (test || ends_link links offset) ≡ true
        → (n : ℕ) × (a : Link) × (slice_get (Some link ∷ links) n ≡ Some (Some a)) × (offset ≡ a.text.end)
    by next true here is = (0, link, refl, eqb-true offset link.text.end here)
    by next false other is = let later = next is in (suc later.0, later.1, later.2, later.3)

pub ends_there : (links : List (Option Link)) (n : ℕ) (link : Link) → slice_get links n ≡ Some (Some link)
    → ends_link links link.text.end ≡ true
ends_there links n link is =
    any_passes_from_place (ends_at link.text.end) links n (Some link) is (eq-eqb link.text.end link.text.end refl)

-- ---- emphasis

-- one of these emphases, of tildes or not, with so many delimiters has one of its sides at an offset
abbrev pub HasAt : Bool → (Emphasis → ℕ) → List Emphasis → ℕ → ℕ → Type 0
HasAt struck side emphasis count offset =
    (e : Emphasis) × IsIn e emphasis × (side e ≡ offset) × (e.count ≡ count) × ((e.byte == tilde) ≡ struck)

-- the offset is the second of the delimiters on a side
abbrev pub IsSecond : Emphasis → ℕ → Type 0
IsSecond e offset = (e.count ≡ 2) × ((offset ≡ e.opening + 1) ⊎ (offset ≡ e.closing + 1))

pub record IsFree (e : Emphasis) (offset : ℕ) : Type 0 where
  pub no_opening : ¬ (e.opening ≡ offset)
  pub no_closing : ¬ (e.closing ≡ offset)
  pub no_second : ¬ IsSecond e offset

abbrev pub MarkedAs : List Emphasis → ℕ → Mark → Type 0
MarkedAs emphasis offset M.Nothing = (e : Emphasis) → IsIn e emphasis → IsFree e offset
MarkedAs emphasis offset M.OpensEmphasis = HasAt false (λ e. e.opening) emphasis 1 offset
MarkedAs emphasis offset M.OpensStrong = HasAt false (λ e. e.opening) emphasis 2 offset
MarkedAs emphasis offset M.ClosesEmphasis = HasAt false (λ e. e.closing) emphasis 1 offset
MarkedAs emphasis offset M.ClosesStrong = HasAt false (λ e. e.closing) emphasis 2 offset
MarkedAs emphasis offset M.OpensStrikethrough = HasAt true (λ e. e.opening) emphasis 1 offset
MarkedAs emphasis offset M.OpensStrikethroughOfTwo = HasAt true (λ e. e.opening) emphasis 2 offset
MarkedAs emphasis offset M.ClosesStrikethrough = HasAt true (λ e. e.closing) emphasis 1 offset
MarkedAs emphasis offset M.ClosesStrikethroughOfTwo = HasAt true (λ e. e.closing) emphasis 2 offset
MarkedAs emphasis offset M.Second = (e : Emphasis) × IsIn e emphasis × IsSecond e offset

module _ (e : Emphasis) (more : List Emphasis) (offset : ℕ) where
  grow : (mark : Mark) → IsFree e offset → MarkedAs more offset mark → MarkedAs (e ∷ more) offset mark
  grow M.Nothing free is = by
    where
      by : (d : Emphasis) → IsIn d (e ∷ more) → IsFree d offset
      by d (inl here) = subst (λ x. IsFree x offset) (sym here) free
      by d (inr later) = is d later
  grow M.OpensEmphasis free is = (is.0, inr is.1, is.2, is.3, is.4)
  grow M.OpensStrong free is = (is.0, inr is.1, is.2, is.3, is.4)
  grow M.ClosesEmphasis free is = (is.0, inr is.1, is.2, is.3, is.4)
  grow M.ClosesStrong free is = (is.0, inr is.1, is.2, is.3, is.4)
  grow M.OpensStrikethrough free is = (is.0, inr is.1, is.2, is.3, is.4)
  grow M.OpensStrikethroughOfTwo free is = (is.0, inr is.1, is.2, is.3, is.4)
  grow M.ClosesStrikethrough free is = (is.0, inr is.1, is.2, is.3, is.4)
  grow M.ClosesStrikethroughOfTwo free is = (is.0, inr is.1, is.2, is.3, is.4)
  grow M.Second free is = (is.0, inr is.1, is.2)

  one : (e.count ≡ 1) ⊎ (e.count ≡ 2) → (e.count == 2) ≡ false → e.count ≡ 1
  one (inl is) other = is
  one (inr two) other = absurd (eqb-false e.count 2 other two)

  free_by : (strong second : Bool) → (offset == e.opening) ≡ false → (offset == e.closing) ≡ false
      → (e.count == 2) ≡ strong → (offset == e.opening + 1 || offset == e.closing + 1) ≡ second → (strong && second) ≡ false → IsFree e offset
  free_by strong second o c is at none = record {
    no_opening = λ same. eqb-false offset e.opening o (sym same);
    no_closing = λ same. eqb-false offset e.closing c (sym same);
    no_second = λ there. clash there.0 (hit there.1);
  }
    where
      hit : (offset ≡ e.opening + 1) ⊎ (offset ≡ e.closing + 1) → (offset == e.opening + 1 || offset == e.closing + 1) ≡ true
      hit (inl here) = ap (λ b. b || offset == e.closing + 1) (eq-eqb offset (e.opening + 1) here)
      hit (inr here) = either (offset == e.opening + 1) (offset == e.closing + 1) (eq-eqb offset (e.closing + 1) here)
        where
          either : (a b : Bool) → b ≡ true → (a || b) ≡ true
          either true b is = refl
          either false b is = is

      clash : e.count ≡ 2 → (offset == e.opening + 1 || offset == e.closing + 1) ≡ true → ⊥
      clash two there =
          let s : strong ≡ true = sym is ∙ eq-eqb e.count 2 two in
          let t : second ≡ true = sym at ∙ there in
          let all : (strong && second) ≡ true = ap (λ b. b && second) s ∙ t in
          let bad : false ≡ true = sym none ∙ all in cc

  second_at : (offset == e.opening + 1 || offset == e.closing + 1) ≡ true → (offset ≡ e.opening + 1) ⊎ (offset ≡ e.closing + 1)
  second_at is = by (offset == e.opening + 1) refl is
    where
      by : (test : Bool) → (offset == e.opening + 1) ≡ test → (test || offset == e.closing + 1) ≡ true
          → (offset ≡ e.opening + 1) ⊎ (offset ≡ e.closing + 1)
      by true here is = inl (eqb-true offset (e.opening + 1) here)
      by false other is = inr (eqb-true offset (e.closing + 1) is)

  by_tests : (opening closing struck strong second : Bool) (mark : Mark) → (e.count ≡ 1) ⊎ (e.count ≡ 2) → (offset == e.opening) ≡ opening
      → (offset == e.closing) ≡ closing → (e.byte == tilde) ≡ struck → (e.count == 2) ≡ strong
      → (offset == e.opening + 1 || offset == e.closing + 1) ≡ second → MarkedAs more offset mark
      → MarkedAs (e ∷ more) offset
      (if opening then (if struck then (if strong then M.OpensStrikethroughOfTwo else M.OpensStrikethrough) else if strong then M.OpensStrong else M.OpensEmphasis)
      else if closing then (if struck then (if strong then M.ClosesStrikethroughOfTwo else M.ClosesStrikethrough) else if strong then M.ClosesStrong else M.ClosesEmphasis)
      else if strong && second then M.Second
      else mark)
  by_tests true closing true true second mark counted o c b s at is = (e, inl refl, sym (eqb-true offset e.opening o), eqb-true e.count 2 s, b)
  by_tests true closing true false second mark counted o c b s at is = (e, inl refl, sym (eqb-true offset e.opening o), one counted s, b)
  by_tests true closing false true second mark counted o c b s at is = (e, inl refl, sym (eqb-true offset e.opening o), eqb-true e.count 2 s, b)
  by_tests true closing false false second mark counted o c b s at is = (e, inl refl, sym (eqb-true offset e.opening o), one counted s, b)
  by_tests false true true true second mark counted o c b s at is = (e, inl refl, sym (eqb-true offset e.closing c), eqb-true e.count 2 s, b)
  by_tests false true true false second mark counted o c b s at is = (e, inl refl, sym (eqb-true offset e.closing c), one counted s, b)
  by_tests false true false true second mark counted o c b s at is = (e, inl refl, sym (eqb-true offset e.closing c), eqb-true e.count 2 s, b)
  by_tests false true false false second mark counted o c b s at is = (e, inl refl, sym (eqb-true offset e.closing c), one counted s, b)
  by_tests false false struck true true mark counted o c b s at is = (e, inl refl, (eqb-true e.count 2 s, second_at at))
  by_tests false false struck true false mark counted o c b s at is = grow mark (free_by true false o c s at refl) is
  by_tests false false struck false second mark counted o c b s at is = grow mark (free_by false second o c s at refl) is

pub marked : (emphasis : List Emphasis) (offset : ℕ) → ((e : Emphasis) → IsIn e emphasis → (e.count ≡ 1) ⊎ (e.count ≡ 2))
    → MarkedAs emphasis offset (marks_by emphasis offset)
marked [] offset counted = λ e is. absurd is
marked (e ∷ more) offset counted =
    by_tests e more offset (offset == e.opening) (offset == e.closing) (e.byte == tilde) (e.count == 2)
    (offset == e.opening + 1 || offset == e.closing + 1) (marks_by more offset) (counted e (inl refl)) refl refl refl refl refl
    (marked more offset (λ d is. counted d (inr is)))
