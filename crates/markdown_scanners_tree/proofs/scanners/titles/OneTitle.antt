-- A link title and what stands after its opening; a text begins with one title at most.
use Rattle.std.proofs.Common.{◌≡◌, ℕ, ◌+◌, ◌==◌, not, true, false, List, [], ◌∷◌, ◌++◌, length, take, drop, get_or, refl, ap, ◌∙◌, sym, subst, arith, Some, append_assoc}
use Rattle.std.specs.List.{concat, list_all}
use Rattle.std.proofs.lemmas.List.{length-append, take_at}
use Rattle.std.proofs.lemmas.Bool.{eq-eqb, or_right}
use Rattle.markdown_scanners_tree.specs.scanners.Escapes.{units}
use Rattle.markdown_scanners_tree.specs.scanners.TextLines.{lines_of}
use Rattle.markdown_scanners_tree.specs.scanners.titles.LinkTitle.{closing_of, stands_in_title, is_filled, IsLinkTitle}
use Rattle.markdown_scanners_tree.specs.scanners.titles.private.TitleFrom.{IsTitleFrom}
use Rattle.markdown_scanners_tree.proofs.scanners.links.OneDestination.{one_inner}
use Rattle.markdown_scanners_tree.proofs.scanners.titles.BlankSteps.{all_filled, later_filled}
use Rattle.markdown_scanners_tree.proofs.scanners.titles.TitleLemmas.{opening_mark, joined_at}

-- the bytes of a title
title_bytes : (text after : List ℕ) (opening closing n : ℕ) (inner more : List (List ℕ)) → text ≡ opening ∷ after
    → units after ≡ inner ++ (closing ∷ []) ∷ more → n ≡ length (concat inner) + 2
    → take n text ≡ opening ∷ (concat inner ++ closing ∷ [])
title_bytes text after opening closing n inner more opens splits long =
    let title = concat inner ++ closing ∷ [] in
    let whole : text ≡ (opening ∷ title) ++ concat more =
    opens ∙ ap (λ t. opening ∷ t) (joined_at after closing inner more splits
    ∙ sym (append_assoc (concat inner) (closing ∷ []) (concat more))) in
    ap (take n) whole
    ∙ take_at (opening ∷ title) (concat more) n (omega (arith, long, length-append (concat inner) (closing ∷ [])))

pub title_found : (text : List ℕ) (opening closing n : ℕ) → text ≡ opening ∷ drop 1 text
    → closing_of opening ≡ Some closing → IsTitleFrom opening closing (drop 1 text) n → IsLinkTitle text (n + 2)
title_found text opening closing n opens matching is =
    let long : n + 2 ≡ length (concat is.inner) + 2 = ap (λ k. k + 2) is.n_is_length in
    let title = concat is.inner ++ closing ∷ [] in record {
      opening = opening;
      closing = closing;
      after = drop 1 text;
      inner = is.inner;
      more = is.more;
      opens = opens;
      matching = matching;
      splits = is.splits;
      each_stands = is.each_stands;
      n_is_length = long;
      no_blank_line =
          ap (λ t. list_all is_filled (lines_of t))
          (title_bytes text (drop 1 text) opening closing (n + 2) is.inner is.more opens is.splits long)
          ∙ all_filled opening title (opening_mark opening closing matching) is.filled;
    }

-- where one opens and none goes on
pub no_title : (text : List ℕ) (opening closing : ℕ) → text ≡ opening ∷ drop 1 text
    → closing_of opening ≡ Some closing → ((n : ℕ) → IsTitleFrom opening closing (drop 1 text) n → ⊥)
    → (n : ℕ) → ¬ IsLinkTitle text n
no_title text opening closing opens matching none n is =
    let same : is.opening ≡ opening = ap (λ t. get_or t 0 0) (sym is.opens ∙ opens) in
    let ends : Some is.closing ≡ Some closing = sym is.matching ∙ (ap closing_of same ∙ matching) in
    let same_end : is.closing ≡ closing = cc in
    let title = concat is.inner ++ is.closing ∷ [] in
    let from : IsTitleFrom is.opening is.closing is.after (length (concat is.inner)) = record {
      inner = is.inner;
      more = is.more;
      splits = is.splits;
      each_stands = is.each_stands;
      n_is_length = refl;
      filled = later_filled is.opening title (opening_mark is.opening is.closing is.matching)
          (sym (ap (λ t. list_all is_filled (lines_of t))
          (title_bytes text is.after is.opening is.closing n is.inner is.more is.opens is.splits is.n_is_length))
          ∙ is.no_blank_line);
    } in
    let k = length (concat is.inner) in
    let here = subst (λ t. IsTitleFrom is.opening is.closing t k) (sym (ap (drop 1) is.opens)) from in
    let opened = subst (λ b. IsTitleFrom b is.closing (drop 1 text) k) same here in
    none k (subst (λ b. IsTitleFrom opening b (drop 1 text) k) same_end opened)

-- and where none opens
pub no_opening : (text : List ℕ) (n : ℕ) → (is : IsLinkTitle text n) → get_or text 0 0 ≡ is.opening
no_opening text n is = ap (λ t. get_or t 0 0) is.opens

closing_refused : (opening closing : ℕ) → stands_in_title opening closing (closing ∷ []) ≡ false
closing_refused opening closing =
    ap not (or_right (closing == opening) (closing == closing) (eq-eqb closing closing refl))

-- how many bytes it takes
pub one_title : (text : List ℕ) (n n' : ℕ) → IsLinkTitle text n → IsLinkTitle text n' → n ≡ n'
one_title text n n' is is' =
    let both = sym is.opens ∙ is'.opens in
    let same : is.opening ≡ is'.opening = ap (λ t. get_or t 0 0) both in
    let rest : is.after ≡ is'.after = ap (drop 1) both in
    let ends : Some is.closing ≡ Some is'.closing = sym is.matching ∙ (ap closing_of same ∙ is'.matching) in
    let same_end : is.closing ≡ is'.closing = cc in
    let splits : units is.after ≡ is'.inner ++ (is.closing ∷ []) ∷ is'.more =
    ap units rest ∙ (is'.splits ∙ ap (λ b. is'.inner ++ (b ∷ []) ∷ is'.more) (sym same_end)) in
    let stand : list_all (stands_in_title is.opening is.closing) is'.inner ≡ true =
    ap (λ b. list_all (stands_in_title b is.closing) is'.inner) same
    ∙ (ap (λ b. list_all (stands_in_title is'.opening b) is'.inner) same_end ∙ is'.each_stands) in
    let inner =
    one_inner (stands_in_title is.opening is.closing) (is.closing ∷ []) (closing_refused is.opening is.closing)
    is.inner is'.inner is.more is'.more (sym is.splits ∙ splits) is.each_stands stand in
    is.n_is_length ∙ (ap (λ us. length (concat us) + 2) inner ∙ sym is'.n_is_length)
