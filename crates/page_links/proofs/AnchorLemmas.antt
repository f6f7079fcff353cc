-- Anchors that are kept in the order of their bytes, and counts of slugs.
use Rattle.std.proofs.Common.{ℕ, ◌+◌, ◌<◌, List, [], ◌∷◌, ◌++◌, ◌≡◌, Bool, true, false, cond, ◌||◌, Decides, Some, String, arith}
use Rattle.std.proofs.Common.{bytes_eq, inl, inr, map, string_bytes, string_cmp, refl, sym, ap, subst, ◌∙◌, append_assoc, drop, get_or, length, take}
use Rattle.std.specs.BTreeMap.{BTreeMap, get_by_text, is_at, Updates as UpdatesMap}
use Rattle.std.specs.BTreeSet.{BTreeSet, Updates}
use Rattle.std.specs.Cmp.Lexicographic.{slice_cmp}
use Rattle.std.specs.List.{sum_by}
use Rattle.std.specs.Map.{lookup}
use Rattle.std.specs.Option.{unwrap_or}
use Rattle.std.specs.Ordering.{nat_cmp}
use Rattle.std.proofs.lemmas.Bool.{cases_Bool, cond-true, cond-false}
use Rattle.std.proofs.lemmas.Bool.Decides.{same_from_decides}
use Rattle.std.proofs.lemmas.List.{at_drop_more, map_more}
use Rattle.std.proofs.lemmas.List.Folds.{list_any-append}
use Rattle.std.proofs.lemmas.List.Sums.{sum_by-append, sum_by-cons}
use Rattle.std.proofs.lemmas.Map.Text.{btree_map_updates_text, btree_set_updates_text}
use Rattle.std.proofs.lemmas.Slice.Eq.{bytes_eq-Decides}
use Rattle.page_links.specs.anchors.Anchors.{HasAnchors, anchor_of, anchors_of, counted, is_among}
use Rattle.page_links.specs.anchors.private.Counts.{AreCounts}
use Rattle.page_links.proofs.LabelSetLemmas.{found_by_order}

-- two texts are the same in either order
same_back : (one other : List ℕ) → bytes_eq one other ≡ bytes_eq other one
same_back one other =
    let back = bytes_eq-Decides other one in
    let decides : Decides (bytes_eq other one) (one ≡ other) = (λ same. sym (back.0 same), λ same. back.1 (sym same)) in
    same_from_decides _ _ (bytes_eq-Decides one other) decides

-- where an anchor is put in, it is one of them
pub added_anchor : {Y : Type 0} (old new : BTreeSet (String Y)) (anchor : String Y) (anchors : List (List ℕ))
    → Updates string_cmp old new anchor true → HasAnchors (map string_bytes old.keys) anchors
    → HasAnchors (map string_bytes new.keys) (anchors ++ string_bytes anchor ∷ [])
added_anchor old new anchor anchors put are = λ text.
    let bytes = string_bytes anchor in
    sym (found_by_order new.keys text) ∙ btree_set_updates_text bytes old new true put text
    ∙ ap (λ known. cond (bytes_eq bytes text) true known) (found_by_order old.keys text ∙ are text)
    ∙ last (bytes_eq bytes text) (is_among anchors text)
    ∙ ap (λ same. is_among anchors text || (same || false)) (same_back bytes text)
    ∙ sym (list_any-append (bytes_eq text) anchors (bytes ∷ []))
  where
    last : (same known : Bool) → cond same true known ≡ (known || (same || false))
    last true true = refl
    last true false = refl
    last false true = refl
    last false false = refl

-- one more slug is counted where it is the same
one_more : (before : List (List ℕ)) (one slug : List ℕ) → counted (before ++ one ∷ []) slug ≡ counted before slug + cond (bytes_eq slug one) 1 0
one_more before one slug =
    let here = λ (it : List ℕ). cond (bytes_eq slug it) 1 0 in
    let first = sum_by-append here before (one ∷ []) in
    let second = sum_by-cons here one [] in
    first ∙ ap (λ n. sum_by here before + n) (second ∙ omega arith)

-- so the counts are, where its count is one more
counted_key : {Y : Type 0} (old new : BTreeMap (String Y) ℕ) (key : String Y) (count : ℕ) (before : List (List ℕ))
    → AreCounts old before → UpdatesMap string_cmp old new key (Some count) → count ≡ counted before (string_bytes key) + 1
    → AreCounts new (before ++ string_bytes key ∷ [])
counted_key old new key count before are put is = λ slug.
    let one = string_bytes key in
    let found = btree_map_updates_text one old new (Some count) put slug in
    elim (cases_Bool (bytes_eq one slug)) [
      | inl same ↦
          let equal : one ≡ slug = (bytes_eq-Decides one slug).0 same in
          let again : bytes_eq slug one ≡ true = (bytes_eq-Decides slug one).1 (sym equal) in
          ap (λ o. unwrap_or o 0) (found ∙ cond-true (bytes_eq one slug) (Some count) (get_by_text old slug) same)
          ∙ is ∙ ap (λ text. counted before text + 1) equal
          ∙ sym (one_more before one slug ∙ ap (λ b. counted before slug + cond b 1 0) again)
      | inr other ↦
          ap (λ o. unwrap_or o 0) (found ∙ cond-false (bytes_eq one slug) (Some count) (get_by_text old slug) other)
          ∙ are slug
          ∙ sym (one_more before one slug ∙ ap (λ b. counted before slug + cond b 1 0) (sym (same_back one slug) ∙ other) ∙ omega arith)
    ]

pub counted_once_more : {Y : Type 0} (old new : BTreeMap (String Y) ℕ) (key : String Y) (slug : List ℕ) (count : ℕ) (before : List (List ℕ))
    → string_bytes key ≡ slug → AreCounts old before → UpdatesMap string_cmp old new key (Some count) → count ≡ counted before slug + 1
    → AreCounts new (before ++ slug ∷ [])
counted_once_more old new key slug count before same are put is =
    subst (λ (text : List ℕ). AreCounts new (before ++ text ∷ [])) same
    (counted_key old new key count before are put (is ∙ ap (λ (text : List ℕ). counted before text + 1) (sym same)))

pub none_counted : {Y : Type 0} (counts : BTreeMap (String Y) ℕ) → counts.entries ≡ [] → AreCounts counts []
none_counted counts empty = λ slug. ap (λ entries. unwrap_or (lookup (is_at (λ key. slice_cmp nat_cmp slug (string_bytes key))) entries) 0) empty

-- the anchors that are made and those of the slugs that are left, one slug further
pub one_more_made : {Y : Type 0} (slugs : List (String Y)) (i : ℕ) (slug : String Y) (anchor : List ℕ) (made all : List (List ℕ)) → i < length slugs
    → slug ≡ get_or slugs i slug → anchor ≡ anchor_of (string_bytes slug) (counted (map string_bytes (take i slugs)) (string_bytes slug))
    → made ++ anchors_of (map string_bytes (take i slugs)) (map string_bytes (drop i slugs)) ≡ all
    → (made ++ anchor ∷ []) ++ anchors_of (map string_bytes (take (i + 1) slugs)) (map string_bytes (drop (i + 1) slugs)) ≡ all
one_more_made {Y} slugs i slug anchor made all low is made_of whole =
    let before = map string_bytes (take i slugs) in
    let later = map string_bytes (drop (i + 1) slugs) in
    let first = λ (it : String Y). anchor_of (string_bytes it) (counted before (string_bytes it)) ∷ anchors_of (before ++ string_bytes it ∷ []) later in
    let left : anchors_of before (map string_bytes (drop i slugs)) ≡ first (get_or slugs i slug) =
    at_drop_more (λ (rest : List (String Y)). anchors_of before (map string_bytes rest)) slugs i slug low in
    ap (λ passed. (made ++ anchor ∷ []) ++ anchors_of passed later) (map_more string_bytes slugs i slug low)
    ∙ append_assoc made (anchor ∷ []) (anchors_of (before ++ string_bytes (get_or slugs i slug) ∷ []) later)
    ∙ ap (λ it. made ++ anchor ∷ anchors_of (before ++ string_bytes it ∷ []) later) (sym is)
    ∙ ap (λ it. made ++ it ∷ anchors_of (before ++ string_bytes slug ∷ []) later) made_of
    ∙ ap (λ it. made ++ first it) is
    ∙ ap (λ rest. made ++ rest) (sym left)
    ∙ whole
