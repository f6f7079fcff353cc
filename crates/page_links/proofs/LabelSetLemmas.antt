-- Labels that are known by their case foldings.
use Rattle.std.proofs.Common.{ℕ, List, [], ◌∷◌, ◌++◌, ◌≡◌, Bool, true, false, cond, ◌||◌, Decides, String}
use Rattle.std.proofs.Common.{bytes_eq, encode_utf8, encode_utf8_all, flat_map, map, string_bytes, string_cmp}
use Rattle.std.proofs.Common.{refl, sym, ap, ap₂, ◌∙◌}
use Rattle.std.specs.BTreeMap.{is_at}
use Rattle.std.specs.BTreeSet.{BTreeSet, Updates, contains_text}
use Rattle.std.specs.Cmp.Lexicographic.{slice_cmp}
use Rattle.std.specs.List.{list_any}
use Rattle.std.specs.Ordering.{nat_cmp}
use Rattle.std.proofs.lemmas.Bool.Decides.{same_from_decides}
use Rattle.std.proofs.lemmas.List.Folds.{list_any-append}
use Rattle.std.proofs.lemmas.Map.Text.{btree_set_updates_text, is_eq-slice_cmp}
use Rattle.std.proofs.lemmas.Slice.Eq.{bytes_eq-Decides}
use Rattle.std.proofs.lemmas.Str.{encodes_same}
use Rattle.markdown_scanners_tree.specs.linklabel.Key.{key_bytes, label_key}
use Rattle.page_links.specs.label_set.LabelSet.{HasLabels, has}
use Rattle.page_links.specs.labels.Labels.{is_among, matches}

-- what the order of foldings finds, their bytes find
pub found_by_order : {Y : Type 0} (foldings : List (String Y)) (folding : List ℕ)
    → list_any (is_at (λ k. slice_cmp nat_cmp folding (string_bytes k))) foldings ≡ list_any (bytes_eq folding) (map string_bytes foldings)
found_by_order [] folding = refl
found_by_order (one ∷ foldings) folding = ap₂ ◌||◌ (is_eq-slice_cmp folding (string_bytes one)) (found_by_order foldings folding)

-- a list of characters is as its bytes are
written_all_out : (cs : List ℕ) → flat_map encode_utf8 cs ≡ encode_utf8_all cs
written_all_out [] = refl
written_all_out (c ∷ cs) = ap (λ later. encode_utf8 c ++ later) (written_all_out cs)

-- labels match where the bytes of their foldings are equal
same_labels : (one other : List ℕ) → bytes_eq (key_bytes one) (key_bytes other) ≡ matches one other
same_labels one other =
    let keys = bytes_eq-Decides (label_key one) (label_key other) in
    let same_keys : key_bytes one ≡ key_bytes other → label_key one ≡ label_key other =
    λ same. encodes_same (label_key one) (label_key other) (sym (written_all_out (label_key one)) ∙ same ∙ written_all_out (label_key other)) in
    let decides : Decides (matches one other) (key_bytes one ≡ key_bytes other) =
    (λ same. ap (flat_map encode_utf8) (keys.0 same), λ same. keys.1 (same_keys same)) in
    same_from_decides _ _ (bytes_eq-Decides (key_bytes one) (key_bytes other)) decides

-- where a label's folding is put in, it is one of the labels
one_more_label : (old new labels : List (List ℕ)) (label : List ℕ) → HasLabels old labels
    → ((folding : List ℕ) → list_any (bytes_eq folding) new
    ≡ cond (bytes_eq (key_bytes label) folding) true (list_any (bytes_eq folding) old))
    → HasLabels new (labels ++ label ∷ [])
one_more_label old new labels label are put asked =
    put (key_bytes asked) ∙ ap (λ same. cond same true (has old asked)) (same_labels label asked)
    ∙ ap (λ known. cond (matches label asked) true known) (are asked)
    ∙ last (matches label asked) (is_among labels asked)
    ∙ sym (list_any-append (λ one. matches one asked) labels (label ∷ []))
  where
    last : (same known : Bool) → cond same true known ≡ (known || (same || false))
    last true true = refl
    last true false = refl
    last false true = refl
    last false false = refl

-- so it is where the set of foldings has it
pub added_label : {Y : Type 0} (old new : BTreeSet (String Y)) (folding : String Y) (label : List ℕ) (labels : List (List ℕ))
    → string_bytes folding ≡ key_bytes label → Updates string_cmp old new folding true
    → HasLabels (map string_bytes old.keys) labels → HasLabels (map string_bytes new.keys) (labels ++ label ∷ [])
added_label old new folding label labels is put are =
    one_more_label (map string_bytes old.keys) (map string_bytes new.keys) labels label are
    (λ bytes. sym (found_by_order new.keys bytes) ∙ btree_set_updates_text (string_bytes folding) old new true put bytes
    ∙ ap (λ key. cond (bytes_eq key bytes) true (contains_text old bytes)) is
    ∙ ap (λ known. cond (bytes_eq (key_bytes label) bytes) true known) (found_by_order old.keys bytes))
