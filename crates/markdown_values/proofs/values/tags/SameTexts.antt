-- Parts of a tag that say the same are equal.
use Rattle.std.proofs.Common.{◌≡◌, Bool, true, ◌&&◌, List, [], ◌∷◌, map, refl, ap, nat_eq, Option, Some, None, option_map}
use Rattle.std.specs.Cmp.Lexicographic.{pointwise}
use Rattle.std.proofs.lemmas.Cmp.{nat_list_eq_equiv}
use Rattle.std.specs.Option.{option_eq}
use Rattle.markdown_values.specs.declared.strings.CowStr.{CowStr}
use Rattle.markdown_values.specs.declared.values.Alignment.{Alignment}
use Rattle.markdown_values.specs.declared.values.Alignment.TheVariants.{None as Unaligned, Left, Center, Right}
use Rattle.markdown_values.specs.contracts.values.AlignmentPartialEq.TheImpl.{ghosts as Aligned}
use Rattle.markdown_values.specs.strings.Text.{cow_text}
use Rattle.markdown_values.specs.values.Tags.{attribute_view}

-- an attribute with its value
abbrev Attribute : Type 0
Attribute = CowStr × Option CowStr

-- lists whose elements say the same, where such elements are equal
pointwise-same : {A B : Type 0} (R : A → A → Bool) (f : A → B)
    → ((a b : A) → f a ≡ f b → R a b ≡ true)
    → (xs ys : List A) → map f xs ≡ map f ys → pointwise R xs ys ≡ true
pointwise-same R f same [] [] h = refl
pointwise-same R f same [] (y ∷ ys) h = cc
pointwise-same R f same (x ∷ xs) [] h = cc
pointwise-same R f same (x ∷ xs) (y ∷ ys) h =
    let first : f x ≡ f y = cc in
    let rest : map f xs ≡ map f ys = cc in
    rw (same x y first, pointwise-same R f same xs ys rest) refl

-- whether two texts are the same bytes
abbrev cow_eq : CowStr → CowStr → Bool
cow_eq a b = pointwise nat_eq (cow_text a) (cow_text b)

-- texts of the same bytes are equal
cow_eq-same : (a b : CowStr) → cow_text a ≡ cow_text b → cow_eq a b ≡ true
cow_eq-same a b h = rw h (nat_list_eq_equiv.refl (cow_text b))

-- and so are two such texts, or none and none
option_eq-same : (a b : Option CowStr)
    → option_map cow_text a ≡ option_map cow_text b
    → option_eq cow_eq a b ≡ true
option_eq-same None None h = refl
option_eq-same None (Some b) h = cc
option_eq-same (Some a) None h = cc
option_eq-same (Some a) (Some b) h = cow_eq-same a b cc

-- and two attributes that say the same
attribute-same : (R : Attribute → Attribute → Bool)
    → ((a b : Attribute) → R a b ≡ (cow_eq a.0 b.0 && option_eq cow_eq a.1 b.1))
    → (a b : Attribute) → attribute_view cow_text a ≡ attribute_view cow_text b
    → R a b ≡ true
attribute-same R is a b h =
    let name : cow_text a.0 ≡ cow_text b.0 = ap (λ p. p.0) h in
    let value : option_map cow_text a.1 ≡ option_map cow_text b.1 = ap (λ p. p.1) h in
    rw (is a b, cow_eq-same a.0 b.0 name, option_eq-same a.1 b.1 value) refl

-- four tests that pass, as a derived equality joins them
all_four : (a b c d : Bool) → a ≡ true → b ≡ true → c ≡ true → d ≡ true
    → (a && (b && (c && d))) ≡ true
all_four a b c d p q r s = rw (p, q, r, s) refl

-- a heading's parts that say the same are equal
pub heading-same : (level : Bool) (E : CowStr → CowStr → Bool) (R : Attribute → Attribute → Bool)
    → level ≡ true
    → E ≡ cow_eq
    → ((a b : Attribute) → R a b ≡ (cow_eq a.0 b.0 && option_eq cow_eq a.1 b.1))
    → (id id' : Option CowStr) (texts texts' : List CowStr) (attrs attrs' : List Attribute)
    → option_map cow_text id ≡ option_map cow_text id'
    → map cow_text texts ≡ map cow_text texts'
    → map (attribute_view cow_text) attrs ≡ map (attribute_view cow_text) attrs'
    → (level && (option_eq E id id' && (pointwise E texts texts' && pointwise R attrs attrs'))) ≡ true
heading-same level E R h e is id id' texts texts' attrs attrs' same_id same_texts same_attrs =
    rw e
    (all_four _ _ _ _ h
    (option_eq-same id id' same_id)
    (pointwise-same cow_eq cow_text cow_eq-same texts texts' same_texts)
    (pointwise-same R (attribute_view cow_text) (attribute-same R is) attrs attrs' same_attrs))

-- an alignment equals itself
alignment-same : (a : Alignment) → Aligned.eq a a ≡ true
alignment-same Unaligned = refl
alignment-same Left = refl
alignment-same Center = refl
alignment-same Right = refl

-- and so does a list of them
pub alignments-same : (xs : List Alignment) → pointwise (λ x y. Aligned.eq x y) xs xs ≡ true
alignments-same [] = refl
alignments-same (x ∷ xs) = rw (alignment-same x, alignments-same xs) refl
