-- The lines of a text, each after bytes that end no line, are the lines of the text that they make.
use Rattle.std.proofs.Common.{ℕ, suc, zero, Bool, true, false, not, ◌||◌, ◌&&◌, ◌==◌, ◌≡◌, ◌⊎◌}
use Rattle.std.proofs.Common.{List, [], ◌∷◌, ◌++◌, refl, sym, ap, ◌∙◌, subst, inl, inr, append_assoc, append-nil}
use Rattle.std.specs.List.{AllZip, concat, list_all}
use Rattle.std.proofs.lemmas.Bool.{cases_Bool}
use Rattle.std.proofs.lemmas.List.Folds.{list_all-append}
use Rattle.markdown_scanners_tree.specs.Bytes.{begins_with, is_line_ending}
use Rattle.markdown_scanners_tree.specs.scanners.TextLines.{ends_line, with_first, lines_of}
use Rattle.markdown_scanners_tree.proofs.ForCallers.{lines_joined}
use Rattle.markdown_scanners_tree.proofs.PrefixLemmas.{both_true}
use Rattle.markdown_blocks.proofs.laws.Places.{spaces, not_true}

abbrev pub ends_none : List ℕ → Bool
ends_none bytes = list_all (λ b. not (is_line_ending b)) bytes

-- the line after such bytes
pub record IsAfter (line moved : List ℕ) : Type 0 where
  pub front : List ℕ
  pub parts : moved ≡ front ++ line
  pub plain : ends_none front ≡ true

-- the line without bytes at its front, and after such bytes: what is left of it begins with another byte than LF
pub record IsCut (line moved : List ℕ) : Type 0 where
  pub cut : List ℕ
  pub front : List ℕ
  pub byte : ℕ
  pub rest : List ℕ
  pub parts : line ≡ cut ++ byte ∷ rest
  pub moved_parts : moved ≡ front ++ byte ∷ rest
  pub plain : ends_none front ≡ true
  pub other : (byte == 10) ≡ false

abbrev pub IsMarked : List ℕ → List ℕ → Type 0
IsMarked line moved = IsAfter line moved ⊎ IsCut line moved

abbrev begins_feed : List ℕ → Bool
begins_feed bytes = begins_with (λ c. c == 10) bytes

-- what ends a line
left_false : (x y : Bool) → (x || y) ≡ false → x ≡ false
left_false true y h = cc
left_false false y h = refl

ends_by : (x y z : Bool) → (x || y) ≡ false → (x || (y && z)) ≡ false
ends_by true y z h = cc
ends_by false true z h = cc
ends_by false false z h = refl

no_end : (b : ℕ) (bs : List ℕ) → is_line_ending b ≡ false → ends_line (b ∷ bs) ≡ false
no_end b bs h = ends_by (b == 10) (b == 13) (not (begins_feed bs)) h

still_by : (x y p q : Bool) → (x || (y && not p)) ≡ true → (p ≡ false → q ≡ false) → (x || (y && not q)) ≡ true
still_by true y p q h same = refl
still_by false true true q h same = cc
still_by false true false q h same = rw (same refl) refl
still_by false false p q h same = cc

goes_by : (x y p q : Bool) → (x || (y && not p)) ≡ false → (p ≡ true → q ≡ true) → (x || (y && not q)) ≡ false
goes_by true y p q h same = cc
goes_by false true true q h same = rw (same refl) refl
goes_by false true false q h same = cc
goes_by false false p q h same = refl

still_ends : (b : ℕ) (bs xs : List ℕ) → ends_line (b ∷ bs) ≡ true → (begins_feed bs ≡ false → begins_feed xs ≡ false) → ends_line (b ∷ xs) ≡ true
still_ends b bs xs h same = still_by (b == 10) (b == 13) (begins_feed bs) (begins_feed xs) h same

still_goes : (b : ℕ) (bs xs : List ℕ) → ends_line (b ∷ bs) ≡ false → (begins_feed bs ≡ true → begins_feed xs ≡ true) → ends_line (b ∷ xs) ≡ false
still_goes b bs xs h same = goes_by (b == 10) (b == 13) (begins_feed bs) (begins_feed xs) h same

lines_ended : (b : ℕ) (bs : List ℕ) → ends_line (b ∷ bs) ≡ true → lines_of (b ∷ bs) ≡ (b ∷ []) ∷ lines_of bs
lines_ended b bs h = rw h refl

lines_going : (b : ℕ) (bs : List ℕ) → ends_line (b ∷ bs) ≡ false → lines_of (b ∷ bs) ≡ with_first b (lines_of bs)
lines_going b bs h = rw h refl

-- bytes before the first line
front_lines : (front bytes first : List ℕ) (more : List (List ℕ)) → ends_none front ≡ true → lines_of bytes ≡ first ∷ more
    → lines_of (front ++ bytes) ≡ (front ++ first) ∷ more
front_lines [] bytes first more plain is = is
front_lines (b ∷ front) bytes first more plain is =
    let both = both_true (not (is_line_ending b)) (ends_none front) plain in
    let goes : ends_line (b ∷ (front ++ bytes)) ≡ false = no_end b (front ++ bytes) (not_true (is_line_ending b) both.0) in
    lines_going b (front ++ bytes) goes ∙ ap (with_first b) (front_lines front bytes first more both.1 is)

-- the first line begins with the first byte
begun_with : (b : ℕ) (ls : List (List ℕ)) → (l : List ℕ) × (more : List (List ℕ)) × (with_first b ls ≡ (b ∷ l) ∷ more)
begun_with b [] = ([], [], refl)
begun_with b (l ∷ ls) = (l, ls, refl)

first_byte : (b : ℕ) (bs : List ℕ) → (l : List ℕ) × (more : List (List ℕ)) × (lines_of (b ∷ bs) ≡ (b ∷ l) ∷ more)
first_byte b bs = elim (cases_Bool (ends_line (b ∷ bs))) [
  | inl ends ↦ ([], lines_of bs, lines_ended b bs ends)
  | inr goes ↦ (let f = begun_with b (lines_of bs) in (f.0, f.1, lines_going b bs goes ∙ f.2))
]

no_feed_front : (front : List ℕ) (c : ℕ) (l rest : List ℕ) → ends_none front ≡ true → (c == 10) ≡ false → begins_feed ((front ++ c ∷ l) ++ rest) ≡ false
no_feed_front [] c l rest plain other = other
no_feed_front (b ∷ front) c l rest plain other =
    let both = both_true (not (is_line_ending b)) (ends_none front) plain in left_false (b == 10) (b == 13) (not_true (is_line_ending b) both.0)

no_feed_by : (c : ℕ) (l : List ℕ) (ls others : List (List ℕ)) → AllZip IsMarked ((c ∷ l) ∷ ls) others → (c == 10) ≡ false
    → begins_feed (concat others) ≡ false
no_feed_by c l ls [] z other = absurd z
no_feed_by c l ls (m ∷ others) (inl i, z) other =
    subst (λ bytes. begins_feed (bytes ++ concat others) ≡ false) (sym i.parts) (no_feed_front i.front c l (concat others) i.plain other)
no_feed_by c l ls (m ∷ others) (inr i, z) other =
    subst (λ bytes. begins_feed (bytes ++ concat others) ≡ false) (sym i.moved_parts)
    (no_feed_front i.front i.byte i.rest (concat others) i.plain i.other)

no_feed : (bs : List ℕ) (others : List (List ℕ)) → AllZip IsMarked (lines_of bs) others → begins_feed bs ≡ false → begins_feed (concat others) ≡ false
no_feed [] [] z other = refl
no_feed [] (m ∷ others) z other = absurd z
no_feed (c ∷ cs) others z other =
    let f = first_byte c cs in no_feed_by c f.0 f.1 others (subst (λ ls. AllZip IsMarked ls others) f.2 z) other

keeps_feed : (bs l : List ℕ) (ls : List (List ℕ)) (rest : List ℕ) → lines_of bs ≡ l ∷ ls → begins_feed bs ≡ true → begins_feed (l ++ rest) ≡ true
keeps_feed [] l ls rest is feed = cc
keeps_feed (c ∷ cs) l ls rest is feed =
    let f = first_byte c cs in
    let lists : ◌≡◌ {A = List (List ℕ)} ((c ∷ f.0) ∷ f.1) (l ∷ ls) = sym f.2 ∙ is in
    let same : c ∷ f.0 ≡ l = cc in
    subst (λ bytes. begins_feed (bytes ++ rest) ≡ true) same feed

-- the lines after bytes, one after the other
abbrev Holds : List ℕ → Type 0
Holds bs = (others : List (List ℕ)) → AllZip IsMarked (lines_of bs) others → lines_of (concat others) ≡ others

by_front : (b : ℕ) (l m : List ℕ) (others : List (List ℕ)) → IsAfter (b ∷ l) m → lines_of (b ∷ (l ++ concat others)) ≡ (b ∷ l) ∷ others
    → lines_of (m ++ concat others) ≡ m ∷ others
by_front b l m others i is =
    let parts : m ++ concat others ≡ i.front ++ (b ∷ (l ++ concat others)) =
    ap (λ bytes. bytes ++ concat others) i.parts ∙ append_assoc i.front (b ∷ l) (concat others) in
    ap lines_of parts ∙ front_lines i.front (b ∷ (l ++ concat others)) (b ∷ l) others i.plain is ∙ ap (λ bytes. bytes ∷ others) (sym i.parts)

-- nothing is cut, or the first byte is
cut_first : (cut : List ℕ) (byte : ℕ) (rest : List ℕ) (b : ℕ) (l : List ℕ) → b ∷ l ≡ cut ++ byte ∷ rest
    → (b ∷ l ≡ byte ∷ rest) ⊎ ((cut' : List ℕ) × (l ≡ cut' ++ byte ∷ rest))
cut_first [] byte rest b l is = inl is
cut_first (x ∷ cut) byte rest b l is = inr (cut, cc)

no_rest : (cut : List ℕ) (byte : ℕ) (rest : List ℕ) → [] ≡ cut ++ byte ∷ rest → ⊥
no_rest [] byte rest is = cc
no_rest (x ∷ cut) byte rest is = cc

first_marked : (b : ℕ) (l m : List ℕ) → IsMarked (b ∷ l) m → IsAfter (b ∷ l) m ⊎ IsCut l m
first_marked b l m (inl i) = inl i
first_marked b l m (inr i) = elim (cut_first i.cut i.byte i.rest b l i.parts) [
  | inl whole ↦ inl (record { front = i.front; parts = i.moved_parts ∙ ap (λ bytes. i.front ++ bytes) (sym whole); plain = i.plain })
  | inr less ↦
      inr (
      record {
        cut = less.0;
        front = i.front;
        byte = i.byte;
        rest = i.rest;
        parts = less.1;
        moved_parts = i.moved_parts;
        plain = i.plain;
        other = i.other;
      }
      )
]

alone_marked : (b : ℕ) (m : List ℕ) → IsMarked (b ∷ []) m → IsAfter (b ∷ []) m
alone_marked b m i = elim (first_marked b [] m i) [
  | inl after ↦ after
  | inr cut ↦ absurd (no_rest cut.cut cut.byte cut.rest cut.parts)
]

ended : (b : ℕ) (bs : List ℕ) (others : List (List ℕ)) → ends_line (b ∷ bs) ≡ true → AllZip IsMarked ((b ∷ []) ∷ lines_of bs) others → Holds bs
    → lines_of (concat others) ≡ others
ended b bs [] ends z more = absurd z
ended b bs (m ∷ others) ends z more =
    let still : ends_line (b ∷ concat others) ≡ true = still_ends b bs (concat others) ends (no_feed bs others z.1) in
    by_front b [] m others (alone_marked b m z.0) (lines_ended b (concat others) still ∙ ap (λ ls. (b ∷ []) ∷ ls) (more others z.1))

going_on : (b : ℕ) (bs l m : List ℕ) (lines others : List (List ℕ)) → ends_line (b ∷ bs) ≡ false → lines_of bs ≡ l ∷ lines
    → IsAfter (b ∷ l) m → AllZip IsMarked lines others → Holds bs → lines_of (m ++ concat others) ≡ m ∷ others
going_on b bs l m lines others goes is i z more =
    let zipped : AllZip IsMarked (lines_of bs) (l ∷ others) =
    subst (λ ls. AllZip IsMarked ls (l ∷ others)) (sym is) (inl (record { front = []; parts = refl; plain = refl }), z) in
    let still : ends_line (b ∷ (l ++ concat others)) ≡ false =
    still_goes b bs (l ++ concat others) goes (keeps_feed bs l lines (concat others) is) in
    by_front b l m others i (lines_going b (l ++ concat others) still ∙ ap (with_first b) (more (l ∷ others) zipped))

going : (b : ℕ) (bs : List ℕ) (lines others : List (List ℕ)) → ends_line (b ∷ bs) ≡ false → lines_of bs ≡ lines
    → AllZip IsMarked (with_first b lines) others → Holds bs → lines_of (concat others) ≡ others
going b bs [] [] goes is z more = absurd z
going b bs [] (m ∷ []) goes is z more =
    let none : bs ≡ [] = sym (lines_joined bs) ∙ ap concat is in
    let last : ends_line (b ∷ []) ≡ false = subst (λ xs. ends_line (b ∷ xs) ≡ false) none goes in
    by_front b [] m [] (alone_marked b m z.0) (lines_going b [] last)
going b bs [] (m ∷ n ∷ others) goes is z more = absurd z.1
going b bs (l ∷ lines) [] goes is z more = absurd z
going b bs (l ∷ lines) (m ∷ others) goes is z more = elim (first_marked b l m z.0) [
  | inl i ↦ going_on b bs l m lines others goes is i z.1 more
  | inr cut ↦ more (m ∷ others) (subst (λ ls. AllZip IsMarked ls (m ∷ others)) (sym is) (inr cut, z.1))
]

pub marked_lines : (text : List ℕ) (others : List (List ℕ)) → AllZip IsMarked (lines_of text) others → lines_of (concat others) ≡ others
marked_lines [] [] z = refl
marked_lines [] (m ∷ others) z = absurd z
marked_lines (b ∷ bs) others z = elim (cases_Bool (ends_line (b ∷ bs))) [
  | inl ends ↦ ended b bs others ends (subst (λ ls. AllZip IsMarked ls others) (lines_ended b bs ends) z) (marked_lines bs)
  | inr goes ↦ going b bs (lines_of bs) others goes refl (subst (λ ls. AllZip IsMarked ls others) (lines_going b bs goes) z) (marked_lines bs)
]

-- bytes that end no line
pub none_spaces : (n : ℕ) (bytes : List ℕ) → ends_none bytes ≡ true → ends_none (spaces n ++ bytes) ≡ true
none_spaces zero bytes none = none
none_spaces (suc n) bytes none = none_spaces n bytes none

pub none_of_spaces : (n : ℕ) → ends_none (spaces n) ≡ true
none_of_spaces n = subst (λ bytes. ends_none bytes ≡ true) (append-nil (spaces n)) (none_spaces n [] refl)

pub none_joined : (bytes more : List ℕ) → ends_none bytes ≡ true → ends_none more ≡ true → ends_none (bytes ++ more) ≡ true
none_joined bytes more h h' = list_all-append (λ b. not (is_line_ending b)) bytes more ∙ rw (h, h') refl
