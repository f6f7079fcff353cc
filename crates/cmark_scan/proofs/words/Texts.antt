-- The words as references and as lists of bytes.
use Rattle.std.proofs.Common.{◌≡◌, ℕ, length, List, [], ◌∷◌, Option, refl, ap, map, sym, is_some}
use denote.Ref.{Bor}
use Rattle.std.specs.List.{list_all, filter_map, cons_option}
use Rattle.std.proofs.lemmas.List.{length-map}
use Rattle.std.proofs.lemmas.List.Folds.{list_all-map}
use Rattle.cmark_scan.specs.words.Words.{call_of, are_calls, calls_of}
use Rattle.cmark_scan.specs.words.Command.{texts}

filter_map-map : {X Y Z : Type 0} (h : X → Option Y) (f : Z → X) (zs : List Z) → filter_map (λ z. h (f z)) zs ≡ filter_map h (map f zs)
filter_map-map h f [] = refl
filter_map-map h f (z ∷ zs) = ap (λ ys. cons_option (h (f z)) ys) (filter_map-map h f zs)

pub are_calls_texts : (words : List (Bor (List ℕ))) → list_all (λ word. is_some (call_of word.now)) words ≡ are_calls (texts words)
are_calls_texts words = sym (list_all-map (λ word. is_some (call_of word)) (λ word. word.now) words)

pub calls_of_texts : (words : List (Bor (List ℕ))) → filter_map (λ word. call_of word.now) words ≡ calls_of (texts words)
calls_of_texts words = filter_map-map call_of (λ word. word.now) words

pub length_texts : (words : List (Bor (List ℕ))) → length words ≡ length (texts words)
length_texts words = sym (length-map words (λ word. word.now))
