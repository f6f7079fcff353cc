-- What words ask for, one after the other.
use Rattle.std.proofs.Common.{ℕ, Bool, true, false, ◌||◌, ◌≡◌, ◌+◌, ◌<◌, List, ◌∷◌, Option, Some, None, refl, sym, ◌∙◌, drop, get_or, length, if◌then◌else◌}
use Rattle.std.proofs.lemmas.List.{at_drop_more}
use Rattle.std.specs.Borrow.{Bor}
use Rattle.std.specs.Option.{option_map, option_or}
use Rattle.std.specs.Str.{bytes_eq}
use Rattle.markdown_values.specs.declared.values.extensions.Extensions.{Extensions}
use Rattle.page_programs.specs.Arguments.{after, asks, is_last}
use Rattle.page_programs.specs.Asked.{both_flags, flags_by, flags_of, root, root_of}
use Rattle.page_programs.specs.Extensions.{both, extensions_by, extensions_of, gfm, is_on}
use Rattle.page_programs.specs.declared.asked.Flags.{Flags}

-- an option is asked for by a word, by those after it, or before
or_later : (later is before : Bool) → later || (is || before) ≡ (if is then true else later) || before
or_later true true before = refl
or_later false true before = refl
or_later later false before = refl

-- the same of one that another asks for too
or_both : (one other one_is other_is before : Bool)
    → (one || other) || ((one_is || other_is) || before) ≡ ((if one_is then true else one) || (if other_is then true else other)) || before
or_both true other true other_is before = refl
or_both false true true other_is before = refl
or_both false false true other_is before = refl
or_both true other false other_is before = refl
or_both false other false other_is before = or_later other other_is before

-- the value that a word gives, that of those after it, or the one before
value_or_later : (later : Option (List ℕ)) (one before : Option (Bor (List ℕ)))
    → option_or later (option_map (λ value. value.now) (option_or one before))
    ≡ option_or (option_or later (option_map (λ value. value.now) one)) (option_map (λ value. value.now) before)
value_or_later (Some value) one before = refl
value_or_later None (Some value) before = refl
value_or_later None None before = refl

-- a word that is not `--`, and the arguments after it
module _ (word : Bor (List ℕ)) (arguments : List (Bor (List ℕ))) (more : is_last word.now ≡ false) where
  asked_next : (option : List ℕ) (before : Bool)
      → asks option arguments || (bytes_eq word.now option || before) ≡ asks option (word ∷ arguments) || before
  asked_next option before = rw more (or_later (asks option arguments) (bytes_eq word.now option) before)

  on_next : (option : List ℕ) (before : Bool)
      → is_on option arguments || ((bytes_eq word.now gfm || bytes_eq word.now option) || before) ≡ is_on option (word ∷ arguments) || before
  on_next option before =
      rw more (or_both (asks gfm arguments) (asks option arguments) (bytes_eq word.now gfm) (bytes_eq word.now option) before)

  flags_next : (flags : Flags) → both_flags (flags_of arguments) (both_flags (flags_by word.now) flags) ≡ both_flags (flags_of (word ∷ arguments)) flags
  flags_next flags = simp asked_next

  extensions_next : (asked : Extensions)
      → both (extensions_of arguments) (both (extensions_by word.now) asked) ≡ both (extensions_of (word ∷ arguments)) asked
  extensions_next asked = simp (on_next, asked_next)

  root_next : (one before : Option (Bor (List ℕ))) → option_map (λ value. value.now) one ≡ after root word.now
      → option_or (root_of arguments) (option_map (λ value. value.now) (option_or one before))
      ≡ option_or (root_of (word ∷ arguments)) (option_map (λ value. value.now) before)
  root_next one before found =
      rw (more, ← found) (value_or_later (root_of arguments) one before)

-- the word at an index, which is not `--`, and the arguments after it
module _ (arguments : List (Bor (List ℕ))) (i : ℕ) (d : Bor (List ℕ)) (low : i < length arguments) (more : is_last (get_or arguments i d).now ≡ false) where
  pub flags_step : (flags : Flags) → both_flags (flags_of (drop (i + 1) arguments)) (both_flags (flags_by (get_or arguments i d).now) flags)
      ≡ both_flags (flags_of (drop i arguments)) flags
  flags_step flags =
      flags_next (get_or arguments i d) (drop (i + 1) arguments) more flags
      ∙ sym (at_drop_more (λ rest. both_flags (flags_of rest) flags) arguments i d low)

  pub extensions_step : (asked : Extensions) → both (extensions_of (drop (i + 1) arguments)) (both (extensions_by (get_or arguments i d).now) asked)
      ≡ both (extensions_of (drop i arguments)) asked
  extensions_step asked =
      extensions_next (get_or arguments i d) (drop (i + 1) arguments) more asked
      ∙ sym (at_drop_more (λ rest. both (extensions_of rest) asked) arguments i d low)

  pub root_step : (one before : Option (Bor (List ℕ))) → option_map (λ value. value.now) one ≡ after root (get_or arguments i d).now
      → option_or (root_of (drop (i + 1) arguments)) (option_map (λ value. value.now) (option_or one before))
      ≡ option_or (root_of (drop i arguments)) (option_map (λ value. value.now) before)
  root_step one before found =
      root_next (get_or arguments i d) (drop (i + 1) arguments) more one before found
      ∙ sym (at_drop_more (λ rest. option_or (root_of rest) (option_map (λ value. value.now) before)) arguments i d low)
