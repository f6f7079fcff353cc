-- The bits of every extension, and of a setting.
use Rattle.std.proofs.Common.{Bool, false, true, ◌≡◌, refl}
use Rattle.bitflags.specs.Sets.{known_bits, known_from}
use Rattle.markdown_values.specs.declared.values.extensions.Extensions.{Extensions}
use Rattle.markdown_values.specs.values.Extensions.{asked_by, extension_bits, extension_table}

pub all_known : known_bits extension_table ≡ 65534
unfolding known_from
all_known = refl

abbrev set : Bool → Bool → Bool → Bool → Bool → Bool → Extensions
set a b c d e f = record { tables = a; footnotes = b; strikethrough = c; tasks = d; definition_lists = e; wikilinks = f }

-- what the options ask for that ask for these, in each of the 64 cases
each_comes_back : (a b c d e f : Bool) → asked_by (record { 0 = extension_bits (set a b c d e f) }) ≡ set a b c d e f
each_comes_back false false false false false false = refl
each_comes_back false false false false false true = refl
each_comes_back false false false false true false = refl
each_comes_back false false false false true true = refl
each_comes_back false false false true false false = refl
each_comes_back false false false true false true = refl
each_comes_back false false false true true false = refl
each_comes_back false false false true true true = refl
each_comes_back false false true false false false = refl
each_comes_back false false true false false true = refl
each_comes_back false false true false true false = refl
each_comes_back false false true false true true = refl
each_comes_back false false true true false false = refl
each_comes_back false false true true false true = refl
each_comes_back false false true true true false = refl
each_comes_back false false true true true true = refl
each_comes_back false true false false false false = refl
each_comes_back false true false false false true = refl
each_comes_back false true false false true false = refl
each_comes_back false true false false true true = refl
each_comes_back false true false true false false = refl
each_comes_back false true false true false true = refl
each_comes_back false true false true true false = refl
each_comes_back false true false true true true = refl
each_comes_back false true true false false false = refl
each_comes_back false true true false false true = refl
each_comes_back false true true false true false = refl
each_comes_back false true true false true true = refl
each_comes_back false true true true false false = refl
each_comes_back false true true true false true = refl
each_comes_back false true true true true false = refl
each_comes_back false true true true true true = refl
each_comes_back true false false false false false = refl
each_comes_back true false false false false true = refl
each_comes_back true false false false true false = refl
each_comes_back true false false false true true = refl
each_comes_back true false false true false false = refl
each_comes_back true false false true false true = refl
each_comes_back true false false true true false = refl
each_comes_back true false false true true true = refl
each_comes_back true false true false false false = refl
each_comes_back true false true false false true = refl
each_comes_back true false true false true false = refl
each_comes_back true false true false true true = refl
each_comes_back true false true true false false = refl
each_comes_back true false true true false true = refl
each_comes_back true false true true true false = refl
each_comes_back true false true true true true = refl
each_comes_back true true false false false false = refl
each_comes_back true true false false false true = refl
each_comes_back true true false false true false = refl
each_comes_back true true false false true true = refl
each_comes_back true true false true false false = refl
each_comes_back true true false true false true = refl
each_comes_back true true false true true false = refl
each_comes_back true true false true true true = refl
each_comes_back true true true false false false = refl
each_comes_back true true true false false true = refl
each_comes_back true true true false true false = refl
each_comes_back true true true false true true = refl
each_comes_back true true true true false false = refl
each_comes_back true true true true false true = refl
each_comes_back true true true true true false = refl
each_comes_back true true true true true true = refl

pub comes_back : (asked : Extensions) → asked_by (record { 0 = extension_bits asked }) ≡ asked
comes_back asked =
    each_comes_back asked.tables asked.footnotes asked.strikethrough asked.tasks asked.definition_lists asked.wikilinks
