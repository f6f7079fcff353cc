-- The first attribute of a name.
use Rattle.std.proofs.Common.{ℕ, List, ◌≡◌, ◌+◌, ◌<◌, Some, drop, get_or, length, map, if◌then◌else◌}
use Rattle.std.specs.Str.{str_eq_ignore_ascii_case}
use Rattle.std.proofs.lemmas.List.{at_drop_more}
use Rattle.html_attributes.specs.declared.attributes.Attribute.{Attribute}
use Rattle.html_attributes.specs.Attributes.{seen_attribute, value_of}

-- the value from one attribute on: its own, if it has the name, and else that from the next one on
pub first_value : (name : List ℕ) (attributes : List Attribute) (i : ℕ) (d : Attribute) → i < length attributes
    → value_of name (map seen_attribute (drop i attributes))
    ≡ (if str_eq_ignore_ascii_case (get_or attributes i d).name.now name then Some (get_or attributes i d).value.now
    else value_of name (map seen_attribute (drop (i + 1) attributes)))
first_value name attributes i d low = at_drop_more (λ rest. value_of name (map seen_attribute rest)) attributes i d low
