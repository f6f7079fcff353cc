-- The value is that of the attributes that are left.
use Rattle.std.proofs.Common.{◌≡◌, drop, map}
use Rattle.html_attributes.specs.Attributes.{seen_attribute, value_of}
use Rattle.html_attributes.proofs.attributes.value_of.Given as goal

abbrev pub invariant-loop-attribute : goal.invariant-loop-attribute
invariant-loop-attribute l =
    value_of l.name (map seen_attribute (drop l.attribute-index l.attributes)) ≡ value_of l.name (map seen_attribute l.attributes)
