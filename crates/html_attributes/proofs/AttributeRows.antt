-- Worked rows of attributes. (HTML Living Standard, section 13.2.5.32 to 39)
use Rattle.std.proofs.Common.{List, ℕ, [], ◌∷◌, ◌≡◌, Some, None, refl, false, true}
use Rattle.std.specs.Prelude.{codes}
use Rattle.html_attributes.specs.Attributes.{Written, after_attribute, attribute_at, is_end, value_of}

abbrev written : List ℕ → List ℕ → Written
written name value = record { name = name; value = value }

-- values without quotation marks end at white space or `>`, and may hold a slash
bare : attribute_at (codes "id=x>") ≡ written (codes "id") (codes "x")
bare = refl

bare_slash : attribute_at (codes "href=a/>") ≡ written (codes "href") (codes "a/")
bare_slash = refl

bare_rest : after_attribute (codes "id=x y>") ≡ codes " y>"
bare_rest = refl

-- values in quotation marks end at the next one of their kind
double : attribute_at (codes "id=\"a'b>\" c") ≡ written (codes "id") (codes "a'b>")
double = refl

single : attribute_at (codes "id='a\"b' c") ≡ written (codes "id") (codes "a\"b")
single = refl

double_rest : after_attribute (codes "id=\"a\"b>") ≡ codes "b>"
double_rest = refl

unclosed : after_attribute (codes "id=\"a>") ≡ []
unclosed = refl

-- white space may stand on both sides of the equals sign
spaced : attribute_at (codes "id = x>") ≡ written (codes "id") (codes "x")
spaced = refl

-- an attribute may have no value, also before `>` and after an equals sign
no_value : attribute_at (codes "data-x id=y>") ≡ written (codes "data-x") []
no_value = refl

no_value_rest : after_attribute (codes "data-x id=y>") ≡ codes " id=y>"
no_value_rest = refl

empty_value : attribute_at (codes "id=>") ≡ written (codes "id") []
empty_value = refl

empty_value_rest : after_attribute (codes "id=>") ≡ codes ">"
empty_value_rest = refl

-- a first equals sign belongs to the name, as other signs do
equals_name : attribute_at (codes "=a=b>") ≡ written (codes "=a") (codes "b")
equals_name = refl

other_name : attribute_at (codes "@click=\"f\">") ≡ written (codes "@click") (codes "f")
other_name = refl

-- the first attribute of a name counts, in letters of any case
first_counts : value_of (codes "id") (written (codes "ID") (codes "x") ∷ written (codes "id") (codes "y") ∷ []) ≡ Some (codes "x")
first_counts = refl

other_names : value_of (codes "id") (written (codes "idx") (codes "x") ∷ []) ≡ None
other_names = refl

ends : is_end (codes ">") ≡ true
ends = refl

ends_at_end : is_end [] ≡ true
ends_at_end = refl

goes_on : is_end (codes "a>") ≡ false
goes_on = refl
