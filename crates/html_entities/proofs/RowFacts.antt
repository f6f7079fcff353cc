-- How many rows there are.
use Rattle.std.proofs.Common.{◌≡◌, length, codes, refl, ◌∙◌}
use Rattle.std.proofs.lemmas.List.{length-map}
use Rattle.std.specs.Str.{encode_utf8_all}
use Rattle.html_entities.specs.Rows1.{rows_1}
use Rattle.html_entities.specs.Rows2.{rows_2}
use Rattle.html_entities.specs.Rows3.{rows_3}
use Rattle.html_entities.specs.Rows4.{rows_4}
use Rattle.html_entities.specs.Rows5.{rows_5}
use Rattle.html_entities.specs.Entities.{html_rows, names_of, meanings_of}

-- `unfolding the_rows` lets `refl` compute with the rows
unfoldable pub the_rows : Unit {0}
unfolding html_rows rows_1 rows_2 rows_3 rows_4 rows_5 names_of meanings_of
the_rows = tt

pub row_count : length html_rows ≡ 2125
unfolding the_rows
row_count = refl

pub name_count : length (names_of html_rows) ≡ 2125
unfolding names_of
name_count = length-map html_rows (λ row. codes row.0) ∙ row_count

pub meaning_count : length (meanings_of html_rows) ≡ 2125
unfolding meanings_of
meaning_count = length-map html_rows (λ row. encode_utf8_all row.1) ∙ row_count
