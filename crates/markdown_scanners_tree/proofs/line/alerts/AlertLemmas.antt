-- Names of alerts, and the lines that they stand in.
use Rattle.std.proofs.Common.{ℕ, cond, Bool, true, false, ◌≡◌, refl, sym, ap, ◌∙◌, ◌==◌, ◌&&◌, ◌↔◌, List, [], ◌∷◌, ◌+◌, ◌<◌, ◌≤◌, length, take, drop, map, get_or, IsTrue, Option, Some, None}
use denote.Ref.{Bor}
use Rattle.std.specs.Bool.{one_answer}
use Rattle.std.specs.Char.{to_ascii_lowercase}
use Rattle.std.specs.Option.{option_map}
use Rattle.std.specs.Str.{str_eq_ignore_ascii_case, bytes_eq}
use Rattle.markdown_values.specs.declared.values.BlockQuoteKind.{BlockQuoteKind}
use Rattle.std.proofs.Math.ListN.{drop_of_length-le}
use Rattle.std.proofs.lemmas.List.{drop_more}
use Rattle.std.proofs.lemmas.Slice.Eq.{bytes_eq-Decides}
use Rattle.markdown_scanners_tree.specs.Bytes.{begins_with, blank_line}
use Rattle.markdown_scanners_tree.specs.line.Outcome.{is_alert_name, alert_name, alert_among, alert_before_blank, alert_line}

-- a row of the table, as its name's bytes and its kind
abbrev pub alert_row : Bor (List ℕ) × BlockQuoteKind → List ℕ × BlockQuoteKind
alert_row row = (row.0.now, row.1)

-- a row that does not stand at the front is passed over
pub alert_next : (rows : List (Bor (List ℕ) × BlockQuoteKind)) (row : Bor (List ℕ) × BlockQuoteKind) (bytes : List ℕ)
    (i : ℕ) {answer : Option (BlockQuoteKind × ℕ)}
    → i < length rows → is_alert_name (get_or rows i row).0.now bytes ≡ false
    → alert_among (map alert_row (drop i rows)) bytes ≡ answer
    → alert_among (map alert_row (drop (i + 1) rows)) bytes ≡ answer
alert_next rows row bytes i inside other so_far =
    let others = alert_among (map alert_row (drop (i + 1) rows)) bytes in
    let here = get_or rows i row in
    sym (ap (λ r. alert_among (map alert_row r) bytes) (drop_more rows i row inside)
    ∙ ap (λ t. cond t (Some (here.1, length here.0.now + 1)) others) other) ∙ so_far

and_false : (t : Bool) → (t && false) ≡ false
and_false true = refl
and_false false = refl

pub name_too_long : (name bytes : List ℕ) → length bytes ≤ length name → is_alert_name name bytes ≡ false
name_too_long name bytes short =
    let none : begins_with (λ b. b == 93) (drop (length name) bytes) ≡ false =
    ap (begins_with (λ b. b == 93)) (drop_of_length-le bytes short) in
    ap (λ t. str_eq_ignore_ascii_case (take (length name) bytes) name && t) none ∙ and_false _

pub name_then : (name bytes : List ℕ) → length name < length bytes
    → is_alert_name name bytes
    ≡ (str_eq_ignore_ascii_case (take (length name) bytes) name && (get_or bytes (length name) 0 == 93))
name_then name bytes inside =
    ap (λ r. str_eq_ignore_ascii_case (take (length name) bytes) name && begins_with (λ b. b == 93) r)
    (drop_more bytes (length name) 0 inside)

pub case_test : (r : Bool) (a b : List ℕ) → (IsTrue r ↔ (map to_ascii_lowercase a ≡ map to_ascii_lowercase b))
    → r ≡ str_eq_ignore_ascii_case a b
case_test r a b test = one_answer r (str_eq_ignore_ascii_case a b) test
    (bytes_eq-Decides (map to_ascii_lowercase a) (map to_ascii_lowercase b))

-- an alert's line, from what stands after `[!`
pub alert_line-found : (bytes name : List ℕ) (kind : BlockQuoteKind) (n rest : ℕ)
    → bytes_eq (take 2 bytes) (91 ∷ 33 ∷ []) ≡ true → name ≡ drop 2 bytes
    → Some (kind, n) ≡ alert_name name → Some rest ≡ blank_line (drop n name)
    → Some (kind, 2 + n + rest) ≡ alert_line bytes
alert_line-found bytes name kind n rest begins after named blank =
    ap (option_map (λ (r : ℕ). (kind, 2 + n + r))) blank ∙ ap (alert_before_blank name) named
    ∙ ap (λ x. alert_before_blank x (alert_name x)) after
    ∙ sym (ap (λ t. cond t (alert_before_blank (drop 2 bytes) (alert_name (drop 2 bytes))) None) begins)
