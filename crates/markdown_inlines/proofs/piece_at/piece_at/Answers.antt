use Rattle.std.proofs.Common.{◌≡◌, ◌+◌, ◌-◌, ◌<◌, Err, Ok, sym, ap, ◌∙◌, subst, arith, drop, get_or, length}
use Rattle.std.specs.Prelude.{IfOk, IfSome, IfNone, Result}
use Rattle.markdown_scanners_tree.specs.SomeExactly.{SomeExactly}
use Rattle.markdown_inlines.specs.Pieces.{BeginsAt}
use Rattle.markdown_inlines.specs.PieceBytes.{run_length}
use Rattle.markdown_inlines.specs.Searches.{html_searched, kind_searched, text_searched}
use Rattle.markdown_inlines.proofs.guarded_code_spans.LastStringLemmas.{IfNone-map}
use Rattle.markdown_inlines.proofs.searches.SearchLemmas.{none_holds, run_searched_angle, run_searched_other, run_searched_ticks, some_quiet}
use Rattle.markdown_inlines.proofs.piece_at.piece_at.Goals as goal

IfOk-map : {A E : Type 0} {P Q : A → Type 0} (answer : Result A E) → ((a : A) → P a → Q a) → IfOk answer P → IfOk answer Q
IfOk-map (Ok a) holds is = holds a is
IfOk-map (Err e) holds is = tt

pub returns-in-60-clause-found : goal.returns-in-60-clause-found
returns-in-60-clause-found c = λ from apart.
    subst (λ t. SomeExactly (λ r. BeginsAt c.args.extensions t from c.args.offset r.0 r.1) c.angle_at.result) c.as_bytes-bytes.ensures.value
    (c.angle_at.ensures.found c.args.extensions from)

pub returns-in-60-clause-counts : goal.returns-in-60-clause-counts
returns-in-60-clause-counts c =
    subst (λ t. IfSome c.angle_at.result (λ r. c.angle_at.new.searches ≡ kind_searched r.0 t c.args.offset (c.args.offset + r.1) c.args.searches.now))
    c.as_bytes-bytes.ensures.value c.angle_at.ensures.counts

pub returns-in-60-clause-counts_text : goal.returns-in-60-clause-counts_text
returns-in-60-clause-counts_text c =
    let bytes = c.as_bytes-bytes.ensures.value in
    let angle = ap (λ t. get_or t c.args.offset 0) (sym bytes) ∙ c.in-60.is in
    IfNone-map c.angle_at.result (λ is. is ∙ sym (run_searched_angle c.args.text.now c.args.offset c.requires.within c.args.searches.now angle))
    (subst (λ t. IfNone c.angle_at.result (c.angle_at.new.searches ≡ html_searched t c.args.offset c.args.searches.now)) bytes c.angle_at.ensures.counts_text)

pub returns-in-60-clause-stays : goal.returns-in-60-clause-stays
returns-in-60-clause-stays c = λ q less some none. c.angle_at.ensures.stays q less some

pub returns-in-96-clause-found : goal.returns-in-96-clause-found
returns-in-96-clause-found c = IfOk-map c.code_at.result (λ found is from apart.
    subst (λ t. (from < c.args.offset → get_or t (c.args.offset - 1) 0 ≡ 96 → ⊥)
    → SomeExactly (λ r. BeginsAt c.args.extensions t from c.args.offset r.0 r.1) found) c.requires.same
    (is c.args.extensions from) (apart (ap (λ t. get_or t c.args.offset 0) (sym c.as_bytes-bytes.ensures.value) ∙ c.in-96.is)))
    c.code_at.ensures.found

pub returns-in-42-clause-found : goal.returns-in-42-clause-found
returns-in-42-clause-found c = λ from apart. c.delimiters_at.ensures.found c.args.extensions from

pub returns-in_default-clause-found : goal.returns-in_default-clause-found
returns-in_default-clause-found c = λ from apart.
    subst (λ t. SomeExactly (λ r. BeginsAt c.args.extensions t from c.args.offset r.0 r.1) c.short_piece_at.result) c.as_bytes-bytes.ensures.value
    (c.short_piece_at.ensures.found from)

pub returns-in-126-clause-found : goal.returns-in-126-clause-found
returns-in-126-clause-found c = λ from apart. c.tildes_at.ensures.found from

pub returns-in-96-clause-counts_text : goal.returns-in-96-clause-counts_text
returns-in-96-clause-counts_text c =
    let s = c.args.searches.now in
    let offset = c.args.offset in
    let low = subst (λ t. offset < length t) (sym c.requires.same) c.requires.within in
    let tick = ap (λ t. get_or t offset 0) (c.requires.same ∙ sym c.as_bytes-bytes.ensures.value) ∙ c.in-96.is in
    subst (λ t. IfOk c.code_at.result (λ found. IfNone found (c.code_at.new.searches ≡ text_searched t offset (run_length (drop offset t)) s))) c.requires.same
    (IfOk-map c.code_at.result (λ found is. IfNone-map found (λ none. none ∙ sym (run_searched_ticks s.html.text offset low s tick)) is)
    c.code_at.ensures.counts_text)

pub returns-in-42-clause-counts : goal.returns-in-42-clause-counts
returns-in-42-clause-counts c =
    let at = ap (λ t. get_or t c.args.offset 0) (sym c.as_bytes-bytes.ensures.value) in
    some_quiet c.args.extensions c.args.text.now c.args.offset c.delimiters_at.result c.args.searches.now
    (c.delimiters_at.ensures.found c.args.extensions c.args.offset) (λ tick. grind (arith, tick, at, c.in-42.is)) (λ angle. grind (arith, angle, at, c.in-42.is))

pub returns-in-126-clause-counts : goal.returns-in-126-clause-counts
returns-in-126-clause-counts c =
    let at = ap (λ t. get_or t c.args.offset 0) (sym c.as_bytes-bytes.ensures.value) in
    some_quiet c.args.extensions c.args.text.now c.args.offset c.tildes_at.result c.args.searches.now
    (c.tildes_at.ensures.found c.args.offset) (λ tick. omega (arith, tick, at, c.in-126.is)) (λ angle. omega (arith, angle, at, c.in-126.is))

pub returns-in_default-clause-counts : goal.returns-in_default-clause-counts
returns-in_default-clause-counts c =
    let bytes = c.as_bytes-bytes.ensures.value in
    let at = ap (λ t. get_or t c.args.offset 0) (sym bytes) in
    some_quiet c.args.extensions c.args.text.now c.args.offset c.short_piece_at.result c.args.searches.now
    (subst (λ t. SomeExactly (λ r. BeginsAt c.args.extensions t c.args.offset c.args.offset r.0 r.1) c.short_piece_at.result) bytes
    (c.short_piece_at.ensures.found c.args.offset))
    (λ tick. grind (arith, tick, at, c.in_default)) (λ angle. grind (arith, angle, at, c.in_default))

pub returns-in_default-clause-counts_text : goal.returns-in_default-clause-counts_text
returns-in_default-clause-counts_text c =
    let at = ap (λ t. get_or t c.args.offset 0) (sym c.as_bytes-bytes.ensures.value) in
    none_holds c.short_piece_at.result (sym (run_searched_other c.args.text.now c.args.offset c.requires.within c.args.searches.now
    (λ tick. grind (arith, tick, at, c.in_default)) (λ angle. grind (arith, angle, at, c.in_default))))
