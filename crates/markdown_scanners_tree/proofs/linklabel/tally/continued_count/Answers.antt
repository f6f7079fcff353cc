-- ASCII has no byte that begins no character.
use Rattle.std.proofs.Common.{ℕ, suc, List, [], ◌∷◌, ◌≡◌, ◌<◌, ◌+◌, ◌-◌, ◌∙◌, refl, sym, ap, take, drop, arith, IsAscii}
use Rattle.std.proofs.lemmas.Bool.Decides.{nat_tests}
use Rattle.std.proofs.lemmas.List.Sums.{sum_by-append, sum_by-take-le}
use Rattle.std.specs.List.{sum_by}
use Rattle.markdown_scanners_tree.specs.linklabel.private.Pass.{continued}
use Rattle.markdown_scanners_tree.proofs.linklabel.WordSteps.{count_within, counted_more}
use Rattle.markdown_scanners_tree.proofs.linklabel.tally.continued_count.Goals as goal

ascii_begins : (b : ℕ) → b < 128 → continued b ≡ 0
ascii_begins b ascii = grind (arith, nat_tests, ascii)

all_begin : (bytes : List ℕ) → IsAscii bytes → sum_by continued bytes ≡ 0
all_begin [] ascii = refl
all_begin (b ∷ bs) ascii =
    let first : continued b ≡ 0 = ascii_begins b (ascii 0) in
    let rest : sum_by continued bs ≡ 0 = all_begin bs (λ i. ascii (suc i)) in
    sum_by-append continued (b ∷ []) bs ∙ (λ i. (0 + first i) + rest i)

pub returns-then-is_ascii : goal.returns-then-is_ascii
returns-then-is_ascii c = sym (all_begin c.args.bytes.now c.if-is_ascii.ensures.cases)

pub loop-from-init : goal.loop-from-init
loop-from-init c = record { within = omega arith; counted = refl }

pub overflow_add-count : goal.overflow_add-count
overflow_add-count c =
    let bytes = c.args.bytes.now in
    let from = c.loop-from.from in
    let few = c.min.result in
    let same : from + few - from ≡ few = omega arith in
    let more : c.continued_in_part-more.result ≡ sum_by continued (take few (drop from bytes)) =
    c.continued_in_part-more.ensures ∙ ap (λ k. sum_by continued (take k (drop from bytes))) same in
    let whole = sum_by-take-le continued bytes (from + few) in
    rw (c.loop-from.invariant.counted, more)
    (omega (arith, counted_more bytes from few, whole, count_within bytes))

pub loop-from-preserved : goal.loop-from-preserved
loop-from-preserved c =
    let bytes = c.args.bytes.now in
    let from = c.loop-from.from in
    let few = c.min.result in
    let same : from + few - from ≡ few = omega arith in
    let more : c.continued_in_part-more.result ≡ sum_by continued (take few (drop from bytes)) =
    c.continued_in_part-more.ensures ∙ ap (λ k. sum_by continued (take k (drop from bytes))) same in
    record {
      within = omega arith;
      counted = rw (c.loop-from.invariant.counted, more) (sym (counted_more bytes from few));
    }
