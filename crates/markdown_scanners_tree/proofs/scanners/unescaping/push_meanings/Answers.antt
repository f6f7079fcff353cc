use Rattle.std.proofs.Common.{◌≡◌, ◌++◌, arith, ap, ◌∙◌, List, ℕ, if◌then◌else◌}
use Rattle.std.specs.Prelude.{Result, Ok, Err, OnOk, is_ok}
use Rattle.std.proofs.lemmas.Bool.{false≢true}
use Rattle.markdown_scanners_tree.specs.scanners.unescaping.Unescaping.{joined_meanings}
use Rattle.std.specs.String.{string_bytes, string_len, string_capacity}
use Rattle.markdown_scanners_tree.proofs.scanners.unescaping.PieceLemmas.{built_start, built_step, built_room, built_end}
use Rattle.markdown_scanners_tree.proofs.scanners.unescaping.push_meanings.Goals as goal

-- what a push that succeeded has made
pushed : {A B : Type 0} (r : Result A B) (new old tail whole : List ℕ) → new ≡ (if is_ok r then old ++ tail else old)
    → old ++ tail ≡ whole → OnOk r (new ≡ whole)
pushed (Ok x) new old tail whole is same = is ∙ same
pushed (Err e) new old tail whole is same = tt

pub loop-i-init : goal.loop-i-init
loop-i-init g c = record {
  built = built_start c.args.is_in_table (g.E.Entities.known c.args.entities.now) c.args.text.now
      (string_bytes c.args.out.now) (string_len c.args.out.now) c.utf8.text;
  capacity = omega arith;
}

pub returns-in_err-run-clause-room : goal.returns-in_err-run-clause-room
returns-in_err-run-clause-room g c = λ ps are room.
    let known = g.E.Entities.known c.args.entities.now in
    absurd (false≢true (c.in_err-run.ensures.room (λ n dropped instead is.
    built_room c.args.is_in_table known c.args.text.now c.loop-i.i n c.loop-i.run (string_bytes c.args.out.now)
    (string_len c.args.out.now) (string_bytes c.loop-i.out) (string_len c.loop-i.out) c.loop-i.invariant.built
    dropped instead ps (string_capacity c.loop-i.out) is.first are (omega (arith, room, c.loop-i.invariant.capacity)))))

pub loop-i-preserved : goal.loop-i-preserved
loop-i-preserved g c =
    let known = g.E.Entities.known c.args.entities.now in
    record {
      built = built_step c.args.is_in_table known c.args.text.now c.loop-i.i c.loop-i.run (string_bytes c.args.out.now)
          (string_len c.args.out.now) c.loop-i.out c.push_first.new.out _ _
          c.loop-i.invariant.built c.utf8.text c.in_ok-run.ensures.on c.in_ok-run.ensures.pushed;
      capacity = omega (arith, c.loop-i.invariant.capacity, c.push_first.ensures.capacity);
    }

pub returns-clause-bytes : goal.returns-clause-bytes
returns-clause-bytes g c = λ ps are.
    let whole =
    built_end c.args.is_in_table (g.E.Entities.known c.args.entities.now) c.args.text.now c.loop-i.i c.loop-i.run
    (string_bytes c.args.out.now) (string_len c.args.out.now) (string_bytes c.loop-i.out) (string_len c.loop-i.out)
    c.loop-i.invariant.built (omega (arith, c.loop-i-test.false)) ps are in
    pushed c.push_str.result (string_bytes c.push_str.new.self) (string_bytes c.loop-i.out) c.range_from.result.now
    (string_bytes c.args.out.now ++ joined_meanings ps) c.push_str.ensures.bytes
    (ap (λ r. string_bytes c.loop-i.out ++ r) c.range_from.ensures.value ∙ whole)
