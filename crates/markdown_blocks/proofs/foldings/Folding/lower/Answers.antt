use Rattle.std.proofs.Common.{◌≡◌, ◌++◌, ◌-◌, length, map, take, sym, ap, ◌∙◌, subst}
use Rattle.std.specs.Prelude.{replicate}
use Rattle.std.proofs.Math.Seq.{take-append_seam}
use Rattle.std.proofs.lemmas.List.{drop-replicate, length-map}
use Rattle.std.proofs.lemmas.Str.{IsUtf8-from_ascii}
use Rattle.std.proofs.lemmas.Str.Ascii.{IsAscii-map, lowercase_ascii}
use Rattle.std.specs.Char.{to_ascii_lowercase}
use Rattle.std.specs.Str.{IsUtf8}
use Rattle.markdown_blocks.specs.foldings.Fronts.{front_of, HasDigits}
use Rattle.markdown_blocks.proofs.foldings.FrontLemmas.{digits_before, zeros_after}
use Rattle.markdown_blocks.proofs.foldings.Folding.lower.Goals as goal

pub invariant_of-result-2 : goal.invariant_of-result-2
invariant_of-result-2 c =
    let text = c.args.text.now in
    let lower = c.make_ascii_lowercase.new.self in
    let is : lower ≡ map to_ascii_lowercase text =
    c.make_ascii_lowercase.ensures.after ∙ ap (map to_ascii_lowercase) (c.copy_from_slice.ensures.after ∙ c.as_bytes.ensures.value) in
    let size : length lower ≡ length text = ap length is ∙ length-map text to_ascii_lowercase in
    let front : take (length text) (lower ++ c.split_at_mut-lower.result.1.now) ≡ lower =
    ap (λ n. take n (lower ++ c.split_at_mut-lower.result.1.now)) (sym size) ∙ take-append_seam lower c.split_at_mut-lower.result.1.now in
    let zeros : c.split_at_mut-lower.result.1.now ≡ replicate (32 - length text) 0 =
    c.split_at_mut-lower.ensures.back ∙ drop-replicate (length text) 32 0 in
    let padded : lower ++ c.split_at_mut-lower.result.1.now ≡ lower ++ replicate (32 - length text) 0 = ap (λ tail. lower ++ tail) zeros in
    let utf8 : IsUtf8 lower =
    subst IsUtf8 (sym is) (IsUtf8-from_ascii (map to_ascii_lowercase text) (IsAscii-map to_ascii_lowercase text lowercase_ascii c.requires.ascii)) in (
      c.front_of.ensures.front ∙ ap front_of padded ∙ zeros_after 8 0 (32 - length text) lower ∙ ap front_of (sym front),
      subst (HasDigits 8) (sym front) (digits_before 8 (32 - length text) lower (subst (HasDigits 8) padded c.front_of.ensures.digits)),
      subst IsUtf8 (sym front) utf8,
    )
