-- What stands after the underline of a heading.
use Rattle.std.proofs.Common.{ℕ, Bool, true, false, not, ◌==◌, ◌≡◌, List, ◌++◌, drop, length, Some, refl, ap, ◌∙◌}
use Rattle.std.specs.List.{prefix_len}
use Rattle.std.proofs.Math.Seq.{drop-append_seam}
use Rattle.markdown_values.specs.declared.values.HeadingLevel.{HeadingLevel}
use Rattle.markdown_values.specs.declared.values.HeadingLevel.TheVariants.{H1, H2, H3, H4, H5, H6}
use Rattle.markdown_scanners_tree.specs.Ascii.{hyphen}
use Rattle.markdown_scanners_tree.specs.Bytes.{begins_with}
use Rattle.markdown_scanners_tree.specs.scanners.Headings.{IsSetextUnderline, underline_byte}
use Rattle.markdown_scanners_tree.proofs.PrefixLemmas.{prefix_len-parts}

not_so : (t : Bool) → not t ≡ true → t ≡ false
not_so true h = cc
not_so false h = refl

pub after_run : (text : List ℕ) (n byte : ℕ) (level : HeadingLevel) (u : IsSetextUnderline text n level) → byte ≡ u.byte
    → drop (prefix_len (λ b. b == byte) text) text ≡ u.rest
after_run text n byte level u same =
    let run = u.is_run in
    let count : prefix_len (λ b. b == u.byte) (u.run ++ u.rest) ≡ length u.run =
    prefix_len-parts (λ b. b == u.byte) u.run u.rest run.all (not_so (begins_with (λ b. b == u.byte) u.rest) run.longest) in
    ap (λ c. drop (prefix_len (λ b. b == c) text) text) same ∙ ap (λ t. drop (prefix_len (λ b. b == u.byte) t) t) run.parts
    ∙ ap (λ k. drop k (u.run ++ u.rest)) count ∙ drop-append_seam u.run u.rest

-- the byte of an underline of a heading of another level than 1
pub other_byte : (level : HeadingLevel) (byte : ℕ) → ¬ (level ≡ H1) → underline_byte level ≡ Some byte → hyphen ≡ byte
other_byte H1 byte other of = absurd (other refl)
other_byte H2 byte other of = cc
other_byte H3 byte other of = cc
other_byte H4 byte other of = cc
other_byte H5 byte other of = cc
other_byte H6 byte other of = cc
