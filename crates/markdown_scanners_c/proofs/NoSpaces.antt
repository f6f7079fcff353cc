-- Where nothing is pending and no space stands, none is taken.
use Rattle.std.proofs.Common.{ℕ, List, [], ◌∷◌, ◌≡◌, ◌+◌, ◌%◌, Bool, true, false, not, IsTrue, refl, sym, subst, arith}
use Rattle.std.specs.List.{prefix_len}
use Rattle.markdown_scanners_tree.specs.Bytes.{begins_with, is_space_or_tab}
use Rattle.markdown_scanners_tree.specs.line.Outcome.{after_all_space}
use Rattle.markdown_scanners_tree.specs.line.State.{LineState, IsLineState, unscanned}
use Rattle.markdown_scanners_tree.proofs.line.SpaceLemmas.{IsTaken, none_at_front, none_of_byte}
use Rattle.markdown_scanners_c.specs.private.NoSpace.{HasNoSpace}

pub no_space : (s : LineState) → IsLineState s → s.pending ≡ 0 → begins_with is_space_or_tab (unscanned s) ≡ false → HasNoSpace s
no_space s is none other n =
    let phase : s.phase % 4 ≡ s.phase = omega (arith, is.2) in
    let t : IsTaken n 0 s s = subst (λ (z : LineState). IsTaken n 0 z z) (λ i. record s { phase = phase i })
    (none_of_byte s.bytes s.offset s.phase s.pending n none is.0 (none_at_front (unscanned s) s.phase other)) in
    (sym t.answer, sym t.state)

none_leads : (p : ℕ → Bool) (bs : List ℕ) → begins_with p bs ≡ false → prefix_len p bs ≡ 0
none_leads p [] h = refl
none_leads p (b ∷ bs) h = rw h refl

pub all_space_stays : (s : LineState) → IsLineState s → s.pending ≡ 0 → begins_with is_space_or_tab (unscanned s) ≡ false
    → after_all_space s ≡ s
all_space_stays s is none other =
    let n = prefix_len is_space_or_tab (unscanned s) in
    let nothing : n ≡ 0 = none_leads is_space_or_tab (unscanned s) other in
    let offset : s.offset + n ≡ s.offset = omega (arith, nothing) in
    let phase : (s.phase + n) % 4 ≡ s.phase = omega (arith, nothing, is.2) in
    λ i. record s { offset = offset i; pending = sym none i; phase = phase i }

pub is_not : (b : Bool) → IsTrue (not b) → b ≡ false
is_not false is = refl
is_not true is = cc
