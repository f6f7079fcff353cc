-- The pieces of a text, found one after another.
use Rattle.std.proofs.Common.{◌≡◌, ℕ, zero, suc, ◌+◌, ◌-◌, ◌^◌, ◌<◌, ◌≤◌, Bool, min, List, [], ◌∷◌, ◌++◌, length, take, drop, refl, ap, ◌∙◌, sym, subst, arith, append_assoc, take-add, inl, inr}
use Rattle.std.specs.Prelude.{String, slice_range}
use Rattle.std.specs.String.{string_bytes, string_len}
use Rattle.std.specs.Str.{IsUtf8, IsCharBoundary}
use Rattle.std.proofs.lemmas.Str.{IsCharBoundary-after_ascii, IsCharBoundary-start}
use Rattle.std.proofs.lemmas.List.{length-append, length-drop, append-nil, append_cancel_left, drop-drop, drop_at, take_at, drop_all, take_all, get_or-drop, drop-take}
use Rattle.markdown_scanners_tree.specs.scanners.entities.CharacterReference.{Lookup}
use Rattle.markdown_scanners_tree.specs.scanners.unescaping.Unescaping.{Piece, ArePieces, IsFirstFit, IsItself, AreThemselves, joined_meanings}
use Rattle.markdown_scanners_tree.specs.scanners.unescaping.private.FirstPiece.{IsFirstPiece, IsChanged, IsFirstSize, ArePlain, IsPushed, change_len}
use Rattle.markdown_scanners_tree.proofs.scanners.unescaping.FirstPieceLemmas.{same_first}

-- pieces that mean themselves mean the text
pub themselves_join : (in_table : Bool) (known : Lookup) (text : List ℕ) (ps : List Piece)
    → ArePieces in_table known text ps → AreThemselves ps → text ≡ joined_meanings ps
themselves_join in_table known text [] are selves = are
themselves_join in_table known text (p ∷ ps) are selves =
    are.1 ∙ (ap (λ s. s ++ are.0) (selves.0.1 ∙ sym selves.0.2)
    ∙ ap (λ r. p.meaning ++ r) (themselves_join in_table known are.0 ps are.3 selves.1))

-- The first piece at offset i, which is n bytes long.
module _ (in_table : Bool) (known : Lookup) (text : List ℕ) (i n dropped : ℕ) (instead : List ℕ)
    (is : IsFirstPiece in_table known (drop i text) n dropped instead) where
  after_first : drop (i + n) text ≡ is.rest
  after_first = sym (drop-drop n i text)
      ∙ (ap (drop n) is.splits ∙ drop_at is.piece.source is.rest n (sym is.n_is_length))

  source_is : is.piece.source ≡ take n (drop i text)
  source_is = sym (ap (take n) is.splits ∙ take_at is.piece.source is.rest n (sym is.n_is_length))

  -- the pieces after it, with it
  one_more : (qs : List Piece) → ArePieces in_table known (drop (i + n) text) qs
      → ArePieces in_table known (drop i text) (is.piece ∷ qs)
  one_more qs are = (is.rest, is.splits, is.first, subst (λ r. ArePieces in_table known r qs) after_first are)

  first_within : i ≤ length text → i + n ≤ length text
  first_within in' =
      omega (arith, is.n_is_length, ap length is.splits, length-append is.piece.source is.rest, length-drop i text, in')

  -- where it is changed, the text may be cut after what is dropped of it
  dropped_cut : IsUtf8 text → 0 < dropped → i + n ≤ length text → IsCharBoundary text (i + dropped)
  dropped_cut utf8 some in' =
      let at : i + (dropped - 1) + 1 ≡ i + dropped = omega (arith, some) in
      subst (IsCharBoundary text) at
      (IsCharBoundary-after_ascii text (i + (dropped - 1)) utf8 (omega (arith, some, is.dropped_within, in'))
      (subst (λ b. b < 128) (get_or-drop i text (dropped - 1) 0) (is.to_ascii some)))

  meaning_len : length is.piece.meaning ≡ length instead + (n - dropped)
  meaning_len =
      omega (
        arith,
        ap length is.means,
        length-append instead (drop dropped is.piece.source),
        length-drop dropped is.piece.source,
        is.n_is_length,
        is.dropped_within,
      )

  -- Some pieces of what stands at the offset are this one and those after it.
  record IsFirstOf (qs : List Piece) : Type 0 where
    later : List Piece
    later_are : ArePieces in_table known (drop (i + n) text) later
    joined : joined_meanings qs ≡ is.piece.meaning ++ joined_meanings later
    itself : AreThemselves qs → dropped ≡ 0
    later_themselves : AreThemselves qs → AreThemselves later
    themselves : dropped ≡ 0 → AreThemselves later → AreThemselves qs

  first_of : (qs : List Piece) → ArePieces in_table known (drop i text) qs → IsFirstOf qs
  first_of [] are =
      absurd (omega (
        arith,
        is.at_least_one,
        is.n_is_length,
        ap length (sym are ∙ is.splits),
        length-append is.piece.source is.rest,
      ))
  first_of (q ∷ qs) are =
      let same = same_first in_table known (drop i text) is.piece q is.rest are.0 is.splits are.1 is.first are.2 in
      let rest : is.rest ≡ are.0 =
      append_cancel_left q.source is.rest are.0 (ap (λ s. s ++ is.rest) (sym same.0) ∙ (sym is.splits ∙ are.1)) in
      record {
        later = qs;
        later_are = subst (λ r. ArePieces in_table known r qs) (sym (after_first ∙ rest)) are.3;
        joined = ap (λ m. m ++ joined_meanings qs) (sym same.1);
        itself =
            λ selves. elim_dropped (λ some. is.changed some
            (subst (λ m. IsItself is.piece.source m) (sym same.1)
            (subst (λ s. IsItself s q.meaning) (sym same.0) selves.0)));
        later_themselves = λ selves. selves.1;
        themselves =
            λ none rest_selves. (
              subst (λ m. IsItself q.source m) same.1
                  (subst (λ s. IsItself s is.piece.meaning) same.0 (is.itself none)),
              rest_selves,
            );
      }
    where
      elim_dropped : (0 < dropped → ⊥) → dropped ≡ 0
      elim_dropped none = grind (arith, none)

-- After i bytes, whose pieces mean `total` bytes, and of which one is changed where some are
-- dropped. What stands in for these is counted up to what a `usize` holds.
pub record IsMeasured (in_table : Bool) (known : Lookup) (text : List ℕ) (i dropped inserted : ℕ) : Type 0 where
  pub within : i ≤ length text
  pub dropped_within : dropped ≤ i
  pub total : ℕ
  pub counted : min ((i - dropped) + inserted) (2 ^ 64 - 1) ≡ min total (2 ^ 64 - 1)
  pub forth : (qs : List Piece) → ArePieces in_table known (drop i text) qs
      → (ps : List Piece) × ArePieces in_table known text ps
  pub back : (ps : List Piece) → ArePieces in_table known text ps
      → (qs : List Piece) × ArePieces in_table known (drop i text) qs
      × (length (joined_meanings ps) ≡ total + length (joined_meanings qs))
      × (AreThemselves ps → (dropped ≡ 0) × AreThemselves qs) × (dropped ≡ 0 → AreThemselves qs → AreThemselves ps)

-- what is counted, one piece on
counted_more : (i dropped inserted total n d l m inserted' : ℕ) → dropped ≤ i → d ≤ n → m ≡ l + (n - d)
    → min ((i - dropped) + inserted) (2 ^ 64 - 1) ≡ min total (2 ^ 64 - 1) → inserted' ≡ min (inserted + l) (2 ^ 64 - 1)
    → min ((i + n - (dropped + d)) + inserted') (2 ^ 64 - 1) ≡ min (total + m) (2 ^ 64 - 1)
counted_more i dropped inserted total n d l m inserted' in' in'' long so_far more =
    omega (arith, in', in'', long, so_far, more)

measured_more : (in_table : Bool) (known : Lookup) (text : List ℕ) (i n d : ℕ) (instead : List ℕ)
    (dropped inserted inserted' : ℕ) → IsMeasured in_table known text i dropped inserted
    → IsFirstPiece in_table known (drop i text) n d instead → inserted' ≡ min (inserted + length instead) (2 ^ 64 - 1)
    → IsMeasured in_table known text (i + n) (dropped + d) inserted'
measured_more in_table known text i n d instead dropped inserted inserted' so_far is more =
    let long = meaning_len in_table known text i n d instead is in
    record {
      within = first_within in_table known text i n d instead is so_far.within;
      dropped_within = omega (arith, so_far.dropped_within, is.dropped_within);
      total = so_far.total + length is.piece.meaning;
      counted =
          counted_more i dropped inserted so_far.total n d (length instead) (length is.piece.meaning) inserted'
          so_far.dropped_within is.dropped_within long so_far.counted more;
      forth = λ qs are. so_far.forth (is.piece ∷ qs) (one_more in_table known text i n d instead is qs are);
      back = λ ps are.
          let old = so_far.back ps are in
          let first = first_of in_table known text i n d instead is old.0 old.1 in (
            first.later,
            first.later_are,
            omega (arith, old.2, ap length first.joined, length-append is.piece.meaning (joined_meanings first.later)),
            λ selves. (
              omega (arith, (old.3 selves).0, first.itself (old.3 selves).1),
              first.later_themselves (old.3 selves).1,
            ),
            λ none selves. old.4 (omega (arith, none)) (first.themselves (omega (arith, none)) selves),
          );
    }

-- after pieces that mean themselves
measured_plain_run : (in_table : Bool) (known : Lookup) (text : List ℕ) (i n dropped inserted : ℕ)
    → inserted ≤ 2 ^ 64 - 1 → IsMeasured in_table known text i dropped inserted
    → ArePlain in_table known (drop i text) n → IsMeasured in_table known text (i + n) dropped inserted
measured_plain_run in_table known text i zero dropped inserted fits so_far plain =
    let at : i ≡ i + 0 = omega arith in
    subst (λ j. IsMeasured in_table known text j dropped inserted) at so_far
measured_plain_run in_table known text i (suc n) dropped inserted fits so_far plain =
    let before =
    measured_plain_run in_table known text i n dropped inserted fits so_far
    (λ k in'. plain k (omega (arith, in'))) in
    let last = subst (λ bs. IsFirstPiece in_table known bs 1 0 []) (drop-drop n i text) (plain n (omega arith)) in
    let at : i + n + 1 ≡ i + suc n = omega arith in
    let none : dropped + 0 ≡ dropped = omega arith in
    subst (λ j. IsMeasured in_table known text j dropped inserted) at
    (subst (λ d. IsMeasured in_table known text (i + n + 1) d inserted) none
    (measured_more in_table known text (i + n) 1 0 [] dropped inserted inserted before last (omega (arith, fits))))

-- one step on, by the sizes of what stands at the offset
pub measured_step : (in_table : Bool) (known : Lookup) (text : List ℕ) (i source d l dropped inserted inserted' : ℕ)
    → inserted ≤ 2 ^ 64 - 1 → IsMeasured in_table known text i dropped inserted
    → IsFirstSize in_table known (drop i text) source d l → inserted' ≡ min (inserted + l) (2 ^ 64 - 1)
    → IsMeasured in_table known text (i + source) (dropped + d) inserted'
measured_step in_table known text i source d l dropped inserted inserted' fits so_far (inl plain) more =
    let none : dropped ≡ dropped + d = omega (arith, plain.0) in
    let same : inserted ≡ inserted' = omega (arith, plain.1, more, fits) in
    subst (λ m. IsMeasured in_table known text (i + source) m inserted') none
    (subst (λ m. IsMeasured in_table known text (i + source) dropped m) same
    (measured_plain_run in_table known text i source dropped inserted fits so_far plain.2))
measured_step in_table known text i source d l dropped inserted inserted' fits so_far (inr changed) more =
    measured_more in_table known text i source d changed.0 dropped inserted inserted' so_far changed.1.first
    (omega (arith, more, changed.2))

-- every piece has a source
first_some : (in_table : Bool) (known : Lookup) (text : List ℕ) (p : Piece) → IsFirstFit in_table known text p
    → 1 ≤ length p.source
first_some in_table known text p (inl pipe) = omega (arith, ap length pipe.1)
first_some in_table known text p (inr (_, inl escape)) = omega (arith, ap length escape.2)
first_some in_table known text p (inr (_, inr (_, inl reference))) = omega (arith, ap length reference.1)
first_some in_table known text p (inr (_, inr (_, inr (_, inl return)))) = omega (arith, ap length return.0)
first_some in_table known text p (inr (_, inr (_, inr (_, inr (_, itself))))) = omega (arith, ap length itself.1)

-- where nothing is left there is no piece
no_piece : (in_table : Bool) (known : Lookup) (text : List ℕ) (qs : List Piece) → length text ≡ 0
    → ArePieces in_table known text qs → qs ≡ []
no_piece in_table known text [] none are = refl
no_piece in_table known text (q ∷ qs) none are =
    absurd (omega (arith, none, ap length are.1, length-append q.source are.0, first_some in_table known text q are.2))

-- What the first pass tells at the end.
module _ (in_table : Bool) (known : Lookup) (text : List ℕ) (i dropped inserted : ℕ)
    (is : IsMeasured in_table known text i dropped inserted) (past : length text ≤ i) where
  pub measured_pieces : (ps : List Piece) × ArePieces in_table known text ps
  measured_pieces = is.forth [] (drop_all i text past)

  last : (ps : List Piece) (are : ArePieces in_table known text ps) → (is.back ps are).0 ≡ []
  last ps are =
      no_piece in_table known (drop i text) (is.back ps are).0 (omega (arith, length-drop i text, past))
      (is.back ps are).1

  pub measured_plain : (ps : List Piece) → ArePieces in_table known text ps → dropped ≡ 0 → AreThemselves ps
  measured_plain ps are none = (is.back ps are).4 none (subst AreThemselves (sym (last ps are)) tt)

  pub measured_changed : (ps : List Piece) → ArePieces in_table known text ps → AreThemselves ps → dropped ≡ 0
  measured_changed ps are selves = ((is.back ps are).3 selves).0

  pub measured_len : (ps : List Piece) → ArePieces in_table known text ps
      → min ((length text - dropped) + inserted) (2 ^ 64 - 1) ≡ min (length (joined_meanings ps)) (2 ^ 64 - 1)
  measured_len ps are =
      let all : length (joined_meanings ps) ≡ is.total + 0 = (is.back ps are).2
      ∙ ap (λ qs. is.total + length (joined_meanings qs)) (last ps are) in
      let whole : i ≡ length text = omega (arith, is.within, past) in
      omega (arith, all, is.counted, whole)

-- After i bytes: what the pieces of the text mean, after `base`, is `out`, the bytes from `run` to
-- i, and what the pieces of the rest mean.
pub record IsBuilt (in_table : Bool) (known : Lookup) (text : List ℕ) (i run : ℕ) (base : List ℕ) (base_len : ℕ)
    (out : List ℕ) (out_len : ℕ) : Type 0 where
  pub within : i ≤ length text
  pub ordered : run ≤ i
  pub cut : IsCharBoundary text run
  pub back : (ps : List Piece) → ArePieces in_table known text ps
      → (qs : List Piece) × ArePieces in_table known (drop i text) qs
      × (base ++ joined_meanings ps ≡ out ++ (take (i - run) (drop run text) ++ joined_meanings qs))
      × (base_len + length (joined_meanings ps) ≡ out_len + ((i - run) + length (joined_meanings qs)))

pub built_start : (in_table : Bool) (known : Lookup) (text base : List ℕ) (base_len : ℕ) → IsUtf8 text
    → IsBuilt in_table known text 0 0 base base_len base base_len
built_start in_table known text base base_len utf8 = record {
  within = omega arith;
  ordered = omega arith;
  cut = IsCharBoundary-start text utf8;
  back = λ ps are. (ps, are, refl, omega arith);
}

-- a run and the bytes after it
run_on : (text : List ℕ) (run i n : ℕ) → run ≤ i
    → take (i + n - run) (drop run text) ≡ take (i - run) (drop run text) ++ take n (drop i text)
run_on text run i n ordered =
    let long : i + n - run ≡ (i - run) + n = omega (arith, ordered) in
    let at : run + (i - run) ≡ i = omega (arith, ordered) in
    ap (λ k. take k (drop run text)) long
    ∙ (take-add (i - run) n (drop run text)
    ∙ ap (λ r. take (i - run) (drop run text) ++ take n r)
    (drop-drop (i - run) run text ∙ ap (λ k. drop k text) at))

regroup : (a b c d e : List ℕ) → a ++ (b ++ ((c ++ d) ++ e)) ≡ (a ++ (b ++ c)) ++ (d ++ e)
regroup a b c d e = simp append_assoc refl

module _ (in_table : Bool) (known : Lookup) (text : List ℕ) (i n run : ℕ) (base : List ℕ) (base_len : ℕ) (out : List ℕ)
    (out_len : ℕ)
    (so_far : IsBuilt in_table known text i run base base_len out out_len) where
  -- a piece that means itself lengthens the run
  built_plain : (instead : List ℕ) → IsFirstPiece in_table known (drop i text) n 0 instead
      → IsBuilt in_table known text (i + n) run base base_len out out_len
  built_plain instead is = record {
    within = first_within in_table known text i n 0 instead is so_far.within;
    ordered = omega (arith, so_far.ordered);
    cut = so_far.cut;
    back = λ ps are.
        let old = so_far.back ps are in
        let first = first_of in_table known text i n 0 instead is old.0 old.1 in
        let self = is.itself refl in
        let same : is.piece.meaning ≡ take n (drop i text) = self.2
        ∙ (sym self.1 ∙ source_is in_table known text i n 0 instead is) in (
          first.later,
          first.later_are,
          old.2 ∙ ap (λ r. out ++ r)
              (ap (λ m. take (i - run) (drop run text) ++ m)
              (first.joined ∙ ap (λ m. m ++ joined_meanings first.later) same)
              ∙ (sym (append_assoc (take (i - run) (drop run text)) (take n (drop i text))
              (joined_meanings first.later))
              ∙ ap (λ r. r ++ joined_meanings first.later) (sym (run_on text run i n so_far.ordered)))),
          omega (
            arith,
            old.3,
            so_far.ordered,
            ap length first.joined,
            length-append is.piece.meaning (joined_meanings first.later),
            ap length self.2,
            ap length self.1,
            is.n_is_length,
          ),
        );
  }

  -- a piece that is changed ends the run
  built_changed : (dropped : ℕ) (instead : List ℕ) → IsUtf8 text
      → IsFirstPiece in_table known (drop i text) n dropped instead → 0 < dropped
      → IsBuilt in_table known text (i + n) (i + dropped) base base_len
      (out ++ (take (i - run) (drop run text) ++ instead)) (out_len + ((i - run) + length instead))
  built_changed dropped instead utf8 is some =
      let in' = first_within in_table known text i n dropped instead is so_far.within in
      record {
        within = in';
        ordered = omega (arith, is.dropped_within);
        cut = dropped_cut in_table known text i n dropped instead is utf8 some in';
        back = λ ps are.
            let old = so_far.back ps are in
            let first = first_of in_table known text i n dropped instead is old.0 old.1 in
            let whole : n ≡ dropped + (n - dropped) = omega (arith, is.dropped_within) in
            let left : n - dropped ≡ i + n - (i + dropped) = omega (arith, is.dropped_within) in
            let kept : drop dropped is.piece.source ≡ take (i + n - (i + dropped)) (drop (i + dropped) text) =
            ap (drop dropped) (source_is in_table known text i n dropped instead is)
            ∙ (ap (λ k. drop dropped (take k (drop i text))) whole
            ∙ (drop-take dropped (n - dropped) (drop i text)
            ∙ (ap (λ k. take k (drop dropped (drop i text))) left
            ∙ ap (take (i + n - (i + dropped))) (drop-drop dropped i text)))) in (
              first.later,
              first.later_are,
              old.2 ∙ (ap (λ m. out ++ (take (i - run) (drop run text) ++ m))
                  (first.joined ∙ ap (λ m. m ++ joined_meanings first.later) (is.means ∙ ap (λ r. instead ++ r) kept))
                  ∙ regroup out (take (i - run) (drop run text)) instead
                  (take (i + n - (i + dropped)) (drop (i + dropped) text)) (joined_meanings first.later)),
              omega (
                arith,
                old.3,
                so_far.ordered,
                is.dropped_within,
                ap length first.joined,
                length-append is.piece.meaning (joined_meanings first.later),
                meaning_len in_table known text i n dropped instead is,
              ),
            );
      }

  -- where there is room for all that the pieces mean, there is room for what is appended at a piece
  pub built_room : (dropped : ℕ) (instead : List ℕ) (ps : List Piece) (capacity : ℕ)
      → IsFirstPiece in_table known (drop i text) n dropped instead → ArePieces in_table known text ps
      → base_len + length (joined_meanings ps) ≤ capacity → out_len + change_len run i instead ≤ capacity
  built_room dropped instead ps capacity is are room =
      let old = so_far.back ps are in
      let first = first_of in_table known text i n dropped instead is old.0 old.1 in
      omega (
        arith,
        room,
        old.3,
        ap length first.joined,
        length-append is.piece.meaning (joined_meanings first.later),
        meaning_len in_table known text i n dropped instead is,
      )

-- pieces that mean themselves lengthen the run
built_plain_run : (in_table : Bool) (known : Lookup) (text : List ℕ) (i n run : ℕ) (base : List ℕ) (base_len : ℕ)
    (out : List ℕ) (out_len : ℕ) → IsBuilt in_table known text i run base base_len out out_len
    → ArePlain in_table known (drop i text) n → IsBuilt in_table known text (i + n) run base base_len out out_len
built_plain_run in_table known text i zero run base base_len out out_len so_far plain =
    let at : i ≡ i + 0 = omega arith in
    subst (λ j. IsBuilt in_table known text j run base base_len out out_len) at so_far
built_plain_run in_table known text i (suc n) run base base_len out out_len so_far plain =
    let before =
    built_plain_run in_table known text i n run base base_len out out_len so_far
    (λ k in'. plain k (omega (arith, in'))) in
    let last = subst (λ bs. IsFirstPiece in_table known bs 1 0 []) (drop-drop n i text) (plain n (omega arith)) in
    let at : i + n + 1 ≡ i + suc n = omega arith in
    subst (λ j. IsBuilt in_table known text j run base base_len out out_len) at
    (built_plain in_table known text (i + n) 1 run base base_len out out_len before [] last)

-- the same in equal terms
same_built : (in_table : Bool) (known : Lookup) (text : List ℕ) (i i' run run' : ℕ) (base : List ℕ) (base_len : ℕ)
    (out out' : List ℕ) (out_len out_len' : ℕ)
    → i ≡ i' → run ≡ run' → out ≡ out' → out_len ≡ out_len'
    → IsBuilt in_table known text i' run' base base_len out' out_len'
    → IsBuilt in_table known text i run base base_len out out_len
same_built in_table known text i i' run run' base base_len out out' out_len out_len' offsets runs outs lens built =
    rw (offsets, runs, outs, lens) built

-- one step on, as a push tells of it
pub built_step : {Z : Type 0} (in_table : Bool) (known : Lookup) (text : List ℕ) (i run : ℕ) (base : List ℕ)
    (base_len : ℕ) (old new : String Z) (run' next : ℕ)
    → IsBuilt in_table known text i run base base_len (string_bytes old) (string_len old) → IsUtf8 text → i < next
    → IsPushed in_table known text run i old new run' next
    → IsBuilt in_table known text next run' base base_len (string_bytes new) (string_len new)
built_step in_table known text i run base base_len old new run' next so_far utf8 on (inl plain) =
    let at : next ≡ i + (next - i) = omega (arith, on) in
    same_built in_table known text next (i + (next - i)) run' run base base_len (string_bytes new) (string_bytes old)
    (string_len new) (string_len old) at plain.0 plain.1.0 plain.1.1
    (built_plain_run in_table known text i (next - i) run base base_len (string_bytes old) (string_len old) so_far
    plain.2)
built_step in_table known text i run base base_len old new run' next so_far utf8 on (inr changed) =
    let at : next ≡ i + (next - i) = omega (arith, on) in
    let is = changed.2 in
    same_built in_table known text next (i + (next - i)) run' (i + changed.0) base base_len (string_bytes new) _
    (string_len new) _ at changed.3 changed.4 changed.5
    (built_changed in_table known text i (next - i) run base base_len (string_bytes old) (string_len old) so_far
    changed.0 changed.1 utf8 is.first is.some)

-- what a push of the text from `run` up to a changed piece, and of what stands in for its front,
-- comes to
pub pushed_change : {Z : Type 0} (in_table : Bool) (known : Lookup) (text : List ℕ) (run offset n dropped next : ℕ)
    (instead kept : List ℕ) (old new : String Z)
    → IsChanged in_table known (drop offset text) n dropped instead → next ≡ offset + n
    → kept ≡ slice_range text run offset → length kept ≡ offset - run
    → string_bytes new ≡ string_bytes old ++ (kept ++ instead)
    → string_len new ≡ string_len old + (length kept + length instead)
    → IsPushed in_table known text run offset old new (offset + dropped) next
pushed_change in_table known text run offset n dropped next instead kept old new is at kept_is kept_len bytes len =
    let long : n ≡ next - offset = omega (arith, at) in
    inr (
      dropped,
      instead,
      subst (λ k. IsChanged in_table known (drop offset text) k dropped instead) long is,
      refl,
      bytes ∙ ap (λ k. string_bytes old ++ (k ++ instead)) kept_is,
      omega (arith, len, kept_len),
    )

-- the same where nothing stands in
pub pushed_drop : {Z : Type 0} (in_table : Bool) (known : Lookup) (text : List ℕ) (run offset n dropped next : ℕ)
    (kept : List ℕ) (old new : String Z)
    → IsChanged in_table known (drop offset text) n dropped [] → next ≡ offset + n → kept ≡ slice_range text run offset
    → length kept ≡ offset - run
    → string_bytes new ≡ string_bytes old ++ kept → string_len new ≡ string_len old + length kept
    → IsPushed in_table known text run offset old new (offset + dropped) next
pushed_drop in_table known text run offset n dropped next kept old new is at kept_is kept_len bytes len =
    pushed_change in_table known text run offset n dropped next [] kept old new is at kept_is kept_len
    (bytes ∙ ap (λ k. string_bytes old ++ k) (sym (append-nil kept))) (omega (arith, len))

pub pushed_nothing : {Z : Type 0} (in_table : Bool) (known : Lookup) (text : List ℕ) (run offset n : ℕ) (old : String Z)
    → ArePlain in_table known (drop offset text) n → IsPushed in_table known text run offset old old run (offset + n)
pushed_nothing in_table known text run offset n old are =
    let long : n ≡ offset + n - offset = omega arith in
    inl (refl, (refl, refl), subst (ArePlain in_table known (drop offset text)) long are)

-- at the end: the rest from `run` on completes what the pieces mean
pub built_end : (in_table : Bool) (known : Lookup) (text : List ℕ) (i run : ℕ) (base : List ℕ) (base_len : ℕ)
    (out : List ℕ) (out_len : ℕ) → IsBuilt in_table known text i run base base_len out out_len
    → length text ≤ i → (ps : List Piece) → ArePieces in_table known text ps
    → out ++ drop run text ≡ base ++ joined_meanings ps
built_end in_table known text i run base base_len out out_len is past ps are =
    let old = is.back ps are in
    let none : old.0 ≡ [] =
    no_piece in_table known (drop i text) old.0 (omega (arith, length-drop i text, past)) old.1 in
    let whole : take (i - run) (drop run text) ≡ drop run text =
    take_all (i - run) (drop run text) (omega (arith, length-drop run text, past)) in
    sym (old.2 ∙ ap (λ r. out ++ r) (ap (λ qs. take (i - run) (drop run text) ++ joined_meanings qs) none
    ∙ (append-nil (take (i - run) (drop run text)) ∙ whole)))

-- the pieces of a text are one list
pub same_pieces : (in_table : Bool) (known : Lookup) (text : List ℕ) (ps qs : List Piece)
    → ArePieces in_table known text ps → ArePieces in_table known text qs → ps ≡ qs
same_pieces in_table known text [] [] are are' = refl
same_pieces in_table known text [] (q ∷ qs) are are' = sym (no_piece in_table known text (q ∷ qs) (ap length are) are')
same_pieces in_table known text (p ∷ ps) [] are are' = no_piece in_table known text (p ∷ ps) (ap length are') are
same_pieces in_table known text (p ∷ ps) (q ∷ qs) are are' =
    let same = same_first in_table known text p q are.0 are'.0 are.1 are'.1 are.2 are'.2 in
    let rest : are.0 ≡ are'.0 =
    append_cancel_left q.source are.0 are'.0 (ap (λ s. s ++ are.0) (sym same.0) ∙ (sym are.1 ∙ are'.1)) in
    let tail : ps ≡ qs =
    same_pieces in_table known are'.0 ps qs (subst (λ r. ArePieces in_table known r ps) rest are.3) are'.3 in
    λ i. record { source = same.0 i; meaning = same.1 i } ∷ tail i
