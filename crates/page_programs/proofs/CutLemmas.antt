-- What is printed of a page of which a write failed.
use Rattle.std.proofs.Common.{ℕ, List, [], ◌++◌, Option, Some, None, Result, Ok, Err, IfErr, inr, refl, sym, ap, ◌∙◌, append_assoc}
use Rattle.std.specs.Io.KnownBytes.{Appends, append_known}
use Rattle.program_faults.specs.Faults.{AppendsPrefix}
use Rattle.page_programs.specs.Cuts.{IsCutShort, PrintsPart}

pub appends-known : (old : Option (List ℕ)) (bytes : List ℕ) → Appends old (append_known old bytes) bytes
appends-known None bytes = tt
appends-known (Some xs) bytes = refl

-- a part at the front of a text is one of that text and more
pub front-more : (old new : Option (List ℕ)) (text more : List ℕ) → AppendsPrefix old new text → AppendsPrefix old new (text ++ more)
front-more None new text more front = ([], tt)
front-more (Some xs) None text more (rest, front) = absurd front
front-more (Some xs) (Some ys) text more (rest, (prefix, all, is)) =
    (rest ++ more, (prefix, ap (λ t. t ++ more) all ∙ append_assoc prefix rest more, is))

-- so is a text and a part at the front of more
pub front-after : (old middle new : Option (List ℕ)) (text more : List ℕ) → Appends old middle text → AppendsPrefix middle new more
    → AppendsPrefix old new (text ++ more)
front-after None middle new text more appends front = ([], tt)
front-after (Some xs) None new text more appends front = absurd appends
front-after (Some xs) (Some ys) None text more appends (rest, front) = absurd front
front-after (Some xs) (Some ys) (Some zs) text more appends (rest, (prefix, all, is)) = (
  rest,
  (
    text ++ prefix,
    ap (λ m. text ++ m) all ∙ sym (append_assoc text prefix rest),
    is ∙ ap (λ l. l ++ prefix) appends ∙ append_assoc xs text prefix,
  ),
)

-- A part at the front of these bytes is printed, by which known bytes would have grown.
cut-short : (old new : Option (List ℕ)) (bytes : List ℕ) → AppendsPrefix old new bytes → IsCutShort old new (append_known old bytes)
cut-short old new bytes front = (bytes, appends-known old bytes, front)

-- it is due of one that was begun
pub begun-cut : (prints : List ℕ → Option (List ℕ) → Option (List ℕ) → Type 0)
    (begins : Option (List ℕ) → Option (List ℕ) → Option (List ℕ) → Option (List ℕ) → Type 0) (bytes : List ℕ) (input left old new : Option (List ℕ))
    → begins input left old (append_known old bytes) → AppendsPrefix old new bytes → PrintsPart prints begins input left old new
begun-cut prints begins bytes input left old new begun front = (append_known old bytes, inr begun, cut-short old new bytes front)

-- whatever is answered at an error that is a failed write
pub if_err : {T E X : Type 0} (P : E → Type 0) (r : Result T E) → X → IfErr r (λ e. P e → X)
if_err P (Ok t) x = tt
if_err P (Err e) x = λ p. x
