-- What a closure accepts of bytes that a scan hands it one after another, from either end.
use Rattle.std.proofs.Common.{ℕ, ◌+◌, ◌<◌, ◌≤◌, Bool, true, false, List, ◌++◌, length, take, drop, get_or, sym, ap, ◌∙◌, arith}
use Rattle.std.specs.List.{FoldsTo}
use Rattle.std.proofs.lemmas.List.{take_more, take-append-drop, drop_all, length-take-le}
use Rattle.std.proofs.lemmas.Fn.{FoldsTo-push}
use Rattle.std.proofs.Math.Seq.{drop-cons}
use Rattle.markdown_scanners_tree.specs.scanners.Runs.{IsCallableInTurn, IsAccepted, Refuses}

module _ {F : Type 0} (step : F → ℕ → Bool → F → Type 0) (f now : F) (bytes : List ℕ) (count : ℕ)
    (accepted : FoldsTo (λ p b q. step p b true q) f (take count bytes) now) where
  -- the closure may be called at the next byte
  pub pre-next : (pre : F → ℕ → Type 0) → IsCallableInTurn pre step f bytes → count < length bytes
      → pre now (get_or bytes count 0)
  pre-next pre callable inside =
      callable.at (take count bytes) _ (get_or bytes count 0) now
      (sym (take-append-drop count bytes) ∙ ap (λ rest. take count bytes ++ rest) (drop-cons bytes count 0 inside))
      accepted

  -- one more byte is accepted
  pub FoldsTo-next : (next : F) → count < length bytes → step now (get_or bytes count 0) true next
      → FoldsTo (λ p b q. step p b true q) f (take (count + 1) bytes) next
  FoldsTo-next next inside called =
      rw (take_more bytes count 0 inside) (FoldsTo-push (λ p b q. step p b true q) _ _ _ _ _ accepted called)

  IsAccepted-before : count ≤ length bytes → Refuses step now (drop count bytes) → IsAccepted step f bytes count
  IsAccepted-before within refused = record {
    prefix = take count bytes;
    rest = drop count bytes;
    parts = sym (take-append-drop count bytes);
    count = sym (length-take-le count bytes within);
    between = now;
    accepted = accepted;
    refused = refused;
  }

  -- all bytes are accepted
  pub IsAccepted-all : count ≤ length bytes → length bytes ≤ count → IsAccepted step f bytes count
  IsAccepted-all within all = IsAccepted-before within (rw (drop_all count bytes all) tt)

  -- the next byte is refused
  pub IsAccepted-stop : (next : F) → count < length bytes → step now (get_or bytes count 0) false next
      → IsAccepted step f bytes count
  IsAccepted-stop next inside called =
      IsAccepted-before (omega (arith, inside)) (rw (drop-cons bytes count 0 inside) (next, called))
