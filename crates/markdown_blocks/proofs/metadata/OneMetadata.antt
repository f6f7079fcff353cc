-- A page begins with one metadata block at most.
use Rattle.std.proofs.Common.{ℕ, Bool, ◌<◌, ◌≤◌, ◌+◌, ◌≡◌, List, drop, sym, ap, ◌∙◌, subst, arith, inl, inr}
use Rattle.markdown_scanners_tree.specs.Bytes.{line_length}
use Rattle.markdown_scanners_tree.proofs.ForCallers.{one_metadata_block}
use Rattle.markdown_values.specs.declared.values.MetadataBlockKind.{MetadataBlockKind}
use Rattle.markdown_blocks.proofs.metadata.MetadataLemmas.{is_below}
use Rattle.markdown_blocks.specs.declared.metadata.Metadata.{Metadata}
use Rattle.markdown_blocks.specs.byte_order_mark.ByteOrderMark.{text_of, text_start}
use Rattle.markdown_blocks.specs.metadata.Metadata.{ClosesAt, IsMetadata, IsTextMetadata, moved, style_of}

module _ (text : List ℕ) (yaml pluses : Bool) where
  same_byte : (m m' : Metadata) (is : IsTextMetadata text yaml pluses m) (is' : IsTextMetadata text yaml pluses m') → is.byte ≡ is'.byte
  same_byte m m' is is' = one_metadata_block text yaml pluses is.byte is'.byte is.block is'.block

  -- neither ends before the other
  no_earlier : (m m' : Metadata) → IsTextMetadata text yaml pluses m → IsTextMetadata text yaml pluses m' → m'.end ≤ m.end
  no_earlier m m' is is' = elim (is_below m.end m'.end) [
    | inl earlier ↦ absurd (is'.first m.end (subst (λ n. n < m.end) (is.start ∙ sym is'.start) is.later) earlier
        (subst (λ b. ClosesAt text b m.end) (same_byte m m' is is') is.closed))
    | inr not_earlier ↦ not_earlier
  ]

  one_text_metadata : (m m' : Metadata) → IsTextMetadata text yaml pluses m → IsTextMetadata text yaml pluses m' → m ≡ m'
  one_text_metadata m m' is is' =
      let end : m.end ≡ m'.end = omega (arith, no_earlier m m' is is', no_earlier m' m is' is) in
      let len : m.len ≡ m'.len = is.len ∙ ap (λ e. e + line_length (drop e text)) end ∙ sym is'.len in
      let kind : m.kind ≡ m'.kind = is.kind ∙ ap style_of (same_byte m m' is is') ∙ sym is'.kind in
      ap (λ k. made k m.start m.end m.len) kind ∙ ap (λ s. made m'.kind s m.end m.len) (is.start ∙ sym is'.start)
      ∙ ap (λ e. made m'.kind m'.start e m.len) end ∙ ap (λ l. made m'.kind m'.start m'.end l) len
    where
      made : MetadataBlockKind → ℕ → ℕ → ℕ → Metadata
      made kind start end len = record { kind = kind; start = start; end = end; len = len }

pub one_metadata : (page : List ℕ) (yaml pluses : Bool) (m m' : Metadata) → IsMetadata page yaml pluses m → IsMetadata page yaml pluses m' → m ≡ m'
one_metadata page yaml pluses m m' (found, is, at) (other, is', at') =
    at ∙ ap (moved (text_start page)) (one_text_metadata (text_of page) yaml pluses found other is is') ∙ sym at'
