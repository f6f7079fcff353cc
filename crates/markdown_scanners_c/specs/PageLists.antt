-- The lists of a page. (CommonMark 0.31.2, section 5.3)
use Rattle.std.specs.Prelude.{ℕ, List, ◌≡◌, ◌⊎◌, map}
use Rattle.markdown_blocks.specs.declared.lists.ListBlock.{ListBlock}
use Rattle.markdown_blocks.specs.lists.Lists.{AreListsOf}
use Rattle.markdown_scanners_c.specs.Buffer.{IsWritten}
use Rattle.markdown_scanners_c.specs.Extensions.{AreExtensions, extensions_of}
use Rattle.markdown_scanners_c.specs.Status.{bad_kind, no_memory}
use Rattle.markdown_scanners_c.specs.declared.page_lists.PageList.{PageList}
use Rattle.markdown_scanners_c.specs.declared.pages.BlockCount.{BlockCount}

-- a list as C has it
abbrev pub list_returned : ListBlock → PageList
list_returned list = record {
  delimiter = list.delimiter;
  is_loose = list.is_loose;
  start = list.start;
  depth = list.depth;
  line = list.line;
  end = list.end;
}

-- Some bit is no extension; or memory was refused; or the lists of the page are written.
abbrev pub AreListsReturned : List ℕ → ℕ → List PageList → List PageList → BlockCount → Type 0
AreListsReturned page bits old new returned =
    ((returned.status ≡ bad_kind) × (returned.count ≡ 0) × (new ≡ old) × ¬ AreExtensions bits)
    ⊎ ((returned.status ≡ no_memory) × (returned.count ≡ 0) × (new ≡ old) × AreExtensions bits)
    ⊎ ((lists : List ListBlock) × AreExtensions bits × AreListsOf (extensions_of bits) page lists
    × IsWritten (map list_returned lists) old new returned.status returned.count)
