-- The links of a text have labels in it, of which each begins below its length.
use Rattle.std.proofs.Common.{ℕ, ◌<◌, ◌^◌, List, Option, Some, None, length, arith}
use Rattle.std.specs.Prelude.{IfSome}
use Rattle.markdown_inlines.specs.Sources.{AreLinkSources, IsLinkSource, IsTargetSource}
use Rattle.markdown_inlines.specs.declared.links.Link.{Link}
use Rattle.markdown_inlines.specs.declared.links.LinkTarget.{LinkTarget}
use Rattle.markdown_inlines.specs.declared.links.LinkTarget.TheVariants as T
use Rattle.markdown_scanners_c.specs.private.LabelRoom.{AreRoomy, HasRoom, IsRoomy}

module _ (text : List ℕ) (small : length text < 2 ^ 63) where
  target_roomy : (target : LinkTarget) → IsTargetSource text target → IsRoomy target
  target_roomy (T.Inline destination title) is = tt
  target_roomy (T.Full label) is = omega (arith, is.0)
  target_roomy T.Collapsed is = tt
  target_roomy T.Shortcut is = tt
  target_roomy (T.Wiki target) is = tt

  link_roomy : (link : Option Link) → IfSome link (IsLinkSource text) → IfSome link HasRoom
  link_roomy None is = tt
  link_roomy (Some link) is = target_roomy link.target is.target

  pub are_roomy : (links : List (Option Link)) → AreLinkSources text links → AreRoomy links
  are_roomy links are = λ n d inside. link_roomy _ (are n d inside)
