use Rattle.std.proofs.Common.{[], ◌++◌, map, refl, string_bytes}
use Rattle.html_attributes.specs.StartTags.{seen_tag}
use Rattle.page_links.specs.anchors.Anchors.{anchors_of}
use Rattle.page_links.specs.html.Html.{AreTagsOf}
use Rattle.page_links.proofs.anchors.Anchors.of_page.Goals as goal

pub returns : goal.returns
returns c =
    let slugs = map string_bytes c.in_ok-slugs.slugs.items in
    let of_slugs = rw c.deref.ensures.value at c.in_ok-anchors.ensures in
    let tags = map seen_tag c.in_ok-tags.tags.items in
    let are_tags : AreTagsOf c.args.page.now c.args.setting tags = record {
      html = c.in_ok-html.html.items;
      is_html = c.in_ok-html.ensures;
      are_tags = rw c.deref-2.ensures.value at c.in_ok-tags.ensures;
    } in
    let added = rw c.deref-3.ensures.value at c.in_ok-add_tags.ensures in (
      anchors_of [] slugs ++ added.0,
      record {
        slugs = slugs;
        are_slugs = c.in_ok-slugs.ensures;
        tags = tags;
        are_tags = are_tags;
        of_html = added.0;
        are_of_html = added.1;
        are_anchors = refl;
      },
      added.2 (anchors_of [] slugs) of_slugs,
    )
