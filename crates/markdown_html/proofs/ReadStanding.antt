-- How far events are read: what is written so far, what is read of it, and where that leads, outside of images and in one.
use Rattle.std.proofs.Common.{ℕ, suc, ◌≡◌, Bool, true, false, List, [], ◌∷◌, ◌++◌, Some, length, map, ap, ◌∙◌}
use Rattle.markdown_values.specs.values.Events.{EventView}
use Rattle.markdown_html.specs.Content.{Around, event_items_in, around_in, image_names}
use Rattle.markdown_html.specs.Html.{after_event}
use Rattle.markdown_html.specs.Inlines.{after_image}
use Rattle.markdown_events.specs.Nesting.{Tag}
use Rattle.markdown_html.specs.ReadHtml.{Item, byte, closes, ReadsIn}
use Rattle.markdown_html.specs.SafeHtml.{is_text, read_after}
use Rattle.markdown_html.specs.Settings.{Setting}
use Rattle.markdown_html.specs.States.{HtmlState, is_in_image}
use Rattle.markdown_html.proofs.BegunLemmas.{is_text_begun_after}
use Rattle.markdown_html.proofs.ReadSteps.{Reading}
use Rattle.markdown_html.proofs.ReadTags.{elements_of, plain_links, image_links, outside_links, inside_links, IsImage, images_of}

abbrev pub open_in : HtmlState → List Tag → List (List ℕ)
open_in s tags = elements_of s.has_body s.is_head tags

-- the same with so many images, where a line of text has begun or has not
abbrev pub around_with : Around → ℕ → Bool → Around
around_with around images is_begun = record around { images = images; is_begun = is_begun }

module _ (addresses : List ℕ → Bool) (setting : Setting) where
  -- what images are written as, in so many links
  abbrev pub names_in : ℕ → List (List ℕ)
  names_in links = image_names setting.images_as_links links

  -- Outside of images: what is around is by the tags and the state, and what is written leads to the elements of the tags, where these items
  -- are read of it.
  pub record Outside (tags : List Tag) (around : Around) (seen : List Item) (s : HtmlState) : Type 0 where
    pub links : s.links ≡ plain_links tags
    pub count : around.links ≡ length (plain_links tags)
    pub head : around.is_head ≡ s.is_head
    pub body : around.has_body ≡ s.has_body
    pub begun : around.is_begun ≡ is_text_begun_after s.output
    pub lead : Reading addresses [] s.output seen (open_in s tags)

  -- In an image: with more text and the end of the image it leads to those of the outer tags.
  pub record Inside (inner : List Tag) (title : List ℕ) (outer : List Tag) (around : Around) (seen : List Item) (s : HtmlState) : Type 0 where
    pub links : s.links ≡ image_links inner (Some title ∷ plain_links outer)
    pub count : around.links ≡ length (plain_links outer)
    pub head : around.is_head ≡ s.is_head
    pub body : around.has_body ≡ s.has_body
    pub begun : names_in around.links ≡ [] → around.is_begun ≡ is_text_begun_after s.output
    pub lead : (items : List Item) (more rest : List ℕ) → is_text more ≡ true → ReadsIn addresses (open_in s outer) items rest
        → ReadsIn addresses [] (seen ++ (map byte (read_after 0 more) ++ (map closes (names_in around.links) ++ items)))
        (s.output ++ (more ++ (after_image setting title (plain_links outer) ++ rest)))

  -- one of these, in so many images
  pub data Standing (tags : List Tag) (around : Around) (seen : List Item) (s : HtmlState) : Type 0 where
    outside : around.images ≡ 0 → Outside tags around seen s → Standing tags around seen s
    inside : (inner : List Tag) (shown : Tag) (title : List ℕ) (outer : List Tag) → around.images ≡ suc (images_of inner) → IsImage shown title
        → tags ≡ inner ++ shown ∷ outer → Inside inner title outer around seen s → Standing tags around seen s

  -- what is read after an event in so many images, and where it leads
  abbrev pub Next : ℕ → List Tag → Around → List Item → EventView (List ℕ) → HtmlState → Type 0
  Next images tags around seen event s =
      Standing tags (around_in images setting around event) (seen ++ event_items_in images setting around event) (after_event setting event s)

  pub is_outside : (tags : List Tag) (around : Around) (seen : List Item) (s : HtmlState) → Outside tags around seen s → is_in_image s.links ≡ false
  is_outside tags around seen s o = ap is_in_image o.links ∙ outside_links tags

  pub is_inside : (inner : List Tag) (title : List ℕ) (outer : List Tag) (around : Around) (seen : List Item) (s : HtmlState)
      → Inside inner title outer around seen s → is_in_image s.links ≡ true
  is_inside inner title outer around seen s i = ap is_in_image i.links ∙ inside_links inner title (plain_links outer)
