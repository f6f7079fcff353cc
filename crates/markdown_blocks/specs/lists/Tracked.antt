-- A page's lists as they are followed, event by event.
use Rattle.std.specs.Prelude.{ℕ, Bool, true, false, not, ◌&&◌, ◌||◌, ◌==◌, List, [], ◌∷◌, ◌++◌, length, Option, Some, None, if◌then◌else◌}
use Rattle.std.specs.Option.{option_map, option_to_list}
use Rattle.markdown_blocks.specs.declared.containers.Container.{Container}
use Rattle.markdown_blocks.specs.declared.containers.Container.TheVariants.{Quote, Item, Footnote, TermDefinition}
use Rattle.markdown_blocks.specs.declared.lists.Level.{Level}
use Rattle.markdown_blocks.specs.declared.lists.ListBlock.{ListBlock}
use Rattle.markdown_blocks.specs.declared.lists.OpenList.{OpenList}
use Rattle.markdown_blocks.specs.events.Events.{Event, starts, leaf, ends, LeafBlock}
use Rattle.markdown_blocks.specs.blocks.Pages.{is_blank_kind}
use Rattle.markdown_blocks.specs.lists.Lists.{next_line}

-- How far the events are followed: the lines before what comes next, and before what follows the last block; whether a blank line
-- stands after that block; whether the innermost container has no block yet; what is known of it, and of those around it.
pub record Tracked : Type 0 where
  pub line : ℕ
  pub end : ℕ
  pub is_blank : Bool
  pub is_fresh : Bool
  pub level : Level
  pub outer : List Level

-- before the first event of a page
abbrev pub at_start : Tracked
at_start = record {
  line = 0;
  end = 0;
  is_blank = false;
  is_fresh = true;
  level = record { ends_with_block = false; is_parted = false; list = None };
  outer = [];
}

-- the list of the last block, as it is where no item follows
abbrev pub list_now : ℕ → ℕ → OpenList → ListBlock
list_now depth end list = record {
  delimiter = list.delimiter;
  is_loose = list.is_loose;
  start = list.start;
  depth = depth;
  line = list.line;
  end = end;
}

abbrev pub closed : Tracked → Option ListBlock
closed s = option_map (list_now (length s.outer) s.end) s.level.list

-- the container is an item of the list
abbrev pub joins : Option OpenList → Container → Bool
joins list Quote = false
joins list Footnote = false
joins list (TermDefinition definition) = false
joins None (Item item) = false
joins (Some list) (Item item) = list.delimiter == item.delimiter

abbrev pub loosened : Option OpenList → Bool → Option OpenList
loosened None loose = None
loosened (Some list) loose = Some (record list { is_loose = list.is_loose || loose })

abbrev pub list_begun : Container → ℕ → Option OpenList
list_begun Quote line = None
list_begun Footnote line = None
list_begun (TermDefinition definition) line = None
list_begun (Item item) line = Some (record { delimiter = item.delimiter; is_loose = false; start = item.start; line = line })

-- a container in which this one begins, after a blank line or not and so many lines
abbrev pub begun : Level → Container → Bool → ℕ → Level
begun outer container blank line = record outer {
  is_parted = outer.is_parted || (blank && not (joins outer.list container));
  list = if joins outer.list container then loosened outer.list blank else list_begun container line;
}

-- the container itself: an item or a definition ends with its last block
abbrev pub ends_with_block : Container → Bool
ends_with_block Quote = false
ends_with_block (Item item) = true
ends_with_block Footnote = true
ends_with_block (TermDefinition definition) = true

abbrev pub level_within : Container → Level
level_within container = record { ends_with_block = ends_with_block container; is_parted = false; list = None }

-- what an event shows to have ended, and the state after it
pub record Read : Type 0 where
  pub list : Option ListBlock
  pub state : Tracked

abbrev pub leaf_read : Bool → LeafBlock → Tracked → Read
leaf_read true block s = record { list = None; state = record s { line = next_line block; is_blank = true } }
leaf_read false block s = record {
  list = closed s;
  state = record {
    line = next_line block;
    end = next_line block;
    is_blank = false;
    is_fresh = false;
    level = record { ends_with_block = s.level.ends_with_block; is_parted = s.level.is_parted || s.is_blank; list = None };
    outer = s.outer;
  };
}

abbrev pub end_read : List Level → Tracked → Read
end_read [] s = record { list = None; state = s }
end_read (level ∷ outer) s = record {
  list = closed s;
  state = record {
    line = s.line;
    end = if s.level.ends_with_block then s.end else s.line;
    is_blank = s.level.ends_with_block && s.is_blank;
    is_fresh = false;
    level = record level { list = loosened level.list s.level.is_parted };
    outer = outer;
  };
}

abbrev pub start_read : Container → Tracked → Read
start_read container s = record {
  list = if joins s.level.list container then None else closed s;
  state = record {
    line = s.line;
    end = s.line;
    is_blank = false;
    is_fresh = true;
    level = level_within container;
    outer = begun s.level container s.is_blank s.line ∷ s.outer;
  };
}

abbrev pub read : Tracked → Event → Read
read s (starts container offset) = start_read container s
read s (leaf block) = leaf_read (is_blank_kind block.kind && not s.is_fresh) block s
read s ends = end_read s.outer s

-- the lists that end in these events, and at their end
abbrev pub lists_given : Tracked → List Event → List ListBlock
lists_given s [] = option_to_list (closed s)
lists_given s (event ∷ later) = option_to_list (read s event).list ++ lists_given (read s event).state later
