-- The ordered forest with a focus that a `Tree` stands for, apart from its links.
use Rattle.std.specs.Prelude.{◌≡◌, ◌⊎◌, ℕ, ◌+◌, ◌≤◌, ◌==◌, if◌then◌else◌, List, [], ◌∷◌, ◌++◌, length, Option, Some, None, IfSome, IsSome, slice_get}
use Rattle.markdown_values.specs.declared.tree.Node.{Node}
use Rattle.markdown_values.specs.tree.Linked.{Linked}
use Rattle.markdown_values.specs.tree.Tree.{last, but_last, first_root}

-- An ordered forest has no tree, or a first tree, as its root and the forest of the root's children, and the trees after it.
pub data Forest : Type 0 where
  no_tree : Forest
  tree : (root : ℕ) (children later : Forest) → Forest

-- the first root
abbrev pub first : Forest → Option ℕ
first no_tree = None
first (tree root children later) = Some root

-- the node is one of the roots
abbrev pub IsRoot : ℕ → Forest → Type 0
IsRoot node no_tree = ⊥
IsRoot node (tree root children later) = (node ≡ root) ⊎ IsRoot node later

-- the root after this one, if there is one
abbrev pub root_after : ℕ → Forest → Option ℕ
root_after node no_tree = None
root_after node (tree root children later) = if node == root then first later else root_after node later

-- how often the node stands in the forest
abbrev pub count_in : ℕ → Forest → ℕ
count_in node no_tree = 0
count_in node (tree root children later) = (if node == root then 1 else 0) + (count_in node children + count_in node later)

-- the children of this root
abbrev pub children_of : ℕ → Forest → Forest
children_of node no_tree = no_tree
children_of node (tree root children later) = if node == root then children else children_of node later

-- the forest with other children of this root
abbrev pub with_children : ℕ → Forest → Forest → Forest
with_children node new no_tree = no_tree
with_children node new (tree root children later) = if node == root then tree root new later else tree root children (with_children node new later)

-- the path leads from a root down
abbrev pub IsPath : List ℕ → Forest → Type 0
IsPath [] forest = Unit {0}
IsPath (node ∷ path) forest = IsRoot node forest × IsPath path (children_of node forest)

-- the children of the path's end, or the whole forest where the path is empty
abbrev pub at_end : List ℕ → Forest → Forest
at_end [] forest = forest
at_end (node ∷ path) forest = at_end path (children_of node forest)

-- the forest with other children of the path's end
abbrev pub with_at_end : List ℕ → Forest → Forest → Forest
with_at_end [] new forest = new
with_at_end (node ∷ path) new forest = with_children node (with_at_end path new (children_of node forest)) forest

-- what follows the focus is cut, and the new node put after it
abbrev pub put_after : ℕ → ℕ → Forest → Forest
put_after focus new no_tree = no_tree
put_after focus new (tree root children later) = if focus == root then tree root children (tree new no_tree no_tree) else tree root children (put_after focus new later)

-- the new node after the focus, or with no focus as the only one
abbrev pub put_at : Option ℕ → ℕ → Forest → Forest
put_at None new siblings = tree new no_tree no_tree
put_at (Some focus) new siblings = put_after focus new siblings

-- a forest, a path from a root, and a focus among the children of its end, or none
pub record Focused : Type 0 where
  pub forest : Forest
  pub path : List ℕ
  pub focus : Option ℕ

abbrev pub siblings : Focused → Forest
siblings f = at_end f.path f.forest

abbrev pub empty_forest : Focused
empty_forest = record { forest = no_tree; path = []; focus = None }

-- the new node is put at the focus, and is in focus
abbrev pub appended : Focused → ℕ → Focused
appended f new = record {
  forest = with_at_end f.path (put_at f.focus new (siblings f)) f.forest;
  path = f.path;
  focus = Some new;
}

-- the focus joins the path, and its first child, if there is one, is in focus
abbrev pub pushed : Focused → ℕ → Focused
pushed f focus = record {
  forest = f.forest;
  path = f.path ++ focus ∷ [];
  focus = first (children_of focus (siblings f));
}

-- the end of the path, if there is one, leaves it and is in focus
abbrev pub popped_to : Focused → Option ℕ → Focused
popped_to f None = f
popped_to f (Some end) = record { forest = f.forest; path = but_last f.path; focus = Some end }

abbrev pub popped : Focused → Focused
popped f = popped_to f (last f.path)

-- an empty path, and the first root, if there is one, in focus
abbrev pub reset_of : Focused → Focused
reset_of f = record { forest = f.forest; path = []; focus = first f.forest }

-- the root after this one, if there is one, is in focus
abbrev pub moved_after : Focused → ℕ → Focused
moved_after f node = record { forest = f.forest; path = f.path; focus = root_after node (siblings f) }

-- the path is not empty, or there is a focus
abbrev pub KeepsFocus : Focused → Type 0
KeepsFocus f = f.path ≡ [] → IsSome f.focus

module _ {T : Type 0} where
  -- from this link on, the child and next links are those of the forest
  abbrev pub IsLinkedAs : List (Node T) → Option ℕ → Forest → Type 0
  IsLinkedAs nodes link no_tree = link ≡ None
  IsLinkedAs nodes link (tree root children later) = (link ≡ Some root) × (node : Node T) × (slice_get nodes root ≡ Some node) × IsLinkedAs nodes node.child children × IsLinkedAs nodes node.next later

  -- From the first node after the dummy on, the links are those of the forest, which reaches no node twice. Other nodes, the spine
  -- and the focus are left open.
  pub record HasForest (t : Linked T) (forest : Forest) : Type 0 where
    pub links : IsLinkedAs t.nodes (first_root t.nodes) forest
    pub once : (node : ℕ) → count_in node forest ≤ 1

  -- The tree stands for the forest with its focus. Nodes that are not reached are left open.
  pub record StandsFor (t : Linked T) (f : Focused) : Type 0 where
    pub links : IsLinkedAs t.nodes (first_root t.nodes) f.forest
    pub spine_is : t.spine ≡ f.path
    pub focus_is : t.focus ≡ f.focus
    pub path_leads : IsPath f.path f.forest
    pub focus_among : IfSome f.focus (λ node. IsRoot node (siblings f))
    -- an empty path has no focus only where there is no node but the dummy
    pub focus_there : f.path ≡ [] → f.focus ≡ None → length t.nodes ≡ 1
    -- no node is reached twice
    pub once : (node : ℕ) → count_in node f.forest ≤ 1
