-- Each event that is given of a block goes before those that the block gives from there.
use Rattle.std.proofs.Common.{ℕ, zero, suc, List, [], ◌∷◌, ◌++◌, ◌+◌, ◌<◌, ◌≤◌, ◌≡◌, ◌≢◌, inl, inr, Option, Some, None, length, drop}
use Rattle.std.proofs.Common.{refl, sym, ap, ◌∙◌, subst, arith}
use Rattle.std.specs.Prelude.{map, replicate, IfNone, slice_index_or}
use Rattle.std.proofs.lemmas.List.{drop_all, drop-drop}
use Rattle.markdown_scanners_tree.specs.line.State.{LineState}
use Rattle.markdown_scanners_tree.specs.declared.scanners.reference_definitions.ReferenceDefinition.{ReferenceDefinition}
use Rattle.markdown_blocks.specs.containers.Containers.{marker_start, after_marker}
use Rattle.markdown_blocks.specs.declared.blocks.BlockKind.{BlockKind}
use Rattle.markdown_blocks.specs.declared.blocks.BlockKind.TheVariants.{Definition}
use Rattle.markdown_blocks.specs.declared.containers.Container.{Container}
use Rattle.markdown_blocks.specs.declared.taken.Extent.{Extent}
use Rattle.markdown_blocks.specs.definitions.Definitions.{IsDefinition}
use Rattle.markdown_blocks.specs.events.Events.{Event, starts, leaf, ends, LeafBlock, Part, AreLeaves, leaf_of, first_lines, later_lines, lines_taken, started}
use Rattle.markdown_blocks.specs.events.Given.{BlockLeft, GivesBlock}

-- no lines have no leaf blocks
no_leaves : (outer : List Container) (kind : BlockKind) (part : Part) (content : List ℕ) (leaves : List LeafBlock) → part.lines ≡ []
    → AreLeaves outer kind part content leaves → leaves ≡ []
no_leaves outer kind part content [] none are = refl
no_leaves outer kind part content (block ∷ more) none are = absurd (are.0 none)

module _ (outer : List Container) (content : List ℕ) (old : BlockLeft) where
  -- what is left of the block is a leaf block
  pub own_leaf : (new : BlockLeft) (block : LeafBlock) → ((d : ReferenceDefinition) → ¬ IsDefinition (drop old.used content) d)
      → old.part.lines ≢ [] → block ≡ leaf_of old.kind old.part → new.part.lines ≡ [] → (later : List LeafBlock)
      → AreLeaves outer new.kind new.part (drop new.used content) later
      → AreLeaves outer old.kind old.part (drop old.used content) (block ∷ later)
  own_leaf new block plain some is none later are =
      (some, inr (plain, is, no_leaves outer new.kind new.part (drop new.used content) later none are))

  -- the definition at the front of what is left of the content is one
  pub definition_leaf : (new : BlockLeft) (block : LeafBlock) (d : ReferenceDefinition) (taken : Extent) → IsDefinition (drop old.used content) d
      → taken.bytes ≡ d.len → taken.lines ≡ lines_taken (drop old.used content) d → old.part.lines ≢ []
      → block ≡ leaf_of Definition (first_lines taken.lines old.part)
      → new ≡ record old { part = later_lines outer taken.lines old.part; used = old.used + taken.bytes } → (later : List LeafBlock)
      → AreLeaves outer new.kind new.part (drop new.used content) later
      → AreLeaves outer old.kind old.part (drop old.used content) (block ∷ later)
  definition_leaf new block d taken is bytes lines some given moved later are =
      let left : drop (old.used + taken.bytes) content ≡ drop d.len (drop old.used content) =
      ap (λ n. drop (old.used + n) content) bytes ∙ sym (drop-drop d.len old.used content) in
      let there : AreLeaves outer old.kind (later_lines outer taken.lines old.part) (drop (old.used + taken.bytes) content) later =
      subst (λ (l : BlockLeft). AreLeaves outer l.kind l.part (drop l.used content) later) moved are in
      let here : AreLeaves outer old.kind (later_lines outer taken.lines old.part) (drop d.len (drop old.used content)) later =
      subst (λ t. AreLeaves outer old.kind (later_lines outer taken.lines old.part) t later) left there in (
        some,
        inl (
          d,
          is,
          given ∙ ap (λ n. leaf_of Definition (first_lines n old.part)) lines,
          subst (λ n. AreLeaves outer old.kind (later_lines outer n old.part) (drop d.len (drop old.used content)) later) lines here,
        ),
      )

  -- a container ends
  pub end_given : (less : ℕ) → old.ending ≡ suc less → (later : List Event) → GivesBlock outer content (record old { ending = less }) later
      → GivesBlock outer content old (ends ∷ later)
  end_given less more later g = record {
    leaves = g.leaves;
    are_leaves = g.are_leaves;
    given = ap (λ es. ends ∷ es) g.given
        ∙ ap (λ n. replicate n ends ++ started old.front old.position (drop old.begun outer) ++ map leaf g.leaves) (sym more);
  }

  -- a container begins
  pub start_given : (new : BlockLeft) (c : Container) (offset : ℕ) → old.ending ≡ 0 → drop old.begun outer ≡ c ∷ drop (suc old.begun) outer
      → offset ≡ old.front + marker_start old.position
      → new ≡ record old { begun = old.begun + 1; position = after_marker old.position } → (later : List Event)
      → GivesBlock outer content new later → GivesBlock outer content old (starts c offset ∷ later)
  start_given new c offset none next at moved later g0 =
      let next_one : old.begun + 1 ≡ suc old.begun = omega arith in
      let g : GivesBlock outer content (record old { begun = suc old.begun; position = after_marker old.position }) later =
      subst (λ n. GivesBlock outer content (record old { begun = n; position = after_marker old.position }) later) next_one
      (subst (λ l. GivesBlock outer content l later) moved g0) in
      record {
        leaves = g.leaves;
        are_leaves = g.are_leaves;
        given = ap (λ es. starts c offset ∷ es) (g.given
            ∙ ap (λ n. replicate n ends ++ started old.front (after_marker old.position) (drop (suc old.begun) outer) ++ map leaf g.leaves) none)
            ∙ ap (λ p. starts c p ∷ (started old.front (after_marker old.position) (drop (suc old.begun) outer) ++ map leaf g.leaves)) at
            ∙ ap (λ cs. started old.front old.position cs ++ map leaf g.leaves) (sym next)
            ∙ ap (λ n. replicate n ends ++ started old.front old.position (drop old.begun outer) ++ map leaf g.leaves) (sym none);
      }

  -- the last container begins: where its marker is passed to is no matter
  pub last_given : (new : BlockLeft) (c : Container) (offset : ℕ) (s : LineState) → old.ending ≡ 0
      → drop old.begun outer ≡ c ∷ drop (suc old.begun) outer → length outer ≤ suc old.begun
      → offset ≡ old.front + marker_start old.position
      → new ≡ record old { begun = old.begun + 1; position = s } → (later : List Event)
      → GivesBlock outer content new later → GivesBlock outer content old (starts c offset ∷ later)
  last_given new c offset s none next all at moved later g0 =
      let g : GivesBlock outer content (record old { begun = old.begun + 1; position = s }) later =
      subst (λ l. GivesBlock outer content l later) moved g0 in
      let end : drop (old.begun + 1) outer ≡ [] = drop_all (old.begun + 1) outer (omega (arith, all)) in
      let marked : LineState → List Container → List Event = λ t cs.
      replicate old.ending ends ++ started old.front t cs ++ map leaf g.leaves in
      start_given (record old { begun = old.begun + 1; position = after_marker old.position }) c offset none next at refl later (record {
        leaves = g.leaves;
        are_leaves = g.are_leaves;
        given = g.given ∙ ap (marked s) end ∙ sym (ap (marked (after_marker old.position)) end);
      })

  module _ (none : old.ending ≡ 0) (all : length outer ≤ old.begun) where
    leaves_alone : (leaves : List LeafBlock)
        → replicate old.ending ends ++ started old.front old.position (drop old.begun outer) ++ map leaf leaves ≡ map leaf leaves
    leaves_alone leaves =
        ap (λ n. replicate n ends ++ started old.front old.position (drop old.begun outer) ++ map leaf leaves) none
        ∙ ap (λ cs. started old.front old.position cs ++ map leaf leaves) (drop_all old.begun outer all)

    -- a leaf block
    pub leaf_given : (new : BlockLeft) (block : LeafBlock)
        → ((later : List LeafBlock) → AreLeaves outer new.kind new.part (drop new.used content) later
        → AreLeaves outer old.kind old.part (drop old.used content) (block ∷ later))
        → new ≡ record old { part = new.part; used = new.used } → (later : List Event)
        → GivesBlock outer content new later → GivesBlock outer content old (leaf block ∷ later)
    leaf_given new block more same later g = record {
      leaves = block ∷ g.leaves;
      are_leaves = more g.leaves g.are_leaves;
      given = ap (λ es. leaf block ∷ es) (g.given
          ∙ ap (λ (l : BlockLeft). replicate l.ending ends ++ started l.front l.position (drop l.begun outer) ++ map leaf g.leaves) same
          ∙ leaves_alone g.leaves) ∙ sym (leaves_alone (block ∷ g.leaves));
    }

    -- nothing is left
    pub none_given : old.part.lines ≡ [] → GivesBlock outer content old []
    none_given lines = record { leaves = []; are_leaves = lines; given = sym (leaves_alone []) }

-- the container at an offset
pub container_at : (n : ℕ) (outer : List Container) (other : Container) → n < length outer
    → drop n outer ≡ slice_index_or outer n other ∷ drop (suc n) outer
container_at n [] other within = absurd (omega arith)
container_at zero (c ∷ outer) other within = refl
container_at (suc n) (c ∷ outer) other within = container_at n outer other (omega (arith, within))

pub if_none : {A : Type 0} (P : Type 0) (found : Option A) → P → IfNone found P
if_none P None p = p
if_none P (Some x) p = tt
