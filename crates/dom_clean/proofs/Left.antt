-- What is left of trees is allowed, and calm.
use Rattle.std.proofs.Common.{◌≡◌, ℕ, Bool, true, false, ◌&&◌, ◌==◌, not, cond, List, [], ◌∷◌, Some, None, refl, sym, ap, ◌∙◌, inl, inr, slice_get}
use Rattle.std.specs.Prelude.{Option, nat_lt}
use Rattle.std.specs.Option.{option_map_or}
use Rattle.std.proofs.lemmas.Bool.{cases_Bool, cond_both, and_parts}
use Rattle.dom_nodes.specs.Elements.{Element}
use Rattle.dom_nodes.specs.Words.{is_among}
use Rattle.dom_nodes.specs.declared.node_data.NodeData.{NodeData}
use Rattle.dom_nodes.specs.declared.node_data.NodeData.TheVariants.{Document, Fragment, Doctype, Text, Comment, ProcessingInstruction, Element as AnElement}
use Rattle.dom_links.specs.Trees.{NoTrees, Tree}
use Rattle.dom_markup.specs.Names.{void_names}
use Rattle.dom_markup.specs.Html.{is_html}
use Rattle.dom_markup.specs.ValueTrees.{ValueTrees}
use Rattle.dom_markup.specs.ValueTrees.ValueTrees.{no_trees, text_node, comment_node, doctype_node, element_node}
use Rattle.page_trees.specs.ElementKinds.{kind_of}
use Rattle.calm_pages.specs.Calm.{admits, are_calm, bars, begins_line, behind, behind_first, behind_text, inside, may_hold_text}
use Rattle.page_trees.specs.ElementKinds.{may_hold}
use Rattle.page_trees.specs.declared.element_kinds.ElementCategory.{ElementCategory}
use Rattle.page_trees.specs.declared.element_kinds.ElementCategory.TheVariants.{Block, Pre}
use Rattle.calm_pages.specs.declared.nesting.Scope.{Scope}
use Rattle.dom_sanitize.specs.Written.{followed_by}
use Rattle.dom_clean.specs.Cleaned.{after_lines, cleaned, held_by, left_of, text_or, without_lines}
use Rattle.dom_clean.specs.Fates.{fate_of, is_dropped, may_stay, place_below, spellable}
use Rattle.dom_clean.specs.declared.fates.Fate.{Fate}
use Rattle.dom_clean.specs.declared.fates.Place.{Place}
use Rattle.dom_clean.specs.declared.fates.Fate.TheVariants.{Stays, Unwrapped, Vanishes}
use Rattle.dom_clean.proofs.Allowed.{all-allowed}
use Rattle.dom_clean.specs.Laws.{AreAllowed, CleansWell, IsCleaned}
use Rattle.dom_clean.specs.Policy.{Policy}

both : (a b : Bool) → a ≡ true → b ≡ true → (a && b) ≡ true
both a b p q = rw (p, q) refl

-- what stands after nodes stands as they do
abbrev IsSettled : Scope → Type 0
IsSettled scope = behind scope ≡ scope

later-followed : (scope : Scope) (later b : ValueTrees) → IsSettled scope → (are_calm scope later ≡ true → are_calm scope b ≡ true → are_calm scope (followed_by later b) ≡ true) →
    are_calm (behind scope) later ≡ true → are_calm scope b ≡ true → are_calm (behind scope) (followed_by later b) ≡ true
later-followed scope later b is more p q =
    ap (λ s. are_calm s (followed_by later b)) is ∙ more (sym (ap (λ s. are_calm s later) is) ∙ p) q

calm-followed : (scope : Scope) (a b : ValueTrees) → IsSettled scope → are_calm scope a ≡ true → are_calm scope b ≡ true → are_calm scope (followed_by a b) ≡ true
calm-followed scope no_trees b is p q = q
calm-followed scope (text_node c later) b is p q = let h = and_parts _ _ p in both _ _ h.0 (later-followed scope later b is (calm-followed scope later b is) h.1 q)
calm-followed scope (comment_node c later) b is p q = let h = and_parts _ _ p in both _ _ h.0 (later-followed scope later b is (calm-followed scope later b is) h.1 q)
calm-followed scope (doctype_node n u s later) b is p q = let h = and_parts _ _ p in both _ _ h.0 (later-followed scope later b is (calm-followed scope later b is) h.1 q)
calm-followed scope (element_node n a children later) b is p q = let h = and_parts _ _ p in both _ _ h.0 (later-followed scope later b is (calm-followed scope later b is) h.1 q)

allowed-followed : (policy : Policy) (a b : ValueTrees) → AreAllowed policy a → AreAllowed policy b → AreAllowed policy (followed_by a b)
allowed-followed policy no_trees b p q = q
allowed-followed policy (text_node c later) b p q = allowed-followed policy later b p q
allowed-followed policy (comment_node c later) b p q = absurd p
allowed-followed policy (doctype_node n u s later) b p q = absurd p
allowed-followed policy (element_node n a children later) b (p0, p1, p2, p3) q = (p0, p1, p2, allowed-followed policy later b p3 q)

text-left : (policy : Policy) (place : Place) (text : List ℕ) → may_hold_text place.scope.parent text ≡ true → IsCleaned policy place (behind_text text no_trees)
text-left policy place [] holds = record { allowed = tt; calm = refl }
text-left policy place (b ∷ text) holds = record { allowed = tt; calm = rw holds refl }

nothing-left : (policy : Policy) (place : Place) → IsCleaned policy place no_trees
nothing-left policy place = record { allowed = tt; calm = refl }

-- ---- the contents of an element

line-gone : (text : List ℕ) → begins_line (after_lines text) ≡ false
line-gone [] = refl
line-gone (b ∷ text) = elim (cases_Bool (b == 10)) as (λ t. begins_line (after_lines (b ∷ text)) ≡ false) [
  | inl t ↦ rw t (line-gone text)
  | inr f ↦ rw f f
]

abbrev in_pre : Scope → Scope
in_pre scope = record scope { parent = Pre }

abbrev in_block : Scope → Scope
in_block scope = record scope { parent = Block }

pre-holds : (kind : ElementCategory) → may_hold Block kind ≡ may_hold Pre kind
pre-holds _ = refl

pre-admits : (scope : Scope) (kind : ElementCategory) → admits (in_block scope) kind ≡ admits (in_pre scope) kind
pre-admits scope kind = ap (λ b. b && not (bars (in_block scope) kind)) (pre-holds kind) ∙ ap (λ b. may_hold Pre kind && not b) (same-bars kind)
  where
    same-bars : (kind : ElementCategory) → bars (in_block scope) kind ≡ bars (in_pre scope) kind
    same-bars _ = refl

pre-inside : (scope : Scope) (kind : ElementCategory) → inside (in_block scope) kind ≡ inside (in_pre scope) kind
pre-inside scope _ = refl

calm-or : (scope : Scope) (left : List ℕ) (later others : ValueTrees) → begins_line left ≡ false → are_calm (in_block scope) later ≡ true → are_calm (in_pre scope) others ≡ true → are_calm (in_pre scope) (text_or left later others) ≡ true
calm-or scope [] later others none p q = q
calm-or scope (b ∷ left) later others none p q = rw (none, p) refl

calm-lines : (scope : Scope) (ts : ValueTrees) → are_calm (in_block scope) ts ≡ true → are_calm (in_pre scope) (without_lines ts) ≡ true
calm-lines scope no_trees p = refl
calm-lines scope (text_node c later) p = calm-or scope (after_lines c) later (without_lines later) (line-gone c) p (calm-lines scope later p)
calm-lines scope (comment_node c later) p = p
calm-lines scope (doctype_node n u s later) p = p
calm-lines scope (element_node n a children later) p =
    ap (λ b. (b && are_calm (inside (in_pre scope) (kind_of n)) children) && are_calm (in_block scope) later) (sym (pre-admits scope (kind_of n)))
    ∙ ap (λ s. (admits (in_block scope) (kind_of n) && are_calm s children) && are_calm (in_block scope) later) (sym (pre-inside scope (kind_of n))) ∙ p

calm-held : (scope : Scope) (kind : ElementCategory) (below : ValueTrees) → are_calm (behind (inside scope kind)) below ≡ true → are_calm (inside scope kind) (held_by kind below) ≡ true
calm-held scope Pre below p = calm-lines scope below p
calm-held scope _ below p = p

allowed-or : (policy : Policy) (left : List ℕ) (later others : ValueTrees) → AreAllowed policy later → AreAllowed policy others → AreAllowed policy (text_or left later others)
allowed-or policy [] later others p q = q
allowed-or policy (b ∷ left) later others p q = p

allowed-lines : (policy : Policy) (ts : ValueTrees) → AreAllowed policy ts → AreAllowed policy (without_lines ts)
allowed-lines policy no_trees p = tt
allowed-lines policy (text_node c later) p = allowed-or policy (after_lines c) later (without_lines later) p (allowed-lines policy later p)
allowed-lines policy (comment_node c later) p = absurd p
allowed-lines policy (doctype_node n u s later) p = absurd p
allowed-lines policy (element_node n a children later) p = p

allowed-held : (policy : Policy) (kind : ElementCategory) (below : ValueTrees) → AreAllowed policy below → AreAllowed policy (held_by kind below)
allowed-held policy Pre below p = allowed-lines policy below p
allowed-held policy _ below p = p

-- the children of a void element aren't written
record IsHeld (policy : Policy) (scope : Scope) (trees : ValueTrees) : Type 0 where
  allowed : AreAllowed policy trees
  calm : are_calm scope trees ≡ true

held : (policy : Policy) (scope : Scope) (kind : ElementCategory) (void : Bool) (below : ValueTrees) → AreAllowed policy below → are_calm (behind (inside scope kind)) below ≡ true →
    IsHeld policy (inside scope kind) (cond void no_trees (held_by kind below))
held policy scope kind void below p q =
    cond_both void no_trees (held_by kind below) (IsHeld policy (inside scope kind)) (λ _. record { allowed = tt; calm = refl })
    (λ _. record { allowed = allowed-held policy kind below p; calm = calm-held scope kind below q })

-- what is left of a node, by what is left of its children
abbrev Leaves : Policy → Place → NodeData → Fate → Type 0
Leaves policy place content fate = (below : ValueTrees) → IsCleaned policy (place_below fate place content) below → IsCleaned policy place (left_of policy fate content below)

element-left : (policy : Policy) (place : Place) (e : Element) → Leaves policy place (AnElement e) (fate_of policy place (AnElement e))
element-left policy place e =
    cond_both (is_dropped policy e) Vanishes _ (Leaves policy place (AnElement e)) (λ _ below is. nothing-left policy place)
    (λ _. cond_both (may_stay policy place e) Stays Unwrapped (Leaves policy place (AnElement e))
    (λ stay below is.
    let h = and_parts (is_html e.name.ns && is_among e.name.local policy.elements && admits place.scope (kind_of e.name.local)) (nat_lt 0 place.left) stay in
    let k = and_parts (is_html e.name.ns && is_among e.name.local policy.elements) (admits place.scope (kind_of e.name.local)) h.0 in
    let named = (and_parts (is_html e.name.ns) (is_among e.name.local policy.elements) k.0).1 in
    let inner = held policy place.scope (kind_of e.name.local) (is_among e.name.local void_names) below is.allowed is.calm in
    record { allowed = (named, all-allowed policy e, inner.allowed, tt); calm = rw (k.1, inner.calm) refl })
    (λ _ below is. is))

node-left : (policy : Policy) (place : Place) (content : NodeData) → Leaves policy place content (fate_of policy place content)
node-left policy place (Text contents) =
    cond_both (may_hold_text place.scope.parent (spellable contents)) Stays Vanishes (Leaves policy place (Text contents))
    (λ holds below is. text-left policy place (spellable contents) holds) (λ _ below is. nothing-left policy place)
node-left policy place (AnElement e) = element-left policy place e
node-left policy place Document = λ below is. nothing-left policy place
node-left policy place Fragment = λ below is. nothing-left policy place
node-left policy place (Doctype n u s) = λ below is. nothing-left policy place
node-left policy place (Comment c) = λ below is. nothing-left policy place
node-left policy place (ProcessingInstruction t c) = λ below is. nothing-left policy place

found-left : (policy : Policy) (place : Place) (found : Option NodeData) (below : NodeData → ValueTrees) →
    ((content : NodeData) → IsCleaned policy (place_below (fate_of policy place content) place content) (below content)) →
    IsCleaned policy place (option_map_or (λ content. left_of policy (fate_of policy place content) content (below content)) found no_trees)
found-left policy place None below is = nothing-left policy place
found-left policy place (Some content) below is = node-left policy place content (below content) (is content)

followed : (policy : Policy) (place : Place) (a b : ValueTrees) → IsSettled place.scope → IsCleaned policy place a → IsCleaned policy place b → IsCleaned policy place (followed_by a b)
followed policy place a b is p q = record { allowed = allowed-followed policy a b p.allowed q.allowed; calm = calm-followed place.scope a b is p.calm q.calm }

settled : (scope : Scope) → IsSettled (behind scope)
settled scope = ap (λ (kind : ElementCategory). record scope { parent = kind }) (twice scope.parent)
  where
    twice : (kind : ElementCategory) → behind_first (behind_first kind) ≡ behind_first kind
    twice Pre = refl
    twice _ = refl

settled-below : (fate : Fate) (place : Place) (content : NodeData) → IsSettled place.scope → IsSettled (place_below fate place content).scope
settled-below Stays place (AnElement e) is = settled (inside place.scope (kind_of e.name.local))
settled-below Stays place (Text c) is = is
settled-below Stays place Document is = is
settled-below Stays place Fragment is = is
settled-below Stays place (Doctype a b c) is = is
settled-below Stays place (Comment c) is = is
settled-below Stays place (ProcessingInstruction a b) is = is
settled-below Unwrapped place content is = is
settled-below Vanishes place content is = is

pub cleans : (policy : Policy) → CleansWell policy
cleans policy forest place NoTrees is = nothing-left policy place
cleans policy forest place (Tree n contents children later) is =
    let first = found-left policy place (slice_get forest.content n)
    (λ content. cleaned policy forest (place_below (fate_of policy place content) place content) children)
    (λ content. cleans policy forest (place_below (fate_of policy place content) place content) children (settled-below (fate_of policy place content) place content is)) in
    let rest = cleans policy forest place later is in
    followed policy place _ _ is first rest
