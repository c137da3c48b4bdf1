-- What the checks of nodes from elsewhere look at, and what each fault says.
use Rattle.std.specs.Prelude.{ℕ, ◌≡◌, ◌≢◌, ◌<◌, ◌≤◌, ◌⊎◌, ◌==◌, ◌||◌, true, false, List, [], Option, Some, None, length, slice_get, slice_index_or, option_and_then, Bool, IfSome, MatchBool, EachIndex, SomeIndex}
use Rattle.std.specs.Option.{option_map_or, option_or}
use Rattle.dom_nodes.specs.declared.node_data.TreeNode.{TreeNode}
use Rattle.dom_nodes.specs.Kinds.{contents_named, is_fragment, is_top, children_allowed}
use Rattle.dom_links.specs.declared.validation.ValidateFault.{ValidateFault}
use Rattle.dom_links.specs.declared.validation.ValidateFault.TheVariants.{NoRoot, RootPlaced, BadId, UnknownLink, BadLink, Cycle, NotLinked, SiblingCycle, NoChildrenHere, PlacedFragment, BadContents, TooManyNodes, Memory}
use Rattle.dom_links.specs.declared.validation.each.NodeCheck.{NodeCheck}
use Rattle.dom_links.specs.declared.validation.each.NodeCheck.TheVariants.{Neighbours, Linked, OpenParent, Alone}
use Rattle.dom_links.specs.Forest.{parent_link, prev_link, next_link, first_link, last_link, contents_of, arena_ids}
use Rattle.dom_links.specs.Sound.{IsSoundArena}

-- One or more links lead from one id to another.
pub data LinkPath (link : ℕ → Option ℕ) : ℕ → ℕ → Type 0 where
  one_link : (m n : ℕ) → link m ≡ Some n → LinkPath link m n
  then_link : (m k n : ℕ) → LinkPath link m k → link k ≡ Some n → LinkPath link m n

-- The links from an id on come to an end.
pub data Ends (link : ℕ → Option ℕ) : ℕ → Type 0 where
  last_one : (n : ℕ) → link n ≡ None → Ends link n
  link_then : (m n : ℕ) → link m ≡ Some n → Ends link n → Ends link m

-- Some id leads back to itself.
abbrev pub HasCycle : (ℕ → Option ℕ) → Type 0
HasCycle link = (n : ℕ) × LinkPath link n n

-- The link of n in a list of links.
abbrev pub link_at : List (Option ℕ) → ℕ → Option ℕ
link_at links n = slice_index_or links n None

-- The list has the links that a function gives, `count` of them.
pub record AreLinksBy (links : List (Option ℕ)) (count : ℕ) (link : ℕ → Option ℕ) : Type 0 where
  pub long : length links ≡ count
  pub each : (n : ℕ) → n < count → link_at links n ≡ link n

-- The state of the search for cycles: the first `count` ids are marked, no mark is larger than
-- `count`, and the links from each marked id come to an end.
pub record AreMarks (links : List (Option ℕ)) (marks : List ℕ) (count : ℕ) : Type 0 where
  pub long : length marks ≡ length links
  pub met : (n : ℕ) → n < count → 0 < slice_index_or marks n 0
  pub small : (n : ℕ) → slice_index_or marks n 0 ≤ count
  pub ended : (n : ℕ) → 0 < slice_index_or marks n 0 → Ends (link_at links) n

-- One of the links of n leads to k.
abbrev pub LinksTo : List TreeNode → ℕ → ℕ → Type 0
LinksTo nodes n k = (parent_link nodes n ≡ Some k) ⊎ ((prev_link nodes n ≡ Some k) ⊎ ((next_link nodes n ≡ Some k)
    ⊎ ((first_link nodes n ≡ Some k) ⊎ (last_link nodes n ≡ Some k))))

-- One of the links of n leads to an id that no node has.
abbrev pub LinksAstray : List TreeNode → ℕ → Type 0
LinksAstray nodes n = (k : ℕ) × LinksTo nodes n k × (length nodes ≤ k)

-- The link, if there is one, leads to a node.
abbrev pub IsLinkKnown : List TreeNode → Option ℕ → Type 0
IsLinkKnown nodes link = IfSome link (λ k. k < length nodes)

-- All links of n lead to nodes.
pub record LinksKnown (nodes : List TreeNode) (n : ℕ) : Type 0 where
  pub parent_known : IsLinkKnown nodes (parent_link nodes n)
  pub prev_known : IsLinkKnown nodes (prev_link nodes n)
  pub next_known : IsLinkKnown nodes (next_link nodes n)
  pub first_known : IsLinkKnown nodes (first_link nodes n)
  pub last_known : IsLinkKnown nodes (last_link nodes n)

-- All links of all nodes lead to nodes.
abbrev pub AreLinksKnown : List TreeNode → Type 0
AreLinksKnown nodes = EachIndex nodes (λ n. LinksKnown nodes n)

-- The result of a test: each node passes, or some node doesn't.
abbrev pub TestsEach : Bool → List TreeNode → (ℕ → Type 0) → Type 0
TestsEach passed nodes P = MatchBool passed (EachIndex nodes P) (SomeIndex nodes (λ n. P n → ⊥))

-- The result of a search: there is a cycle of links, or all links come to an end.
abbrev pub FindsCycle : Bool → (ℕ → Option ℕ) → Type 0
FindsCycle found link = MatchBool found (HasCycle link) ((n : ℕ) → Ends link n)

-- The id of the node at index n is n.
abbrev pub HasOwnId : List TreeNode → ℕ → Type 0
HasOwnId nodes n = slice_get (arena_ids nodes) n ≡ Some n

-- The previous sibling of n, if there is one, has the same parent.
abbrev pub SharesParent : List TreeNode → ℕ → Type 0
SharesParent nodes n = IfSome (prev_link nodes n) (λ m. parent_link nodes m ≡ parent_link nodes n)

-- If n has a parent and no previous sibling, it is the first child; without a next sibling, it is
-- the last child.
abbrev pub IsNamedAtEnds : List TreeNode → ℕ → Type 0
IsNamedAtEnds nodes n = IfSome (parent_link nodes n) (λ p.
    (prev_link nodes n ≡ None → first_link nodes p ≡ Some n) × (next_link nodes n ≡ None → last_link nodes p ≡ Some n))

-- The siblings of n link back to it.
pub record Agrees (nodes : List TreeNode) (n : ℕ) : Type 0 where
  pub with_prev : IfSome (prev_link nodes n) (λ m. next_link nodes m ≡ Some n)
  pub with_next : IfSome (next_link nodes n) (λ m. prev_link nodes m ≡ Some n)

-- The node n agrees with its previous sibling and with its children on their parents, and its
-- parent has it as the first or last child if it is at an end.
pub record IsLinked (nodes : List TreeNode) (n : ℕ) : Type 0 where
  pub beside : SharesParent nodes n
  pub first_here : IfSome (first_link nodes n) (λ c. parent_link nodes c ≡ Some n)
  pub last_here : IfSome (last_link nodes n) (λ c. parent_link nodes c ≡ Some n)
  pub at_front : IfSome (parent_link nodes n) (λ p. prev_link nodes n ≡ None → first_link nodes p ≡ Some n)
  pub at_back : IfSome (parent_link nodes n) (λ p. next_link nodes n ≡ None → last_link nodes p ≡ Some n)

-- The parent of n may have children.
abbrev pub ParentAllowsChildren : List TreeNode → ℕ → Type 0
ParentAllowsChildren nodes n = IfSome (parent_link nodes n) (λ p. option_map_or children_allowed (slice_get (contents_of nodes) p) false ≡ true)

-- If n is the root, a document or a fragment, it has no parent and no siblings.
abbrev pub IsAlone : List TreeNode → ℕ → Type 0
IsAlone nodes n = ((n == 0) || option_map_or is_top (slice_get (contents_of nodes) n) false) ≡ true →
    (parent_link nodes n ≡ None) × (prev_link nodes n ≡ None) × (next_link nodes n ≡ None)

-- What each check says of n.
abbrev pub Passes : NodeCheck → List TreeNode → ℕ → Type 0
Passes Neighbours nodes n = Agrees nodes n
Passes Linked nodes n = IsLinked nodes n
Passes OpenParent nodes n = ParentAllowsChildren nodes n
Passes Alone nodes n = IsAlone nodes n

-- The template contents of n.
abbrev pub contents_link : List TreeNode → ℕ → Option ℕ
contents_link nodes n = option_and_then contents_named (slice_get (contents_of nodes) n)

-- For each node that is template contents, `hosts` has an element whose contents they are.
pub record AreHosts (nodes : List TreeNode) (hosts : List (Option ℕ)) : Type 0 where
  pub long : length hosts ≡ length nodes
  pub truly : (c m : ℕ) → link_at hosts c ≡ Some m → contents_link nodes m ≡ Some c
  pub complete : (m c : ℕ) → contents_link nodes m ≡ Some c → c < length nodes → (k : ℕ) × (link_at hosts c ≡ Some k)

-- The parent of n, or its host if it has no parent.
abbrev pub parent_or_host : List TreeNode → List (Option ℕ) → ℕ → Option ℕ
parent_or_host nodes hosts n = option_or (parent_link nodes n) (link_at hosts n)

-- The template contents of n are a fragment other than the root, and n is its host in `hosts`.
abbrev pub HostsContents : List TreeNode → List (Option ℕ) → ℕ → Type 0
HostsContents nodes hosts n = IfSome (contents_link nodes n) (λ c.
    (c ≢ 0) × (option_map_or is_fragment (slice_get (contents_of nodes) c) false ≡ true) × (link_at hosts c ≡ Some n))

-- What the checks of ids and links establish.
pub record LinksHold (nodes : List TreeNode) : Type 0 where
  pub rooted : 0 < length nodes
  pub unplaced : parent_link nodes 0 ≡ None
  pub ids : EachIndex nodes (λ n. HasOwnId nodes n)
  pub known : AreLinksKnown nodes
  pub agree : EachIndex nodes (λ n. Agrees nodes n)

-- What the checks of the nodes' kinds establish.
pub record ContentsHold (nodes : List TreeNode) (hosts : List (Option ℕ)) : Type 0 where
  pub allowed_by_parents : EachIndex nodes (λ n. ParentAllowsChildren nodes n)
  pub alone : EachIndex nodes (λ n. IsAlone nodes n)
  pub held : EachIndex nodes (λ n. HostsContents nodes hosts n)
  pub numbered : length nodes ≤ 4294967295

-- The nodes aren't a sound arena. `Memory` says nothing about them.
abbrev pub IsRefused : List TreeNode → ValidateFault → Type 0
IsRefused nodes Memory = Unit {0}
IsRefused nodes _ = IsSoundArena nodes → ⊥

-- The node m is the parent of n, or n is the template contents of m.
abbrev pub IsAbove : List TreeNode → ℕ → ℕ → Type 0
IsAbove nodes m n = (parent_link nodes n ≡ Some m) ⊎ (contents_link nodes m ≡ Some n)

-- One or more steps up lead from one node to another.
pub data Climbs (nodes : List TreeNode) : ℕ → ℕ → Type 0 where
  one_up : (n m : ℕ) → IsAbove nodes m n → Climbs nodes n m
  then_up : (n k m : ℕ) → Climbs nodes n k → IsAbove nodes m k → Climbs nodes n m

-- The template contents of n are a fragment other than the root, and no other element has them.
abbrev pub HostsAlone : List TreeNode → ℕ → Type 0
HostsAlone nodes n = IfSome (contents_link nodes n) (λ c. (c ≢ 0)
    × (option_map_or is_fragment (slice_get (contents_of nodes) c) false ≡ true)
    × ((m : ℕ) → contents_link nodes m ≡ Some c → m ≡ n))

-- What a fault says of the nodes.
abbrev pub HasFault : List TreeNode → ValidateFault → Type 0
HasFault nodes NoRoot = nodes ≡ []
HasFault nodes RootPlaced = (p : ℕ) × (parent_link nodes 0 ≡ Some p)
HasFault nodes BadId = SomeIndex nodes (λ n. HasOwnId nodes n → ⊥)
HasFault nodes UnknownLink = SomeIndex nodes (λ n. LinksAstray nodes n)
HasFault nodes BadLink = SomeIndex nodes (λ n. Agrees nodes n → ⊥)
HasFault nodes Cycle = (n : ℕ) × Climbs nodes n n
HasFault nodes NotLinked = SomeIndex nodes (λ n. IsLinked nodes n → ⊥)
HasFault nodes SiblingCycle = HasCycle (prev_link nodes)
HasFault nodes NoChildrenHere = SomeIndex nodes (λ n. ParentAllowsChildren nodes n → ⊥)
HasFault nodes PlacedFragment = SomeIndex nodes (λ n. IsAlone nodes n → ⊥)
HasFault nodes BadContents = SomeIndex nodes (λ n. HostsAlone nodes n → ⊥)
HasFault nodes TooManyNodes = 4294967295 < length nodes
HasFault nodes Memory = Unit {0}

-- What is known when the check for a fault doesn't find it. The check for cycles goes up to the
-- parent, or, without a parent, to a host.
abbrev pub PassesCheck : List TreeNode → ValidateFault → Type 0
PassesCheck nodes NoRoot = 0 < length nodes
PassesCheck nodes RootPlaced = parent_link nodes 0 ≡ None
PassesCheck nodes BadId = EachIndex nodes (λ n. HasOwnId nodes n)
PassesCheck nodes UnknownLink = AreLinksKnown nodes
PassesCheck nodes BadLink = EachIndex nodes (λ n. Agrees nodes n)
PassesCheck nodes Cycle = (hosts : List (Option ℕ)) × AreHosts nodes hosts × ((n : ℕ) → Ends (parent_or_host nodes hosts) n)
PassesCheck nodes NotLinked = EachIndex nodes (λ n. IsLinked nodes n)
PassesCheck nodes SiblingCycle = (n : ℕ) → Ends (prev_link nodes) n
PassesCheck nodes NoChildrenHere = EachIndex nodes (λ n. ParentAllowsChildren nodes n)
PassesCheck nodes PlacedFragment = EachIndex nodes (λ n. IsAlone nodes n)
PassesCheck nodes BadContents = EachIndex nodes (λ n. HostsAlone nodes n)
PassesCheck nodes TooManyNodes = length nodes ≤ 4294967295
PassesCheck nodes Memory = Unit {0}

-- The order of the checks. Memory can be refused before any of them.
abbrev pub rank : ValidateFault → ℕ
rank Memory = 0
rank NoRoot = 1
rank RootPlaced = 2
rank BadId = 3
rank UnknownLink = 4
rank BadLink = 5
rank Cycle = 6
rank NotLinked = 7
rank SiblingCycle = 8
rank NoChildrenHere = 9
rank PlacedFragment = 10
rank BadContents = 11
rank TooManyNodes = 12

-- All checks before the one for this fault passed.
abbrev pub PassesEarlierChecks : List TreeNode → ValidateFault → Type 0
PassesEarlierChecks nodes fault = (earlier : ValidateFault) → rank earlier < rank fault → PassesCheck nodes earlier

-- The fault is true of the nodes, and no fault that is looked for earlier is.
abbrev pub IsFirstFault : List TreeNode → ValidateFault → Type 0
IsFirstFault nodes fault = HasFault nodes fault × PassesEarlierChecks nodes fault
