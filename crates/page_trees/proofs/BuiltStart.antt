-- An empty page, and an empty fragment, are what the definition begins with.
use Rattle.std.proofs.Common.{◌≡◌, ℕ, suc, zero, [], refl, sym, true, true≢false}
use Rattle.std.proofs.lemmas.List.Elements.{All-nil}
use Rattle.dom_links.specs.Growth.{lone}
use Rattle.dom_nodes.specs.declared.node_data.NodeData.TheVariants.{Document, Fragment}
use Rattle.standard_trees.specs.Building.{empty_tree}
use Rattle.standard_trees.specs.TreeStore.{is_document, node_at}
use Rattle.page_trees.specs.SameNodes.{AreNodes}
use Rattle.page_trees.specs.Stands.{Builds}
use Rattle.page_trees.specs.TreeState.{completed, fresh_state}
use Rattle.page_trees.proofs.NumberedNames.{none_numbered}

page_nodes : AreNodes empty_tree.nodes (completed [] (lone Document))
unfolding completed
page_nodes = record { root = refl; kinds = (refl, tt); children = refl; hosts = (tt, tt) }

fragment_nodes : AreNodes empty_tree.nodes (completed [] (lone Fragment))
unfolding completed
fragment_nodes = record { root = refl; kinds = (refl, tt); children = refl; hosts = (tt, tt) }

only_root : (n : ℕ) → is_document (node_at empty_tree.nodes n).kind ≡ true → n ≡ 0
only_root zero is = refl
only_root (suc n) is = absurd (true≢false (sym is))

pub page_built : Builds (fresh_state (lone Document)) empty_tree
page_built = record {
  nodes = page_nodes;
  stack = record { ids = refl; nodes = tt };
  numbered = none_numbered empty_tree.nodes;
  listed = record { list = refl; elements = All-nil _ };
  head = refl;
  head_named = tt;
  form = refl;
  form_named = tt;
  context = tt;
  late = λ n. tt;
  lone = only_root;
}

pub fragment_built : Builds (fresh_state (lone Fragment)) empty_tree
fragment_built = record {
  nodes = fragment_nodes;
  stack = record { ids = refl; nodes = tt };
  numbered = none_numbered empty_tree.nodes;
  listed = record { list = refl; elements = All-nil _ };
  head = refl;
  head_named = tt;
  form = refl;
  form_named = tt;
  context = tt;
  late = λ n. tt;
  lone = only_root;
}
