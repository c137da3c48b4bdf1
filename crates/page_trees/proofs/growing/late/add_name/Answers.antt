use Rattle.std.proofs.Common.{◌∙◌, ◌||◌, List, ap, string_bytes, true, ℕ}
use Rattle.std.specs.BTreeSet.{contains_text}
use Rattle.std.specs.Str.{bytes_eq}
use Rattle.std.proofs.lemmas.Map.Text.{btree_set_updates_text}
use Rattle.page_trees.proofs.AbsentAttrs.{or_cond}
use Rattle.page_trees.proofs.growing.late.add_name.Goals as goal

pub returns : goal.returns
returns c =
    let put : List ℕ = string_bytes c.in_ok-from_str.field-0 in
    λ other. btree_set_updates_text put c.args.names.now c.insert.new.self true c.in_ok-insert.ensures.updates other
    ∙ or_cond (bytes_eq put other) (contains_text c.args.names.now other)
    ∙ ap (λ (word : List ℕ). contains_text c.args.names.now other || bytes_eq word other) c.in_ok-from_str.ensures.ok
