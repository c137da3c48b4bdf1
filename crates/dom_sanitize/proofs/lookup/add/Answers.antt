use Rattle.std.proofs.Common.{ℕ, List, true, cond, ap, ◌∙◌, string_bytes}
use Rattle.std.specs.BTreeSet.{contains_text}
use Rattle.std.specs.Str.{bytes_eq}
use Rattle.std.proofs.lemmas.Map.Text.{btree_set_updates_text}
use Rattle.dom_sanitize.proofs.SetLemmas.{cond_or}
use Rattle.dom_sanitize.proofs.lookup.add.Goals as goal

pub returns : goal.returns
returns c =
    λ other. btree_set_updates_text (string_bytes c.in_ok-name.name) c.args.set.now c.insert.new.self true c.in_ok-insert.ensures.updates other
    ∙ ap (λ (name : List ℕ). cond (bytes_eq name other) true (contains_text c.args.set.now other)) c.in_ok-name.ensures.ok
    ∙ cond_or (bytes_eq c.args.name.now other) (contains_text c.args.set.now other)
