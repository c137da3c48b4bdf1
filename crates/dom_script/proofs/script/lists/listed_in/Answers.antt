use Rattle.std.proofs.Common.{◌≡◌, ◌≢◌, [], rules, subst, IfOk, List, ℕ, map}
use Rattle.dom_script.proofs.ListLines.{some-list}
use Rattle.dom_script.proofs.script.lists.listed_in.Goals as goal

pub returns : goal.returns
returns c =
    let some : c.args.list.now ≢ [] = λ e. search rules in
    subst (λ (ns : List (List ℕ)). IfOk c.names_of.result (λ names. map (λ name. name.now) names.items ≡ ns)) (some-list c.args.list.now some) c.names_of.ensures
