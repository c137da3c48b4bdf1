use Rattle.std.proofs.Common.{ap, subst, sym, ◌≡◌, ◌∙◌}
use Rattle.standard_trees.specs.Building.{fragment_start}
use Rattle.standard_trees.specs.GrowingTree.{in_foreign}
use Rattle.page_tokens.specs.declared.tokenizer.Tokenizer.{Tokenizer}
use Rattle.page_trees.specs.Constructs.{Constructs, WithinLimits}
use Rattle.page_trees.specs.Contexts.{surroundings_of}
use Rattle.page_trees.specs.Stands.{Tells}
use Rattle.page_trees.specs.declared.builder.TreeBuilder.{TreeBuilder}
use Rattle.page_trees.specs.declared.reading.PageReader.{PageReader}
use Rattle.page_trees.proofs.FragmentBegins.{fragment_begun}
use Rattle.page_trees.proofs.reading.PageReader.begin_fragment.Goals as goal

pub returns-clause-begins : goal.returns-clause-begins
returns-clause-begins c scripting fresh unspaced =
    let new : PageReader = c.set_in_foreign.new.self in
    let same : new.builder ≡ c.begin_fragment.new.self = ap (λ (r : PageReader). r.builder) c.set_in_foreign.ensures.only in
    fragment_begun scripting (surroundings_of c.args.context) c.args.self.now new c.first_state.result c.pages.ensures.begin fresh
    (ap (λ (r : PageReader). r.tokens) c.set_in_foreign.ensures.only ∙ ap (λ (t : Tokenizer). record t { in_foreign = new.tokens.in_foreign }) c.switch_to.ensures.only)
    c.first_state.ensures.text (λ b stands. c.first_state.ensures.rule b (subst (λ (s : TreeBuilder). Constructs s b) same stands))
    (subst (λ (s : TreeBuilder). Tells in_foreign s.tree new.tokens.in_foreign) (sym same) c.set_in_foreign.ensures.flag)
    (λ within. subst (λ (s : TreeBuilder). Constructs s (fragment_start scripting (surroundings_of c.args.context))) (sym same)
    (c.begin_fragment.ensures.rule unspaced (subst WithinLimits same within) scripting fresh.stands))
