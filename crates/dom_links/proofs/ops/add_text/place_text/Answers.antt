use Rattle.std.proofs.Common.{ℕ, ◌≡◌, ◌∙◌, ap, arith, length, rules, subst, sym, [], ◌∷◌}
use Rattle.std.proofs.lemmas.List.{with_items_is}
use Rattle.dom_nodes.specs.declared.node_data.NodeData.TheVariants.{Text}
use Rattle.dom_links.specs.Forest.{forest_of}
use Rattle.dom_links.specs.Growth.{with_node}
use Rattle.dom_links.specs.Moves.{moved_to}
use Rattle.dom_links.specs.Sound.{IsSoundArena}
use Rattle.dom_links.proofs.texts.AddingTexts.{allowed_at, none_before}
use Rattle.dom_links.proofs.moves.Cuts.{length-contents}
use Rattle.dom_links.proofs.ops.add_text.place_text.Goals as goal

pub put_alone-requires-clause-allowed : goal.put_alone-requires-clause-allowed
put_alone-requires-clause-allowed c =
    let forest = forest_of c.args.nodes.now.items in
    let long = length-contents forest c.args.nodes.now.items c.requires.sound.arena.links in
    let number : c.in_ok-made.made ≡ length forest.content = omega (arith, long, c.in_ok-made.ensures.makes.number) in
    allowed_at forest _ c.args.gap c.in_ok-made.made _ c.requires.sound.forest c.requires.open.0 c.requires.open.1 (ap forest_of c.deref_mut.ensures.value ∙ c.in_ok-made.ensures.makes.made) number

pub returns : goal.returns
returns c =
    let forest = forest_of c.args.nodes.now.items in
    let long = length-contents forest c.args.nodes.now.items c.requires.sound.arena.links in
    let number : c.in_ok-made.made ≡ length forest.content = omega (arith, long, c.in_ok-made.ensures.makes.number) in
    let same : length c.put_alone.new.nodes ≡ length c.deref_mut.result.now = omega arith in
    let whole : length c.put_alone.new.nodes ≡ c.create_node.new.nodes.len = same ∙ c.deref_mut.ensures.len in
    let old : forest_of c.deref_mut.result.now ≡ with_node (Text c.args.contents) forest = ap forest_of c.deref_mut.ensures.value ∙ c.in_ok-made.ensures.makes.made in
    let items = with_items_is c.create_node.new.nodes c.put_alone.new.nodes whole in
    record {
      made = ap forest_of items
          ∙ c.put_alone.ensures.made
          ∙ ap (λ (x : ℕ). moved_to (x ∷ []) c.args.gap (forest_of c.deref_mut.result.now)) number
          ∙ ap (moved_to (length forest.content ∷ []) c.args.gap) old
          ∙ none_before c.args.gap c.args.contents forest c.requires.alone;
      err = search rules;
      cause = search rules;
      sound = subst IsSoundArena (sym items) c.put_alone.ensures.sound;
    }
