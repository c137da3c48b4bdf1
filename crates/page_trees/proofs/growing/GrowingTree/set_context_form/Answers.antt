use Rattle.page_trees.proofs.growing.GrowingTree.set_context_form.Goals as goal

pub invariant_of-self : goal.invariant_of-self
invariant_of-self c =
    let all = c.self.invariant.0 in (
      record {
        root = all.root;
        stack = all.stack;
        order = all.order;
        formatting = all.formatting;
        likes = all.likes;
        head = all.head;
        form = tt;
        context = all.context;
      },
      c.self.invariant.1,
    )
