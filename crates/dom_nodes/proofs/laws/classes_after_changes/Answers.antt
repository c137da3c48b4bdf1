use Rattle.dom_nodes.proofs.LawLemmas.{class_words-with_classes, class_words-without_classes}
use Rattle.dom_nodes.proofs.laws.classes_after_changes.Goals as goal

pub returns : goal.returns
returns c = record { added = class_words-with_classes; removed = class_words-without_classes }
