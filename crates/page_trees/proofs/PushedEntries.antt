-- An element or a marker is added to the list of active formatting elements: the ids that tree construction keeps are still those of
-- elements.
use Rattle.std.proofs.Common.{ℕ, ◌≡◌, List, [], ◌∷◌, ◌++◌, Option, Result, Ok, Err, ap}
use Rattle.std.specs.Prelude.{Contains, OnErr, OnOk}
use Rattle.std.proofs.lemmas.List.Elements.{All-contains, All-push, All-same}
use Rattle.dom_links.specs.Forest.{Forest}
use Rattle.page_trees.specs.Elements.{AreElements, IsElement, IsEntry}
use Rattle.page_trees.specs.Formatting.{third_alike, with_room}
use Rattle.page_trees.specs.Likeness.{KnowsLikes, Listed}
use Rattle.page_trees.specs.declared.fault.PageFault.{PageFault}
use Rattle.page_trees.specs.declared.formatting.Entry.TheVariants.{Element, Marker}
use Rattle.page_trees.specs.declared.pointers.FormPointer.{FormPointer}
use Rattle.page_trees.specs.declared.stack.Open.{Open}
use Rattle.page_trees.proofs.HeldNumbers.{all_left, with_entries}

pub entry_listed : (f : Forest) (os : List Open) (es ns : Listed) (h : Option ℕ) (m : FormPointer) (c : Option Open) (o : Open)
    (r : Result Unit PageFault) → AreElements f os es h m c → Contains os o →
    OnOk r (ns.entries ≡ with_room f o.id es.entries ++ Element o ∷ []) → OnErr r (ns.entries ≡ with_room f o.id es.entries) →
    KnowsLikes f ns → AreElements f os ns h m c
entry_listed f os es ns h m c o (Ok done) all has ok err likes =
    with_entries f os es ns h m c all (All-same (IsEntry f) ns.entries (with_room f o.id es.entries ++ Element o ∷ []) ok
    (All-push (IsEntry f) (with_room f o.id es.entries) (Element o)
    (all_left (IsEntry f) es.entries (third_alike f o.id es.entries) all.formatting)
    (All-contains (λ (p : Open). IsElement f p.id) os o all.stack has))) likes
entry_listed f os es ns h m c o (Err fault) all has ok err likes =
    with_entries f os es ns h m c all (All-same (IsEntry f) ns.entries (with_room f o.id es.entries) err
    (all_left (IsEntry f) es.entries (third_alike f o.id es.entries) all.formatting)) likes

pub marker_listed : (f : Forest) (os : List Open) (es ns : Listed) (h : Option ℕ) (m : FormPointer) (c : Option Open)
    (r : Result Unit PageFault) → AreElements f os es h m c → OnOk r (ns.entries ≡ es.entries ++ Marker ∷ []) → OnErr r (ns ≡ es) →
    (KnowsLikes f es → KnowsLikes f ns) → AreElements f os ns h m c
marker_listed f os es ns h m c (Ok done) all ok err likes =
    with_entries f os es ns h m c all (All-same (IsEntry f) ns.entries (es.entries ++ Marker ∷ []) ok
    (All-push (IsEntry f) es.entries Marker all.formatting tt)) (likes all.likes)
marker_listed f os es ns h m c (Err fault) all ok err likes =
    with_entries f os es ns h m c all (All-same (IsEntry f) ns.entries es.entries (ap (λ (l : Listed). l.entries) err) all.formatting) (likes all.likes)
