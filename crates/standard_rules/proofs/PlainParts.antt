-- Elements whose tags change more of the state than the stack: tables and their parts, `form`, `pre`, raw text; and the texts of each place.
use Rattle.std.specs.Prelude.{◌≡◌, ℕ, suc, Bool, true, false, not, ◌&&◌, ◌||◌, List, [], ◌∷◌, ◌++◌, map, Some, None, codes, refl}
use Rattle.std.specs.List.{list_all}
use Rattle.std.specs.Option.{option_and_then}
use Rattle.std.proofs.lemmas.Bool.{and_parts, true≢false}
use Rattle.std.proofs.lemmas.List.{append-nil}
use mathlib.Core.Path.{◌∙◌, sym, ap, subst}
use Rattle.standard_rules.specs.Building.{Building, Marker, Open, act, cleared, form_ended, is_line_feed, is_space, mode_of, names_of_stack, run, taken, tree_step, with_stack}
use Rattle.standard_rules.specs.PlainTrees.{AForm, APre, ARawText, AMetadata, ATable, ACaption, AColumnGroup, AColumn, ARowGroup, ARow, ACell, Place, FlowPlace, HeadingPlace, ListPlace, DescriptionListPlace, RubyPlace, TablePlace, ColumnGroupPlace, RowGroupPlace, RowPlace, HeadPlace, Within}
use Rattle.standard_rules.specs.PlainTrees.{are_plain, begins_feed, holds_blocks, inside, is_column_group, is_flow, is_head, is_none, is_raw, is_text, may_be_text, names_of}
use Rattle.standard_rules.specs.RuleWords.{Mode, InCaption, InCell, InColumnGroup, InHead, InRow, InTable, InTableBody, Text}
use Rattle.standard_rules.specs.TreeRules.{headings, rules}
use Rattle.standard_tokens.specs.Tokens.{Attr, Token, AChar, AStart, AnEnd}
use Rattle.standard_rules.specs.TreeTokens.{Trees, no_trees, text_node, comment_node, doctype_node, element_node, end_of, is_among, tokens, with_char}
use Rattle.standard_rules.proofs.ElementSteps.{Filled, IsBuilt, element_built, filled, less_numbers, more_numbers, one}
use Rattle.standard_rules.proofs.PlainElements.{ElementBuilt, Spot, flow_at, leaf, not_so, spot}
use Rattle.standard_rules.proofs.RuleFacts.{caption_barless, caption_is, caption_no_heading, cell_barless, cell_is, cell_no_heading, column_group_barless, column_group_is, column_group_space, column_is, form_is, form_no_heading, metadata_is, pre_barless, pre_no_heading, pre_opens, pre_ordinary}
use Rattle.standard_rules.proofs.RuleFacts.{raw_text_is, row_barless, row_group_barless, row_group_is, row_group_space, row_is, row_space, table_barless, table_is, table_space}
use Rattle.standard_rules.proofs.RuleShapes.{IsForm, IsLeafIn, IsMarkedPart, IsPart, IsRawText, IsTable, KeepsSpace, RunsIn, grown, in_text, open_of, with_leaf, with_one}
use Rattle.standard_rules.proofs.StackKeys.{At, Barless, InFlow, Key, Outer, Ready, Steady, caption, cell, column_group_at, fits_below, fits_cleared, flow_of, head_at, below_more, is_deep, key, key_names, key_of, keys, lacks_more, mark, outer, pass, row_at, row_group_at, same_names, same_number}
use Rattle.standard_rules.proofs.StackKeys.{steady_in, table_at}
use Rattle.standard_rules.proofs.TextSteps.{Built, fixed_text, raw_built, step_by_rules, step_in, text_built}
use Rattle.standard_rules.proofs.TreeLists.{Steps, each_space, ends_text, switched_steps, if_switched, of_each, step_on, steps_on, text_start}

-- ---- tables

table_t : ElementBuilt (codes "table") ATable
table_t attrs children w h plain inner b o os s r =
    let p : Spot w b o os = spot w b o os h s in
    let name : List ℕ = codes "table" in
    let facts : IsTable name = table_is.0 in
    let x : Outer = record (outer b) { mode = InTable } in
    let c : Building = record b { next = suc b.next; mode = InTable; frameset_ok = false } in
    element_built name attrs children (inside w ATable) b o os x facts.ends facts.unswitched
    (record {
      after = c;
      step = step_by_rules (with_stack b (o ∷ os)) (with_stack c (open_of b.next name attrs no_trees ∷ o ∷ os)) (key o ∷ keys os) (AStart name attrs false) p.flow r.skip (facts.opens attrs (with_stack b (o ∷ os)) p.no_p);
      ready = record { skip = r.skip; fits = pass r.fits; numbers = more_numbers b.next name (key o ∷ keys os) r.numbers };
      kept = refl;
    })
    (steady_in w TablePlace x b.next name (key o ∷ keys os) table_barless.0 (refl, refl, refl) s.bars) inner
    (λ d kept rd.
    let found : mode_of d.context (names_of_stack (o ∷ os)) ≡ Some b.mode =
    ap (λ (y : Outer). mode_of y.context (names_of_stack (o ∷ os))) kept ∙ ap (mode_of b.context) (same_names (o ∷ os)) ∙ p.flow.found in
    record {
      after = record d { mode = b.mode };
      step = step_in (with_stack d (open_of b.next name attrs children ∷ o ∷ os)) (with_stack (record d { mode = b.mode }) (grown o name attrs children ∷ os)) (AnEnd name) InTable
          (ap (λ (y : Outer). y.mode) kept) rd.skip (facts.closes d attrs b.next children o os b.mode found);
      ready = record { skip = rd.skip; fits = fits_below facts.unlisted rd.fits; numbers = less_numbers b.next d.next name (key o ∷ keys os) rd.numbers };
      kept = ap (λ (y : Outer). record y { mode = b.mode }) kept;
    })

pub table : (name : List ℕ) → is_among name (names_of ATable) ≡ true → ElementBuilt name ATable
table = of_each (λ n. ElementBuilt n ATable) (names_of ATable) (table_t, tt)

-- a part of a table that holds other parts
part : (mode after : Mode) (name : List ℕ) (attrs : List Attr) (children : Trees) (v : Within) (b : Building) (o : Open) (os : List Open) → IsPart mode o.name after name → b.mode ≡ mode →
    is_deep (key o ∷ keys os) ≡ true → Ready b (key o ∷ keys os) → Steady v (record (outer b) { mode = after }) (key_of b.next name ∷ key o ∷ keys os) → IsBuilt v children →
    Built b o os (AStart name attrs false ∷ (tokens children ++ end_of name)) (one name attrs children)
part mode after name attrs children v b o [] facts is deep r steady inner = absurd (true≢false (sym deep))
part mode after name attrs children v b o (p ∷ ps) facts is deep r steady inner =
    let x : Outer = record (outer b) { mode = after } in
    let c : Building = record b { next = suc b.next; mode = after } in
    let os : List Open = p ∷ ps in
    element_built name attrs children v b o os x facts.ends facts.unswitched
    (record {
      after = c;
      step = step_in (with_stack b (o ∷ os)) (with_stack c (open_of b.next name attrs no_trees ∷ o ∷ os)) (AStart name attrs false) mode is r.skip (facts.opens b attrs o.attrs o.number o.children p ps);
      ready = record { skip = r.skip; fits = pass r.fits; numbers = more_numbers b.next name (key o ∷ keys os) r.numbers };
      kept = refl;
    }) steady inner
    (λ d kept rd. record {
      after = record d { mode = mode };
      step = step_in (with_stack d (open_of b.next name attrs children ∷ o ∷ os)) (with_stack (record d { mode = mode }) (grown o name attrs children ∷ os)) (AnEnd name) after
          (ap (λ (y : Outer). y.mode) kept) rd.skip (facts.closes d attrs b.next children o os);
      ready = record { skip = rd.skip; fits = fits_below facts.unlisted rd.fits; numbers = less_numbers b.next d.next name (key o ∷ keys os) rd.numbers };
      kept = ap (λ (y : Outer). record y { mode = mode }) kept ∙ ap (λ m. record (outer b) { mode = m }) (sym is);
    })

-- a part that holds what a body holds: a caption or a cell
marked_part : (mode after : Mode) (name : List ℕ) (attrs : List Attr) (children : Trees) (v : Within) (b : Building) (o : Open) (os : List Open) → IsMarkedPart mode o.name after name → b.mode ≡ mode →
    is_deep (key o ∷ keys os) ≡ true → Ready b (key o ∷ keys os) → Steady v (record (outer b) { mode = after }) (key_of b.next name ∷ key o ∷ keys os) → IsBuilt v children →
    Built b o os (AStart name attrs false ∷ (tokens children ++ end_of name)) (one name attrs children)
marked_part mode after name attrs children v b o [] facts is deep r steady inner = absurd (true≢false (sym deep))
marked_part mode after name attrs children v b o (p ∷ ps) facts is deep r steady inner =
    let x : Outer = record (outer b) { mode = after } in
    let c : Building = record b { next = suc b.next; mode = after; listed = Marker ∷ b.listed } in
    let os : List Open = p ∷ ps in
    element_built name attrs children v b o os x facts.ends facts.unswitched
    (record {
      after = c;
      step = step_in (with_stack b (o ∷ os)) (with_stack c (open_of b.next name attrs no_trees ∷ o ∷ os)) (AStart name attrs false) mode is r.skip (facts.opens b attrs o.attrs o.number o.children p ps);
      ready = record { skip = r.skip; fits = mark facts.marker r.fits; numbers = more_numbers b.next name (key o ∷ keys os) r.numbers };
      kept = refl;
    }) steady inner
    (λ d kept rd. record {
      after = record d { mode = mode; listed = cleared d.listed };
      step = step_in (with_stack d (open_of b.next name attrs children ∷ o ∷ os)) (with_stack (record d { mode = mode; listed = cleared d.listed }) (grown o name attrs children ∷ os)) (AnEnd name) after
          (ap (λ (y : Outer). y.mode) kept) rd.skip (facts.closes d attrs b.next children o os);
      ready = record { skip = rd.skip; fits = fits_cleared facts.unlisted rd.fits; numbers = less_numbers b.next d.next name (key o ∷ keys os) rd.numbers };
      kept = ap (λ (y : Outer). record y { mode = mode }) kept ∙ ap (λ m. record (outer b) { mode = m }) (sym is);
    })

pub column_group : (name : List ℕ) → is_among name (names_of AColumnGroup) ≡ true → ElementBuilt name AColumnGroup
column_group name is attrs children w h plain inner b o os s r =
    let a : At TablePlace (outer b) (key o ∷ keys os) = table_at w.place (outer b) (key o ∷ keys os) h s.place in
    let facts : IsPart InTable o.name InColumnGroup name =
    of_each (λ parent. IsPart InTable parent InColumnGroup name) (names_of ATable) (of_each (IsPart InTable (codes "table") InColumnGroup) (names_of AColumnGroup) column_group_is name is, tt) o.name a.1 in
    part InTable InColumnGroup name attrs children (inside w AColumnGroup) b o os facts a.0 a.2 r
    (steady_in w ColumnGroupPlace (record (outer b) { mode = InColumnGroup }) b.next name (key o ∷ keys os) (of_each Barless (names_of AColumnGroup) column_group_barless name is) (refl, is, refl) s.bars) inner

pub row_group : (name : List ℕ) → is_among name (names_of ARowGroup) ≡ true → ElementBuilt name ARowGroup
row_group name is attrs children w h plain inner b o os s r =
    let a : At TablePlace (outer b) (key o ∷ keys os) = table_at w.place (outer b) (key o ∷ keys os) h s.place in
    let facts : IsPart InTable o.name InTableBody name =
    of_each (λ parent. IsPart InTable parent InTableBody name) (names_of ATable) (of_each (IsPart InTable (codes "table") InTableBody) (names_of ARowGroup) row_group_is name is, tt) o.name a.1 in
    part InTable InTableBody name attrs children (inside w ARowGroup) b o os facts a.0 a.2 r
    (steady_in w RowGroupPlace (record (outer b) { mode = InTableBody }) b.next name (key o ∷ keys os) (of_each Barless (names_of ARowGroup) row_group_barless name is) (refl, is, refl) s.bars) inner

row_tr : ElementBuilt (codes "tr") ARow
row_tr attrs children w h plain inner b o os s r =
    let a : At RowGroupPlace (outer b) (key o ∷ keys os) = row_group_at w.place (outer b) (key o ∷ keys os) h s.place in
    let facts : IsPart InTableBody o.name InRow (codes "tr") = of_each (λ parent. IsPart InTableBody parent InRow (codes "tr")) (names_of ARowGroup) row_is o.name a.1 in
    part InTableBody InRow (codes "tr") attrs children (inside w ARow) b o os facts a.0 a.2 r
    (steady_in w RowPlace (record (outer b) { mode = InRow }) b.next (codes "tr") (key o ∷ keys os) row_barless.0 (refl, refl, refl) s.bars) inner

pub row : (name : List ℕ) → is_among name (names_of ARow) ≡ true → ElementBuilt name ARow
row = of_each (λ n. ElementBuilt n ARow) (names_of ARow) (row_tr, tt)

pub caption_element : (name : List ℕ) → is_among name (names_of ACaption) ≡ true → ElementBuilt name ACaption
caption_element name is attrs children w h plain inner b o os s r =
    let a : At TablePlace (outer b) (key o ∷ keys os) = table_at w.place (outer b) (key o ∷ keys os) h s.place in
    let own : IsMarkedPart InTable (codes "table") InCaption name = of_each (IsMarkedPart InTable (codes "table") InCaption) (names_of ACaption) caption_is name is in
    let facts : IsMarkedPart InTable o.name InCaption name = of_each (λ parent. IsMarkedPart InTable parent InCaption name) (names_of ATable) (own, tt) o.name a.1 in
    let f : InFlow (record (outer b) { mode = InCaption }) (key_of b.next name ∷ key o ∷ keys os) = record { flow = caption; mode = refl; found = facts.gives b.context o.name (key_names (keys os)) } in
    marked_part InTable InCaption name attrs children (inside w ACaption) b o os facts a.0 a.2 r
    (steady_in w FlowPlace (record (outer b) { mode = InCaption }) b.next name (key o ∷ keys os) (of_each Barless (names_of ACaption) caption_barless name is)
    (f, of_each (λ n. is_among n headings ≡ false) (names_of ACaption) caption_no_heading name is) s.bars) inner

pub cell_element : (name : List ℕ) → is_among name (names_of ACell) ≡ true → ElementBuilt name ACell
cell_element name is attrs children w h plain inner b o os s r =
    let a : At RowPlace (outer b) (key o ∷ keys os) = row_at w.place (outer b) (key o ∷ keys os) h s.place in
    let own : IsMarkedPart InRow (codes "tr") InCell name = of_each (IsMarkedPart InRow (codes "tr") InCell) (names_of ACell) cell_is name is in
    let facts : IsMarkedPart InRow o.name InCell name = of_each (λ parent. IsMarkedPart InRow parent InCell name) (names_of ARow) (own, tt) o.name a.1 in
    let f : InFlow (record (outer b) { mode = InCell }) (key_of b.next name ∷ key o ∷ keys os) = record { flow = cell; mode = refl; found = facts.gives b.context o.name (key_names (keys os)) } in
    marked_part InRow InCell name attrs children (inside w ACell) b o os facts a.0 a.2 r
    (steady_in w FlowPlace (record (outer b) { mode = InCell }) b.next name (key o ∷ keys os) (of_each Barless (names_of ACell) cell_barless name is)
    (f, of_each (λ n. is_among n headings ≡ false) (names_of ACell) cell_no_heading name is) s.bars) inner

pub column : (name : List ℕ) → is_among name (names_of AColumn) ≡ true → ElementBuilt name AColumn
column name is attrs children w h plain inner b o os s r =
    let parts : (is_column_group w.place ≡ true) × (is_none children ≡ true) = and_parts (is_column_group w.place) (is_none children) h in
    let a : At ColumnGroupPlace (outer b) (key o ∷ keys os) = column_group_at w.place (outer b) (key o ∷ keys os) parts.0 s.place in
    let facts : IsLeafIn InColumnGroup name = of_each (IsLeafIn InColumnGroup) (names_of AColumn) column_is name is in
    leaf name attrs children b.frameset_ok b o os parts.1 facts.ends facts.unswitched r (step_in (with_stack b (o ∷ os)) (with_leaf name attrs b.frameset_ok b o os) (AStart name attrs false) InColumnGroup a.0 r.skip (facts.made attrs b o os))

-- ---- form

form_f : ElementBuilt (codes "form") AForm
form_f attrs children w h plain inner b o os s r =
    let parts : (holds_blocks w ≡ true) × (not w.form ≡ true) = and_parts (holds_blocks w) (not w.form) h in
    let p : Spot w b o os = spot w b o os parts.0 s in
    let name : List ℕ = codes "form" in
    let facts : IsForm name = form_is.0 in
    let free : b.form ≡ None = s.bars.no_form (not_so w.form parts.1) in
    let x : Outer = record (outer b) { form = Some b.next } in
    let c : Building = record b { next = suc b.next; form = Some b.next } in
    let ks : List Key = key o ∷ keys os in
    let f : InFlow x ks = record { flow = p.flow.flow; mode = p.flow.mode; found = p.flow.found } in
    let k : At FlowPlace x (key_of b.next name ∷ ks) = flow_at name b.next x (key o) (keys os) facts.passes form_no_heading.0 f in
    element_built name attrs children (inside w AForm) b o os x facts.ends facts.unswitched
    (record {
      after = c;
      step = step_by_rules (with_stack b (o ∷ os)) (with_stack c (open_of b.next name attrs no_trees ∷ o ∷ os)) ks (AStart name attrs false) p.flow r.skip (facts.opens attrs (with_stack b (o ∷ os)) free p.no_p);
      ready = record { skip = r.skip; fits = pass r.fits; numbers = more_numbers b.next name ks r.numbers };
      kept = refl;
    })
    (record {
      place = k;
      bars = record {
        no_p = λ e. lacks_more (codes "p") name b.next ks refl (s.bars.no_p e);
        no_a = λ e. lacks_more (codes "a") name b.next ks refl (s.bars.no_a e);
        no_button = λ e. lacks_more (codes "button") name b.next ks refl (s.bars.no_button e);
        no_form = λ e. absurd (true≢false e);
      };
    }) inner
    (λ d kept rd.
    let q : Open = open_of b.next name attrs children in
    let ends : form_ended d.form (with_stack d (q ∷ o ∷ os)) ≡ Some (with_stack (record d { form = None }) (grown o name attrs children ∷ os)) =
    ap (λ (y : Outer). form_ended y.form (with_stack d (q ∷ o ∷ os))) kept ∙ rw (same_number b.next, form_ended) refl in
    record {
      after = record d { form = None };
      step = step_by_rules (with_stack d (q ∷ o ∷ os)) (with_stack (record d { form = None }) (grown o name attrs children ∷ os)) ks (AnEnd name)
          (subst (λ (y : Outer). InFlow y ks) (sym kept) f) rd.skip (facts.closes (with_stack d (q ∷ o ∷ os)) (with_stack (record d { form = None }) (grown o name attrs children ∷ os)) ends);
      ready = record { skip = rd.skip; fits = fits_below facts.unlisted rd.fits; numbers = less_numbers b.next d.next name ks rd.numbers };
      kept = ap (λ (y : Outer). record y { form = None }) kept ∙ ap (λ e. record (outer b) { form = e }) (sym free);
    })

pub form : (name : List ℕ) → is_among name (names_of AForm) ≡ true → ElementBuilt name AForm
form = of_each (λ n. ElementBuilt n AForm) (names_of AForm) (form_f, tt)

-- ---- pre

-- the first of the tokens is a line feed, or there is none
opens_feed : List Token → Bool
opens_feed [] = true
opens_feed (x ∷ xs) = is_line_feed x

passed : (x : Token) (b : Building) → is_line_feed x ≡ false → tree_step (record b { skip = true }) x ≡ tree_step (record b { skip = false }) x
unfolding tree_step
passed x b h = ap (λ t. elim t [ true ↦ Some (record b { skip = false }) | false ↦ run 12 x b.mode (record b { skip = false }) ]) h

-- where no line feed comes first, none is dropped
none_dropped : (b : Building) (xs : List Token) → opens_feed xs ≡ false → switched_steps (record b { skip = true }) xs ≡ switched_steps (record b { skip = false }) xs
unfolding opens_feed
none_dropped b [] h = absurd (true≢false h)
none_dropped b (x ∷ xs) h = ap (λ r. option_and_then (λ c. switched_steps c xs) (option_and_then (if_switched x) r)) (passed x b h)

first_token : (t : Trees) (w : Within) (name : List ℕ) → begins_feed t ≡ false → are_plain w t ≡ true → opens_feed (tokens t ++ AnEnd name ∷ []) ≡ false
unfolding opens_feed
first_token no_trees w name h plain = refl
first_token (text_node [] later) w name h plain = absurd (true≢false (sym plain))
first_token (text_node (c ∷ contents) later) w name h plain = h
first_token (comment_node contents later) w name h plain = refl
first_token (doctype_node n later) w name h plain = refl
first_token (element_node n attrs children later) w name h plain = refl

pre_p : ElementBuilt (codes "pre") APre
pre_p attrs children w h plain inner b o os s r =
    let parts : (holds_blocks w ≡ true) × (not (begins_feed children) ≡ true) = and_parts (holds_blocks w) (not (begins_feed children)) h in
    let p : Spot w b o os = spot w b o os parts.0 s in
    let name : List ℕ = codes "pre" in
    let ks : List Key = key o ∷ keys os in
    let c : Building = record b { next = suc b.next; frameset_ok = false; skip = false } in
    let opened : List Open = open_of b.next name attrs no_trees ∷ o ∷ os in
    let xs : List Token = tokens children ++ end_of name in
    let f : Filled c b b.next name attrs children o os (outer b) =
    filled name attrs children (inside w APre) c b b.next o os (outer b) refl
    (record { skip = refl; fits = pass r.fits; numbers = more_numbers b.next name ks r.numbers })
    (steady_in w FlowPlace (outer b) b.next name ks pre_barless.0 (flow_at name b.next (outer b) (key o) (keys os) pre_ordinary.0.passes pre_no_heading.0 p.flow) s.bars) inner
    (λ d kept rd. record {
      after = d;
      step = step_by_rules (with_stack d (open_of b.next name attrs children ∷ o ∷ os)) (with_stack d (grown o name attrs children ∷ os)) ks (AnEnd name)
          (subst (λ (y : Outer). InFlow y ks) (sym kept) p.flow) rd.skip (pre_ordinary.0.closes d b.next attrs children o os);
      ready = record { skip = rd.skip; fits = fits_below pre_ordinary.0.unlisted rd.fits; numbers = less_numbers b.next d.next name ks rd.numbers };
      kept = kept;
    }) in
    let last : Building = with_stack f.after (grown o name attrs children ∷ os) in
    record {
      after = f.after;
      steps = step_on (with_stack b (o ∷ os)) (record (with_stack c opened) { skip = true }) last (AStart name attrs false) xs refl
          (step_by_rules (with_stack b (o ∷ os)) (record (with_stack c opened) { skip = true }) ks (AStart name attrs false) p.flow r.skip (pre_opens.0 attrs (with_stack b (o ∷ os)) p.no_p))
          (none_dropped (with_stack c opened) xs (first_token children (inside w APre) name (not_so (begins_feed children) parts.1) plain) ∙ f.steps);
      ready = f.ready;
      kept = f.kept;
    }

pub pre : (name : List ℕ) → is_among name (names_of APre) ≡ true → ElementBuilt name APre
pre = of_each (λ n. ElementBuilt n APre) (names_of APre) (pre_p, tt)

-- ---- scripts, styles and titles

-- what they hold
raw_children : (t : Trees) (w : Within) (b : Building) (n : ℕ) (name : List ℕ) (attrs : List Attr) (os : List Open) → is_raw t ≡ true → are_plain w t ≡ true → b.mode ≡ Text → b.skip ≡ false →
    Steps (with_stack b (open_of n name attrs no_trees ∷ os)) (tokens t) (with_stack b (open_of n name attrs t ∷ os))
raw_children no_trees w b n name attrs os raw plain mode skip = refl
raw_children (text_node contents no_trees) w b n name attrs os raw plain mode skip =
    let parts : ((may_be_text w.place contents && true) ≡ true) × (true ≡ true) = and_parts (may_be_text w.place contents && true) true plain in
    let more : (may_be_text w.place contents ≡ true) × (true ≡ true) = and_parts (may_be_text w.place contents) true parts.0 in
    let is : (is_text contents ≡ true) × ((is_flow w.place || list_all is_space contents) ≡ true) = and_parts (is_text contents) (is_flow w.place || list_all is_space contents) more.0 in
    subst (λ (xs : List Token). Steps (with_stack b (open_of n name attrs no_trees ∷ os)) xs (with_stack b (open_of n name attrs (text_node contents no_trees) ∷ os))) (sym (append-nil (map AChar contents)))
    (raw_built b (open_of n name attrs no_trees) os contents is.0 refl mode skip)
raw_children (text_node contents (text_node m later)) w b n name attrs os raw plain mode skip = absurd (true≢false (sym raw))
raw_children (text_node contents (comment_node m later)) w b n name attrs os raw plain mode skip = absurd (true≢false (sym raw))
raw_children (text_node contents (doctype_node m later)) w b n name attrs os raw plain mode skip = absurd (true≢false (sym raw))
raw_children (text_node contents (element_node m bs children later)) w b n name attrs os raw plain mode skip = absurd (true≢false (sym raw))
raw_children (comment_node contents later) w b n name attrs os raw plain mode skip = absurd (true≢false (sym raw))
raw_children (doctype_node m later) w b n name attrs os raw plain mode skip = absurd (true≢false (sym raw))
raw_children (element_node m bs children later) w b n name attrs os raw plain mode skip = absurd (true≢false (sym raw))

-- in the modes of flow, and in the head
raw_opens : (name : List ℕ) → IsRawText name → (attrs : List Attr) (b : Building) (o : Open) (os : List Open) (p : Place) → (is_flow p || is_head p) ≡ true → At p (outer b) (key o ∷ keys os) → b.skip ≡ false →
    tree_step (with_stack b (o ∷ os)) (AStart name attrs false) ≡ Some (in_text name attrs (with_stack b (o ∷ os)))
raw_opens name facts attrs b o os p h a skip = by_place (is_flow p) refl
  where
    by_place : (x : Bool) → is_flow p ≡ x → tree_step (with_stack b (o ∷ os)) (AStart name attrs false) ≡ Some (in_text name attrs (with_stack b (o ∷ os)))
    by_place true e = step_by_rules (with_stack b (o ∷ os)) (in_text name attrs (with_stack b (o ∷ os))) (key o ∷ keys os) (AStart name attrs false) (flow_of p (outer b) (key o ∷ keys os) e a) skip (facts.opens attrs (with_stack b (o ∷ os)))
    by_place false e =
        step_in (with_stack b (o ∷ os)) (in_text name attrs (with_stack b (o ∷ os))) (AStart name attrs false) InHead (head_at p (outer b) (key o ∷ keys os) (ap (λ x. x || is_head p) (sym e) ∙ h) a) skip
        (facts.opens_in_head attrs (with_stack b (o ∷ os)))

pub raw_text : (name : List ℕ) → is_among name (names_of ARawText) ≡ true → ElementBuilt name ARawText
raw_text name is attrs children w h plain inner b o os s r =
    let parts : ((is_flow w.place || is_head w.place) ≡ true) × (is_raw children ≡ true) = and_parts (is_flow w.place || is_head w.place) (is_raw children) h in
    let facts : IsRawText name = of_each IsRawText (names_of ARawText) raw_text_is name is in
    let c : Building = record b { next = suc b.next; original = b.mode; mode = Text } in
    let after : Building = record b { next = suc b.next; original = b.mode } in
    let empty : Building = with_stack c (open_of b.next name attrs no_trees ∷ o ∷ os) in
    let full : Building = with_stack c (open_of b.next name attrs children ∷ o ∷ os) in
    let last : Building = with_stack after (grown o name attrs children ∷ os) in
    record {
      after = after;
      steps = step_on (with_stack b (o ∷ os)) empty last (AStart name attrs false) (tokens children ++ end_of name) (text_start name attrs empty refl) (raw_opens name facts attrs b o os w.place parts.0 s.place r.skip)
          (steps_on empty full last (tokens children) (end_of name) (raw_children children (inside w ARawText) c b.next name attrs (o ∷ os) parts.1 plain refl r.skip)
          (rw facts.ends (step_on full last last (AnEnd name) [] refl (step_in full last (AnEnd name) Text refl r.skip (facts.closes c b.next attrs children o os)) refl)));
      ready = record { skip = r.skip; fits = r.fits; numbers = below_more b.next (key o ∷ keys os) r.numbers };
      kept = refl;
    }

pub metadata : (name : List ℕ) → is_among name (names_of AMetadata) ≡ true → ElementBuilt name AMetadata
metadata name is attrs children w h plain inner b o os s r =
    let parts : (is_head w.place ≡ true) × (is_none children ≡ true) = and_parts (is_head w.place) (is_none children) h in
    let facts : IsLeafIn InHead name = of_each (IsLeafIn InHead) (names_of AMetadata) metadata_is name is in
    leaf name attrs children b.frameset_ok b o os parts.1 facts.ends facts.unswitched r
    (step_in (with_stack b (o ∷ os)) (with_leaf name attrs b.frameset_ok b o os) (AStart name attrs false) InHead (head_at w.place (outer b) (key o ∷ keys os) parts.0 s.place) r.skip (facts.made attrs b o os))

-- ---- texts

head_space : (b : Building) (o : Open) (os : List Open) (c : ℕ) → is_space c ≡ true → RunsIn InHead (AChar c) (with_stack b (o ∷ os)) (with_stack b (with_one o c ∷ os))
unfolding run rules taken act
head_space b o os c h = each_space (λ c. RunsIn InHead (AChar c) (with_stack b (o ∷ os)) (with_stack b (with_one o c ∷ os))) refl refl refl refl refl c h

-- white space where no other text may stand
space_built : (b : Building) (o : Open) (os : List Open) (contents : List ℕ) (mode : Mode) → is_text contents ≡ true → list_all is_space contents ≡ true → ends_text o.children ≡ false →
    ((children : Trees) (c : ℕ) → is_space c ≡ true → RunsIn mode (AChar c) (with_stack b (record o { children = children } ∷ os)) (with_stack b (record o { children = with_char children c } ∷ os))) →
    b.mode ≡ mode → Ready b (key o ∷ keys os) → Built b o os (map AChar contents) (text_node contents no_trees)
space_built b o os [] mode text space e each is r = absurd (true≢false (sym text))
space_built b o os (c ∷ more) mode text space e each is r = record {
  after = b;
  steps = fixed_text b o os is_space c more space e
      (λ children d k. step_in (with_stack b (record o { children = children } ∷ os)) (with_stack b (record o { children = with_char children d } ∷ os)) (AChar d) mode is r.skip (each children d k));
  ready = r;
  kept = refl;
}

-- the text of any place
pub text_in : (p : Place) (b : Building) (o : Open) (os : List Open) (contents : List ℕ) → may_be_text p contents ≡ true → ends_text o.children ≡ false → At p (outer b) (key o ∷ keys os) →
    Ready b (key o ∷ keys os) → Built b o os (map AChar contents) (text_node contents no_trees)
text_in p b o os contents h e a r = by_place p (and_parts (is_text contents) (is_flow p || list_all is_space contents) h) a
  where
    by_place : (p : Place) → (is_text contents ≡ true) × ((is_flow p || list_all is_space contents) ≡ true) → At p (outer b) (key o ∷ keys os) → Built b o os (map AChar contents) (text_node contents no_trees)
    by_place FlowPlace k a = text_built b o os contents k.0 e a.0 r
    by_place HeadingPlace k a = text_built b o os contents k.0 e a r
    by_place ListPlace k a = text_built b o os contents k.0 e a.0 r
    by_place DescriptionListPlace k a = text_built b o os contents k.0 e a.0 r
    by_place RubyPlace k a = text_built b o os contents k.0 e a.0 r
    by_place TablePlace k a =
        space_built b o os contents InTable k.0 k.1 e (λ children c. of_each (KeepsSpace InTable) (names_of ATable) table_space o.name a.1 b o.number o.attrs children os c) a.0 r
    by_place ColumnGroupPlace k a =
        space_built b o os contents InColumnGroup k.0 k.1 e (λ children c. of_each (KeepsSpace InColumnGroup) (names_of AColumnGroup) column_group_space o.name a.1 b o.number o.attrs children os c) a.0 r
    by_place RowGroupPlace k a =
        space_built b o os contents InTableBody k.0 k.1 e (λ children c. of_each (KeepsSpace InTableBody) (names_of ARowGroup) row_group_space o.name a.1 b o.number o.attrs children os c) a.0 r
    by_place RowPlace k a =
        space_built b o os contents InRow k.0 k.1 e (λ children c. of_each (KeepsSpace InRow) (names_of ARow) row_space o.name a.1 b o.number o.attrs children os c) a.0 r
    by_place HeadPlace k a = space_built b o os contents InHead k.0 k.1 e (λ children c. head_space b (record o { children = children }) os c) a r
