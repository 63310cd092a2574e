-- What an item's words are read as.
use Rattle.std.proofs.Common.{◌≡◌, ◌≤◌, ◌⊎◌, inl, inr, Bool, true, false, cond, List, [], ◌∷◌, ◌++◌, length, map, append_assoc, Result, Ok, Err, refl, sym, ap, subst, ◌∙◌, codes, arith}
use Rattle.std.specs.Prelude.{nat_le, bytes_eq}
use Rattle.std.specs.List.{AllByRecursion, list_all}
use Rattle.std.proofs.lemmas.Bool.{and_parts, and_from}
use Rattle.std.proofs.lemmas.List.{append-nil, length-map}
use Rattle.script_words.specs.declared.cause.Cause.{Cause}
use Rattle.script_words.specs.declared.cause.Cause.TheVariants.{BadName, BadKey, BadValue}
use Rattle.script_words.specs.Reading.{◌>>=◌}
use Rattle.model.specs.Acts.{NamedCell, NamedItem, NamedOp, NamedUpsert, NamedDelete}
use Rattle.script_places.specs.Words.{Word}
use Rattle.script_places.specs.Names.{is_name, is_key, key_at}
use Rattle.script_places.specs.Numbers.{number_of}
use Rattle.script_places.specs.Values.{value_of, cell_of, cells_from}
use Rattle.script_places.specs.Groups.{slash, is_slash, item_fits}
use Rattle.script_places.specs.Items.{is_delete, op_of, item_of, items_from}
use Rattle.script_places.specs.Spelling.{cell_word, FitsCell, op_words, FitsOp, item_words, FitsItem}
use Rattle.script_places.specs.Grammar.{CellsRefused, IsItem, ItemRefused, ItemsRefused}
use Rattle.script_places.proofs.Cuts.{at_most, is_at_most, same_words}
use Rattle.script_places.proofs.CellWords.{cell_again, cells_again, cells_are, cells_not, cells_refused}
use Rattle.script_places.proofs.Results.{okay, failed, same_ok, same_cause}
use Rattle.script_places.proofs.Slashes.{NoSlash, slash_is}

abbrev delete : Word
delete = codes "delete"

-- no key and no cell is a slash, and no cell is `delete`
slash_no_key : is_key slash ≡ false
unfolding is_key
slash_no_key = refl

slash_no_cell : cell_of slash ≡ Err BadName
unfolding cell_of is_name
slash_no_cell = refl

delete_no_cell : cell_of delete ≡ Err BadValue
unfolding cell_of is_name value_of number_of
delete_no_cell = refl

key_by : (w : Word) (test : Bool) → is_slash w ≡ test → is_key w ≡ true → test ≡ false
key_by w true is key = absurd (let no : false ≡ true = sym slash_no_key ∙ sym (ap is_key (slash_is w is)) ∙ key in cc)
key_by w false is key = refl

cell_by : (cell : NamedCell) (test : Bool) → is_slash (cell_word cell) ≡ test → FitsCell cell → test ≡ false
cell_by cell true is fits =
    absurd (let no : failed BadName ≡ okay cell = sym slash_no_cell ∙ sym (ap cell_of (slash_is (cell_word cell) is)) ∙ cell_again cell fits in cc)
cell_by cell false is fits = refl

cells_no_slash : (cells : List NamedCell) → AllByRecursion FitsCell cells → NoSlash (map cell_word cells)
cells_no_slash [] fits = tt
cells_no_slash (cell ∷ cells) fits = (cell_by cell (is_slash (cell_word cell)) refl fits.0, cells_no_slash cells fits.1)

delete_no_slash : is_slash delete ≡ false
unfolding is_slash
delete_no_slash = refl

op_no_slash : (op : NamedOp) → FitsOp op → NoSlash (op_words op)
op_no_slash (NamedUpsert cells) fits = cells_no_slash cells fits.0
op_no_slash NamedDelete fits = (delete_no_slash, tt)

pub no_slashes : (items : List NamedItem) → AllByRecursion FitsItem items → AllByRecursion NoSlash (map item_words items)
no_slashes [] fits = tt
no_slashes (item ∷ items) fits =
    ((key_by item.key (is_slash item.key) refl fits.0.0, op_no_slash item.op fits.0.1), no_slashes items fits.1)

delete_by : (cell : NamedCell) (test : Bool) → bytes_eq (cell_word cell) delete ≡ test → FitsCell cell → test ≡ false
delete_by cell true is fits =
    absurd (let no : failed BadValue ≡ okay cell = sym delete_no_cell ∙ sym (ap cell_of (same_words (cell_word cell) delete is)) ∙ cell_again cell fits in cc)
delete_by cell false is fits = refl

no_delete : (cells : List NamedCell) → AllByRecursion FitsCell cells → is_delete (map cell_word cells) ≡ false
no_delete [] fits = refl
no_delete (cell ∷ []) fits = delete_by cell (bytes_eq (cell_word cell) delete) refl fits.0
no_delete (cell ∷ other ∷ cells) fits = refl

-- items are as long as they may be
op_count : (op : NamedOp) → FitsOp op → (1 ≤ length (op_words op)) × (length (op_words op) ≤ 16)
op_count (NamedUpsert cells) fits =
    let long : length (map cell_word cells) ≡ length cells = length-map cells cell_word in
    (omega (arith, long, fits.1), omega (arith, long, fits.2))
op_count NamedDelete fits = (omega arith, omega arith)

pub items_count : (items : List NamedItem) → AllByRecursion FitsItem items → list_all item_fits (map item_words items) ≡ true
items_count [] fits = refl
items_count (item ∷ items) fits =
    let count = op_count item.op fits.0.1 in
    and_from (item_fits (item_words item)) (list_all item_fits (map item_words items))
    (and_from (nat_le 2 (length (item_words item))) (nat_le (length (item_words item)) 17)
    (is_at_most 2 (length (item_words item)) (omega (arith, count.0))) (is_at_most (length (item_words item)) 17 (omega (arith, count.1))))
    (items_count items fits.1)

-- what an operation writes is read as it
op_again : (op : NamedOp) → FitsOp op → op_of (op_words op) ≡ Ok op
unfolding op_of
op_again (NamedUpsert cells) fits = rw (no_delete cells fits.0, cells_again cells [] fits.0) refl
op_again NamedDelete fits = refl

item_again : (item : NamedItem) → FitsItem item → item_of (item_words item) ≡ Ok item
unfolding item_of key_at
item_again item fits = rw (fits.0, op_again item.op fits.1) refl

pub items_again : (items kept : List NamedItem) → AllByRecursion FitsItem items → items_from kept (map item_words items) ≡ Ok (kept ++ items)
unfolding items_from
items_again [] kept fits = ap okay (sym (append-nil kept))
items_again (item ∷ items) kept fits =
    rw (item_again item fits.0) (items_again items (kept ++ item ∷ []) fits.1 ∙ ap okay (append_assoc kept (item ∷ []) items))

-- and what is read as an operation is what it writes
delete_is : (ws : List Word) → is_delete ws ≡ true → ws ≡ delete ∷ []
delete_is [] e = absurd cc
delete_is (w ∷ []) e = ap (λ (v : Word). v ∷ []) (same_words w delete e)
delete_is (w ∷ v ∷ ws) e = absurd cc

abbrev IsOp : List Word → NamedOp → Type 0
IsOp ws op = (ws ≡ op_words op) × FitsOp op

cells_is : (ws : List Word) (op : NamedOp) (r : Result (List NamedCell) Cause) → cells_from [] ws ≡ r → 1 ≤ length ws → length ws ≤ 16
    → (r >>= λ cells. okay (NamedUpsert cells)) ≡ Ok op → IsOp ws op
cells_is ws op (Err d) is low high e = absurd cc
cells_is ws op (Ok cells) is low high e =
    let c = cells_are ws [] cells is in
    let words : ws ≡ map cell_word cells = c.2 ∙ ap (map cell_word) (sym c.1) in
    let long : length ws ≡ length cells = ap length words ∙ length-map cells cell_word in
    subst (λ (o : NamedOp). IsOp ws o) (same_ok (NamedUpsert cells) op e)
    (words, (subst (λ (cs : List NamedCell). AllByRecursion FitsCell cs) (sym c.1) c.3, omega (arith, low, long), omega (arith, high, long)))

op_by : (ws : List Word) (op : NamedOp) (test : Bool) → is_delete ws ≡ test → 1 ≤ length ws → length ws ≤ 16
    → cond test (okay NamedDelete) (cells_from [] ws >>= λ cells. Ok (NamedUpsert cells)) ≡ Ok op → IsOp ws op
op_by ws op true is low high e = subst (λ (o : NamedOp). IsOp ws o) (same_ok NamedDelete op e) (delete_is ws is, tt)
op_by ws op false is low high e = cells_is ws op (cells_from [] ws) refl low high e

op_is : (ws : List Word) (op : NamedOp) → 1 ≤ length ws → length ws ≤ 16 → op_of ws ≡ Ok op → IsOp ws op
unfolding op_of
op_is ws op low high e = op_by ws op (is_delete ws) refl low high e

abbrev keyed : Word → NamedOp → NamedItem
keyed key op = record { key = key; op = op }

abbrev item_then : Word → Result NamedOp Cause → Result NamedItem Cause
item_then key r = r >>= λ op. okay (keyed key op)

abbrev item_by : Word → List Word → Bool → Result NamedItem Cause
item_by w ws key = cond key (Ok (w, ws)) (Err BadKey) >>= λ (x : Word × List Word). item_then x.0 (op_of x.1)

abbrev Counted : List Word → Type 0
Counted ws = (1 ≤ length ws) × (length ws ≤ 16)

counted : (w : Word) (ws : List Word) → item_fits (w ∷ ws) ≡ true → Counted ws
counted w ws e =
    let p = and_parts (nat_le 2 (length (w ∷ ws))) (nat_le (length (w ∷ ws)) 17) e in
    let low : 2 ≤ length (w ∷ ws) = at_most 2 (length (w ∷ ws)) p.0 in
    let high : length (w ∷ ws) ≤ 17 = at_most (length (w ∷ ws)) 17 p.1 in
    (omega (arith, low), omega (arith, high))

is_item_then : (w : Word) (ws : List Word) (r : Result NamedOp Cause) (item : NamedItem) → is_key w ≡ true → op_of ws ≡ r → Counted ws
    → item_then w r ≡ Ok item → (w ∷ ws ≡ item_words item) × FitsItem item
is_item_then w ws (Err d) item key is count e = absurd cc
is_item_then w ws (Ok op) item key is count e =
    let i = op_is ws op count.0 count.1 is in
    subst (λ (x : NamedItem). (w ∷ ws ≡ item_words x) × FitsItem x) (same_ok (keyed w op) item e) (ap (λ (vs : List Word). w ∷ vs) i.0, (key, i.1))

is_item_by : (w : Word) (ws : List Word) (key : Bool) (item : NamedItem) → is_key w ≡ key → Counted ws
    → item_by w ws key ≡ Ok item → (w ∷ ws ≡ item_words item) × FitsItem item
is_item_by w ws false item key count e = absurd cc
is_item_by w ws true item key count e = is_item_then w ws (op_of ws) item key refl count e

item_is : (ws : List Word) (item : NamedItem) → item_fits ws ≡ true → item_of ws ≡ Ok item → (ws ≡ item_words item) × FitsItem item
unfolding item_of key_at
item_is [] item fit e = absurd cc
item_is (w ∷ ws) item fit e = is_item_by w ws (is_key w) item refl (counted w ws fit) e

-- the items that were read behind those that are kept
abbrev pub Items : List NamedItem → List NamedItem → List (List Word) → Type 0
Items kept all groups = (items : List NamedItem) × (all ≡ kept ++ items) × (groups ≡ map item_words items) × AllByRecursion FitsItem items

items_by : (group : List Word) (groups : List (List Word)) (kept all : List NamedItem) (r : Result NamedItem Cause) → item_fits group ≡ true → item_of group ≡ r
    → ((item : NamedItem) → items_from (kept ++ item ∷ []) groups ≡ Ok all → Items (kept ++ item ∷ []) all groups)
    → (r >>= λ item. items_from (kept ++ item ∷ []) groups) ≡ Ok all → Items kept all (group ∷ groups)
items_by group groups kept all (Err d) fit is later e = absurd cc
items_by group groups kept all (Ok item) fit is later e =
    let i = item_is group item fit is in
    let rest = later item e in (
      item ∷ rest.0,
      rest.1 ∙ append_assoc kept (item ∷ []) rest.0,
      ap (λ (g : List Word). g ∷ groups) i.0 ∙ ap (λ (gs : List (List Word)). item_words item ∷ gs) rest.2,
      (i.1, rest.3),
    )

pub items_are : (groups : List (List Word)) (kept all : List NamedItem) → list_all item_fits groups ≡ true → items_from kept groups ≡ Ok all → Items kept all groups
unfolding items_from
items_are [] kept all fit e = let same : kept ≡ all = cc in ([], sym same ∙ sym (append-nil kept), refl, tt)
items_are (group ∷ groups) kept all fit e =
    let p = and_parts (item_fits group) (list_all item_fits groups) fit in
    items_by group groups kept all (item_of group) p.0 refl (λ item h. items_are groups (kept ++ item ∷ []) all p.1 h) e

-- what is refused
abbrev OpRefused : Cause → List Word → Type 0
OpRefused cause ws = ¬ (ws ≡ delete ∷ []) × CellsRefused cause ws

not_cells : (ws : List Word) (cause : Cause) (r : Result (List NamedCell) Cause) → cells_from [] ws ≡ r → (r >>= λ cells. okay (NamedUpsert cells)) ≡ Err cause → CellsRefused cause ws
not_cells ws cause (Ok cells) is e = absurd cc
not_cells ws cause (Err d) is e = cells_not ws [] cause (is ∙ ap failed (same_cause {A = NamedOp} d cause e))

delete_again : (ws : List Word) → ws ≡ delete ∷ [] → is_delete ws ≡ true
delete_again ws e = ap is_delete e

not_op_by : (ws : List Word) (cause : Cause) (test : Bool) → is_delete ws ≡ test
    → cond test (okay NamedDelete) (cells_from [] ws >>= λ cells. Ok (NamedUpsert cells)) ≡ Err cause → OpRefused cause ws
not_op_by ws cause true is e = absurd cc
not_op_by ws cause false is e =
    ((λ same. let no : false ≡ true = sym is ∙ delete_again ws same in absurd cc), not_cells ws cause (cells_from [] ws) refl e)

op_not : (ws : List Word) (cause : Cause) → op_of ws ≡ Err cause → OpRefused cause ws
unfolding op_of
op_not ws cause e = not_op_by ws cause (is_delete ws) refl e

none_by : (ws : List Word) (test : Bool) → is_delete ws ≡ test → ¬ (ws ≡ delete ∷ []) → test ≡ false
none_by ws true is none = absurd (none (delete_is ws is))
none_by ws false is none = refl

op_refused : (ws : List Word) (cause : Cause) → OpRefused cause ws → op_of ws ≡ Err cause
unfolding op_of
op_refused ws cause r = rw (none_by ws (is_delete ws) refl r.0, cells_refused ws [] cause r.1) refl

not_item_then : (w : Word) (ws : List Word) (r : Result NamedOp Cause) (cause : Cause) → op_of ws ≡ r → item_then w r ≡ Err cause → OpRefused cause ws
not_item_then w ws (Ok op) cause is e = absurd cc
not_item_then w ws (Err d) cause is e = op_not ws cause (is ∙ ap failed (same_cause {A = NamedItem} d cause e))

not_item_by : (w : Word) (ws : List Word) (key : Bool) (cause : Cause) → is_key w ≡ key → item_by w ws key ≡ Err cause → ItemRefused cause (w ∷ ws)
not_item_by w ws false cause key e = inl (key, sym (same_cause {A = NamedItem} BadKey cause e))
not_item_by w ws true cause key e = let n = not_item_then w ws (op_of ws) cause refl e in inr (key, n.0, n.1)

item_not : (ws : List Word) (cause : Cause) → item_fits ws ≡ true → item_of ws ≡ Err cause → ItemRefused cause ws
unfolding item_of key_at
item_not [] cause fit e = absurd cc
item_not (w ∷ ws) cause fit e = not_item_by w ws (is_key w) cause refl e

item_refused : (ws : List Word) (cause : Cause) → ItemRefused cause ws → item_of ws ≡ Err cause
unfolding item_of key_at
item_refused [] cause r = absurd r
item_refused (w ∷ ws) cause (inl r) = rw r.0 (ap failed (sym r.1))
item_refused (w ∷ ws) cause (inr r) = rw (r.0, op_refused ws cause (r.1, r.2)) refl

not_items_by : (group : List Word) (groups : List (List Word)) (kept : List NamedItem) (cause : Cause) (r : Result NamedItem Cause) → item_fits group ≡ true → item_of group ≡ r
    → ((item : NamedItem) → items_from (kept ++ item ∷ []) groups ≡ Err cause → ItemsRefused cause groups)
    → (r >>= λ item. items_from (kept ++ item ∷ []) groups) ≡ Err cause → ItemRefused cause group ⊎ (IsItem group × ItemsRefused cause groups)
not_items_by group groups kept cause (Err d) fit is later e = inl (item_not group cause fit (is ∙ ap failed (same_cause {A = List NamedItem} d cause e)))
not_items_by group groups kept cause (Ok item) fit is later e = let i = item_is group item fit is in inr ((item, i.0, i.1), later item e)

pub items_not : (groups : List (List Word)) (kept : List NamedItem) (cause : Cause) → list_all item_fits groups ≡ true → items_from kept groups ≡ Err cause → ItemsRefused cause groups
unfolding items_from
items_not [] kept cause fit e = absurd cc
items_not (group ∷ groups) kept cause fit e =
    let p = and_parts (item_fits group) (list_all item_fits groups) fit in
    not_items_by group groups kept cause (item_of group) p.0 refl (λ item h. items_not groups (kept ++ item ∷ []) cause p.1 h) e

pub items_refused : (groups : List (List Word)) (kept : List NamedItem) (cause : Cause) → ItemsRefused cause groups → items_from kept groups ≡ Err cause
unfolding items_from
items_refused [] kept cause r = absurd r
items_refused (group ∷ groups) kept cause (inl r) = rw (item_refused group cause r) refl
items_refused (group ∷ groups) kept cause (inr r) =
    let is : item_of group ≡ Ok r.0.0 = ap item_of r.0.1 ∙ item_again r.0.0 r.0.2 in
    rw is (items_refused groups (kept ++ r.0.0 ∷ []) cause r.1)
