-- The view after a restore of a namespace: from the point on its tables and rows are those of the time, and all else is as it was.
use Rattle.std.proofs.Common.{ℕ, ◌≡◌, ◌≤◌, ◌<◌, List, Option, Some, None, Bool, true, false, cond, ◌&&◌, refl, sym, ap, ◌∙◌, arith, leb, le-leb}
use Rattle.std.specs.Option.{is_some}
use Rattle.std.proofs.lemmas.Bool.Decides.{nat_tests}
use Rattle.model.specs.Cluster.{absent_row, Row, Id, same, Owner, owner_of, owns, is_owned_by}
use Rattle.model.specs.Journal.{Change, NamespaceRestored, TableView, is_in, restored_table, restored_row, table_at, row_at}
use Rattle.model.specs.History.{with}
use Rattle.law_store.proofs.Keys.{either_way}
use Rattle.law_invariants.proofs.Journaling.{no_rows}

-- the view has a table in the namespace in which it was made
abbrev pub Inside : List Owner → List Change → Type 0
Inside os changes = (id : Id) (x : ℕ) (v : TableView) → table_at changes x id ≡ Some v → owner_of os id ≡ Some v.namespace

abbrev pub restore : ℕ → Id → ℕ → List Change → List Change
restore point ns to changes = with point (NamespaceRestored ns to) changes

pub restored_before : (point : ℕ) (ns : Id) (to : ℕ) (changes : List Change) (x : ℕ) (id : Id) → x < point → table_at (restore point ns to changes) x id ≡ table_at changes x id
restored_before point ns to changes x id l = let f : leb point x ≡ false = grind (arith, nat_tests) in rw f refl

pub rows_before : (point : ℕ) (ns : Id) (to : ℕ) (changes : List Change) (x : ℕ) (id : Id) (key : List ℕ) → x < point → row_at (restore point ns to changes) x id key ≡ row_at changes x id key
rows_before point ns to changes x id key l = let f : leb point x ≡ false = grind (arith, nat_tests) in rw f refl

restored_since : (point : ℕ) (ns : Id) (to : ℕ) (changes : List Change) (x : ℕ) (id : Id) → point ≤ x → table_at (restore point ns to changes) x id ≡ restored_table ns (table_at changes to id) (table_at changes x id)
restored_since point ns to changes x id l = let t : leb point x ≡ true = le-leb point x l in rw t refl

rows_since : (point : ℕ) (ns : Id) (to : ℕ) (changes : List Change) (x : ℕ) (id : Id) (key : List ℕ) → point ≤ x
    → row_at (restore point ns to changes) x id key ≡ restored_row ns (table_at changes to id) (table_at changes x id) (row_at changes to id key) (row_at changes x id key)
rows_since point ns to changes x id key l = let t : leb point x ≡ true = le-leb point x l in rw t refl

-- whether a table that the view has is in the namespace, by its owner
in_by : (owner : Option Id) (ns : Id) (v : Option TableView) → ((t : TableView) → v ≡ Some t → owner ≡ Some t.namespace) → is_in ns v ≡ is_owned_by owner ns && is_some v
in_by None ns None h = refl
in_by None ns (Some t) h = absurd (let q = h t refl in grind arith)
in_by (Some o) ns None h = either_way (same o ns) (λ b. rw b refl) (λ b. rw b refl)
in_by (Some o) ns (Some t) h = let e : o ≡ t.namespace = (let q = h t refl in cc) in ap (λ i. same i ns) (sym e) ∙ and_true (same o ns)
  where
    and_true : (b : Bool) → b ≡ (b && true)
    and_true true = refl
    and_true false = refl

mine : (ns : Id) (then_ before : Option TableView) → is_in ns then_ ≡ is_some then_ → is_in ns before ≡ is_some before → restored_table ns then_ before ≡ then_
mine ns None None a b = refl
mine ns None (Some v) a b = ap (λ c. cond c None (Some v)) b
mine ns (Some t) before a b = ap (λ c. cond c (Some t) (cond (is_in ns before) None before)) a

others : (ns : Id) (then_ before : Option TableView) → is_in ns then_ ≡ false → is_in ns before ≡ false → restored_table ns then_ before ≡ before
others ns then_ before a b = ap (λ c. cond c then_ (cond (is_in ns before) None before)) a ∙ ap (λ c. cond c None before) b

mine_row : (ns : Id) (then_ before : Option TableView) (row_then row_before : Row) → is_in ns then_ ≡ is_some then_ → is_in ns before ≡ is_some before → (then_ ≡ None → row_then ≡ absent_row) → (before ≡ None → row_before ≡ absent_row)
    → restored_row ns then_ before row_then row_before ≡ row_then
mine_row ns None None row_then row_before a b p q = q refl ∙ sym (p refl)
mine_row ns None (Some v) row_then row_before a b p q = ap (λ c. cond c absent_row row_before) b ∙ sym (p refl)
mine_row ns (Some t) before row_then row_before a b p q = ap (λ c. cond c row_then (cond (is_in ns before) absent_row row_before)) a

others_row : (ns : Id) (then_ before : Option TableView) (row_then row_before : Row) → is_in ns then_ ≡ false → is_in ns before ≡ false → restored_row ns then_ before row_then row_before ≡ row_before
others_row ns then_ before row_then row_before a b = ap (λ c. cond c row_then (cond (is_in ns before) absent_row row_before)) a ∙ ap (λ c. cond c absent_row row_before) b

in_mine : (os : List Owner) (changes : List Change) (ns id : Id) (x : ℕ) → Inside os changes → owns os ns id ≡ true → is_in ns (table_at changes x id) ≡ is_some (table_at changes x id)
in_mine os changes ns id x inside mine_ = in_by (owner_of os id) ns (table_at changes x id) (λ t e. inside id x t e) ∙ ap (λ b. b && is_some (table_at changes x id)) mine_

in_other : (os : List Owner) (changes : List Change) (ns id : Id) (x : ℕ) → Inside os changes → owns os ns id ≡ false → is_in ns (table_at changes x id) ≡ false
in_other os changes ns id x inside other = in_by (owner_of os id) ns (table_at changes x id) (λ t e. inside id x t e) ∙ ap (λ b. b && is_some (table_at changes x id)) other

-- a table of the namespace is as at the time, one of another namespace stays
pub table_back : (os : List Owner) (changes : List Change) (ns id : Id) (point to x : ℕ) → Inside os changes → owns os ns id ≡ true → point ≤ x → table_at (restore point ns to changes) x id ≡ table_at changes to id
table_back os changes ns id point to x inside mine_ l = restored_since point ns to changes x id l ∙ mine ns (table_at changes to id) (table_at changes x id) (in_mine os changes ns id to inside mine_) (in_mine os changes ns id x inside mine_)

pub table_other : (os : List Owner) (changes : List Change) (ns id : Id) (point to x : ℕ) → Inside os changes → owns os ns id ≡ false → table_at (restore point ns to changes) x id ≡ table_at changes x id
table_other os changes ns id point to x inside other = either_way (leb point x)
    (λ b. rw b (others ns (table_at changes to id) (table_at changes x id) (in_other os changes ns id to inside other) (in_other os changes ns id x inside other)))
    (λ b. rw b refl)

pub row_back : (os : List Owner) (changes : List Change) (ns id : Id) (point to x : ℕ) (key : List ℕ) → Inside os changes → owns os ns id ≡ true → point ≤ x → row_at (restore point ns to changes) x id key ≡ row_at changes to id key
row_back os changes ns id point to x key inside mine_ l = rows_since point ns to changes x id key l
    ∙ mine_row ns (table_at changes to id) (table_at changes x id) (row_at changes to id key) (row_at changes x id key) (in_mine os changes ns id to inside mine_) (in_mine os changes ns id x inside mine_)
    (λ none. no_rows changes to id key none) (λ none. no_rows changes x id key none)

pub row_other : (os : List Owner) (changes : List Change) (ns id : Id) (point to x : ℕ) (key : List ℕ) → Inside os changes → owns os ns id ≡ false → row_at (restore point ns to changes) x id key ≡ row_at changes x id key
row_other os changes ns id point to x key inside other = either_way (leb point x)
    (λ b. rw b (others_row ns (table_at changes to id) (table_at changes x id) (row_at changes to id key) (row_at changes x id key) (in_other os changes ns id to inside other) (in_other os changes ns id x inside other)))
    (λ b. rw b refl)
