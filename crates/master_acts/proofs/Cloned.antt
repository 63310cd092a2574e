-- What the law says of the master that a clone needs.
use Rattle.std.proofs.Common.{ℕ, ◌≡◌, ◌≤◌, ◌<◌, ◌+◌, Bool, true, false, List, [], ◌∷◌, drop, length, if◌then◌else◌, refl, sym, ap, subst, ◌∙◌, arith}
use Rattle.std.specs.Prelude.{Option, None, Result, Ok as Granted}
use Rattle.std.proofs.lemmas.List.{drop_all}
use Rattle.row_values.specs.Ids.{Id, Namespace, Table, Tablet, Clone, id_bound}
use Rattle.row_values.specs.Elements.{put_in, in_order}
use Rattle.model.specs.Activity.{Interval}
use Rattle.model.specs.Catalog.{TableRecord, tables_at}
use Rattle.model.specs.Records.{IdPair, CloneRecord}
use Rattle.model.specs.Acts.{Refusal}
use Rattle.model.specs.Parts.{Master, checked, either, refusal_in}
use Rattle.model.specs.Lists.{tablets_active_at}
use Rattle.model.specs.Looks.{free_slots}
use Rattle.model.specs.Changed.{sources, pair_tables, pair_tablets, new_clone}
use Rattle.model.specs.Changes.{CloneSource, found_source, clone_checks, judge_clone}
use Rattle.master_part.specs.Acts.{IsLawful}
use Rattle.master_part.specs.Going.{CloneFits}
use Rattle.master_acts.specs.Draws.{DrawsFew}

put_long : {A : Type 0} (before : A → A → Bool) (x : A) (xs : List A) → length (put_in before x xs) ≡ length xs + 1
put_long before x [] = refl
put_long before x (y ∷ ys) = let rest = put_long before x ys in by (before y x) rest
  where
    by : (b : Bool) → length (put_in before x ys) ≡ length ys + 1 → length (if b then y ∷ put_in before x ys else x ∷ y ∷ ys) ≡ length (y ∷ ys) + 1
    by true rest = omega (arith, rest)
    by false rest = omega arith

order_long : {A : Type 0} (before : A → A → Bool) (xs : List A) → length (in_order before xs) ≡ length xs
order_long before [] = refl
order_long before (x ∷ xs) = let rest = order_long before xs in let put = put_long before x (in_order before xs) in omega (arith, rest, put)

source_count : (m : Master) (ns : Id) (to : ℕ) → length (sources m ns to) ≡ length (tablets_active_at m.catalog.owners m.activity ns to)
source_count m ns to = order_long _ (tablets_active_at m.catalog.owners m.activity ns to)

-- the tablets of a time are no more than the slots
pub few_sources : (m : Master) (ns : Id) (to : ℕ) → IsLawful m → length (sources m ns to) ≤ m.slots
few_sources m ns to lawful = omega (arith, lawful.places ns to, source_count m ns to)

-- a clone of what was found, where no refusal comes, is accepted
granted : (m : Master) (source target : List ℕ) (to n : ℕ) (s : CloneSource) → Granted s ≡ found_source m source n
    → None ≡ refusal_in (clone_checks s target to n m) → judge_clone source target to n m ≡ Granted s
granted m source target to n s found passes =
    ap (λ (r : Result CloneSource Refusal). checked r (λ s. clone_checks s target to n m)) (sym found)
    ∙ ap (λ (w : Option Refusal). either w s) (sym passes)

-- and it draws few identifiers
pub draws_few : (m : Master) (source target : List ℕ) (to n : ℕ) (s : CloneSource) → IsLawful m → m.clock < n
    → Granted s ≡ found_source m source n → None ≡ refusal_in (clone_checks s target to n m) → DrawsFew s.namespace to m
draws_few m source target to n s lawful later found passes =
    let is = granted m source target to n s found passes in
    record {
      tables = omega (arith, lawful.few Table, lawful.clones source target to n s later is Table);
      tablets = omega (arith, lawful.few Tablet, lawful.clones source target to n s later is Tablet, source_count m s.namespace to);
    }

pub few_clones : (m : Master) → IsLawful m → m.drawn.clones + 1 < id_bound
few_clones m lawful = omega (arith, lawful.few Clone)

-- What a new clone's record draws

tables_long : (ts : List TableRecord) (drawn : ℕ) → length (pair_tables ts drawn) ≡ length ts
tables_long [] drawn = refl
tables_long (t ∷ ts) drawn = let rest = tables_long ts (drawn + 1) in omega (arith, rest)

tablets_few : (is : List Interval) (slots : List ℕ) (drawn : ℕ) (tables : List IdPair) → length (pair_tablets is slots drawn tables) ≤ length is
tablets_few [] slots drawn tables = omega arith
tablets_few (i ∷ is) [] drawn tables = omega arith
tablets_few (i ∷ is) (slot ∷ slots) drawn tables = let rest = tablets_few is slots (drawn + 1) tables in omega (arith, rest)

pub clone_fits : (m : Master) (ns : Id) (source target : List ℕ) (to : ℕ) (made : CloneRecord) → IsLawful m → DrawsFew ns to m
    → made ≡ new_clone ns source target to m → CloneFits made m
clone_fits m ns source target to made lawful draws is = subst (λ (r : CloneRecord). CloneFits r m) (sym is) (record {
  namespaces = omega (arith, lawful.few Namespace);
  tables = omega (arith, draws.tables, tables_long (tables_at m.catalog.tables ns to) m.drawn.tables);
  tablets = omega (arith, draws.tablets, tablets_few (sources m ns to) (free_slots m) m.drawn.tablets (pair_tables (tables_at m.catalog.tables ns to) m.drawn.tables));
  clones = omega (arith, lawful.few Clone);
  unowned = lawful.unowned;
})

-- Where no tablet or no slot is left there is no pair

pub none_left : (is : List Interval) (slots : List ℕ) (at drawn : ℕ) (tables : List IdPair) → length is ≤ at
    → pair_tablets (drop at is) slots drawn tables ≡ []
none_left is slots at drawn tables over = ap (λ (js : List Interval). pair_tablets js slots drawn tables) (drop_all at is over)

no_slot : (is : List Interval) (drawn : ℕ) (tables : List IdPair) → pair_tablets is [] drawn tables ≡ []
no_slot [] drawn tables = refl
no_slot (i ∷ is) drawn tables = refl

pub no_slot_left : (is : List Interval) (slots : List ℕ) (at drawn : ℕ) (tables : List IdPair) → length slots ≤ at
    → pair_tablets is (drop at slots) drawn tables ≡ []
no_slot_left is slots at drawn tables over =
    ap (λ (ss : List ℕ). pair_tablets is ss drawn tables) (drop_all at slots over) ∙ no_slot is drawn tables
