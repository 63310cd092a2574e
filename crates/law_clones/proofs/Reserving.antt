-- Numbers are drawn, and owners of tables that are yet to be made are noted.
use Rattle.std.proofs.Common.{ℕ, ◌≡◌, ◌≤◌, ◌<◌, List, [], ◌∷◌, ◌++◌, Some, ◌⊎◌, inl, inr, refl, sym, ap, subst, ◌∙◌, arith, le_refl, le_trans}
use Rattle.model.specs.Cluster.{Kind, NamespaceKind as Namespace, TableKind as Table, TabletKind, Id, same, In, Owner, owner_of, Interval, Master, Drawn, Parts}
use Rattle.model.specs.Journal.{Change}
use Rattle.model.specs.Drawn.{drawn_of}
use Rattle.law_store.proofs.Keys.{either_way}
use Rattle.law_invariants.specs.Invariant.{Inv}
use Rattle.law_invariants.proofs.Finding.{none_or_some, not_same}
use Rattle.law_invariants.proofs.Operating.{going, Onward, operations_on}
use Rattle.law_invariants.proofs.Ordering.{orders_on, obeyed_on}
use Rattle.law_invariants.proofs.Hearing.{rows_on}
use Rattle.law_invariants.proofs.Undoing.{same_rows, journal_on}
use Rattle.law_invariants.proofs.Records.{owners_first, owners_beside}
use Rattle.law_invariants.proofs.Remembering.{forgotten_on}
use Rattle.law_invariants.proofs.Tables.{tables_reserved}
use Rattle.law_invariants.proofs.Names.{names_further}
use Rattle.law_invariants.proofs.Working.{tables_drawn, all_listed, same_fixed}
use Rattle.law_invariants.proofs.Quiet.{good_carried, same_names, marks_stay}

abbrev pub reserving : Master → ℕ → List Owner → Drawn → Master
reserving m n os d = going m n (record m.catalog { owners = m.catalog.owners ++ os }) m.activity d m.sent

-- the owners are of tables that were not drawn before, and are now
pub record AreNew (m : Master) (os : List Owner) (d : Drawn) : Type 0 where
  pub drawn : (kind : Kind) → drawn_of kind m.drawn ≤ drawn_of kind d
  pub above : (o : Owner) → In o os → m.drawn.tables < o.table.number
  pub by : (o : Owner) → In o os → o.table.number ≤ d.tables
  pub owned : (o : Owner) → In o os → o.namespace.number ≤ d.namespaces

owner_among : (os qs : List Owner) (table ns : Id) → owner_of (os ++ qs) table ≡ Some ns → (owner_of os table ≡ Some ns) ⊎ ((o : Owner) × (In o qs × (o.namespace ≡ ns)))
owner_among [] [] table ns e = absurd (let q = e in grind arith)
owner_among [] (q ∷ qs) table ns e = either_way (same q.table table)
    (λ t. let k : Some q.namespace ≡ Some ns = rw t at e in inr (q, (inl refl, (let is : q.namespace ≡ ns = cc in is))))
    (λ t. let k : owner_of qs table ≡ Some ns = rw t at e in elim (owner_among [] qs table ns k) [ inl none ↦ absurd (let z = none in grind arith) | inr o ↦ inr (o.0, (inr o.1.0, o.1.1)) ])
owner_among (p ∷ ps) qs table ns e = either_way (same p.table table)
    (λ t. inl (rw t (rw t at e)))
    (λ t. let k : owner_of (ps ++ qs) table ≡ Some ns = rw t at e in elim (owner_among ps qs table ns k) [ inl old ↦ inl (rw t old) | inr o ↦ inr o ])

pub owner_stays : (m : Master) (os : List Owner) (d : Drawn) (table : Id) → AreNew m os d → table.number ≤ m.drawn.tables → owner_of (m.catalog.owners ++ os) table ≡ owner_of m.catalog.owners table
owner_stays m os d table new drawn = none_or_some (owner_of m.catalog.owners table)
    (λ none. owners_beside m.catalog.owners os table (λ o isin. not_same o.table table (λ e. let l = new.above o isin in let q : o.table.number ≡ table.number = ap (λ i. i.number) e in omega arith)) none ∙ sym none)
    (λ owner some. owners_first m.catalog.owners os table owner some ∙ sym some)

onward_reserved : (ps : Parts) (activity : List Interval) (changes : List Change) (n : ℕ) (os : List Owner) (d : Drawn) → ps.master.clock ≤ n → AreNew ps.master os d → Inv ps activity changes
    → Onward ps.master n (record ps.master.catalog { owners = ps.master.catalog.owners ++ os }) ps.master.activity d changes changes
onward_reserved ps activity changes n os d le new inv = let m = ps.master in record {
  clock = le;
  drawn = new.drawn;
  owned = λ table ns owner. owners_first m.catalog.owners os table ns owner;
  owners = λ table l. owner_stays m os d table new l;
  tables = tables_drawn m activity inv.remembered;
  kept = λ i isin. (i, (isin, inl refl));
  came = λ j isin. inl (j, (isin, inl refl));
  fixed = λ ns to. refl;
  switched = λ ns point is. is;
  tables_held = λ ns r isin of held. isin;
  names = same_names m;
  before = λ ns point is. refl;
}

pub reserving_keeps : (ps : Parts) (activity : List Interval) (changes : List Change) (n : ℕ) (os : List Owner) (d : Drawn) → ps.master.clock ≤ n → AreNew ps.master os d → Inv ps activity changes
    → Inv (record { master = reserving ps.master n os d; tablet = ps.tablet }) activity changes
reserving_keeps ps activity changes n os d le new inv =
    let m = ps.master in
    let c = record m.catalog { owners = m.catalog.owners ++ os } in
    let k = reserving m n os d in
    let o = onward_reserved ps activity changes n os d le new inv in
    let h = inv.master in
    record {
      master = record {
        namespaces = names_further m.catalog.namespaces m.clock m.drawn.namespaces n d.namespaces changes le (new.drawn Namespace) h.namespaces;
        tables = tables_reserved m.catalog os m.clock m.drawn.tables n d.tables changes le (new.drawn Table) new.by h.tables;
        past = λ ns to is. le_trans (h.past ns to is) le;
        complete = λ s isin. le_trans (h.complete s isin) le;
        marks = record { namespaces = h.marks.namespaces; tables = h.marks.tables };
        listed = λ r l isin lists. le_trans (h.listed r l isin lists) (new.drawn TabletKind);
        listed_of = λ r l isin lists i there is. owners_first m.catalog.owners os i.table r.namespace (h.listed_of r l isin lists i there is);
      };
      remembered = (let r = inv.remembered in record {
        part = r.part;
        each = λ i isin. elim (r.each i isin) [
          | inl here ↦ inl here
          | inr gone ↦ inr (forgotten_on m k i (record { clock = le; schedules = refl; restorations = refl; clones = refl }) (o.owners i.table (r.drawn_table i isin)) gone.unknown gone)
        ];
        drawn = λ i isin. le_trans (r.drawn i isin) (new.drawn TabletKind);
        drawn_table = λ i isin. le_trans (r.drawn_table i isin) (new.drawn Table);
        reserved = r.reserved;
      });
      cover = inv.cover;
      slots = λ slot. (let g = inv.slots slot in let t = ps.tablet slot in record {
        good = g.good;
        home = g.home;
        numbered = le_trans g.numbered (new.drawn TabletKind);
        each = λ i isin is. good_carried m k changes changes t i (record {
          clock = le;
          slots = refl;
          restorations = refl;
          drawn = new.drawn TabletKind;
          drawn_tables = new.drawn Table;
          viewed = λ x active there. there;
          shown = λ x there. there;
          rows = λ x key before. refl;
          same_ = same_fixed changes;
        }) (g.each i isin is);
        opens = λ serving unfenced. (let q = g.opens serving unfenced in record {
          interval = q.interval;
          listed = q.listed;
          slot_is = q.slot_is;
          opened = q.opened;
          begun = q.begun;
          settled = q.settled;
        });
        shown = g.shown;
        later = λ ns to is serving unfenced owned. g.later ns to is serving unfenced (sym (o.owners t.table (inv.works slot).obeyed.drawn_table) ∙ owned);
      });
      operations = operations_on m n c m.activity d m.sent changes changes o (λ ns. marks_stay m n c m.activity d changes ns le inv.operations)
          (λ table ns owner. elim (owner_among m.catalog.owners os table ns owner) [
            | inl old ↦ le_trans (inv.operations.owners table ns old) (new.drawn Namespace)
            | inr made ↦ subst (λ i. i.number ≤ d.namespaces) made.1.1 (new.owned made.0 made.1.0)
          ]) (λ mark isin. isin) (all_listed m changes h) inv.operations;
      journal = journal_on m n c m.activity d m.sent changes changes (same_rows changes) o.fixed (new.drawn Namespace) (new.drawn Table) o.owners inv.journal;
      rows_past = rows_on m n c m.activity d m.sent changes changes ps.tablet ps.tablet le (λ slot. le_refl _) (λ i isin. inl isin) (λ b table key op isin is. isin) inv.rows_past;
      works = λ slot. record {
        orders = orders_on m n c m.activity d m.sent changes changes slot (ps.tablet slot) o (inv.works slot).orders;
        obeyed = obeyed_on m n c m.activity d m.sent changes changes slot (ps.tablet slot) o (λ q serving at e key isin is paired. refl) inv.operations (inv.works slot).obeyed;
      };
    }
