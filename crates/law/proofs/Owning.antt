-- The catalog has a table's namespace by the journal, or by a clone's record: it has no others.
use Rattle.std.proofs.Common.{◌≡◌, ℕ, List, [], ◌∷◌, ◌++◌, Option, Some, None, ◌⊎◌, inl, inr, true, false, refl, sym, ap, subst, ◌∙◌, arith, cond}
use Rattle.std.specs.Option.{is_some, option_or}
use Rattle.std.proofs.lemmas.Bool.{true≢false, cond_both}
use Rattle.row_values.specs.Ids.{Id, same}
use Rattle.row_values.specs.Elements.{In}
use Rattle.row_values.specs.Schema.{numbered}
use Rattle.row_values.specs.Slots.{has}
use Rattle.row_values.specs.declared.value.Item.{Item}
use Rattle.model.specs.Catalog.{Owner, owner_of}
use Rattle.model.specs.Tablets.{Told}
use Rattle.model.specs.Records.{IdPair, RestorationRecord, RestorationState, Switching, CloneRecord, CloneState, Copying}
use Rattle.model.specs.Journal.{Change as Made, ChangeAct, NamespaceCloned, RowChanged, TableMade, owner_by, owner_in, source_of}
use Rattle.model.specs.Acts.{Act, Change, Write, Advance, Prune}
use Rattle.model.specs.Parts.{Master, Parts, Outcome, MasterAct, MakesTable, BeginsClone, Moves, Acks, Removes}
use Rattle.model.specs.Changed.{new_clone, next_table, owners_of}
use Rattle.model.specs.Cleanup.{prune}
use Rattle.model.specs.Coordination.{unfinished_restoration, unfinished_clone}
use Rattle.model.specs.Entries.{Entry, slots_of}
use Rattle.model.specs.History.{Legal, journal_of, master_effect, next, outcome, replay, rows_made, with, with_changes, with_clone, with_either, with_master, with_restoration, with_rows}
use Rattle.law_store.proofs.Keys.{either_way}
use Rattle.law_invariants.specs.Operations.{takers}
use Rattle.law_invariants.proofs.Finding.{in_first, in_mapped, in_second, none_or_some, same_equal, same_self}
use Rattle.law_clones.proofs.Growing.{taker_there}
use Rattle.law_clones.proofs.Viewing.{source_is}
use Rattle.law_once.proofs.Kept.{CloneGoes, told_goes}
use Rattle.law.proofs.Fixed.{acked_owners, move_owners, owners_stand, removed_owners}
use Rattle.law.proofs.Law.{legal_holds}
use Rattle.law.proofs.Plain.{act_none, is_weighty, may_weigh}

-- a clone's record makes the table
record IsPaired (clones : List CloneRecord) (table : Id) : Type 0 where
  clone : CloneRecord
  kept : In clone clones
  pair : IdPair
  paired : In pair clone.tables
  target_is : pair.target ≡ table

-- a table that has an owner is one of the journal, or of a clone's record
abbrev AreMade : Master → List Made → Type 0
AreMade m changes = (table : Id) → is_some (owner_of m.catalog.owners table) ≡ true → (is_some (owner_in changes table) ≡ true) ⊎ IsPaired m.clones table

-- The journal goes on

abbrev Grows : List Made → List Made → Type 0
Grows changes later = (table : Id) → is_some (owner_in changes table) ≡ true → is_some (owner_in later table) ≡ true

grows_by : (n : ℕ) (act : ChangeAct) (changes : List Made) → Grows changes (with n act changes)
grows_by n act changes table h = either_one (owner_by act table) (owner_in changes table) h
  where
    either_one : (a b : Option Id) → is_some b ≡ true → is_some (option_or a b) ≡ true
    either_one None b h = h
    either_one (Some x) b h = refl

grows_restored : (state : RestorationState) (r : RestorationRecord) (changes : List Made) → Grows changes (with_restoration state r changes)
grows_restored (Switching point serving) r changes table h = h
grows_restored _ r changes table h = h

grows_cloned : (state : CloneState) (c : CloneRecord) (n : ℕ) (changes : List Made) → Grows changes (with_clone state c n changes)
grows_cloned (Copying serving at) c n changes = grows_by n (NamespaceCloned c.source c.target_id c.target c.to c.tables) changes
grows_cloned _ c n changes = λ table h. h

grows_either : (restoration : Option RestorationRecord) (clone : Option CloneRecord) (n : ℕ) (changes : List Made) → Grows changes (with_either restoration clone n changes)
grows_either (Some r) clone n changes = grows_restored r.state r changes
grows_either None (Some c) n changes = grows_cloned c.state c n changes
grows_either None None n changes = λ table h. h

grows_told : (a : MasterAct) (n : ℕ) (m : Master) (changes : List Made) → Grows changes (with_master a n m changes)
grows_told (MakesTable namespace name columns slots) n m changes = grows_by n (TableMade (next_table m) namespace name (numbered 1 columns)) changes
grows_told (Moves operation) n m changes = grows_either (unfinished_restoration m.restorations operation) (unfinished_clone m.clones operation) n changes
grows_told _ n m changes = λ table h. h

grows_rows : (items : List Item) (n : ℕ) (written : Id) (changes : List Made) → Grows changes (rows_made n written items changes)
grows_rows [] n written changes table h = h
grows_rows (item ∷ items) n written changes table h = grows_rows items n written (with n (RowChanged written item.key item.op) changes) table h

grows_written : (told : List Told) (n : ℕ) (written : Id) (items : List Item) (changes : List Made) → Grows changes (with_rows told n written items changes)
grows_written [] n written items changes = λ table h. h
grows_written (one ∷ rest) n written items changes = grows_rows items n written changes

grows : (act : Act) (o : Outcome) (n : ℕ) (ps : Parts) (changes : List Made) → Grows changes (with_changes act o n ps changes)
grows (Change command slots) o n ps changes = grows_told o.master n ps.master changes
grows (Advance operation) o n ps changes = grows_told o.master n ps.master changes
grows (Write place version batch) o n ps changes = grows_written o.tablets n (ps.tablet place.slot).table batch changes
grows _ o n ps changes = λ table h. h

-- Owners that come

owner_new : (qs : List Owner) (table : Id) → is_some (owner_of qs table) ≡ true → (o : Owner) × (In o qs × (o.table ≡ table))
owner_new [] table e = absurd (true≢false (sym e))
owner_new (q ∷ qs) table e = either_way (same q.table table)
    (λ b. (q, (inl refl, same_equal q.table table b)))
    (λ b. let rest : is_some (owner_of qs table) ≡ true = rw b at e in let h = owner_new qs table rest in (h.0, (inr h.1.0, h.1.1)))

owner_among : (os qs : List Owner) (table : Id) → is_some (owner_of (os ++ qs) table) ≡ true → (is_some (owner_of os table) ≡ true) ⊎ ((o : Owner) × (In o qs × (o.table ≡ table)))
owner_among [] qs table e = inr (owner_new qs table e)
owner_among (p ∷ ps) qs table e = either_way (same p.table table)
    (λ b. inl (rw b refl))
    (λ b. let rest : is_some (owner_of (ps ++ qs) table) ≡ true = rw b at e in elim (owner_among ps qs table rest) [ inl old ↦ inl (rw b old) | inr o ↦ inr o ])

paired_goes : (cs ds : List CloneRecord) (table : Id) → ((c : CloneRecord) → In c cs → CloneGoes c ds) → IsPaired cs table → IsPaired ds table
paired_goes cs ds table go p = let g = go p.clone p.kept in
    record { clone = g.clone; kept = g.kept; pair = p.pair; paired = subst (In p.pair) (sym g.tables_are) p.paired; target_is = p.target_is }

goes_made : (m k : Master) (changes later : List Made) → k.catalog.owners ≡ m.catalog.owners → ((c : CloneRecord) → In c m.clones → CloneGoes c k.clones) → Grows changes later → AreMade m changes → AreMade k later
goes_made m k changes later is go more h table e = elim (h table (subst (λ os. is_some (owner_of os table) ≡ true) is e)) [
  | inl made ↦ inl (more table made)
  | inr p ↦ inr (paired_goes m.clones k.clones table go p)
]

-- where the master is told to make a table, the journal has it
abbrev HasTable : MasterAct → Master → List Made → Type 0
HasTable (MakesTable namespace name columns slots) m later = is_some (owner_in later (next_table m)) ≡ true
HasTable _ m later = Unit {0}

told_made : (a : MasterAct) (n : ℕ) (m : Master) (changes later : List Made) → Grows changes later → HasTable a m later → AreMade m changes → AreMade (master_effect a n m) later
told_made (MakesTable namespace name columns slots) n m changes later more its h table e =
    let new : Owner = record { table = next_table m; namespace = namespace } in
    elim (owner_among m.catalog.owners (new ∷ []) table e) [
      | inl old ↦ (elim (h table old) [ inl made ↦ inl (more table made) | inr p ↦ inr p ])
      | inr o ↦ (elim o.1.0 [ inl is ↦ inl (subst (λ t. is_some (owner_in later t) ≡ true) (ap (λ q. q.table) is ∙ o.1.1) its) | inr none ↦ absurd none ])
    ]
told_made (BeginsClone namespace source target to) n m changes later more its h table e =
    let new = new_clone namespace source target to m in
    elim (owner_among m.catalog.owners (owners_of new) table e) [
      | inl old ↦ (elim (h table old) [
        | inl made ↦ inl (more table made)
        | inr p ↦ inr (record { clone = p.clone; kept = in_first m.clones (new ∷ []) p.clone p.kept; pair = p.pair; paired = p.paired; target_is = p.target_is })
      ])
      | inr o ↦ inr (in_mapped {A = IdPair} {B = Owner} (λ d. record { table = d.target; namespace = new.target_id }) (λ q. q.table ≡ table → IsPaired (m.clones ++ new ∷ []) table) new.tables
          (λ d isin is. record { clone = new; kept = in_second m.clones (new ∷ []) new (inl refl); pair = d; paired = isin; target_is = is }) o.0 o.1.0 o.1.1)
    ]
told_made (Moves operation) n m changes later more its h table e = goes_made m (master_effect (Moves operation) n m) changes later (move_owners operation n m) (told_goes (Moves operation) n m refl).clones more h table e
told_made (Acks operation slot) n m changes later more its h table e = goes_made m (master_effect (Acks operation slot) n m) changes later (acked_owners operation slot n m) (told_goes (Acks operation slot) n m refl).clones more h table e
told_made (Removes target) n m changes later more its h table e = goes_made m (master_effect (Removes target) n m) changes later (removed_owners target n m) (told_goes (Removes target) n m refl).clones more h table e
told_made _ n m changes later more its h table e = elim (h table e) [ inl made ↦ inl (more table made) | inr p ↦ inr p ]

-- Each act

has_told : (a : MasterAct) (n : ℕ) (m : Master) (changes : List Made) → HasTable a m (with_master a n m changes)
has_told (MakesTable namespace name columns slots) n m changes =
    ap (λ b. is_some (option_or (cond b (Some namespace) None) (owner_in changes (next_table m)))) (same_self (next_table m))
has_told _ n m changes = tt

has_plain : (a : MasterAct) (m : Master) (later : List Made) → is_weighty a ≡ false → HasTable a m later
has_plain (MakesTable namespace name columns slots) m later e = absurd (true≢false e)
has_plain _ m later e = tt

has_table : (act : Act) (n : ℕ) (ps : Parts) (changes : List Made) → HasTable (outcome act n ps).master ps.master (with_changes act (outcome act n ps) n ps changes)
unfolding prune
has_table act n ps changes = either_way (may_weigh act)
    (λ w. heavy act w)
    (λ l. has_plain (outcome act n ps).master ps.master (with_changes act (outcome act n ps) n ps changes) (act_none act n ps l).none)
  where
    heavy : (act : Act) → may_weigh act ≡ true → HasTable (outcome act n ps).master ps.master (with_changes act (outcome act n ps) n ps changes)
    heavy (Change command slots) w = has_told (outcome (Change command slots) n ps).master n ps.master changes
    heavy (Advance operation) w = has_told (outcome (Advance operation) n ps).master n ps.master changes
    heavy Prune w = tt
    heavy _ w = absurd (true≢false (sym w))

all_are_made : (history : List Entry) (slots : ℕ) → AreMade (replay slots history).master (journal_of slots history)
unfolding replay journal_of
all_are_made [] slots table e = absurd (true≢false (sym e))
all_are_made (e ∷ earlier) slots table is =
    let ps = replay slots earlier in
    let act = e.event.act in
    let o = outcome act e.stamp ps in
    let changes = journal_of slots earlier in
    let later = with_changes act o e.stamp ps changes in
    let more = grows act o e.stamp ps changes in
    let before = all_are_made earlier slots in
    let all : AreMade (next e ps).master later = cond_both (has (slots_of act) 0) (master_effect o.master e.stamp ps.master) ps.master (λ m. AreMade m later)
    (λ touched. told_made o.master e.stamp ps.master changes later more (has_table act e.stamp ps changes) before)
    (λ alone t owned. elim (before t owned) [ inl made ↦ inl (more t made) | inr p ↦ inr p ]) in
    all table is

-- the namespace of each is that of the journal, or the target of the clone
pub owners_made : (history : List Entry) (slots : ℕ) → Legal slots history → (table ns : Id) → owner_of (replay slots history).master.catalog.owners table ≡ Some ns
    → (owner_in (journal_of slots history) table ≡ Some ns) ⊎ ((c : CloneRecord) × (In c (replay slots history).master.clones × ((c.target_id ≡ ns) × (is_some (source_of c.tables table) ≡ true))))
owners_made history slots legal table ns e =
    let m = (replay slots history).master in
    elim (all_are_made history slots table (ap is_some e)) [
      | inl made ↦ none_or_some (owner_in (journal_of slots history) table)
          (λ none. absurd (true≢false (sym made ∙ ap is_some none)))
          (λ other is. inl (is ∙ sym (owners_stand history slots legal table other is) ∙ e))
      | inr p ↦ (
          let good = (legal_holds history slots legal).inv.operations.clones p.clone p.kept in
          let all : takers p.clone.tablets p.pair.target 0 ≡ 1 = good.covers p.pair 0 p.paired (omega arith) in
          let by = taker_there p.clone.tablets p.pair.target 0 (omega (arith, all)) in
          let its : Some p.clone.target_id ≡ Some ns = sym (good.pairs by.0 by.1.0).owned ∙ ap (owner_of m.catalog.owners) (by.1.1 ∙ p.target_is) ∙ e in
          inr (p.clone, (p.kept, ((let q : p.clone.target_id ≡ ns = cc in q), ap (λ t. is_some (source_of p.clone.tables t)) (sym p.target_is) ∙ ap is_some (source_is p.clone.tables p.pair good.tables_apart p.paired)))))
    ]
