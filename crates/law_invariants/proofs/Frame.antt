-- One tablet's part does what it is told, and the others set their clocks.
use Rattle.std.proofs.Common.{ℕ, ◌≡◌, ◌≤◌, List, [], ◌∷◌, Bool, true, false, ◌&&◌, sym, subst, ◌∙◌, arith, not, eqb, eqb-true, le_refl}
use Rattle.std.proofs.lemmas.Bool.{cond_both}
use Rattle.model.specs.Cluster.{has, Interval, Act, Reply, Parts, Outcome, Ticks, Master, In, Sent}
use Rattle.model.specs.Journal.{Change}
use Rattle.model.specs.Tablets.{Tablet, TabletAct, Clock, act_for, effect, Command, is_serving}
use Rattle.model.specs.Entries.{slots_of}
use Rattle.model.specs.History.{told}
use Rattle.law_store.proofs.Keys.{either_way}
use Rattle.law_invariants.specs.Remembered.{activity_after, Remembered}
use Rattle.law_invariants.specs.Invariant.{SlotGood, SlotWorks, Covered, MasterGood, Inv, Later, IsGoodIn, TakesWritesIn}
use Rattle.law_invariants.specs.Operations.{OperationsGood, JournalGood}
use Rattle.law_invariants.specs.Orders.{RowsPast, directory}
use Rattle.law_invariants.proofs.Hearing.{clocks_rise, rows_ticked, rows_ticked_if}
use Rattle.law_invariants.proofs.Undoing.{journal_ticked_if}
use Rattle.law_invariants.proofs.Working.{tables_drawn, all_listed, operations_ticked_if, works_ticked_if, work_later}
use Rattle.law_invariants.proofs.Remembering.{activity_stays, remembered_ticked_if}
use Rattle.law_invariants.proofs.Ticking.{tablet_ticked, slot_ticked_if, master_ticked_if, tablet_before, master_before}
use Rattle.std.specs.Prelude.{None, true}

-- an outcome that tells one tablet's part something
abbrev pub tells : ℕ → TabletAct → Reply → Outcome
tells slot what reply = record { master = Ticks; tablets = record { slot = slot; act = what } ∷ []; reply = reply }

-- a tablet's slot is touched
abbrev pub touched : Act → ℕ → Bool
touched act slot = has (slots_of act) slot && not (eqb slot 0)

pub slot_told : (P : ℕ → Tablet → Type 0) (act : Act) (reply : Reply) (slot : ℕ) (what : TabletAct) (n : ℕ) (ps : Parts) → Later (slots_of act) ps n → touched act slot ≡ true
    → ((i : ℕ) (t : Tablet) → t.clock ≤ n → P i t → P i (record t { clock = n }))
    → ((i : ℕ) → eqb slot i ≡ false → P i (ps.tablet i)) → P slot (effect what n (ps.tablet slot))
    → (i : ℕ) → P i ((told act (tells slot what reply) n ps).tablet i)
slot_told P act reply slot what n ps later is ticks others mine i =
    cond_both (touched act i) (effect (act_for (record { slot = slot; act = what } ∷ []) i) n (ps.tablet i)) (ps.tablet i) (P i)
    (λ b. cond_both (eqb slot i) what Clock (λ a. P i (effect a n (ps.tablet i)))
    (λ e. subst (λ j. P j (effect what n (ps.tablet j))) (eqb-true slot i e) mine)
    (λ e. ticks i (ps.tablet i) (tablet_before (slots_of act) ps n i later b) (others i e)))
    (λ b. either_way (eqb slot i)
    (λ e. absurd (let f : touched act i ≡ true = subst (λ j. touched act j ≡ true) (eqb-true slot i e) is in let q : true ≡ false = sym f ∙ b in grind arith))
    (λ e. others i e))

-- changes of rows that were before a clock are before later ones
pub rows_told : (act : Act) (reply : Reply) (slot : ℕ) (what : TabletAct) (n : ℕ) (ps : Parts) (changes : List Change) → Later (slots_of act) ps n → RowsPast ps.master ps.tablet changes → RowsPast ps.master (told act (tells slot what reply) n ps).tablet changes
rows_told act reply slot what n ps changes later h =
    rows_ticked ps.master ps.master.clock changes ps.tablet (told act (tells slot what reply) n ps).tablet (le_refl _) (clocks_rise act (tells slot what reply) n ps (λ i e. tablet_before (slots_of act) ps n i later e)) h

-- what holds goes on to hold where it does of the slot that is told, and under the journal of the others
pub one_told : (act : Act) (reply : Reply) (slot : ℕ) (what : TabletAct) (n : ℕ) (ps : Parts) (activity : List Interval) (new : List Change) → Later (slots_of act) ps n → touched act slot ≡ true
    → MasterGood ps.master new → ((i : ℕ) → eqb slot i ≡ false → SlotGood ps.master new i (ps.tablet i)) → SlotGood ps.master new slot (effect what n (ps.tablet slot))
    → OperationsGood ps.master new → JournalGood ps.master new → RowsPast ps.master (told act (tells slot what reply) n ps).tablet new → ((i : ℕ) → eqb slot i ≡ false → SlotWorks ps.master new i (ps.tablet i)) → SlotWorks ps.master new slot (effect what n (ps.tablet slot))
    → Remembered ps.master activity → Covered activity new → Inv (told act (tells slot what reply) n ps) (activity_after act (tells slot what reply) n ps activity) new
one_told act reply slot what n ps activity new later is master others mine operations journal rows others_work mine_works remembered cover =
    let early = master_before (slots_of act) ps n later in
    let drawn = tables_drawn ps.master activity remembered in
    subst (λ is. Inv (told act (tells slot what reply) n ps) is new) (sym (activity_stays act (record { slot = slot; act = what } ∷ []) reply n ps activity)) (record {
      remembered = remembered_ticked_if (has (slots_of act) 0) ps.master n activity early remembered;
      cover = cover;
      master = master_ticked_if (has (slots_of act) 0) ps.master n new early master;
      slots = λ i. slot_ticked_if (has (slots_of act) 0) ps.master n new i _ early
          (slot_told (SlotGood ps.master new) act reply slot what n ps later is (λ j t le h. tablet_ticked ps.master n new j t le h) others mine i);
      operations = operations_ticked_if (has (slots_of act) 0) ps.master n new early drawn (all_listed ps.master new master) operations;
      rows_past = rows_ticked_if (has (slots_of act) 0) ps.master n new (told act (tells slot what reply) n ps).tablet (told act (tells slot what reply) n ps).tablet early (λ i. le_refl _) rows;
      journal = journal_ticked_if (has (slots_of act) 0) ps.master n new journal;
      works = λ i. works_ticked_if (has (slots_of act) 0) ps.master n new i _ early drawn operations
          (slot_told (SlotWorks ps.master new) act reply slot what n ps later is (λ j t le h. work_later ps.master n new j t le h) others_work mine_works i);
    })

-- Sent marks and inboxes are none of what holds of the catalog and of stores.

pub master_marked : (m : Master) (s : List Sent) (changes : List Change) → MasterGood m changes → MasterGood (record m { sent = s }) changes
master_marked m s changes k = record { namespaces = k.namespaces; tables = k.tables; marks = k.marks; past = k.past; complete = k.complete; listed = k.listed; listed_of = k.listed_of }

-- a tablet's inbox is none of what holds of its store
pub inbox_changed : (m : Master) (changes : List Change) (slot : ℕ) (t : Tablet) (n : ℕ) (inbox : List Command) → t.clock ≤ n → SlotGood m changes slot t → SlotGood m changes slot (record t { clock = n; inbox = inbox })
inbox_changed m changes slot t n inbox le h =
    let k = tablet_ticked m n changes slot t le h in
    let each : (i : Interval) → In i m.activity → i.slot ≡ slot → IsGoodIn m.clock m.slots (directory m) changes (record t { clock = n; inbox = inbox }) i = λ i isin is. let g = k.each i isin is in assumption g in
    let opens : is_serving t.presence ≡ true → t.fence ≡ None → TakesWritesIn m.activity m.restorations slot (record t { clock = n; inbox = inbox }) = λ serving unfenced. let o = k.opens serving unfenced in record {
      interval = o.interval;
      listed = o.listed;
      slot_is = o.slot_is;
      opened = o.opened;
      begun = o.begun;
      settled = o.settled;
    } in
    assumption (each, opens)
