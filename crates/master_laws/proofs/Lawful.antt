-- The master of a legal history: what the law's invariants and its bound on identifiers come to.
use Rattle.std.specs.Prelude.{Ok as Granted}
use Rattle.std.proofs.Common.{le_of_lt, sym, subst, inl, inr, ℕ, ◌≡◌, ◌≤◌, ◌<◌, ◌+◌, ◌*◌, ◌^◌, ◌&&◌, true, List, [], ◌∷◌, Option, Some, None, refl, arith, le-leb}
use Rattle.row_values.specs.Ids.{Id, Kind, same, id_bound}
use Rattle.row_values.specs.Elements.{In}
use Rattle.model.specs.Times.{is_open}
use Rattle.model.specs.Catalog.{TableRecord, current_table}
use Rattle.model.specs.Changed.{next_namespace, next_table}
use Rattle.model.specs.Changes.{CloneSource, judge_clone}
use Rattle.model.specs.Drawn.{drawn_of, drawn_for_clone, most_slots}
use Rattle.model.specs.Entries.{Entry}
use Rattle.model.specs.History.{Legal, replay, held, most_entries, journal_of, activity_of}
use Rattle.law_invariants.specs.Invariant.{EndsBy, IsPast, MasterGood}
use Rattle.law_invariants.proofs.Finding.{passes_both, second_fails, not_same, apart_by_number, none_found}
use Rattle.law_invariants.proofs.Names.{name_fresh}
use Rattle.law_invariants.proofs.Rising.{newest_most}
use Rattle.law.proofs.Bounded.{tables_within}
use Rattle.law.proofs.Drawing.{drawn_within, held_within}
use Rattle.law.proofs.Law.{legal_holds}
use Rattle.law.proofs.Slots.{replay_slots}
use Rattle.law.proofs.Giving.{clone_few}
use Rattle.law_clones.proofs.Commanding.{may_clone}
use Rattle.catalog_core.specs.Kept.{over_or_open, ends_by}
use Rattle.master_part.specs.Acts.{IsLawful}
use Rattle.master_laws.proofs.Pointing.{point_ends}
use Rattle.master_laws.proofs.Singles.{one_restoration, one_clone}
use Rattle.master_laws.proofs.Homes.{homes}
use Rattle.master_laws.proofs.Places.{places_few}
use Rattle.master_laws.proofs.Targets.{target_fits}

-- Identifiers

-- one more entry draws at most `most_slots` of a kind, and the master's log has no more than `most_entries`
few_drawn : (slots : ℕ) (history : List Entry) → Legal slots history → slots ≤ most_slots → (kind : Kind)
    → drawn_of kind (replay slots history).master.drawn + most_slots < id_bound
few_drawn slots history legal most kind =
    let within : drawn_of kind (replay slots history).master.drawn ≤ most_slots * held 0 history =
    drawn_within history slots legal most kind in
    let entries : held 0 history ≤ most_entries = held_within history slots legal in
    omega arith

few_changes : (slots : ℕ) (history : List Entry) → Legal slots history → (t : TableRecord)
    → In t (replay slots history).master.catalog.tables
    → (t.schema.version + 1 < 2 ^ 32) × (t.schema.next + 1 < 2 ^ 32)
few_changes slots history legal t isin =
    let within = tables_within history slots legal t isin in
    let version : t.schema.version ≤ held 0 history = within.0 in
    let next : t.schema.next ≤ held 0 history + 16 = within.1 in
    let entries : held 0 history ≤ most_entries = held_within history slots legal in
    (omega arith, omega arith)

-- an identifier beyond those drawn has no current table
current_fresh : (rs : List TableRecord) (drawn : ℕ) (id : Id) → ((r : TableRecord) → In r rs → r.id.number ≤ drawn)
    → drawn < id.number → current_table rs id ≡ None
current_fresh rs drawn id before new =
    none_found {A = TableRecord} (λ r. is_open r.to && same r.id id) rs (λ r isin. second_fails (is_open r.to) (same r.id id)
    (not_same r.id id (apart_by_number r.id id (let b = before r isin in omega arith))))

-- Ends

over_by : (time from : ℕ) (to : Option ℕ) → EndsBy time from to → over_or_open time to ≡ true
over_by time from None ends = refl
over_by time from (Some to) ends = le-leb to time ends.1

all_end_by : (rs : List TableRecord) (time : ℕ) → ((r : TableRecord) → In r rs → IsPast time r.from r.to)
    → ends_by time rs ≡ true
all_end_by [] time past = refl
all_end_by (r ∷ rs) time past = passes_both (over_or_open time r.to) (ends_by time rs)
    (over_by time r.from r.to (past r (inl refl)).ended) (all_end_by rs time (λ q isin. past q (inr isin)))

-- Clones

-- a clone draws no more identifiers of a kind than `most_slots`
clones_few : (slots : ℕ) (history : List Entry) → Legal slots history → slots ≤ most_slots
    → (source target : List ℕ) (to n : ℕ) (s : CloneSource) → (replay slots history).master.clock < n
    → judge_clone source target to n (replay slots history).master ≡ Granted s
    → (kind : Kind) → drawn_of kind (drawn_for_clone to (replay slots history).master s.namespace) ≤ most_slots
clones_few slots history legal most source target to n s later granted =
    let ps = replay slots history in
    let inv = (legal_holds history slots legal).inv in
    let may = (may_clone ps (activity_of slots history) (journal_of slots history) source target to n s inv granted).1 in
    let count : ps.master.slots ≤ most_slots = subst (λ k. k ≤ most_slots) (sym (replay_slots history slots)) most in
    clone_few ps (activity_of slots history) (journal_of slots history) s.namespace s.least target to n (le_of_lt later) count may inv

pub is_lawful : (slots : ℕ) (history : List Entry) → Legal slots history → slots ≤ most_slots
    → IsLawful (replay slots history).master
is_lawful slots history legal most =
    let m = (replay slots history).master in
    let inv = (legal_holds history slots legal).inv in
    let good : MasterGood m (journal_of slots history) = inv.master in
    record {
      few = few_drawn slots history legal most;
      namespaces = name_fresh m.catalog.namespaces m.drawn.namespaces (next_namespace m) good.namespaces.drawn_before
          (omega arith);
      tables = current_fresh m.catalog.tables m.drawn.tables (next_table m) good.tables.drawn_before (omega arith);
      owners = good.tables.owners_drawn (next_table m) (omega arith);
      columns = few_changes slots history legal;
      past = all_end_by m.catalog.tables m.clock good.tables.past;
      placed = λ i isin. let g = (inv.slots i.slot).each i isin refl in (g.slot_from, g.slot_to);
      complete = good.complete;
      clones = clones_few slots history legal most;
      places = places_few (replay slots history) (activity_of slots history) (journal_of slots history) inv;
      unowned = good.tables.owners_drawn;
      owned = good.tables.owned;
      newest = λ t isin. newest_most m.catalog.tables t t good.tables.rise isin refl;
      home = homes m.catalog.owners m.catalog.tables good.tables.owned;
      one_restoration = one_restoration history slots;
      one_clone = one_clone history slots;
      switches = point_ends (replay slots history) (activity_of slots history) (journal_of slots history) inv;
      shows = λ r serving copied_at isin is. target_fits m (journal_of slots history) r serving copied_at (inv.operations.clones r isin) good.tables.owned is;
    }
