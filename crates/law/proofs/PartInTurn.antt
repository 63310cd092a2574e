-- After each entry of a legal history each active tablet's part has the version of its table's current schema.
use Rattle.std.proofs.Common.{◌≡◌, ℕ, ◌≤◌, ◌<◌, Bool, true, List, [], ◌∷◌, Option, Some, None, refl, sym, ap, ◌∙◌, arith, map, not, eqb, leb, ltb, le-leb, ltb-true, ◌&&◌}
use Rattle.std.specs.Option.{is_some, option_map}
use Rattle.std.proofs.lemmas.Bool.{cond_both, true≢false}
use Rattle.model.specs.Cluster.{Id, Kind, TabletKind, Snapshot, same, In, same_slots, Interval, active_at, last_of, holds_at, is_open, before_end, TableRecord, current_table, Listed, SnapshotRecord, snapshot_with, Master, Parts, Outcome, Check, If, Fault, Removes, judged, refused}
use Rattle.model.specs.Journal as made
use Rattle.model.specs.Journal.{table_at}
use Rattle.model.specs.Restored.{record_at}
use Rattle.model.specs.Tablets.{Tablet, TabletAct, Told, Empty, standing, Clock, Offer, Clear, DropFrozen, kind_of, is_done}
use Rattle.model.specs.Acts.{Act, Look, Change, Write, Read, Cutoff, Compact, Send, Process, Ack, Advance, Remove, Prune, Restart, Stats, Refused, Removed, Refusal, Moved, UnknownSnapshot, StalePlan, Reply}
use Rattle.model.specs.Drawn.{version_by}
use Rattle.model.specs.Entries.{Entry, slots_of, ActAsked}
use Rattle.model.specs.Coordination.{pending, command_for, send, sending, ack, acknowledging}
use Rattle.model.specs.Cleanup.{remove, removing, removing_unknown, removing_tablet, removing_snapshot, snapshot_plan, is_hidden_as, removable_tablet, removable_snapshot, hidden_at, floor_of, floor_of_table, lister_of_tablet, lister_of_snapshot, prune}
use Rattle.model.specs.RowActs.{write}
use Rattle.model.specs.History.{outcome, replay, journal_of, activity_of, Legal}
use Rattle.model.specs.Stands.{VersionsStand}
use Rattle.law_invariants.specs.Invariant.{Inv, Later, EndsBy, view_of}
use Rattle.law_invariants.proofs.Finding.{find_is, find_none, both_pass, passes_both, same_equal, same_self, in_mapped}
use Rattle.law_invariants.proofs.Advancing.{mapped_some}
use Rattle.law_invariants.proofs.Frame.{tells}
use Rattle.law_invariants.proofs.Records.{record_at_is}
use Rattle.law_retention.proofs.Outcomes.{by_refusal, look_by, write_by, read_by, cutoff_by, compact_by, stats_by, restart_by}
use Rattle.law.proofs.Law.{legal_holds, stamps_later}
use Rattle.law.proofs.Newest.{current_latest}
use Rattle.law.proofs.Numbering.{all_stand}
use Rattle.law.proofs.Schemas.{SchemasStand}
use Rattle.law.proofs.PartVersions.{VersionsGood, IsLight, is_light, written_version}
use Rattle.law.proofs.PartCommands.{Leads, Leaves, Held, Tabled, light_leaves, answers_light, change_leaves, each_told}
use Rattle.law.proofs.PartMoves.{process_leaves}
use Rattle.law.proofs.PartAdvances.{advance_leaves}

-- Tables of active tablets

open_then : (clock from : ℕ) (to : Option ℕ) → holds_at clock from to ≡ true → EndsBy clock from to → is_open to ≡ true
open_then clock from None holds ends = refl
open_then clock from (Some to) holds ends = absurd (let b : clock < to = ltb-true clock to (both_pass (leb from clock) (ltb clock to) holds).1 in let l : to ≤ clock = ends.1 in omega arith)

-- the table of an active tablet is current, under the version that the journal counts
tabled : (ps : Parts) (activity : List Interval) (changes : List made.Change) → Inv ps activity changes → SchemasStand ps.master.catalog.tables changes → Tabled ps.master changes
tabled ps activity changes inv stand i isin opened =
    let m = ps.master in
    let rs = m.catalog.tables in
    let g = (inv.slots i.slot).each i isin refl in
    let active : active_at m.clock i ≡ true = passes_both (leb i.from m.clock) (before_end m.clock i.to) (le-leb i.from m.clock g.past.begun) (ap (before_end m.clock) opened) in
    by_view m rs (table_at changes m.clock i.table) refl (g.viewed m.clock active)
  where
    test : TableRecord → Bool
    test r = is_open r.to && same r.id i.table

    found : (o : Option TableRecord) → current_table ps.master.catalog.tables i.table ≡ o → (r : TableRecord) → In r ps.master.catalog.tables → test r ≡ true → option_map (λ r. r.schema.version) o ≡ Some (version_by changes i.table)
    found None e r isin passes = absurd (true≢false (sym passes ∙ find_none test ps.master.catalog.tables e r isin))
    found (Some r) e q isin passes =
        let k = find_is test ps.master.catalog.tables r e in
        let b = both_pass (is_open r.to) (same r.id i.table) k.passes in
        ap Some ((stand.newest r.id r.schema (current_latest ps.master.catalog.tables r None inv.master.tables.rise k.listed b.0)).version ∙ ap (version_by changes) (same_equal r.id i.table b.1))

    by_view : (m : Master) (rs : List TableRecord) (view : Option made.TableView) → table_at changes ps.master.clock i.table ≡ view → is_some view ≡ true → option_map (λ r. r.schema.version) (current_table ps.master.catalog.tables i.table) ≡ Some (version_by changes i.table)
    by_view m rs None e there = absurd (true≢false (sym there))
    by_view m rs (Some v) e there =
        let t = inv.master.tables in
        let owner = t.inside i.table ps.master.clock v e in
        let r = mapped_some view_of (record_at ps.master.catalog.tables i.table ps.master.clock) v (sym (t.viewed i.table v.namespace ps.master.clock owner (t.kept v.namespace)) ∙ e) in
        let k = record_at_is ps.master.catalog.tables i.table ps.master.clock r.0 r.1.0 in
        let current = open_then ps.master.clock r.0.from r.0.to k.holds (t.past r.0 k.listed).ended in
        found (current_table ps.master.catalog.tables i.table) refl r.0 k.listed (passes_both (is_open r.0.to) (same r.0.id i.table) current (ap (λ x. same x i.table) k.id_is ∙ same_self i.table))

-- Acts that change no version

tells_light : (slot : ℕ) (a : TabletAct) (reply : Reply) → is_light a ≡ true → IsLight (tells slot a reply)
tells_light slot a reply e = record { calm = refl; light = λ i. cond_both (eqb slot i) a Clock (λ b. is_light b ≡ true) (λ _. e) (λ _. refl) }

sending_light : (found : Option Listed) (operation : Id) (slot : ℕ) → IsLight (sending found operation slot)
sending_light None operation slot = answers_light _
sending_light (Some l) operation slot = record { calm = refl; light = λ i. cond_both (eqb slot i) (Offer (command_for operation l)) Clock (λ b. is_light b ≡ true) (λ _. refl) (λ _. refl) }

acknowledging_light : (found : Option Listed) (operation : Id) (slot : ℕ) (t : Tablet) → IsLight (acknowledging found operation slot t)
acknowledging_light None operation slot t = answers_light _
acknowledging_light (Some l) operation slot t = cond_both (is_done t.done operation (kind_of l.body)) _ _ IsLight (λ e. record { calm = refl; light = λ i. refl }) (λ e. record { calm = refl; light = λ i. refl })

judged_light : (checks : List Check) (o : Outcome) → IsLight o → IsLight (judged checks o)
judged_light checks o light = by_refusal IsLight checks o (λ why. answers_light (Refused why)) (λ passes. light)

unknown_light : (slots : List ℕ) (why : Refusal) → IsLight (removing_unknown slots why)
unknown_light slots why = judged_light (If (not (same_slots slots [])) (StalePlan []) ∷ []) (refused why) (answers_light (Refused why))

removing_tablet_light : (i : Option Interval) (target : Id) (slots : List ℕ) (n : ℕ) (ps : Parts) → IsLight (removing_tablet i target slots n ps)
removing_tablet_light None target slots n ps = unknown_light slots (Moved 0 Empty)
removing_tablet_light (Some i) target slots n ps =
    let m = ps.master in
    let t = ps.tablet i.slot in
    judged_light
    (If (not (same_slots slots (i.slot ∷ []))) (StalePlan (i.slot ∷ []))
    ∷ If (not (is_hidden_as target t)) (Moved i.slot (standing t))
    ∷ Fault (removable_tablet (hidden_at t.presence) (floor_of_table m i.table n) (lister_of_tablet m target))
    ∷ [])
    (record { master = Removes target; tablets = record { slot = i.slot; act = Clear } ∷ []; reply = Removed })
    (record { calm = refl; light = λ s. cond_both (eqb i.slot s) Clear Clock (λ b. is_light b ≡ true) (λ _. refl) (λ _. refl) })

removing_snapshot_light : (r : Option SnapshotRecord) (target : Id) (slots : List ℕ) (n : ℕ) (ps : Parts) → IsLight (removing_snapshot r target slots n ps)
removing_snapshot_light None target slots n ps = unknown_light slots UnknownSnapshot
removing_snapshot_light (Some r) target slots n ps =
    let m = ps.master in
    let plan = snapshot_plan m r in
    let dropped = map {A = ℕ} {B = Told} (λ slot. record { slot = slot; act = DropFrozen target }) plan in
    judged_light
    (If (not (same_slots slots plan)) (StalePlan plan) ∷ Fault (removable_snapshot r.at (floor_of m r.namespace n) (lister_of_snapshot m r)) ∷ [])
    (record { master = Removes target; tablets = dropped; reply = Removed })
    (record {
      calm = refl;
      light = λ s. each_told (λ a. is_light a ≡ true) dropped s refl (in_mapped {A = ℕ} {B = Told} (λ slot. record { slot = slot; act = DropFrozen target }) (λ t. is_light t.act ≡ true) plan (λ slot isin. refl));
    })

removing_light : (kind : Kind) (target : Id) (slots : List ℕ) (n : ℕ) (ps : Parts) → IsLight (removing kind target slots n ps)
removing_light TabletKind target slots n ps = removing_tablet_light (last_of ps.master.activity target) target slots n ps
removing_light Snapshot target slots n ps = removing_snapshot_light (snapshot_with ps.master.snapshots target) target slots n ps
removing_light _ target slots n ps = unknown_light slots UnknownSnapshot

-- Each act

act_leaves : (act : Act) (slots n : ℕ) (ps : Parts) (activity : List Interval) (changes : List made.Change) → Later (slots_of act) ps n → ActAsked slots act → Leads ps activity changes → Leaves act n ps changes (outcome act n ps)
unfolding send ack remove prune
act_leaves (Change command plan) slots n ps activity changes later asked h = change_leaves command plan n ps activity changes h
act_leaves (Process slot other) slots n ps activity changes later asked h = process_leaves ps activity changes n slot other later asked.0.0 h
act_leaves (Advance operation) slots n ps activity changes later asked h = advance_leaves ps activity changes n operation (later 0 refl) h
act_leaves (Look ask) slots n ps activity changes later asked h = light_leaves (Look ask) n ps activity changes _ (look_by IsLight ask n ps.master answers_light) (λ table. refl) h
act_leaves (Write place version batch) slots n ps activity changes later asked h =
    light_leaves (Write place version batch) n ps activity changes _ (write_by IsLight place version batch n ps answers_light (tells_light _ _ _ refl))
    (λ table. written_version (write place version batch n ps).tablets n (ps.tablet place.slot).table table batch changes) h
act_leaves (Read places version key at columns) slots n ps activity changes later asked h = light_leaves (Read places version key at columns) n ps activity changes _ (read_by IsLight places version key at columns n ps answers_light) (λ table. refl) h
act_leaves (Cutoff slot) slots n ps activity changes later asked h = light_leaves (Cutoff slot) n ps activity changes _ (cutoff_by IsLight slot n ps answers_light (tells_light _ _ _ refl)) (λ table. refl) h
act_leaves (Compact slot) slots n ps activity changes later asked h = light_leaves (Compact slot) n ps activity changes _ (compact_by IsLight slot n ps answers_light (λ reply. tells_light _ _ _ refl)) (λ table. refl) h
act_leaves (Send operation slot) slots n ps activity changes later asked h = light_leaves (Send operation slot) n ps activity changes _ (sending_light (pending ps.master operation slot) operation slot) (λ table. refl) h
act_leaves (Ack operation slot) slots n ps activity changes later asked h = light_leaves (Ack operation slot) n ps activity changes _ (acknowledging_light (pending ps.master operation slot) operation slot (ps.tablet slot)) (λ table. refl) h
act_leaves (Remove target plan) slots n ps activity changes later asked h = light_leaves (Remove target plan) n ps activity changes _ (removing_light target.kind target plan n ps) (λ table. refl) h
act_leaves Prune slots n ps activity changes later asked h = light_leaves Prune n ps activity changes (prune n ps) (record { calm = refl; light = λ slot. refl }) (λ table. refl) h
act_leaves (Restart slot) slots n ps activity changes later asked h = light_leaves (Restart slot) n ps activity changes _ (restart_by IsLight slot n ps (record { calm = refl; light = λ s. refl }) (tells_light _ _ _ refl)) (λ table. refl) h
act_leaves (Stats slot) slots n ps activity changes later asked h = light_leaves (Stats slot) n ps activity changes _ (stats_by IsLight slot n ps answers_light) (λ table. refl) h

held : (ps : Parts) (activity : List Interval) (changes : List made.Change) → Inv ps activity changes → Held ps
held ps activity changes inv i isin = let g = (inv.slots i.slot).each i isin refl in (g.present, g.tablet_is)

versions_hold : (history : List Entry) (slots : ℕ) → Legal slots history → VersionsGood (replay slots history).master (replay slots history).tablet (journal_of slots history)
unfolding replay journal_of
versions_hold [] slots legal = record { active = λ i isin. absurd isin; coming = λ i version isin. absurd isin; copied = λ p id c. absurd c.known }
versions_hold (e ∷ earlier) slots legal =
    let ps = replay slots earlier in
    let before = (legal_holds earlier slots legal.0).inv in
    let after = (legal_holds (e ∷ earlier) slots legal).inv in
    act_leaves e.event.act slots e.stamp ps (activity_of slots earlier) (journal_of slots earlier) (stamps_later e ps legal.1.stamp) legal.1.asked.act
    (record { inv = before; stand = all_stand earlier slots legal.0; good = versions_hold earlier slots legal.0 })
    (held _ _ _ after) (tabled _ _ _ after (all_stand (e ∷ earlier) slots legal))

pub versions_stand : (history : List Entry) (slots : ℕ) → Legal slots history → VersionsStand (replay slots history)
versions_stand history slots legal i isin opened came =
    tabled _ _ _ (legal_holds history slots legal).inv (all_stand history slots legal) i isin opened ∙ ap Some (sym ((versions_hold history slots legal).active i isin opened came))
