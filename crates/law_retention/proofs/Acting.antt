-- Acts that leave the master's catalog, activity and snapshots alone, and each tablet what it had, take nothing.
use Rattle.std.proofs.Common.{leb, ◌+◌, ℕ, ◌≡◌, ◌<◌, List, [], ◌∷◌, Option, Some, None, true, false, cond, max, refl, arith, not, eqb, le_refl, subst, ◌≤◌, Bool, ◌&&◌, ◌||◌}
use Rattle.std.proofs.lemmas.Bool.{cond_both}
use Rattle.std.specs.Option.{option_map, option_or}
use Rattle.row_values.specs.declared.value.Item.{Item}
use Rattle.row_values.specs.Ids.{Clone, Id, Kind, Restoration, Snapshot, same}
use Rattle.row_values.specs.Slots.{has}
use Rattle.model.specs.Activity.{Interval}
use Rattle.model.specs.Acts.{Ack, Acked, NotDone, Act, Ask, At, Look, Write, Read, Cutoff, Compact, Send, Restart, Stats, Refused, Reply, NotPending, Ok}
use Rattle.model.specs.Journal.{Change}
use Rattle.model.specs.Entries.{clock_at, slots_of}
use Rattle.model.specs.History.{look, master_effect, told}
use Rattle.model.specs.Parts.{Acks, Unsends, Outcome, Parts, answered, Master}
use Rattle.model.specs.Records.{CloneRecord, Listed, RestorationRecord, Sent, SnapshotRecord, is_cloned, is_restored, unfinished}
use Rattle.std.proofs.Common.{map}
use Rattle.model.specs.Acts.{CutoffAt}
use Rattle.model.specs.Tablets.{is_done, kind_of}
use Rattle.model.specs.RowActs.{write, read, cutoff, compact, restart, stats, allowed_of, scheduled_at}
use Rattle.model.specs.Coordination.{ack, acked_by, acked_clone, acked_restoration, acked_snapshot, acknowledging, command_for, send, sending, pending}
use Rattle.model.specs.Tablets.{Tablet, TabletAct, Clock, RaiseCutoff, Compact as CompactTablet, Offer, Restart as RestartTablet, Write as WriteRows, act_for, effect}
use Rattle.model.specs.Taking.{TakesNothingNeeded, names_at, untimed}
use Rattle.model.specs.Schedules.{floor, least_low, serving}
use Rattle.model.specs.Cleanup.{floor_of}
use Rattle.model.specs.Operations.{clone_with, restoration_of}
use Rattle.model.specs.Activity.{route}
use Rattle.model.specs.Catalog.{tables_at}
use Rattle.row_values.specs.Elements.{In}
use Rattle.std.proofs.Common.{ap, sym, map}
use Rattle.law_store.proofs.Keys.{either_way}
use Rattle.law_store.proofs.Compaction.{compaction}
use Rattle.law_store.proofs.Writing.{read_written_before, below_weaker}
use Rattle.law_invariants.specs.Invariant.{Inv, Later, TabletGood}
use Rattle.law_invariants.proofs.Frame.{tells, touched}
use Rattle.law_invariants.proofs.Ticking.{both_left, both_right, master_before, not_true}
use Rattle.law_retention.proofs.Outcomes.{compact_by, cutoff_by, look_by, master_restarts, read_by, restart_by, stats_by, write_by}
use Rattle.law_retention.proofs.Sources.{AreLike, CountsIfAny, IsLike, TabletStays, like_self}
use Rattle.law_retention.proofs.Staying.{staying_takes_nothing}
use Rattle.law_retention.specs.Facts.{Facts}

-- what is to be shown of an outcome: where the invariants and the facts hold of what it leaves, it takes nothing that a time needs
abbrev pub TakesNothing : Act → ℕ → Parts → Outcome → Type 0
TakesNothing act n ps o = (activity : List Interval) (changes : List Change) → Inv (told act o n ps) activity changes → Facts (told act o n ps) → TakesNothingNeeded act ps (told act o n ps)

-- an act takes nothing that a time needs, whatever the parts of a legal history are
abbrev pub IsHarmless : Act → (ℕ → Parts → Outcome) → Type 0
IsHarmless act made = (n : ℕ) (ps : Parts) (activity : List Interval) (changes : List Change) → Later (slots_of act) ps n → Inv ps activity changes
    → TakesNothing act n ps (made n ps)

-- every snapshot counts
abbrev pub Every : Id → Type 0
Every snapshot = Unit {0}

-- what retention needs of the master is as before
pub record MasterQuiet (m k : Master) : Type 0 where
  pub later : m.clock ≤ k.clock
  pub catalog : k.catalog ≡ m.catalog
  pub activity : k.activity ≡ m.activity
  pub scheduled : k.scheduled ≡ m.scheduled
  pub schedules : k.schedules ≡ m.schedules
  pub floors : (ns : Id) (n : ℕ) → floor_of k ns n ≡ floor_of m ns n
  pub serving_like : (ns : Id) (to : ℕ) → AreLike (serving k.snapshots ns to) (serving m.snapshots ns to)
  pub left_like : (ns : Id) → AreLike (unfinished k.snapshots ns) (unfinished m.snapshots ns)

-- such is a master whose clock and sent marks alone change
quiet_clock : (m : Master) (n : ℕ) (sent : List Sent) → m.clock ≤ n → MasterQuiet m (record m { clock = n; sent = sent })
quiet_clock m n sent before = record {
  later = before;
  catalog = refl;
  activity = refl;
  scheduled = refl;
  schedules = refl;
  floors = λ ns n. refl;
  serving_like = λ ns to. like_self _;
  left_like = λ ns. like_self _;
}

pub every_counts : (served : Option SnapshotRecord) → CountsIfAny Every served
every_counts None = tt
every_counts (Some r) = tt

-- what each effect leaves

pub same_stays : (t : Tablet) → TabletStays Every t t
same_stays t = record { sets = λ snapshot counts. refl; rises = le_refl _; reads = λ key x above past. refl }

pub ticked_stays : (t : Tablet) (n : ℕ) → TabletStays Every t (record t { clock = n })
ticked_stays t n = record { sets = λ snapshot counts. refl; rises = le_refl _; reads = λ key x above past. refl }

raised_stays : (t : Tablet) (to n : ℕ) → TabletStays Every t (effect (RaiseCutoff to) n t)
raised_stays t to n = record { sets = λ snapshot counts. refl; rises = omega arith; reads = λ key x above past. refl }

compacted_stays : (t : Tablet) (n : ℕ) → TabletGood t → TabletStays Every t (effect CompactTablet n t)
compacted_stays t n good = record { sets = λ snapshot counts. refl; rises = le_refl _; reads = λ key x above past. compaction t.versions key t.cutoff x good.sorted above }

written_stays : (t : Tablet) (batch : List Item) (n : ℕ) → t.clock < n → TabletGood t → TabletStays Every t (effect (WriteRows batch) n t)
written_stays t batch n later good = record {
  sets = λ snapshot counts. refl;
  rises = le_refl _;
  reads = λ key x above past. read_written_before batch t.versions n key x good.sorted (below_weaker t.versions (t.clock + 1) (n + 1) (omega arith) good.below) (omega arith);
}

-- the parts after an outcome

pub told_takes_nothing : (act : Act) (o : Outcome) (n : ℕ) (ps : Parts) (activity : List Interval) (changes : List Change) → Later (slots_of act) ps n → Inv ps activity changes
    → (has (slots_of act) 0 ≡ true → MasterQuiet ps.master (master_effect o.master n ps.master))
    → ((slot : ℕ) → touched act slot ≡ true → TabletStays Every (ps.tablet slot) (effect (act_for o.tablets slot) n (ps.tablet slot)))
    → TakesNothing act n ps o
told_takes_nothing act o n ps activity changes later inv master tablets later_activity later_changes inv_after facts_after =
    let after = told act o n ps in
    let m = ps.master in
    let self : MasterQuiet m m = quiet_clock m m.clock m.sent (le_refl _) in
    let quiet : MasterQuiet m after.master = cond_both (has (slots_of act) 0) (master_effect o.master n m) m (λ k. MasterQuiet m k) master (λ b. self) in
    staying_takes_nothing Every act ps after later_activity later_changes inv_after facts_after (record {
      later = quiet.later;
      owners = ap (λ c. c.owners) quiet.catalog;
      scheduled = quiet.scheduled;
      schedules = quiet.schedules;
      floors = λ ns. quiet.floors ns after.master.clock;
      times = λ s to listed from. record {
        names = ap (λ c. names_at c.namespaces s.namespace to) quiet.catalog;
        tables = ap (λ c. map untimed (tables_at c.tables s.namespace to)) quiet.catalog;
        serving_like = quiet.serving_like s.namespace to;
        left_like = quiet.left_like s.namespace;
        serving_counts = every_counts _;
        left_counts = every_counts _;
        places = λ table code there. ap (λ is. route is table code to) quiet.activity;
      };
      active = λ s i to listed inside owned low active. subst (In i) (sym quiet.activity) inside;
      tablets = λ i inside there. cond_both (touched act i.slot) (effect (act_for o.tablets i.slot) n (ps.tablet i.slot)) (ps.tablet i.slot) (λ u. TabletStays Every (ps.tablet i.slot) u) (tablets i.slot)
          (λ b. same_stays (ps.tablet i.slot));
      cutoffs = λ slot. (inv.slots slot).good.cutoff;
    })

-- a master that only sets its clock
ticked_master : (act : Act) (n : ℕ) (ps : Parts) → Later (slots_of act) ps n → has (slots_of act) 0 ≡ true → MasterQuiet ps.master (record ps.master { clock = n })
ticked_master act n ps later is = quiet_clock ps.master n ps.master.sent (master_before (slots_of act) ps n later is)

pub answer_takes_nothing : (act : Act) (reply : Reply) (n : ℕ) (ps : Parts) (activity : List Interval) (changes : List Change) → Later (slots_of act) ps n → Inv ps activity changes
    → TakesNothing act n ps (answered reply)
answer_takes_nothing act reply n ps activity changes later inv =
    told_takes_nothing act (answered reply) n ps activity changes later inv (ticked_master act n ps later) (λ slot is. ticked_stays (ps.tablet slot) n)

-- one tablet that is told something
pub one_takes_nothing : (act : Act) (slot : ℕ) (what : TabletAct) (reply : Reply) (n : ℕ) (ps : Parts) (activity : List Interval) (changes : List Change) → Later (slots_of act) ps n → Inv ps activity changes
    → ((i : ℕ) → touched act i ≡ true → TabletStays Every (ps.tablet i) (effect what n (ps.tablet i))) → TakesNothing act n ps (tells slot what reply)
one_takes_nothing act slot what reply n ps activity changes later inv stays =
    told_takes_nothing act (tells slot what reply) n ps activity changes later inv (ticked_master act n ps later)
    (λ i is. cond_both (eqb slot i) what Clock (λ a. TabletStays Every (ps.tablet i) (effect a n (ps.tablet i))) (λ e. stays i is) (λ e. ticked_stays (ps.tablet i) n))

-- a touched tablet's clock is before the stamp
touched_before : (act : Act) (n : ℕ) (ps : Parts) (slot : ℕ) → Later (slots_of act) ps n → touched act slot ≡ true → (ps.tablet slot).clock < n
touched_before act n ps slot later is =
    let h : has (slots_of act) slot ≡ true = both_left _ _ is in
    let f : eqb slot 0 ≡ false = not_true _ (both_right _ _ is) in
    let l : clock_at ps slot < n = later slot h in
    rw f at l

-- Acts, one by one. A refusal sets clocks alone

pub look_takes_nothing : (ask : Ask) → IsHarmless (Look ask) (λ n ps. look ask n ps.master)
look_takes_nothing ask n ps activity changes later inv =
    look_by (TakesNothing (Look ask) n ps) ask n ps.master (λ reply. answer_takes_nothing (Look ask) reply n ps activity changes later inv)

pub write_takes_nothing : (place : At) (version : ℕ) (batch : List Item) → IsHarmless (Write place version batch) (write place version batch)
write_takes_nothing place version batch n ps activity changes later inv =
    let act = Write place version batch in
    write_by (TakesNothing act n ps) place version batch n ps (λ reply. answer_takes_nothing act reply n ps activity changes later inv)
    (one_takes_nothing act place.slot (WriteRows batch) (Ok []) n ps activity changes later inv
    (λ i is. written_stays (ps.tablet i) batch n (touched_before act n ps i later is) (inv.slots i).good))

pub read_takes_nothing : (places : List At) (version : ℕ) (key : Option (List ℕ)) (at : Option ℕ) (columns : List ℕ)
    → IsHarmless (Read places version key at columns) (read places version key at columns)
read_takes_nothing places version key at columns n ps activity changes later inv =
    let act = Read places version key at columns in
    read_by (TakesNothing act n ps) places version key at columns n ps (λ reply. answer_takes_nothing act reply n ps activity changes later inv)

pub cutoff_takes_nothing : (slot : ℕ) → IsHarmless (Cutoff slot) (cutoff slot)
cutoff_takes_nothing slot n ps activity changes later inv =
    cutoff_by (TakesNothing (Cutoff slot) n ps) slot n ps (λ reply. answer_takes_nothing (Cutoff slot) reply n ps activity changes later inv)
    (let to = allowed_of (scheduled_at ps.master slot) n in
    one_takes_nothing (Cutoff slot) slot (RaiseCutoff to) (CutoffAt (max (ps.tablet slot).cutoff to)) n ps activity changes later inv (λ i is. raised_stays (ps.tablet i) to n))

pub compact_takes_nothing : (slot : ℕ) → IsHarmless (Compact slot) (compact slot)
compact_takes_nothing slot n ps activity changes later inv =
    compact_by (TakesNothing (Compact slot) n ps) slot n ps (λ reply. answer_takes_nothing (Compact slot) reply n ps activity changes later inv)
    (λ reply. one_takes_nothing (Compact slot) slot CompactTablet reply n ps activity changes later inv (λ i is. compacted_stays (ps.tablet i) n (inv.slots i).good))

pub stats_takes_nothing : (slot : ℕ) → IsHarmless (Stats slot) (stats slot)
stats_takes_nothing slot n ps activity changes later inv =
    stats_by (TakesNothing (Stats slot) n ps) slot n ps (λ reply. answer_takes_nothing (Stats slot) reply n ps activity changes later inv)

pub restart_takes_nothing : (slot : ℕ) → IsHarmless (Restart slot) (restart slot)
restart_takes_nothing slot n ps activity changes later inv = restart_by (TakesNothing (Restart slot) n ps) slot n ps
    (told_takes_nothing (Restart slot) master_restarts n ps activity changes later inv
    (λ is. quiet_clock ps.master n [] (master_before (slots_of (Restart slot)) ps n later is))
    (λ i is. ticked_stays (ps.tablet i) n))
    (one_takes_nothing (Restart slot) slot RestartTablet (Ok []) n ps activity changes later inv
    (λ i is. record { sets = λ snapshot counts. refl; rises = le_refl _; reads = λ key x above past. refl }))

sending_nothing : (l : Option Listed) (operation : Id) (slot : ℕ) → IsHarmless (Send operation slot) (λ n ps. sending l operation slot)
sending_nothing None operation slot n ps activity changes later inv =
    answer_takes_nothing (Send operation slot) (Refused (NotPending operation)) n ps activity changes later inv
sending_nothing (Some l) operation slot n ps activity changes later inv =
    let offer = Offer (command_for operation l) in
    told_takes_nothing (Send operation slot) (sending (Some l) operation slot) n ps activity changes later inv
    (λ is. quiet_clock ps.master n _ (master_before (slots_of (Send operation slot)) ps n later is))
    (λ i is. cond_both (eqb slot i) offer Clock (λ a. TabletStays Every (ps.tablet i) (effect a n (ps.tablet i)))
    (λ e. record { sets = λ snapshot counts. refl; rises = le_refl _; reads = λ key x above past. refl })
    (λ e. ticked_stays (ps.tablet i) n))

pub send_takes_nothing : (operation : Id) (slot : ℕ) → IsHarmless (Send operation slot) (send operation slot)
unfolding send
send_takes_nothing operation slot n ps activity changes later inv = sending_nothing (pending ps.master operation slot) operation slot n ps activity changes later inv

-- an ack notes what it finds in the records: which snapshot serves, and which is unfinished, is as before

like_both : (b : Bool) (q r : SnapshotRecord) (served was : Option SnapshotRecord) → IsLike q r → AreLike served was → AreLike (cond b (Some q) served) (cond b (Some r) was)
like_both true q r served was here rest = here
like_both false q r served was here rest = rest

acked_serving : (rs : List SnapshotRecord) (operation : Id) (slot : ℕ) (ns : Id) (to : ℕ) → AreLike (serving (acked_snapshot operation slot rs) ns to) (serving rs ns to)
acked_serving [] operation slot ns to = tt
acked_serving (r ∷ rs) operation slot ns to = like_both ((same r.namespace ns && r.complete) && leb to r.at) _ r _ _ (record { id_is = refl; at_is = refl }) (acked_serving rs operation slot ns to)

acked_left : (rs : List SnapshotRecord) (operation : Id) (slot : ℕ) (ns : Id) → AreLike (unfinished (acked_snapshot operation slot rs) ns) (unfinished rs ns)
acked_left [] operation slot ns = tt
acked_left (r ∷ rs) operation slot ns = like_both (same r.namespace ns && not r.complete) _ r _ _ (record { id_is = refl; at_is = refl }) (acked_left rs operation slot ns)

-- and to which time an unfinished operation goes

restored_to : (rs : List RestorationRecord) (operation : Id) (slot : ℕ) (ns : Id) → option_map (λ r. r.to) (restoration_of (acked_restoration operation slot rs) ns) ≡ option_map (λ r. r.to) (restoration_of rs ns)
restored_to [] operation slot ns = refl
restored_to (r ∷ rs) operation slot ns = either_way (same r.namespace ns && not (is_restored r.state)) (λ b. rw b refl) (λ b. rw b (restored_to rs operation slot ns))

cloned_to : (cs : List CloneRecord) (operation : Id) (slot : ℕ) (ns : Id) → option_map (λ c. c.to) (clone_with (acked_clone operation slot cs) ns) ≡ option_map (λ c. c.to) (clone_with cs ns)
cloned_to [] operation slot ns = refl
cloned_to (c ∷ cs) operation slot ns = either_way ((same c.target_id ns || same c.source ns) && not (is_cloned c.state)) (λ b. rw b refl) (λ b. rw b (cloned_to cs operation slot ns))

quiet_acked : (kind : Kind) (m : Master) (operation : Id) (slot n : ℕ) → m.clock ≤ n → MasterQuiet m (acked_by kind operation slot n m)
quiet_acked Snapshot m operation slot n before = record {
  later = before;
  catalog = refl;
  activity = refl;
  scheduled = refl;
  schedules = refl;
  floors = λ ns n. refl;
  serving_like = λ ns to. acked_serving m.snapshots operation slot ns to;
  left_like = λ ns. acked_left m.snapshots operation slot ns;
}
quiet_acked Restoration m operation slot n before = record {
  later = before;
  catalog = refl;
  activity = refl;
  scheduled = refl;
  schedules = refl;
  floors = λ ns at. ap (λ to. floor (least_low m.schedules ns at) (option_or to (option_map (λ c. c.to) (clone_with m.clones ns))) at) (restored_to m.restorations operation slot ns);
  serving_like = λ ns to. like_self _;
  left_like = λ ns. like_self _;
}
quiet_acked Clone m operation slot n before = record {
  later = before;
  catalog = refl;
  activity = refl;
  scheduled = refl;
  schedules = refl;
  floors = λ ns at. ap (λ to. floor (least_low m.schedules ns at) (option_or (option_map (λ r. r.to) (restoration_of m.restorations ns)) to) at) (cloned_to m.clones operation slot ns);
  serving_like = λ ns to. like_self _;
  left_like = λ ns. like_self _;
}
quiet_acked _ m operation slot n before = quiet_clock m n m.sent before

acknowledging_nothing : (l : Option Listed) (operation : Id) (slot : ℕ) → IsHarmless (Ack operation slot) (λ n ps. acknowledging l operation slot (ps.tablet slot))
acknowledging_nothing None operation slot n ps activity changes later inv =
    answer_takes_nothing (Ack operation slot) (Refused (NotPending operation)) n ps activity changes later inv
acknowledging_nothing (Some l) operation slot n ps activity changes later inv =
    let act = Ack operation slot in
    let yes_ : Outcome = record { master = Acks operation slot; tablets = []; reply = Acked } in
    let no_ : Outcome = record { master = Unsends operation slot; tablets = []; reply = Refused NotDone } in
    cond_both (is_done (ps.tablet slot).done operation (kind_of l.body)) yes_ no_ (TakesNothing act n ps)
    (λ e. told_takes_nothing act yes_ n ps activity changes later inv
    (λ is. quiet_acked operation.kind ps.master operation slot n (master_before (slots_of act) ps n later is)) (λ i is. ticked_stays (ps.tablet i) n))
    (λ e. told_takes_nothing act no_ n ps activity changes later inv
    (λ is. quiet_clock ps.master n _ (master_before (slots_of act) ps n later is)) (λ i is. ticked_stays (ps.tablet i) n))

pub ack_takes_nothing : (operation : Id) (slot : ℕ) → IsHarmless (Ack operation slot) (ack operation slot)
unfolding ack
ack_takes_nothing operation slot n ps activity changes later inv =
    acknowledging_nothing (pending ps.master operation slot) operation slot n ps activity changes later inv
