-- A settle's events are entries of a legal history, and behind them what was accepted is finished, once.
use Rattle.std.proofs.Common.{ℕ, ◌≡◌, ◌<◌, ◌^◌, zero, suc, List, [], ◌∷◌, ◌++◌, Bool, true, false, Some, refl, sym, ap, subst, ◌∙◌, map, not, ltb-true, ltb}
use Rattle.std.specs.List.{filter}
use Rattle.row_values.specs.Elements.{In}
use Rattle.model.specs.Times.{end_of_time}
use Rattle.model.specs.Records.{SnapshotRecord, RestorationRecord, RestorationState, Fencing, Snapshotting, Switching, Restoring, Releasing, Restored, CloneRecord, is_restored, is_cloned}
use Rattle.row_values.specs.Ids.{Id}
use Rattle.model.specs.Acts.{Act}
use Rattle.model.specs.Parts.{Master}
use Rattle.model.specs.Moves.{snapshot_progress, restoration_progress, clone_progress}
use Rattle.model.specs.Work.{next_act, unfinished_records}
use Rattle.model.specs.Entries.{Entry, ActAsked, log_of, stamp_of}
use Rattle.model.specs.History.{Legal, IsStep, entry_of, held, most_entries, replay}
use Rattle.model.specs.Once.{RestoreAsked, CloneAsked, restores_asked, clones_asked, restored_by, one_restore}
use Rattle.model.specs.Settling.{event_of, left, settle, coordinated, after_act, after_acts}
use Rattle.model_runs.specs.Running.{may_follow}
use Rattle.law_invariants.proofs.Finding.{both_pass, none_or_some, in_first, in_second, in_filter, map_in}
use Rattle.law.proofs.Once.{restores_once, clones_once}
use Rattle.law.proofs.Working.{next_fits}
use Rattle.law_drive.specs.Settled.{history_after, NoneStops, settled, SettleRuns, RestoreFinished, CloneFinished}
use Rattle.law_drive.proofs.Coming.{left_of, fit_of, with_next, settles}

-- a settle's entries are legal, and leave what its acts do
pub record Follows (slots reading : ℕ) (history : List Entry) (acts : List Act) : Type 0 where
  pub legal : Legal slots (history_after slots reading acts history)
  pub leaves : replay slots (history_after slots reading acts history) ≡ after_acts reading acts (replay slots history)

pub step_of : (slots reading : ℕ) (act : Act) (history : List Entry) → reading < 2 ^ 50 → ActAsked slots act → may_follow slots (event_of reading act) history ≡ true → IsStep slots (entry_of slots (event_of reading act) history) history
unfolding may_follow entry_of
step_of slots reading act history less asked may =
    let both = both_pass (ltb (stamp_of (event_of reading act) (replay slots history)) end_of_time) (ltb (held (log_of act) history) most_entries) may in
    record { asked = record { reading = less; act = asked }; number = refl; stamp = refl; before_end = ltb-true _ _ both.0; room = ltb-true _ _ both.1; reply = refl }

pub next_leaves : (slots reading : ℕ) (act : Act) (history : List Entry) → replay slots (entry_of slots (event_of reading act) history ∷ history) ≡ after_act reading act (replay slots history)
unfolding replay entry_of
next_leaves slots reading act history = refl

-- acts that come next after an entry, as after what it leaves
abbrev FollowsAll : ℕ → ℕ → ℕ → List Entry → Type 0
FollowsAll count slots reading history = NoneStops slots reading (coordinated count reading (replay slots history)) history → Follows slots reading history (coordinated count reading (replay slots history))

one_follows : (count slots reading : ℕ) (act : Act) (history : List Entry) → Legal slots history → reading < 2 ^ 50 → ActAsked slots act
    → ((e : Entry) → Legal slots (e ∷ history) → FollowsAll count slots reading (e ∷ history))
    → NoneStops slots reading (with_next count reading (replay slots history) (Some act)) history → Follows slots reading history (with_next count reading (replay slots history) (Some act))
one_follows count slots reading act history legal less asked rest stops =
    let e = entry_of slots (event_of reading act) history in
    let now = next_leaves slots reading act history in
    let more : NoneStops slots reading (coordinated count reading (replay slots (e ∷ history))) (e ∷ history) = subst (λ ps. NoneStops slots reading (coordinated count reading ps) (e ∷ history)) (sym now) stops.1 in
    let f = rest e (legal, step_of slots reading act history less asked stops.0) more in
    subst (λ ps. Follows slots reading (e ∷ history) (coordinated count reading ps) → Follows slots reading history (act ∷ coordinated count reading (after_act reading act (replay slots history)))) now
    (λ g. record {
      legal = subst (λ ps. Legal slots (history_after slots reading (coordinated count reading ps) (e ∷ history))) now g.legal;
      leaves = subst (λ ps. replay slots (history_after slots reading (coordinated count reading ps) (e ∷ history)) ≡ after_acts reading (coordinated count reading ps) ps) now f.leaves;
    })
    (subst (λ ps. Follows slots reading (e ∷ history) (coordinated count reading ps)) now f)

all_follow : (count slots reading : ℕ) (history : List Entry) → Legal slots history → reading < 2 ^ 50 → FollowsAll count slots reading history
all_follow zero slots reading history legal less = λ stops. record { legal = legal; leaves = refl }
all_follow (suc count) slots reading history legal less = none_or_some (next_act (replay slots history))
    (λ none. subst (λ found. NoneStops slots reading (with_next count reading (replay slots history) found) history → Follows slots reading history (with_next count reading (replay slots history) found)) (sym none)
    (λ stops. record { legal = legal; leaves = refl }))
    (λ act some. subst (λ found. NoneStops slots reading (with_next count reading (replay slots history) found) history → Follows slots reading history (with_next count reading (replay slots history) found)) (sym some)
    (let h = left_of slots history legal in
    one_follows count slots reading act history legal less (fit_of (next_act (replay slots history)) slots act some (next_fits slots (replay slots history) h.activity h.changes h.count h.inv))
    (λ e legal_then. all_follow count slots reading (e ∷ history) legal_then less)))

pub settle_follows : (slots reading : ℕ) (history : List Entry) → Legal slots history → reading < 2 ^ 50 → SettleRuns slots reading history → Follows slots reading history (settle reading (replay slots history))
settle_follows slots reading history legal less runs = all_follow (left (replay slots history).master) slots reading history legal less runs

-- What is finished

pub none_left : (slots reading : ℕ) (history : List Entry) → Legal slots history → reading < 2 ^ 50 → SettleRuns slots reading history → unfinished_records (replay slots (settled slots reading history)).master ≡ []
none_left slots reading history legal less runs =
    ap (λ ps. unfinished_records ps.master) (settle_follows slots reading history legal less runs).leaves ∙ (settles slots reading (replay slots history) (left_of slots history legal)).finished

by_tests : (b : Bool) → (b ≡ false → ⊥) → b ≡ true
by_tests true h = refl
by_tests false h = absurd (h refl)

snapshot_done : (m : Master) → unfinished_records m ≡ [] → (r : SnapshotRecord) → In r m.snapshots → r.complete ≡ true
snapshot_done m none r isin = by_tests r.complete (λ still. subst (In (snapshot_progress r)) none
    (in_first (map snapshot_progress (filter (λ q. not q.complete) m.snapshots) ++ map (restoration_progress m) (filter (λ q. not (is_restored q.state)) m.restorations)) _ _
    (in_first (map snapshot_progress (filter (λ q. not q.complete) m.snapshots)) _ _ (map_in snapshot_progress (filter (λ q. not q.complete) m.snapshots) r (in_filter m.snapshots (λ q. not q.complete) r isin (ap not still))))))

pub restoration_done : (m : Master) → unfinished_records m ≡ [] → (r : RestorationRecord) → In r m.restorations → is_restored r.state ≡ true
restoration_done m none r isin = by_tests (is_restored r.state) (λ still. subst (In (restoration_progress m r)) none
    (in_first (map snapshot_progress (filter (λ q. not q.complete) m.snapshots) ++ map (restoration_progress m) (filter (λ q. not (is_restored q.state)) m.restorations)) _ _
    (in_second (map snapshot_progress (filter (λ q. not q.complete) m.snapshots)) _ _ (map_in (restoration_progress m) (filter (λ q. not (is_restored q.state)) m.restorations) r (in_filter m.restorations (λ q. not (is_restored q.state)) r isin (ap not still))))))

clone_done : (m : Master) → unfinished_records m ≡ [] → (r : CloneRecord) → In r m.clones → is_cloned r.state ≡ true
clone_done m none r isin = by_tests (is_cloned r.state) (λ still. subst (In (clone_progress m r)) none
    (in_second (map snapshot_progress (filter (λ q. not q.complete) m.snapshots) ++ map (restoration_progress m) (filter (λ q. not (is_restored q.state)) m.restorations)) _ _
    (map_in (clone_progress m) (filter (λ q. not (is_cloned q.state)) m.clones) r (in_filter m.clones (λ q. not (is_cloned q.state)) r isin (ap not still)))))

-- what was accepted was so before a settle's entries

restores_stay : (acts : List Act) (slots reading : ℕ) (history : List Entry) (asked : RestoreAsked) → In asked (restores_asked slots history) → In asked (restores_asked slots (history_after slots reading acts history))
unfolding restores_asked
restores_stay [] slots reading history asked isin = isin
restores_stay (act ∷ acts) slots reading history asked isin = restores_stay acts slots reading (entry_of slots (event_of reading act) history ∷ history) asked (in_second _ (restores_asked slots history) asked isin)

clones_stay : (acts : List Act) (slots reading : ℕ) (history : List Entry) (asked : CloneAsked) → In asked (clones_asked slots history) → In asked (clones_asked slots (history_after slots reading acts history))
unfolding clones_asked
clones_stay [] slots reading history asked isin = isin
clones_stay (act ∷ acts) slots reading history asked isin = clones_stay acts slots reading (entry_of slots (event_of reading act) history ∷ history) asked (in_second _ (clones_asked slots history) asked isin)

pub snapshots_finished : (slots reading : ℕ) (history : List Entry) → Legal slots history → reading < 2 ^ 50 → SettleRuns slots reading history → (r : SnapshotRecord) → In r (replay slots (settled slots reading history)).master.snapshots → r.complete ≡ true
snapshots_finished slots reading history legal less runs = snapshot_done (replay slots (settled slots reading history)).master (none_left slots reading history legal less runs)

restored_once : (state : RestorationState) (ns : Id) (to : ℕ) → is_restored state ≡ true → (point : ℕ) × (restored_by state ns to ≡ one_restore point ns to)
restored_once (Restored point serving) ns to e = (point, refl)
restored_once _ ns to e = cc

pub restore_finished : (slots reading : ℕ) (history : List Entry) (asked : RestoreAsked) → Legal slots history → reading < 2 ^ 50 → SettleRuns slots reading history → In asked (restores_asked slots history) → RestoreFinished slots (settled slots reading history) asked
restore_finished slots reading history asked legal less runs isin =
    let f = settle_follows slots reading history legal less runs in
    let once = restores_once (settled slots reading history) slots f.legal asked (restores_stay (settle reading (replay slots history)) slots reading history asked isin) in
    let done = restoration_done (replay slots (settled slots reading history)).master (none_left slots reading history legal less runs) once.restoration once.kept in
    let one = restored_once once.restoration.state once.restoration.namespace asked.to done in
    record { once = once; finished = done; point = one.0; alone = once.restored ∙ one.1 }

pub clone_finished : (slots reading : ℕ) (history : List Entry) (asked : CloneAsked) → Legal slots history → reading < 2 ^ 50 → SettleRuns slots reading history → In asked (clones_asked slots history) → CloneFinished slots (settled slots reading history) asked
clone_finished slots reading history asked legal less runs isin =
    let f = settle_follows slots reading history legal less runs in
    let once = clones_once (settled slots reading history) slots f.legal asked (clones_stay (settle reading (replay slots history)) slots reading history asked isin) in
    record { once = once; finished = clone_done (replay slots (settled slots reading history)).master (none_left slots reading history legal less runs) once.clone once.kept }
