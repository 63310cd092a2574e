-- A restore by a known schedule, of a namespace that no operation uses, is refused exactly outside the window; and one that is
-- accepted comes to its end by a settle, with its namespace as at the time.
use Rattle.std.proofs.Common.{ℕ, ◌≡◌, ◌≤◌, ◌<◌, ◌^◌, zero, suc, List, [], ◌∷◌, ◌++◌, Bool, true, false, Option, Some, None, inl, inr, refl, sym, ap, subst, ◌∙◌, arith, ltb, leb, ltb-true, leb-true}
use Rattle.std.proofs.lemmas.Bool.Decides.{nat_tests}
use Rattle.model.specs.Catalog.{Owner}
use Rattle.model.specs.Tablets.{Fence}
use Rattle.model.specs.Lists.{listing, active_tablets}
use Rattle.std.specs.Option.{is_some, ok_or, option_map}
use Rattle.row_values.specs.Ids.{Id}
use Rattle.row_values.specs.Elements.{In}
use Rattle.model.specs.Journal.{Change as Made}
use Rattle.model.specs.Records.{Schedule, RestorationRecord, Fencing, schedule_with}
use Rattle.model.specs.Schedules.{low}
use Rattle.model.specs.Operations.{user}
use Rattle.model.specs.Acts.{Act, Command, Change, Restore, Ok, Refused, TooEarly, Future, UnknownSchedule, Busy}
use Rattle.model.specs.Parts.{Master, Parts, Outcome, If, Names, BeginsRestoration, checked, decided, either, refusal_in}
use Rattle.model.specs.Looks.{plan_of}
use Rattle.model.specs.Changes.{accepts, change, restore, restore_checks}
use Rattle.model.specs.Changed.{restoration_begun, next_restoration}
use Rattle.model.specs.Windows.{MayRestore}
use Rattle.model.specs.Work.{next_act}
use Rattle.model.specs.Entries.{Entry}
use Rattle.model.specs.History.{Legal, activity_of, entry_of, journal_of, outcome, replay, told, with_changes}
use Rattle.model.specs.Settling.{event_of, left, coordinated, after_act, stamp_under}
use Rattle.law_invariants.proofs.Finding.{in_append, in_second, none_or_some}
use Rattle.law_invariants.proofs.Using.{not_used}
use Rattle.law.proofs.Law.{legal_holds}
use Rattle.model.specs.Acts.{ARestoration}
use Rattle.model.specs.Drawn.{ids_made}
use Rattle.model.specs.Once.{RestoreAsked, asked_by, restores_asked, restores_in}
use Rattle.law_drive.specs.Settled.{ByWindow, CameBack, Served, SettleRuns, settled, history_after, NoneStops}
use Rattle.law_drive.proofs.Choosing.{choice}
use Rattle.law_drive.proofs.Coming.{left_of, fit_of, with_next}
use Rattle.law_drive.proofs.Settled.{step_of, next_leaves, settle_follows, none_left, restoration_done, restore_finished}
use Rattle.law_drive.proofs.Back.{OnItsWay, act_on, came_back, inside_now}
use Rattle.law.proofs.Working.{next_fits}

-- What a restore finds

-- its outcome, by the operation that uses the namespace, and whether the time is before the window or not over yet
abbrev outcome_by : Option Id → Bool → Bool → Schedule → ℕ → ℕ → Master → Outcome
outcome_by used early late s to n m =
    decided (either (refusal_in (Names used Busy ∷ If early (TooEarly (low s n)) ∷ If late (Future n) ∷ [])) s) (λ s. accepts (BeginsRestoration s to) [] (next_restoration m ∷ []))

restore_is : (m : Master) (schedule : Id) (to n : ℕ) (may : MayRestore m schedule) → restore schedule to n m ≡ outcome_by None (ltb to (low may.by n)) (leb n to) may.by to n m
unfolding restore
restore_is m schedule to n may =
    ap (λ found. decided (checked (ok_or found UnknownSchedule) (λ s. restore_checks s to n m)) (λ s. accepts (BeginsRestoration s to) [] (next_restoration m ∷ []))) may.known
    ∙ ap (λ used. outcome_by used (ltb to (low may.by n)) (leb n to) may.by to n m) may.unused

-- under its plan a restore is answered so
changed_is : (ps : Parts) (schedule : Id) (to n : ℕ) → outcome (Change (Restore schedule to) []) n ps ≡ restore schedule to n ps.master
unfolding change plan_of
changed_is ps schedule to n = refl

answer_is : (slots : ℕ) (e : Entry) (history : List Entry) (schedule : Id) (to : ℕ) → Legal slots (e ∷ history) → e.event.act ≡ Change (Restore schedule to) [] → (may : MayRestore (replay slots history).master schedule)
    → outcome e.event.act e.stamp (replay slots history) ≡ outcome_by None (ltb to (low may.by e.stamp)) (leb e.stamp to) may.by to e.stamp (replay slots history).master
answer_is slots e history schedule to legal is may =
    ap (λ a. outcome a e.stamp (replay slots history)) is ∙ changed_is (replay slots history) schedule to e.stamp ∙ restore_is (replay slots history).master schedule to e.stamp may

-- The window

by_tests : (early late : Bool) (s : Schedule) (to n : ℕ) (m : Master) → ltb to (low s n) ≡ early → leb n to ≡ late → ByWindow (outcome_by None early late s to n m).reply (low s n) n to
by_tests true late s to n m a b = record {
  inside = λ w. absurd (let less = ltb-true to (low s n) a in let le = w.0 in omega (arith, less, le));
  outside = λ none. inl refl;
}
by_tests false true s to n m a b = record {
  inside = λ w. absurd (let le = leb-true n to b in let less = w.1 in omega (arith, less, le));
  outside = λ none. inr refl;
}
by_tests false false s to n m a b = record {
  inside = λ w. (next_restoration m, refl);
  outside = λ none. absurd (none (reached to (low s n) a, over n to b));
}
  where
    reached : (x y : ℕ) → ltb x y ≡ false → y ≤ x
    reached x y e = grind (arith, nat_tests)

    over : (x y : ℕ) → leb x y ≡ false → y < x
    over x y e = grind (arith, nat_tests)

pub by_window : (slots : ℕ) (e : Entry) (history : List Entry) (schedule : Id) (to : ℕ) → Legal slots (e ∷ history) → e.event.act ≡ Change (Restore schedule to) [] → (may : MayRestore (replay slots history).master schedule)
    → ByWindow e.reply (low may.by e.stamp) e.stamp to
by_window slots e history schedule to legal is may =
    subst (λ reply. ByWindow reply (low may.by e.stamp) e.stamp to) (sym (legal.1.reply ∙ ap (λ o. o.reply) (answer_is slots e history schedule to legal is may)))
    (by_tests (ltb to (low may.by e.stamp)) (leb e.stamp to) may.by to e.stamp (replay slots history).master refl refl)

-- The start

-- an accepted one begins a restoration
begins_by : (early late : Bool) (s : Schedule) (to n : ℕ) (m : Master) (operation : Id) → (outcome_by None early late s to n m).reply ≡ Ok (operation ∷ [])
    → (outcome_by None early late s to n m ≡ accepts (BeginsRestoration s to) [] (next_restoration m ∷ [])) × (next_restoration m ≡ operation)
begins_by true late s to n m operation e = absurd (let q : Refused (TooEarly (low s n)) ≡ Ok (operation ∷ []) = e in grind arith)
begins_by false true s to n m operation e = absurd (let q : Refused (Future n) ≡ Ok (operation ∷ []) = e in grind arith)
begins_by false false s to n m operation e = (refl, one_made (next_restoration m) operation e)
  where
    one_made : (a b : Id) → Ok (a ∷ []) ≡ Ok (b ∷ []) → a ≡ b
    one_made a b e = cc

begun_master : (slots : ℕ) (e : Entry) (history : List Entry) (command : Command) (s : Schedule) (to : ℕ) (made : List Id) → e.event.act ≡ Change command [] → outcome e.event.act e.stamp (replay slots history) ≡ accepts (BeginsRestoration s to) [] made
    → (replay slots (e ∷ history)).master ≡ restoration_begun s to e.stamp (replay slots history).master
unfolding replay
begun_master slots e history command s to made is o =
    ap (λ k. (told e.event.act k e.stamp (replay slots history)).master) o
    ∙ ap (λ a. (told a (accepts (BeginsRestoration s to) [] made) e.stamp (replay slots history)).master) is

begun_on : (m : Master) (s : Schedule) (to n : ℕ) (operation : Id) (changes : List Made) → user m s.namespace ≡ None → next_restoration m ≡ operation
    → OnItsWay m.catalog.owners s.namespace to operation changes (restoration_begun s to n m) changes
begun_on m s to n operation changes unused made =
    let free = not_used m s.namespace (ap is_some unused) in
    let r : RestorationRecord = record { id = next_restoration m; schedule = s.id; namespace = s.namespace; to = to; listed = listing Fence (active_tablets m.catalog.owners m.activity s.namespace); state = Fencing } in
    record {
      owners = refl;
      alone = λ q isin is unfinished. elim (in_append m.restorations (r ∷ []) q isin) as (λ _. (q.id ≡ operation) × (q.to ≡ to)) [
        | inl old ↦ absurd (free.restoration q old unfinished is)
        | inr new ↦ only q new
      ];
      then_tables = λ id mine. refl;
      then_rows = λ id key mine. refl;
      shown = inl (r, (in_second m.restorations (r ∷ []) r (inl refl), (made, (refl, refl))));
    }
  where
    only : (q : RestorationRecord) → In q (record { id = next_restoration m; schedule = s.id; namespace = s.namespace; to = to; listed = listing Fence (active_tablets m.catalog.owners m.activity s.namespace); state = Fencing } ∷ []) → (q.id ≡ operation) × (q.to ≡ to)
    only q (inl e) = (ap (λ k. k.id) (sym e) ∙ made, ap (λ k. k.to) (sym e))
    only q (inr none) = absurd none

-- The way

next_journal : (slots reading : ℕ) (act : Act) (history : List Entry)
    → journal_of slots (entry_of slots (event_of reading act) history ∷ history) ≡ with_changes act (outcome act (stamp_under reading act (replay slots history)) (replay slots history)) (stamp_under reading act (replay slots history)) (replay slots history) (journal_of slots history)
unfolding journal_of entry_of
next_journal slots reading act history = refl

module _ (os : List Owner) (ns : Id) (to : ℕ) (operation : Id) (before : List Made) (slots reading : ℕ) (less : reading < 2 ^ 50) where
  abbrev OnWay : List Entry → Type 0
  OnWay history = OnItsWay os ns to operation before (replay slots history).master (journal_of slots history)

  abbrev WayFrom : ℕ → List Entry → List Act → Type 0
  WayFrom count history acts = NoneStops slots reading acts history → OnWay history → OnWay (history_after slots reading acts history)

  all_way : (count : ℕ) (history : List Entry) → Legal slots history → WayFrom count history (coordinated count reading (replay slots history))
  all_way zero history legal = λ stops way. way
  all_way (suc count) history legal = none_or_some (next_act (replay slots history))
      (λ none. subst (λ found. WayFrom count history (with_next count reading (replay slots history) found)) (sym none) (λ stops way. way))
      (λ act some. subst (λ found. WayFrom count history (with_next count reading (replay slots history) found)) (sym some)
      (λ stops way.
      let ps = replay slots history in
      let h = left_of slots history legal in
      let inv = (legal_holds history slots legal).inv in
      let e = entry_of slots (event_of reading act) history in
      let now = next_leaves slots reading act history in
      let asked = fit_of (next_act ps) slots act some (next_fits slots ps h.activity h.changes h.count h.inv) in
      let one : OnWay (e ∷ history) = subst (λ k. OnItsWay os ns to operation before k.master (journal_of slots (e ∷ history))) (sym now)
      (subst (λ changes. OnItsWay os ns to operation before (after_act reading act ps).master changes) (sym (next_journal slots reading act history))
      (act_on os ns to operation before ps (activity_of slots history) (journal_of slots history) reading act inv (choice ps act some) way)) in
      subst (λ k. WayFrom count (e ∷ history) (coordinated count reading k)) now (all_way count (e ∷ history) (legal, step_of slots reading act history less asked stops.0)) stops.1 one))

pub restored_by_settle : (slots reading : ℕ) (e : Entry) (history : List Entry) (schedule operation : Id) (to : ℕ) → Legal slots (e ∷ history) → reading < 2 ^ 50 → e.event.act ≡ Change (Restore schedule to) [] → (may : MayRestore (replay slots history).master schedule)
    → e.reply ≡ Ok (operation ∷ []) → SettleRuns slots reading (e ∷ history) → CameBack (journal_of slots (settled slots reading (e ∷ history))) (journal_of slots (e ∷ history)) may.by.namespace to
restored_by_settle slots reading e history schedule operation to legal less is may reply runs =
    let m = (replay slots history).master in
    let answer = answer_is slots e history schedule to legal is may in
    let begins = begins_by (ltb to (low may.by e.stamp)) (leb e.stamp to) may.by to e.stamp m operation (ap (λ o. o.reply) (sym answer) ∙ sym legal.1.reply ∙ reply) in
    let begun = begun_master slots e history (Restore schedule to) may.by to (next_restoration m ∷ []) is (answer ∙ begins.0) in
    let os = m.catalog.owners in
    let ns = may.by.namespace in
    let before = journal_of slots (e ∷ history) in
    let now : OnItsWay os ns to operation before (replay slots (e ∷ history)).master before = subst (λ k. OnItsWay os ns to operation before k before) (sym begun) (begun_on m may.by to e.stamp operation before may.unused begins.1) in
    let after = settled slots reading (e ∷ history) in
    let end_ = all_way os ns to operation before slots reading less (left (replay slots (e ∷ history)).master) (e ∷ history) legal runs now in
    let follows = settle_follows slots reading (e ∷ history) legal less runs in
    let inv_now = (legal_holds (e ∷ history) slots legal).inv in
    let inv_end = (legal_holds after slots follows.legal).inv in
    came_back os ns to operation before (replay slots after).master (journal_of slots after)
    (inside_now os ns to operation before (replay slots after) (activity_of slots after) (journal_of slots after) inv_end end_.owners)
    (inside_now os ns to operation before (replay slots (e ∷ history)) (activity_of slots (e ∷ history)) before inv_now now.owners)
    (restoration_done (replay slots after).master (none_left slots reading (e ∷ history) legal less runs)) end_

-- The service

asked_now : (slots : ℕ) (e : Entry) (history : List Entry) (schedule operation : Id) (by : Schedule) (to : ℕ) → e.event.act ≡ Change (Restore schedule to) [] → e.reply ≡ Ok (operation ∷ []) → schedule_with (replay slots history).master.schedules schedule ≡ Some by
    → In (record { operation = operation; schedule = schedule; namespace = Some by.namespace; to = to }) (restores_asked slots (e ∷ history))
unfolding restores_asked
asked_now slots e history schedule operation by to is reply known =
    let m = (replay slots history).master in
    let earlier = restores_asked slots history in
    let asked : RestoreAsked = record { operation = operation; schedule = schedule; namespace = Some by.namespace; to = to } in
    subst (λ a. In asked (restores_in (asked_by a) (ids_made e.reply) m ++ earlier)) (sym is)
    (subst (λ r. In asked (restores_in (ARestoration schedule to) (ids_made r) m ++ earlier)) (sym reply)
    (inl (ap (λ ns. record { operation = operation; schedule = schedule; namespace = ns; to = to }) (ap (λ found. option_map {T = Schedule} (λ s. s.namespace) found) known))))

pub served : (slots : ℕ) (e : Entry) (history : List Entry) (schedule : Id) (to : ℕ) → Legal slots (e ∷ history) → e.event.act ≡ Change (Restore schedule to) [] → (may : MayRestore (replay slots history).master schedule) → Served slots e history schedule may.by to
served slots e history schedule to legal is may = record {
  answer = by_window slots e history schedule to legal is may;
  finished = λ operation reading reply less runs. restore_finished slots reading (e ∷ history) _ legal less runs (asked_now slots e history schedule operation may.by to is reply may.known);
  back = λ operation reading reply less runs. restored_by_settle slots reading e history schedule operation to legal less is may reply runs;
}
