-- A restore and a clone are refused exactly where a cause holds, with its values, and are accepted where none does.
use Rattle.std.proofs.Common.{suc, cond, le-leb, lt-ltb, le_trans, ℕ, ◌≡◌, ◌≤◌, ◌<◌, ◌+◌, List, [], ◌∷◌, Option, Some, None, Bool, true, false, ◌&&◌, not, inl, inr, refl, sym, ap, subst, ◌∙◌, arith, eqb, eqb-true, leb, ltb, leb-true, ltb-true, ltb-false, leb-false, le_of_lt, length, is_some}
use Rattle.std.proofs.lemmas.Bool.{true≢false}
use Rattle.std.proofs.lemmas.Bool.Decides.{nat_tests}
use Rattle.std.specs.Option.{option_map, option_or, ok_or}
use Rattle.std.specs.Str.{bytes_eq}
use Rattle.std.specs.List.{filter}
use Rattle.row_values.specs.Ids.{Id, same}
use Rattle.row_values.specs.Elements.{In, put_in, in_order}
use Rattle.model.specs.Catalog.{Owner, namespace_named, owner_of, owns, is_owned_by}
use Rattle.model.specs.Activity.{Interval, active_at}
use Rattle.model.specs.Journal.{Change, TableView, is_in, table_at}
use Rattle.model.specs.Records.{Schedule, RestorationRecord, CloneRecord, is_visible, schedule_with}
use Rattle.model.specs.Schedules.{floor, low, least_low}
use Rattle.model.specs.Operations.{clone_with, restoration_of, time_of_user, user}
use Rattle.model.specs.Acts.{Refusal, UnknownNamespace, UnknownSchedule, Busy, NoSchedule, NameTaken, TooMany, TooEarly, Future, SlotsFull}
use Rattle.model.specs.Looks.{free_slots}
use Rattle.model.specs.Lists.{tablets_active_at}
use Rattle.model.specs.Changed.{next_restoration, next_clone, sources, clone_time}
use Rattle.model.specs.Changes.{accepts, named, clone_named, count_namespaces, most_namespaces, restore, restore_checks, clone_namespace, clone_checks, unused_checks, CloneSource, source_from, with_window}
use Rattle.model.specs.Parts.{Master, Parts, Check, If, Outcome, BeginsRestoration, BeginsClone, refusal_in, either, checked, decided}
use Rattle.model.specs.Cleanup.{floor_of}
use Rattle.model.specs.Right.{NamespaceFound}
use Rattle.model.specs.Stands.{HasRange, holders}
use Rattle.model.specs.Windows.{MayRestore, RestoreAnswer, RestoreUnknown, RestoreBusy, RestoreEarly, RestoreLate, RestoreAccepted, IsReserved, HasName, AreSoMany, count_active, CloneLook, MayTakeFrom, MayClone, CloneAnswer, CloneUnknown, CloneBusy, CloneUnscheduled, CloneNamed, CloneTooMany, CloneEarly, CloneLate, CloneFull, CloneAccepted}
use Rattle.law_store.proofs.Keys.{either_way, equal_keys, key_self}
use Rattle.law_invariants.specs.Invariant.{Inv}
use Rattle.law_invariants.specs.Remembered.{IsPartOf}
use Rattle.law_invariants.proofs.Finding.{both_pass, passes_both, first_fails, second_fails, none_or_some, not_passing, same_equal, same_self}
use Rattle.law_invariants.proofs.Judging.{step_if, step_names}
use Rattle.law_invariants.proofs.Overlap.{holds, one_holder}
use Rattle.law_invariants.proofs.Parting.{part_in}
use Rattle.law_invariants.proofs.Remembering.{floor_rises, never_forgotten}
use Rattle.law_invariants.proofs.Ticking.{not_true}
use Rattle.law_answers.proofs.Naming.{RecordsApart, current_in, ids_of, ids_long, current_namespaces}
use Rattle.law_answers.proofs.Looking.{IsAsked, asked, no_namespace, namespace_found}

-- Restores

restore_by : (found : Option Schedule) (schedule : Id) (to n : ℕ) (m : Master) → schedule_with m.schedules schedule ≡ found
    → RestoreAnswer schedule to n m (decided (checked (ok_or found UnknownSchedule) (λ s. restore_checks s to n m)) (λ s. accepts (BeginsRestoration s to) [] (next_restoration m ∷ []))).reply
restore_by None schedule to n m e = RestoreUnknown e
restore_by (Some s) schedule to n m e =
    let P : Option Refusal → Type 0 = λ why. RestoreAnswer schedule to n m (decided (either why s) (λ s. accepts (BeginsRestoration s to) [] (next_restoration m ∷ []))).reply in
    let future : List Check = If (leb n to) (Future n) ∷ [] in
    let early : List Check = If (ltb to (low s n)) (TooEarly (low s n)) ∷ future in
    step_names P (user m s.namespace) Busy early (λ by used. RestoreBusy by s e used)
    (λ unused. let may : MayRestore m schedule = record { by = s; known = e; unused = unused } in
    step_if P (ltb to (low s n)) (TooEarly (low s n)) future (λ below. RestoreEarly (low s n) may refl (ltb-true to (low s n) below))
    (λ from. step_if P (leb n to) (Future n) [] (λ beyond. RestoreLate n may refl (ltb-false to (low s n) from) (leb-true n to beyond))
    (λ before. RestoreAccepted (next_restoration m) may (ltb-false to (low s n) from, leb-false n to before))))

pub restore_answered : (schedule : Id) (to n : ℕ) (m : Master) → RestoreAnswer schedule to n m (restore schedule to n m).reply
unfolding restore
restore_answered schedule to n m = restore_by (schedule_with m.schedules schedule) schedule to n m refl

-- Names

-- the count of namespaces is that of the current records and of the clones that are to make one
so_many : (ps : Parts) (activity : List Interval) (changes : List Change) (n : ℕ) → ps.master.clock < n → Inv ps activity changes → RecordsApart ps.master.catalog.namespaces → AreSoMany changes n ps.master.clones (count_namespaces ps.master)
so_many ps activity changes n before inv apart =
    let m = ps.master in
    let rs = m.catalog.namespaces in record {
      current = ids_of (current_in rs);
      are = current_namespaces rs m.clock m.drawn.namespaces n changes (le_of_lt before) inv.master.namespaces apart;
      count_is = ap (λ c. c + length (filter (λ c. not (is_visible c.state)) m.clones)) (sym (ids_long rs));
    }

clone_reserved : (cs : List CloneRecord) (name : List ℕ) (id : Id) → clone_named cs name ≡ Some id → IsReserved cs name id
clone_reserved [] name id e = absurd (let q = e in grind arith)
clone_reserved (c ∷ cs) name id e = either_way (bytes_eq c.target name && not (is_visible c.state))
    (λ b. let is : Some c.id ≡ Some id = rw b at e in
    let both = both_pass (bytes_eq c.target name) (not (is_visible c.state)) b in
    record { clone = c; listed = inl refl; id_is = (let k : c.id ≡ id = cc in k); named = equal_keys c.target name both.0; unseen = not_true (is_visible c.state) both.1 })
    (λ b. let rest = clone_reserved cs name id (rw b at e) in record { clone = rest.clone; listed = inr rest.listed; id_is = rest.id_is; named = rest.named; unseen = rest.unseen })

not_reserved : (cs : List CloneRecord) (name : List ℕ) (c : CloneRecord) → clone_named cs name ≡ None → In c cs → c.target ≡ name → is_visible c.state ≡ false → ⊥
not_reserved [] name c e isin is unseen = isin
not_reserved (d ∷ ds) name c e isin is unseen = either_way (bytes_eq d.target name && not (is_visible d.state))
    (λ b. let q : Some d.id ≡ None = rw b at e in grind arith)
    (λ b. elim isin [
      | inl same_ ↦ true≢false (sym (passes_both _ _ (ap (λ k. bytes_eq k name) (ap (λ k. k.target) same_ ∙ is) ∙ key_self name) (ap not (ap (λ k. is_visible k.state) same_ ∙ unseen))) ∙ b)
      | inr rest ↦ not_reserved ds name c (rw b at e) rest is unseen
    ])

has_name : (m : Master) (n : ℕ) (changes : List Change) (name : List ℕ) (id : Id) → IsAsked m n changes → named m name ≡ Some id → HasName changes n m.clones name id
has_name m n changes name id h e = none_or_some (namespace_named m.catalog.namespaces name)
    (λ none. inr (clone_reserved m.clones name id (sym (ap (λ o. option_or o (clone_named m.clones name)) none) ∙ e)))
    (λ k some. let is : Some k ≡ Some id = sym (ap (λ o. option_or o (clone_named m.clones name)) some) ∙ e in
    inl (namespace_found m n changes name id h (some ∙ is)))

no_name : (m : Master) (n : ℕ) (changes : List Change) (name : List ℕ) (id : Id) → IsAsked m n changes → named m name ≡ None → HasName changes n m.clones name id → ⊥
no_name m n changes name id h e has = none_or_some (namespace_named m.catalog.namespaces name)
    (λ none. elim has [
      | inl viewed ↦ no_namespace m n changes name h none (record { id = id; named = viewed })
      | inr r ↦ not_reserved m.clones name r.clone (sym (ap (λ o. option_or o (clone_named m.clones name)) none) ∙ e) r.listed r.named r.unseen
    ])
    (λ k some. let q : Some k ≡ None = sym (ap (λ o. option_or o (clone_named m.clones name)) some) ∙ e in grind arith)

-- Sources

put_long : {A : Type 0} (before : A → A → Bool) (x : A) (xs : List A) → length (put_in before x xs) ≡ length xs + 1
put_long before x [] = refl
put_long before x (y ∷ ys) = either_way (before y x) (λ b. let rest = put_long before x ys in rw b (omega (arith, rest))) (λ b. rw b (omega arith))

order_long : {A : Type 0} (before : A → A → Bool) (xs : List A) → length (in_order before xs) ≡ length xs
order_long before [] = refl
order_long before (x ∷ xs) = let rest = order_long before xs in put_long before x (in_order before xs) ∙ (omega (arith, rest))

-- at a time, the view has a tablet's table in the namespace that owns it
abbrev OwnedThen : List Owner → List Change → Id → ℕ → Interval → Type 0
OwnedThen owners changes ns to i = active_at to i ≡ true → is_in ns (table_at changes to i.table) ≡ owns owners ns i.table

filters_agree : (is : List Interval) (owners : List Owner) (changes : List Change) (ns : Id) (to : ℕ) → ((i : Interval) → In i is → OwnedThen owners changes ns to i)
    → filter (λ i. active_at to i && is_in ns (table_at changes to i.table)) is ≡ filter (active_at to) (filter (λ i. owns owners ns i.table) is)
filters_agree [] owners changes ns to each = refl
filters_agree (i ∷ is) owners changes ns to each =
    let rest = filters_agree is owners changes ns to (λ j isin. each j (inr isin)) in
    either_way (active_at to i)
    (λ a. let mine = each i (inl refl) a in
    either_way (owns owners ns i.table)
    (λ o. let here : (active_at to i && is_in ns (table_at changes to i.table)) ≡ true = passes_both _ _ a (mine ∙ o) in rw (here, o, a) (ap (λ k. i ∷ k) rest))
    (λ o. let here : (active_at to i && is_in ns (table_at changes to i.table)) ≡ false = second_fails (active_at to i) _ (mine ∙ o) in rw (here, o) rest))
    (λ a. let here : (active_at to i && is_in ns (table_at changes to i.table)) ≡ false = first_fails (active_at to i) _ a in
    either_way (owns owners ns i.table) (λ o. rw (here, o, a) rest) (λ o. rw (here, o) rest))

-- no tablet of these is in the list twice
abbrev EachOnce : (Interval → Bool) → List Interval → Type 0
EachOnce test [] = Unit {0}
EachOnce test (j ∷ js) = (test j ≡ true → In j js → ⊥) × EachOnce test js

-- a tablet that is active at a time holds its first code alone
once_then : (js : List Interval) (test : Interval → Bool) (x : ℕ) → ((j : Interval) → test j ≡ true → active_at x j ≡ true) → ((table : Id) (code : ℕ) → code < 65536 → holders js table code x ≤ 1) → ((j : Interval) → In j js → HasRange j) → EachOnce test js
once_then [] test x active once ranges = tt
once_then (j ∷ js) test x active once ranges = (
  λ passes again.
      let r = ranges j (inl refl) in
      let here : holds j j.table j.low x ≡ true = passes_both (same j.table j.table) _ (same_self j.table) (passes_both (active_at x j) _ (active j passes) (passes_both (leb j.low j.low) (ltb j.low j.high) (le-leb j.low j.low (omega arith)) (lt-ltb j.low j.high r.0))) in
      let one = one_holder js j j.table j.low x again here in
      let all : cond (holds j j.table j.low x) 1 0 + holders js j.table j.low x ≤ 1 = once j.table j.low (omega (arith, r.0, r.1)) in
      let two : 1 + holders js j.table j.low x ≤ 1 = rw here at all in
      omega (arith, one, two),
  once_then js test x active (λ table code below. let all : cond (holds j table code x) 1 0 + holders js table code x ≤ 1 = once table code below in omega (arith, all)) (λ k isin. ranges k (inr isin)),
)

-- a part of a list has as many of these as the list, where it has each of them
same_count : (test : Interval → Bool) (js is : List Interval) → IsPartOf is js → EachOnce test js → ((j : Interval) → In j js → test j ≡ true → In j is) → length (filter test js) ≡ length (filter test is)
same_count test [] [] h once each = refl
same_count test [] (i ∷ is) h once each = absurd h
same_count test (j ∷ js) [] h once each =
    let out = not_passing (test j) (λ passes. each j (inl refl) passes) in
    rw out (same_count test js [] tt once.1 (λ k isin passes. each k (inr isin) passes))
same_count test (j ∷ js) (i ∷ is) (inl h) once each =
    let rest = same_count test js is h.1 once.1 (λ k isin passes. elim (each k (inr isin) passes) [
      | inl e ↦ absurd (let same_ : j ≡ k = sym h.0 ∙ e in once.0 (ap test same_ ∙ passes) (subst (λ l. In l js) (sym same_) isin))
      | inr there ↦ there
    ]) in
    either_way (test j)
    (λ b. let k : test i ≡ true = ap test h.0 ∙ b in rw b (rw k (ap suc rest)))
    (λ b. let k : test i ≡ false = ap test h.0 ∙ b in rw b (rw k rest))
same_count test (j ∷ js) (i ∷ is) (inr h) once each =
    let out = not_passing (test j) (λ passes. once.0 passes (part_in js (i ∷ is) j h (each j (inl refl) passes))) in
    rw out (same_count test js (i ∷ is) h once.1 (λ k isin passes. each k (inr isin) passes))

-- from the floor on the master has all of them
needed : (ps : Parts) (activity : List Interval) (changes : List Change) (ns : Id) (n to : ℕ) → ps.master.clock < n → Inv ps activity changes → floor_of ps.master ns n ≤ to → count_active changes activity ns to ≡ length (sources ps.master ns to)
needed ps activity changes ns n to before inv low =
    let m = ps.master in
    let test : Interval → Bool = λ i. active_at to i && is_in ns (table_at changes to i.table) in
    let owned : (i : Interval) → In i m.activity → OwnedThen m.catalog.owners changes ns to i = λ i isin active.
    owned_then i ns (((inv.slots i.slot).each i isin refl).viewed to active) in
    let floor : floor_of m ns m.clock ≤ to = le_trans (floor_rises m (record m { clock = n }) ns (record { clock = le_of_lt before; schedules = refl; restorations = refl; clones = refl })) low in
    same_count test activity m.activity inv.remembered.part
    (once_then activity test to (λ j passes. (both_pass (active_at to j) (is_in ns (table_at changes to j.table)) passes).0) (λ table code below. inv.cover.once table code to below) inv.cover.ranges)
    (λ i isin passes. let both = both_pass (active_at to i) (is_in ns (table_at changes to i.table)) passes in
    elim (inv.remembered.each i isin) [ inl here ↦ here | inr gone ↦ absurd (never_forgotten m ns i to gone (owner_then i ns both.1) floor both.0) ])
    ∙ ap (λ is. length is) (filters_agree m.activity m.catalog.owners changes ns to owned) ∙ sym (order_long _ (tablets_active_at m.catalog.owners m.activity ns to))
  where
    owned_by : (view : Option TableView) (i : Interval) (ns : Id) → table_at changes to i.table ≡ view → is_some view ≡ true → is_in ns view ≡ owns ps.master.catalog.owners ns i.table
    owned_by None i ns e some = absurd (true≢false (sym some))
    owned_by (Some v) i ns e some = sym (ap (λ o. is_owned_by o ns) (inv.master.tables.inside i.table to v e))

    owned_then : (i : Interval) (ns : Id) → is_some (table_at changes to i.table) ≡ true → is_in ns (table_at changes to i.table) ≡ owns ps.master.catalog.owners ns i.table
    owned_then i ns some = owned_by (table_at changes to i.table) i ns refl some

    owner_by : (view : Option TableView) (i : Interval) (ns : Id) → table_at changes to i.table ≡ view → is_in ns view ≡ true → owner_of ps.master.catalog.owners i.table ≡ Some ns
    owner_by None i ns e mine = absurd (true≢false (sym mine))
    owner_by (Some v) i ns e mine = inv.master.tables.inside i.table to v e ∙ ap Some (same_equal v.namespace ns mine)

    owner_then : (i : Interval) (ns : Id) → is_in ns (table_at changes to i.table) ≡ true → owner_of ps.master.catalog.owners i.table ≡ Some ns
    owner_then i ns mine = owner_by (table_at changes to i.table) i ns refl mine

-- Clones

abbrev pub clone_look : List ℕ → List ℕ → Option ℕ → ℕ → List Change → List Interval → Master → CloneLook
clone_look source target at n changes activity m = record { source = source; target = target; at = at; now = n; changes = changes; activity = activity; master = m }

abbrev accepted : List ℕ → List ℕ → Option ℕ → ℕ → Master → CloneSource → Outcome
accepted source target at n m s = accepts (BeginsClone s.namespace source target (clone_time at n)) [] (next_clone m ∷ [])

-- where no operation uses a namespace, none goes to a time
unused_time : (m : Master) (ns : Id) → user m ns ≡ None → time_of_user m ns ≡ None
unused_time m ns unused = by (restoration_of m.restorations ns) (clone_with m.clones ns) unused
  where
    by : (r : Option RestorationRecord) (c : Option CloneRecord) → option_or (option_map (λ x. x.id) r) (option_map (λ x. x.id) c) ≡ None → option_or (option_map (λ x. x.to) r) (option_map (λ x. x.to) c) ≡ None
    by None None e = refl
    by None (Some c) e = absurd (let q = e in grind arith)
    by (Some r) c e = absurd (let q = e in grind arith)

clone_judged : (least : ℕ) (ns : Id) (ps : Parts) (activity : List Interval) (changes : List Change) (n : ℕ) (source target : List ℕ) (at : Option ℕ) → ps.master.clock < n → Inv ps activity changes → RecordsApart ps.master.catalog.namespaces
    → (found : NamespaceFound changes n source) → found.id ≡ ns → user ps.master ns ≡ None → least_low ps.master.schedules ns n ≡ Some least
    → CloneAnswer (clone_look source target at n changes activity ps.master) (decided (either (refusal_in (clone_checks (record { namespace = ns; least = least }) target (clone_time at n) n ps.master)) (record { namespace = ns; least = least })) (accepted source target at n ps.master)).reply
clone_judged least ns ps activity changes n source target at before inv apart found is unused scheduled =
    let m = ps.master in
    let q = clone_look source target at n changes activity m in
    let to = clone_time at n in
    let h = asked m n changes before inv.master in
    let s : CloneSource = record { namespace = ns; least = least } in
    let free_ = length (free_slots m) in
    let needs = length (sources m ns to) in
    let P : Option Refusal → Type 0 = λ why. CloneAnswer q (decided (either why s) (accepted source target at n m)).reply in
    let full : List Check = If (ltb free_ needs) (SlotsFull free_ needs) ∷ [] in
    let future : List Check = If (leb n to) (Future n) ∷ full in
    let early : List Check = If (ltb to least) (TooEarly least) ∷ future in
    let many : List Check = If (eqb (count_namespaces m) most_namespaces) (TooMany most_namespaces) ∷ early in
    let from : MayTakeFrom q = record { source = found; unused = ap (user m) is ∙ unused; least = least; scheduled = ap (λ k. least_low m.schedules k n) is ∙ scheduled } in
    let count = so_many ps activity changes n before inv apart in
    let floor_is : floor_of m ns n ≡ least = ap (λ o. floor (least_low m.schedules ns n) o n) (unused_time m ns unused) ∙ ap (λ o. floor o None n) scheduled in
    let slots_is : least ≤ to → count_active changes activity found.id to ≡ needs = λ low.
    ap (λ k. count_active changes activity k to) is ∙ needed ps activity changes ns n to before inv (subst (λ f. f ≤ to) (sym floor_is) low) in
    step_names P (named m target) NameTaken many (λ by taken. CloneNamed by from (has_name m n changes target by h taken))
    (λ unnamed. let free : (id : Id) → HasName changes n m.clones target id → ⊥ = λ id has. no_name m n changes target id h unnamed has in
    step_if P (eqb (count_namespaces m) most_namespaces) (TooMany most_namespaces) early
    (λ most. CloneTooMany most_namespaces from free (subst (AreSoMany changes n m.clones) (eqb-true (count_namespaces m) most_namespaces most) count) refl)
    (λ few. let may : MayClone q = record { from = from; free = free; count = count_namespaces m; counted = count; room = (λ full. grind (arith, nat_tests)) } in
    step_if P (ltb to least) (TooEarly least) future (λ below. CloneEarly least may refl (ltb-true to least below))
    (λ low. step_if P (leb n to) (Future n) full (λ beyond. CloneLate n may refl (ltb-false to least low) (leb-true n to beyond))
    (λ past. step_if P (ltb free_ needs) (SlotsFull free_ needs) []
    (λ less. CloneFull free_ needs may (ltb-false to least low, leb-false n to past) refl (sym (slots_is (ltb-false to least low))) (ltb-true free_ needs less))
    (λ enough. CloneAccepted (next_clone m) may (ltb-false to least low, leb-false n to past) (subst (λ k. k ≤ free_) (sym (slots_is (ltb-false to least low))) (ltb-false free_ needs enough)))))))

clone_by : (ns : Option Id) (ps : Parts) (activity : List Interval) (changes : List Change) (n : ℕ) (source target : List ℕ) (at : Option ℕ) → ps.master.clock < n → Inv ps activity changes → RecordsApart ps.master.catalog.namespaces → namespace_named ps.master.catalog.namespaces source ≡ ns
    → CloneAnswer (clone_look source target at n changes activity ps.master)
    (decided (checked (with_window (checked (ok_or ns UnknownNamespace) (λ ns. unused_checks ns ps.master)) n ps.master) (λ s. clone_checks s target (clone_time at n) n ps.master)) (accepted source target at n ps.master)).reply
clone_by None ps activity changes n source target at before inv apart e = CloneUnknown (no_namespace ps.master n changes source (asked ps.master n changes before inv.master) e)
clone_by (Some ns) ps activity changes n source target at before inv apart e =
    let m = ps.master in
    let q = clone_look source target at n changes activity m in
    let found : NamespaceFound changes n source = record { id = ns; named = namespace_found m n changes source ns (asked m n changes before inv.master) e } in
    let P : Option Refusal → Type 0 = λ why. CloneAnswer q (decided (checked (with_window (either why ns) n m) (λ s. clone_checks s target (clone_time at n) n m)) (accepted source target at n m)).reply in
    step_names P (user m ns) Busy [] (λ by used. CloneBusy by found used) (λ unused. by_schedule (least_low m.schedules ns n) refl found refl unused)
  where
    by_schedule : (least : Option ℕ) → least_low ps.master.schedules ns n ≡ least → (found : NamespaceFound changes n source) → found.id ≡ ns → user ps.master ns ≡ None
        → CloneAnswer (clone_look source target at n changes activity ps.master)
        (decided (checked (ok_or (source_from ns least) (NoSchedule ns)) (λ s. clone_checks s target (clone_time at n) n ps.master)) (accepted source target at n ps.master)).reply
    by_schedule None is found here unused = CloneUnscheduled ns found (ap (user ps.master) here ∙ unused) (ap (λ k. least_low ps.master.schedules k n) here ∙ is) (sym here)
    by_schedule (Some least) is found here unused = clone_judged least ns ps activity changes n source target at before inv apart found here unused is

pub clone_answered : (ps : Parts) (activity : List Interval) (changes : List Change) (n : ℕ) (source target : List ℕ) (at : Option ℕ) → ps.master.clock < n → Inv ps activity changes → RecordsApart ps.master.catalog.namespaces
    → CloneAnswer (clone_look source target at n changes activity ps.master) (clone_namespace source target at n ps.master).reply
unfolding clone_namespace
clone_answered ps activity changes n source target at before inv apart = clone_by (namespace_named ps.master.catalog.namespaces source) ps activity changes n source target at before inv apart refl
