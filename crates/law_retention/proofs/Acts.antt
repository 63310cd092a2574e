-- What clients and cutoffs do keeps how far back tablets go, and how snapshots follow each other.
use Rattle.std.proofs.Common.{◌-◌, ◌≤◌, ◌≡◌, ◌∷◌, ◌∙◌, ◌+◌, ℕ, List, [], true, false, Option, Some, None, max, refl, sym, ap, inl, inr, arith, le_trans, eqb, eqb-true}
use Rattle.std.proofs.lemmas.Bool.{true≢false}
use Rattle.std.proofs.lemmas.Bool.Decides.{nat_tests}
use Rattle.row_values.specs.declared.value.Item.{Item}
use Rattle.row_values.specs.Ids.{Id, same}
use Rattle.row_values.specs.Elements.{In}
use Rattle.model.specs.Activity.{Interval, last_of}
use Rattle.model.specs.Acts.{Act, Ask, At, Look, Write, Read, Cutoff, Compact, Restart, Stats, CutoffAt, Ok}
use Rattle.model.specs.Catalog.{owner_of}
use Rattle.model.specs.Entries.{slots_of}
use Rattle.model.specs.History.{look}
use Rattle.model.specs.Journal.{Change}
use Rattle.std.specs.Option.{option_and_then}
use Rattle.model.specs.Parts.{Master, Outcome, Parts}
use Rattle.model.specs.Records.{ScheduledNamespace, scheduled_in}
use Rattle.model.specs.Retained.{IsTabletOf}
use Rattle.model.specs.RowActs.{write, read, cutoff, compact, restart, stats, allowed_of, scheduled_at, table_in}
use Rattle.model.specs.Schedules.{complete_to}
use Rattle.model.specs.Tablets.{RaiseCutoff, Compact as CompactTablet, Restart as RestartTablet, Write as WriteRows, effect, is_empty}
use Rattle.law_store.proofs.Keys.{either_way}
use Rattle.law_invariants.specs.Invariant.{Inv, Later}
use Rattle.law_invariants.proofs.Finding.{same_equal, same_self}
use Rattle.law_invariants.proofs.Lasting.{last_in}
use Rattle.law_invariants.proofs.Ticking.{master_before}
use Rattle.law_invariants.proofs.Undoing.{owned_is}
use Rattle.law_retention.specs.Facts.{Facts}
use Rattle.law_retention.proofs.Outcomes.{compact_by, cutoff_by, look_by, master_restarts, read_by, restart_by, stats_by, write_by}
use Rattle.law_retention.proofs.Holding.{HoldsFacts, on_clock, answer_holds, like_on, one_holds, told_holds}

-- an act keeps these facts, whatever the parts of a legal history are
abbrev pub KeepsFacts : Act → (ℕ → Parts → Outcome) → Type 0
KeepsFacts act made = (n : ℕ) (ps : Parts) (activity : List Interval) (changes : List Change) → Later (slots_of act) ps n → Inv ps activity changes → Facts ps → HoldsFacts act n ps (made n ps)

pub look_keeps_facts : (ask : Ask) → KeepsFacts (Look ask) (λ n ps. look ask n ps.master)
look_keeps_facts ask n ps activity changes later inv facts = look_by (HoldsFacts (Look ask) n ps) ask n ps.master (λ reply. answer_holds (Look ask) reply n ps activity changes later inv facts)

pub write_keeps_facts : (place : At) (version : ℕ) (batch : List Item) → KeepsFacts (Write place version batch) (write place version batch)
write_keeps_facts place version batch n ps activity changes later inv facts =
    let act = Write place version batch in
    write_by (HoldsFacts act n ps) place version batch n ps (λ reply. answer_holds act reply n ps activity changes later inv facts)
    (one_holds act place.slot (WriteRows batch) (Ok []) n ps activity changes later inv facts (λ i e is here. like_on _ (ps.tablet i) (effect (WriteRows batch) n (ps.tablet i)) here refl refl refl))

pub read_keeps_facts : (places : List At) (version : ℕ) (key : Option (List ℕ)) (at : Option ℕ) (columns : List ℕ)
    → KeepsFacts (Read places version key at columns) (read places version key at columns)
read_keeps_facts places version key at columns n ps activity changes later inv facts =
    let act = Read places version key at columns in
    read_by (HoldsFacts act n ps) places version key at columns n ps (λ reply. answer_holds act reply n ps activity changes later inv facts)

pub compact_keeps_facts : (slot : ℕ) → KeepsFacts (Compact slot) (compact slot)
compact_keeps_facts slot n ps activity changes later inv facts =
    compact_by (HoldsFacts (Compact slot) n ps) slot n ps (λ reply. answer_holds (Compact slot) reply n ps activity changes later inv facts)
    (λ reply. one_holds (Compact slot) slot CompactTablet reply n ps activity changes later inv facts (λ i e is here. like_on _ (ps.tablet i) (effect CompactTablet n (ps.tablet i)) here refl refl refl))

pub stats_keeps_facts : (slot : ℕ) → KeepsFacts (Stats slot) (stats slot)
stats_keeps_facts slot n ps activity changes later inv facts = stats_by (HoldsFacts (Stats slot) n ps) slot n ps (λ reply. answer_holds (Stats slot) reply n ps activity changes later inv facts)

pub restart_keeps_facts : (slot : ℕ) → KeepsFacts (Restart slot) (restart slot)
restart_keeps_facts slot n ps activity changes later inv facts = restart_by (HoldsFacts (Restart slot) n ps) slot n ps
    (told_holds (Restart slot) master_restarts n ps activity changes inv facts
    (λ is. on_clock ps.master n [] ps.master.catalog refl (master_before (slots_of (Restart slot)) ps n later is))
    (λ i is here. like_on _ (ps.tablet i) (record (ps.tablet i) { clock = n }) here refl refl refl))
    (one_holds (Restart slot) slot RestartTablet (Ok []) n ps activity changes later inv facts (λ i e is here. like_on _ (ps.tablet i) (effect RestartTablet n (ps.tablet i)) here refl refl refl))

-- A cutoff goes just past the last complete snapshot of the tablet's namespace

-- the table that the master knows in a slot
known_table : (is : List Interval) (slot : ℕ) (table : Id) (i : Interval) → In i is → i.slot ≡ slot → ((j : Interval) → In j is → j.slot ≡ slot → j.table ≡ table) → table_in is slot ≡ Some table
known_table [] slot table i inside at each = absurd inside
known_table (j ∷ is) slot table i inside at each = either_way (eqb j.slot slot)
    (λ e. rw e (ap Some (each j (inl refl) (eqb-true j.slot slot e))))
    (λ e. rw e (elim inside [
      | inl here ↦ (let self : eqb i.slot slot ≡ true = grind (arith, nat_tests) in absurd (true≢false (sym self ∙ sym (ap (λ k. eqb k.slot slot) here) ∙ e)))
      | inr later ↦ known_table is slot table i later at (λ k there. each k (inr there))
    ]))

-- a scheduled namespace is found by its id
scheduled_is : (ss : List ScheduledNamespace) (s : ScheduledNamespace) → In s ss → ((q r : ScheduledNamespace) → In q ss → In r ss → q.namespace ≡ r.namespace → q ≡ r) → scheduled_in ss s.namespace ≡ Some s
scheduled_is [] s inside one = absurd inside
scheduled_is (q ∷ ss) s inside one = either_way (same q.namespace s.namespace)
    (λ e. rw e (ap Some (one q s (inl refl) inside (same_equal q.namespace s.namespace e))))
    (λ e. rw e (elim inside [
      | inl here ↦ absurd (true≢false (sym (ap (λ k. same k.namespace s.namespace) here ∙ same_self s.namespace) ∙ e))
      | inr later ↦ scheduled_is ss s later (λ a b x y. one a b (inr x) (inr y))
    ]))

scheduled_known : (ps : Parts) (activity : List Interval) (changes : List Change) (slot : ℕ) (s : ScheduledNamespace) (i : Interval) → Inv ps activity changes → is_empty (ps.tablet slot).presence ≡ false
    → In s ps.master.scheduled → last_of ps.master.activity (ps.tablet slot).tablet ≡ Some i → IsTabletOf ps.master s.namespace i → scheduled_at ps.master slot ≡ Some s
scheduled_known ps activity changes slot s i inv here listed last owned =
    let m = ps.master in
    let t = ps.tablet slot in
    let h = inv.slots slot in
    let found = last_in m.activity t.tablet i last in
    let at : i.slot ≡ slot = h.home here i found.0 (same_equal i.tablet t.tablet found.1) in
    let table : table_in m.activity slot ≡ Some i.table = known_table m.activity slot i.table i found.0 at (λ j inside there. sym (h.each j inside there).table_is ∙ (h.each i found.0 at).table_is) in
    let owner : option_and_then (owner_of m.catalog.owners) (table_in m.activity slot) ≡ Some s.namespace =
    ap (option_and_then (owner_of m.catalog.owners)) table ∙ owned_is (owner_of m.catalog.owners i.table) s.namespace owned in
    ap (option_and_then (scheduled_in m.scheduled)) owner ∙ scheduled_is m.scheduled s listed inv.operations.apart.one_scheduled

allowed_past : (s : Option ScheduledNamespace) (m : Master) (n : ℕ) → m.clock ≤ n → ((k : ScheduledNamespace) → s ≡ Some k → complete_to k + 1 ≤ m.clock) → allowed_of s n ≤ n
allowed_past None m n le h = less n _
  where
    less : (a b : ℕ) → a - b ≤ a
    less a b = omega arith
allowed_past (Some s) m n le h = le_trans (h s refl) le

found_scheduled : (ss : List ScheduledNamespace) (ns : Id) (s : ScheduledNamespace) → scheduled_in ss ns ≡ Some s → In s ss
found_scheduled [] ns s e = cc
found_scheduled (q ∷ ss) ns s e = either_way (same q.namespace ns)
    (λ b. inl (let first : Some q ≡ Some s = rw b at e in let is : q ≡ s = cc in is))
    (λ b. inr (found_scheduled ss ns s (rw b at e)))

in_scheduled : (ss : List ScheduledNamespace) (ns : Option Id) (s : ScheduledNamespace) → option_and_then (scheduled_in ss) ns ≡ Some s → In s ss
in_scheduled ss None s e = cc
in_scheduled ss (Some ns) s e = found_scheduled ss ns s e

pub cutoff_keeps_facts : (slot : ℕ) → KeepsFacts (Cutoff slot) (cutoff slot)
cutoff_keeps_facts slot n ps activity changes later inv facts =
    let m = ps.master in
    let act = Cutoff slot in
    let to = allowed_of (scheduled_at m slot) n in
    let reply = CutoffAt (max (ps.tablet slot).cutoff to) in
    let before = master_before (slots_of act) ps n later refl in
    let past : to ≤ n = allowed_past (scheduled_at m slot) m n before (λ k e. inv.master.complete k (in_scheduled m.scheduled _ k e)) in
    cutoff_by (HoldsFacts act n ps) slot n ps (λ r. answer_holds act r n ps activity changes later inv facts)
    (one_holds act slot (RaiseCutoff to) reply n ps activity changes later inv facts
    (λ i e is here.
    let t = ps.tablet i in
    let at : slot ≡ i = eqb-true slot i e in
    record {
      there = here;
      tablet_is = refl;
      live = λ s j listed last owned.
          let found : scheduled_at m slot ≡ Some s = ap (scheduled_at m) at ∙ scheduled_known ps activity changes i s j inv here listed last owned in
          let allowed : to ≡ complete_to s + 1 = ap (λ o. allowed_of o n) found in
          raised_to t.cutoff to (complete_to s + 1) allowed;
      now = λ was. raised_past t.cutoff to n was past;
      sets = λ f held. held;
    }))
  where
    raised_to : (c t a : ℕ) → t ≡ a → max c t ≤ max c a
    raised_to c t a e = omega arith

    raised_past : (c t n : ℕ) → c ≤ n → t ≤ n → max c t ≤ n
    raised_past c t n was past = omega arith
