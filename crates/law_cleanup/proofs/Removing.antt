-- A tablet that retention doesn't need is removed.
use Rattle.std.proofs.Common.{ℕ, ◌≡◌, ◌≢◌, ◌≤◌, ◌<◌, List, [], ◌∷◌, Option, Some, None, true, false, cond, inl, inr, refl, sym, ap, subst, ◌∙◌, arith, not, eqb, ltb, le_trans, le_refl, le_of_lt, eqb-true, ltb-false, ◌⊎◌}
use Rattle.std.specs.Option.{is_some}
use Rattle.std.proofs.lemmas.Bool.{true≢false}
use Rattle.std.proofs.lemmas.Bool.Decides.{nat_tests}
use Rattle.model.specs.Cluster.{Id, TabletKind, same, In, has, same_slots, ended_by, Interval, last_of, forget, Remove, Refusal, Moved, StalePlan, InWindow, Removed, Master, Parts, Outcome, Check, If, Fault, Removes, refused}
use Rattle.model.specs.Journal.{Change as Made}
use Rattle.model.specs.Stands.{awaited_in}
use Rattle.model.specs.Tablets.{Tablet, Empty, Clear, act_for, effect, emptied, standing, is_hidden}
use Rattle.model.specs.Cleanup.{floor_of_table, hidden_at, is_hidden_as, lister_of_tablet, removable_tablet, removing_unknown, removing_tablet, removed_of}
use Rattle.model.specs.History.{told}
use Rattle.law_store.proofs.Keys.{either_way}
use Rattle.law_invariants.specs.Remembered.{IsPartOf, Remembered, IsForgotten}
use Rattle.law_invariants.specs.Invariant.{EndsBy, MasterGood, SlotGood, SlotWorks, Inv, Later}
use Rattle.law_invariants.proofs.Finding.{either_is, both_pass, second_fails, same_equal, same_self}
use Rattle.law_invariants.proofs.Lasting.{last_in}
use Rattle.law_invariants.proofs.Ticking.{by_checks, refused_keeps, KeepsAll, namespaces_later, tables_later, tablet_before}
use Rattle.law_invariants.proofs.Remembering.{forgotten_on}
use Rattle.law_invariants.proofs.Hearing.{clocks_rise, rows_on}
use Rattle.law_invariants.proofs.Undoing.{same_rows, journal_on}
use Rattle.law_invariants.proofs.Told.{slots_hear, master_early, tablet_early, slots_equal}
use Rattle.law_invariants.proofs.Plans.{has_in}
use Rattle.law_cleanup.proofs.Forgetting.{forgetting, kept_in, was_in, operations_forget}
use Rattle.law_cleanup.proofs.Emptying.{IsGone, slot_emptied, slot_beside, works_emptied, works_beside}
use Rattle.law_invariants.proofs.Parting.{part_left}
use Rattle.law_invariants.proofs.Unneeded.{removed_below, not_false, unlisted, hidden_is, calm, nothing_keeps}
use Rattle.law_invariants.proofs.Unneeded.{not_false, unlisted}

-- What is forgotten

open_ends : (x : ℕ) (to : Option ℕ) → ended_by x to ≡ true → to ≡ None → ⊥
open_ends x to ended opened = true≢false (sym ended ∙ ap (ended_by x) opened)

ended_past : (to : Option ℕ) (from time x n : ℕ) → time ≤ n → EndsBy time from to → ended_by x to ≡ true → ended_by n to ≡ true
ended_past None from time x n le h ended = absurd (true≢false (sym ended))
ended_past (Some e) from time x n le h ended = let l : e ≤ time = h.1 in grind (arith, nat_tests)

-- all that stands of a tablet that is removed: it had ended by the floor of its namespace
pub record IsRemoved (ps : Parts) (changes : List Made) (n : ℕ) (target : Id) (i : Interval) : Type 0 where
  pub gone : IsGone ps.master n target i.slot
  pub listed : In i ps.master.activity
  pub below : (j : Interval) → In j ps.master.activity → j.tablet ≡ target → ended_by (floor_of_table ps.master j.table n) j.to ≡ true

is_removed : (ps : Parts) (activity : List Interval) (changes : List Made) (n : ℕ) (target : Id) (i : Interval) → ps.master.clock < n → Inv ps activity changes → last_of ps.master.activity target ≡ Some i → is_hidden_as target (ps.tablet i.slot) ≡ true
    → hidden_at (ps.tablet i.slot).presence ≤ floor_of_table ps.master i.table n → is_some (lister_of_tablet ps.master target) ≡ false → IsRemoved ps changes n target i
is_removed ps activity changes n target i before inv last hidden late lister =
    let m = ps.master in
    let t = ps.tablet i.slot in
    let found = last_in m.activity target i last in
    let is : i.tablet ≡ target = same_equal i.tablet target found.1 in
    let h = inv.slots i.slot in
    let g = h.each i found.0 refl in
    let free = unlisted m target lister in
    let out = hidden_is t.presence (both_pass (is_hidden t.presence) (same t.tablet target) hidden).0 in
    let none = calm m t target free (g.tablet_is ∙ is) in
    let there : (j : Interval) → In j m.activity → j.tablet ≡ target → j.slot ≡ i.slot = λ j isin e. h.home g.present j isin (e ∙ sym is ∙ sym g.tablet_is) in
    let ends : (j : Interval) → In j m.activity → j.tablet ≡ target → ended_by (hidden_at t.presence) j.to ≡ true = λ j isin e.
    (h.each j isin (there j isin e)).hidden (hidden_at t.presence) out (second_fails _ (is_some (awaited_in m.restorations t.tablet t.done)) (ap is_some none)) in
    record {
      gone = record {
        before = before;
        unlisted = free;
        there = there;
        mine = λ j isin at. sym (h.each j isin at).tablet_is ∙ g.tablet_is ∙ is;
        over = λ j isin e opened. open_ends (hidden_at t.presence) j.to (ends j isin e) opened;
      };
      listed = found.0;
      below = removed_below ps activity changes n target i inv last hidden late lister;
    }

remembered_forget : (ps : Parts) (activity : List Interval) (changes : List Made) (n : ℕ) (target : Id) (i : Interval) → Inv ps activity changes → IsRemoved ps changes n target i → Remembered (forgetting ps.master n target) activity
remembered_forget ps activity changes n target i inv r =
    let m = ps.master in
    let h = inv.remembered in
    let before = r.gone.before in
    let part : IsPartOf (forget target ps.master.activity) activity = part_left (λ j. not (same j.tablet target)) activity m.activity h.part in
    let each : (i : Interval) → In i activity → In i (forget target ps.master.activity) ⊎ IsForgotten (forgetting ps.master n target) i = λ j isin. elim (h.each j isin) [
      | inl here ↦ either_way (same j.tablet target)
          (λ e.
          let is = same_equal j.tablet target e in
          let below = r.below j here is in
          let past = ((inv.slots j.slot).each j here refl).past in
          inr (record {
            below = below;
            over = ended_past j.to j.from m.clock (floor_of_table m j.table n) n (le_of_lt before) past.ended below;
            unknown = λ k known same_. (was_in target m.activity k known).1 (same_ ∙ is);
          }))
          (λ e. inl (kept_in target m.activity j here (λ is. true≢false (sym (ap (λ t. same t target) is ∙ same_self target) ∙ e))))
      | inr gone ↦ inr (forgotten_on m (forgetting m n target) j (record { clock = le_of_lt before; schedules = refl; restorations = refl; clones = refl }) refl
          (λ k known. gone.unknown k (was_in target m.activity k known).0) gone)
    ] in
    assumption (part, each)

master_forget : (m : Master) (n : ℕ) (target : Id) (changes : List Made) → m.clock ≤ n → MasterGood m changes → MasterGood (forgetting m n target) changes
master_forget m n target changes le h = record {
  namespaces = namespaces_later m.catalog.namespaces m.clock n m.drawn.namespaces changes le h.namespaces;
  tables = tables_later m.catalog m.clock n m.drawn.tables changes le h.tables;
  marks = h.marks;
  past = λ ns to is. le_trans (h.past ns to is) le;
  complete = λ s isin. le_trans (h.complete s isin) le;
  listed = h.listed;
  listed_of = λ r l isin lists i there. h.listed_of r l isin lists i (was_in target m.activity i there).0;
}

-- The act

abbrev pub tablet_gone : Id → ℕ → Outcome
tablet_gone target slot = record { master = Removes target; tablets = record { slot = slot; act = Clear } ∷ []; reply = Removed }

removed_inv : (ps : Parts) (activity : List Interval) (changes : List Made) (n : ℕ) (target : Id) (i : Interval) → target.kind ≡ TabletKind → Later (0 ∷ i.slot ∷ []) ps n → Inv ps activity changes → IsRemoved ps changes n target i
    → Inv (told (Remove target (i.slot ∷ [])) (tablet_gone target i.slot) n ps) activity changes
removed_inv ps activity changes n target i kind later inv r =
    let m = ps.master in
    let act = Remove target (i.slot ∷ []) in
    let o = tablet_gone target i.slot in
    let g = r.gone in
    let k = forgetting m n target in
    let le = le_of_lt g.before in
    let after = (told act o n ps).tablet in
    let from : 1 ≤ i.slot = ((inv.slots i.slot).each i r.listed refl).slot_from in
    let self : eqb i.slot i.slot ≡ true = grind (arith, nat_tests) in
    let zero : eqb i.slot 0 ≡ false = grind (arith, nat_tests) in
    let named : has (i.slot ∷ []) i.slot ≡ true = has_in (i.slot ∷ []) i.slot (inl refl) in
    let early = tablet_early (i.slot ∷ []) ps n i.slot later named zero in
    let hear : (P : ℕ → Tablet → Type 0) → P i.slot (emptied n) → ((j : ℕ) → j ≢ i.slot → P j (ps.tablet j)) → (j : ℕ) → P j (after j) = λ P empty others.
    slots_hear P act (i.slot ∷ []) o n ps refl
    (λ j is apart. either_is (eqb i.slot j) false is
    (λ e.
    let at : P i.slot (effect (act_for o.tablets i.slot) n (ps.tablet i.slot)) = subst (λ a. P i.slot (effect a n (ps.tablet i.slot))) (sym (ap (λ b. cond b Clear (act_for [] i.slot)) self)) empty in
    subst (λ s. P s (effect (act_for o.tablets s) n (ps.tablet s))) (eqb-true i.slot j e) at)
    (λ none. absurd (true≢false (sym none))))
    (λ j aside. others j (λ e. let positive : eqb j 0 ≡ false = ap (λ s. eqb s 0) e ∙ zero in true≢false (sym named ∙ ap (has (i.slot ∷ [])) (sym e) ∙ aside positive))) in
    subst (λ d. Inv (record { master = removed_of d target n m; tablet = after }) activity changes) (sym kind) (record {
      master = master_forget m n target changes le inv.master;
      remembered = remembered_forget ps activity changes n target i inv r;
      cover = inv.cover;
      operations = operations_forget m n target changes le g.unlisted inv.operations;
      journal = journal_on m n m.catalog (forget target m.activity) m.drawn m.sent changes changes (same_rows changes) (λ ns to. refl) (le_refl _) (le_refl _) (λ table l. refl) inv.journal;
      rows_past = rows_on m n m.catalog (forget target m.activity) m.drawn m.sent changes changes ps.tablet after le (clocks_rise act o n ps (λ slot e. tablet_before (0 ∷ i.slot ∷ []) ps n slot later e))
          (λ j isin. either_way (same j.tablet target)
          (λ e. inr (subst (λ s. (ps.tablet s).clock ≤ n) (sym (g.there j isin (same_equal j.tablet target e))) (le_of_lt early)))
          (λ e. inl (kept_in target m.activity j isin (λ is. true≢false (sym (ap (λ t. same t target) is ∙ same_self target) ∙ e)))))
          (λ c table key op isin is. isin) inv.rows_past;
      works = hear (SlotWorks k changes) (works_emptied m n target changes i.slot i g r.listed refl inv.operations) (λ j apart. works_beside m n target changes i.slot j (ps.tablet j) g apart (inv.works j));
      slots = hear (SlotGood k changes) (slot_emptied m n target changes i.slot g) (λ j apart. slot_beside m n target changes i.slot j (ps.tablet j) g apart (inv.slots j));
    })

-- what isn't known is refused
pub unknown_keeps : (ps : Parts) (activity : List Interval) (changes : List Made) (n : ℕ) (target : Id) (slots : List ℕ) (why : Refusal) → Later (0 ∷ slots) ps n → Inv ps activity changes
    → KeepsAll (Remove target slots) n ps activity changes (removing_unknown slots why)
unknown_keeps ps activity changes n target slots why later inv =
    by_checks (Remove target slots) n ps activity changes (If (not (same_slots slots [])) (StalePlan []) ∷ []) (refused why)
    (λ other. refused_keeps (Remove target slots) other n ps activity changes later inv refl)
    (λ passes. refused_keeps (Remove target slots) why n ps activity changes later inv refl)

abbrev pub tablet_checks : Id → Interval → List ℕ → ℕ → Parts → List Check
tablet_checks target i slots n ps =
    let t = ps.tablet i.slot in
    If (not (same_slots slots (i.slot ∷ []))) (StalePlan (i.slot ∷ []))
    ∷ If (not (is_hidden_as target t)) (Moved i.slot (standing t))
    ∷ Fault (removable_tablet (hidden_at t.presence) (floor_of_table ps.master i.table n) (lister_of_tablet ps.master target))
    ∷ []

pub removing_tablet_keeps : (found : Option Interval) (ps : Parts) (activity : List Interval) (changes : List Made) (n : ℕ) (target : Id) (slots : List ℕ) → last_of ps.master.activity target ≡ found → target.kind ≡ TabletKind → Later (0 ∷ slots) ps n
    → Inv ps activity changes → KeepsAll (Remove target slots) n ps activity changes (removing_tablet found target slots n ps)
removing_tablet_keeps None ps activity changes n target slots e kind later inv = unknown_keeps ps activity changes n target slots (Moved 0 Empty) later inv
removing_tablet_keeps (Some i) ps activity changes n target slots e kind later inv =
    let hidden = hidden_at (ps.tablet i.slot).presence in
    let floor = floor_of_table ps.master i.table n in
    let lister = lister_of_tablet ps.master target in
    by_checks (Remove target slots) n ps activity changes (tablet_checks target i slots n ps) (tablet_gone target i.slot)
    (λ why. refused_keeps (Remove target slots) why n ps activity changes later inv refl)
    (λ passes.
    let before = master_early slots ps n later in
    let plan : slots ≡ i.slot ∷ [] = slots_equal slots (i.slot ∷ []) (not_false _ passes.0) in
    let unneeded = nothing_keeps (ltb floor hidden) lister (InWindow hidden floor) passes.1.1.0 in
    let late = ltb-false floor hidden unneeded.0 in
    let r = is_removed ps activity changes n target i before inv e (not_false _ passes.1.0) late unneeded.1 in
    subst (λ ss. Later (0 ∷ ss) ps n → Inv (told (Remove target ss) (tablet_gone target i.slot) n ps) activity changes) (sym plan) (λ early. removed_inv ps activity changes n target i kind early inv r) later)
