-- A step of the machine is the book's step on the parts of a past.
use Rattle.std.proofs.Common.{◌≡◌, ℕ, zero, suc, ◌+◌, ◌<◌, List, [], ◌∷◌, length, refl, sym, ap, subst, arith, ◌∙◌, true, false, ◌||◌, eqb, cond, Option, Some, None}
use Rattle.std.specs.Prelude.{nat_le, slice_get}
use Rattle.std.specs.Option.{option_map}
use Rattle.std.proofs.lemmas.Bool.Decides.{nat_tests}
use Rattle.std.proofs.Math.Path.{fun_ext}
use Rattle.step_table.specs.declared.known.Entry as line
use Rattle.step_table.specs.Lists.{total, Every, Rising, pick, put}
use Rattle.step_table.proofs.Lists.{either_way}
use Rattle.step_table.proofs.Puts.{length_put, found_at}
use Rattle.row_values.specs.Slots.{has}
use Rattle.model.specs.Tablets.{act_for, effect, emptied}
use Rattle.model.specs.Times.{end_of_time}
use Rattle.model.specs.Acts.{Event}
use Rattle.model.specs.Parts.{Parts, Outcome}
use Rattle.model.specs.Entries.{Entry, Asked, slots_of, touches, log_of, stamp_of}
use Rattle.model.specs.History.{outcome, told, master_effect, IsStep, entry_of, replay, held, most_entries}
use Rattle.law_local.specs.Agreeing.{Agree}
use Rattle.law_local.proofs.Agreement.{stamp_same}
use Rattle.law_local.proofs.Local.{outcome_same}
use Rattle.machine_laws.specs.Views.{AnswerView, KeptView, OfMaster, OfTablet, PartView, kept_after}
use Rattle.machine_laws.specs.Laid.{parts_of, told_to, master_in, tablet_in, kept_in, entries_in, HasKind}
use Rattle.machine_laws.specs.Faults.{StepFault, ClockEnd, LogFull, first_slot, first_length, fault_by, fault_of, fault_after}
use Rattle.machine_laws.specs.Past.{IsPast, book_entry}
use Rattle.machine_laws.specs.Core.{laid, stamp_at, outcome_at, answer_at, after_at}
use Rattle.machine_laws.proofs.Slots.{has_rising, rising_is, touched_below, touched_some, first_rising}
use Rattle.machine_laws.proofs.Laying.{is_eq, other_has, get_found}
use Rattle.machine_laws.proofs.Stepping.{agree, kept_there, same_else, log_there, total_next}

-- a part that has the kind of its slot keeps it
kind_stays : (o : Outcome) (n k : ℕ) (p : Option KeptView) → HasKind k p → HasKind k (option_map (kept_after (told_to o k) n) p)
kind_stays o n k None is = absurd is
kind_stays o n zero (Some (OfMaster m)) is = tt
kind_stays o n zero (Some (OfTablet t)) is = absurd is
kind_stays o n (suc k) (Some (OfMaster m)) is = absurd is
kind_stays o n (suc k) (Some (OfTablet t)) is = tt

master_told : (o : Outcome) (n : ℕ) (p : Option KeptView) → HasKind zero p → master_in (option_map (kept_after (told_to o zero) n) p) ≡ master_effect o.master n (master_in p)
master_told o n None is = absurd is
master_told o n (Some (OfMaster m)) is = refl
master_told o n (Some (OfTablet t)) is = absurd is

no_tablet : (p : Option KeptView) → HasKind zero p → tablet_in p ≡ emptied 0
no_tablet None is = absurd is
no_tablet (Some (OfMaster m)) is = refl
no_tablet (Some (OfTablet t)) is = absurd is

tablet_told : (o : Outcome) (n k : ℕ) (p : Option KeptView) → HasKind (suc k) p → tablet_in (option_map (kept_after (told_to o (suc k)) n) p) ≡ effect (act_for o.tablets (suc k)) n (tablet_in p)
tablet_told o n k None is = absurd is
tablet_told o n k (Some (OfMaster m)) is = absurd is
tablet_told o n k (Some (OfTablet t)) is = refl

in_range : (ks : List ℕ) (m k : ℕ) → Every (λ j. j < m) ks → has ks k ≡ true → k < m
in_range [] m k lt h = cc
in_range (j ∷ ks) m k lt h = either_way (eqb j k)
    (λ t. let e : j ≡ k = is_eq j k t in let l = lt.0 in omega arith)
    (λ f. in_range ks m k lt.1 (other_has j k ks f h))

-- a step without a fault is stamped before the end of time, and its log has room
no_fault : (stamp slot entries : ℕ) → fault_by stamp slot entries ≡ None → (stamp < end_of_time) × (entries < most_entries)
no_fault stamp slot entries fine = either_way (nat_le end_of_time stamp)
    (λ t. absurd (some_none (sym (ap (λ b. cond b (Some ClockEnd) (cond (nat_le most_entries entries) (Some (LogFull slot)) None)) t) ∙ fine)))
    (λ f. either_way (nat_le most_entries entries)
    (λ t. absurd (some_none (sym (ap (λ b. cond b (Some ClockEnd) (cond (nat_le most_entries entries) (Some (LogFull slot)) None)) f ∙ ap (λ b. cond b (Some (LogFull slot)) None) t) ∙ fine)))
    (λ g. (grind (arith, nat_tests), grind (arith, nat_tests))))
  where
    some_none : {x : StepFault} → Some x ≡ None → ⊥
    some_none e = cc

-- the step that the touched parts give, at all parts
module _ {R : Type 0} (slots : ℕ) (history : List Entry) (ps : List (PartView R)) (e : Event) (n : ℕ) (past : IsPast slots history ps) (asked : Asked slots e) where
  abbrev ks : List ℕ
  ks = touches e.act

  abbrev at : List (PartView R)
  at = pick ks ps

  abbrev made : Outcome
  made = outcome_at at e

  abbrev st : ℕ
  st = stamp_at at e

  abbrev noted : line.Entry Event AnswerView
  noted = record { number = n; event = e; reply = answer_at at e }

  abbrev left : List (PartView R)
  left = put ks (after_at at e n) ps

  lt : Every (λ k. k < length ps) ks
  lt = subst (λ m. Every (λ k. k < m) ks) (sym past.size) (touched_below slots e.act asked.act)

  up : Rising ks
  up = rising_is (slots_of e.act)

  agreed : Agree (slots_of e.act) (laid at e) (parts_of ps)
  agreed = agree e.act ps lt

  pub stamp_is : st ≡ stamp_of e (parts_of ps)
  stamp_is = stamp_same e (laid at e) (parts_of ps) agreed

  pub outcome_is : made ≡ outcome e.act (stamp_of e (parts_of ps)) (parts_of ps)
  outcome_is = ap (λ s. outcome e.act s (laid at e)) stamp_is ∙ outcome_same e.act (stamp_of e (parts_of ps)) (laid at e) (parts_of ps) agreed

  kind_at : (k : ℕ) → has ks k ≡ true → HasKind k (kept_in (slice_get ps k))
  kind_at k h = past.kinds k (in_range ks (length ps) k lt h)

  first_there : 0 < length ps
  first_there = let s = past.size in omega arith

  kept_at : (k : ℕ) → has ks k ≡ true → kept_in (slice_get left k) ≡ option_map (kept_after (told_to made k) st) (kept_in (slice_get ps k))
  kept_at k h = kept_there made st ks ps noted up lt k h

  same_at : (k : ℕ) → has ks k ≡ false → slice_get left k ≡ slice_get ps k
  same_at k h = same_else made st ks ps noted up lt k h

  masters : (parts_of left).master ≡ (told e.act made st (parts_of ps)).master
  masters = either_way (has (slots_of e.act) 0)
      (λ t. let h = has_rising (slots_of e.act) 0 ∙ t in
      ap master_in (kept_at 0 h) ∙ master_told made st (kept_in (slice_get ps 0)) (kind_at 0 h)
      ∙ ap (λ b. cond b (master_effect made.master st (parts_of ps).master) (parts_of ps).master) (sym t))
      (λ f. ap (λ (p : Option (PartView R)). master_in (kept_in p)) (same_at 0 (has_rising (slots_of e.act) 0 ∙ f))
      ∙ ap (λ b. cond b (master_effect made.master st (parts_of ps).master) (parts_of ps).master) (sym f))

  kinds_left : (k : ℕ) → k < length ps → HasKind k (kept_in (slice_get left k))
  kinds_left k l = either_way (has ks k)
      (λ t. subst (HasKind k) (sym (kept_at k t)) (kind_stays made st k (kept_in (slice_get ps k)) (kind_at k t)))
      (λ f. subst (λ (p : Option (PartView R)). HasKind k (kept_in p)) (sym (same_at k f)) (past.kinds k l))

  tablets : (k : ℕ) → (parts_of left).tablet k ≡ (told e.act made st (parts_of ps)).tablet k
  tablets zero =
      no_tablet (kept_in (slice_get left 0)) (kinds_left 0 first_there) ∙ sym (no_tablet (kept_in (slice_get ps 0)) (past.kinds 0 first_there))
      ∙ either_way (has (slots_of e.act) 0) (λ t. rw t refl) (λ f. rw f refl)
  tablets (suc k) =
      let z : eqb (suc k) 0 ≡ false = grind (arith, nat_tests) in
      either_way (has (slots_of e.act) (suc k))
      (λ t. let h = has_rising (slots_of e.act) (suc k) ∙ t in
      ap tablet_in (kept_at (suc k) h) ∙ tablet_told made st k (kept_in (slice_get ps (suc k))) (kind_at (suc k) h)
      ∙ rw (t, z) refl)
      (λ f. ap (λ (p : Option (PartView R)). tablet_in (kept_in p)) (same_at (suc k) (has_rising (slots_of e.act) (suc k) ∙ f)) ∙ rw f refl)

  told_is : parts_of left ≡ told e.act made st (parts_of ps)
  told_is = ap (λ m. record { master = m; tablet = (parts_of left).tablet }) masters ∙ ap (λ f. record { master = (told e.act made st (parts_of ps)).master; tablet = f }) (fun_ext tablets)

  shows_next : parts_of left ≡ told e.act (outcome e.act (stamp_of e (replay slots history)) (replay slots history)) (stamp_of e (replay slots history)) (replay slots history)
  shows_next = told_is ∙ ap (λ o. told e.act o st (parts_of ps)) outcome_is ∙ ap (λ s. told e.act (outcome e.act (stamp_of e (parts_of ps)) (parts_of ps)) s (parts_of ps)) stamp_is
      ∙ ap (λ q. told e.act (outcome e.act (stamp_of e q) q) (stamp_of e q) q) past.shows

  -- the entry of the machine is the book's
  pub entry_is : n ≡ suc (total (λ (p : PartView R). length p.log) ps) → book_entry noted ≡ entry_of slots e history
  unfolding entry_of
  entry_is number =
      let len : n ≡ length history + 1 = (let c = past.count in omega arith) in
      ap (λ k. record { number = k; event = e; stamp = st; reply = made.reply }) len
      ∙ ap (λ (a : AnswerView). record { number = length history + 1; event = e; stamp = a.stamp; reply = a.reply }) answer_is
    where
      answer_is : answer_at at e ≡ (record { stamp = stamp_of e (replay slots history); reply = (outcome e.act (stamp_of e (replay slots history)) (replay slots history)).reply })
      answer_is = ap (λ s. record { stamp = s; reply = made.reply }) stamp_is ∙ ap (λ (o : Outcome). record { stamp = stamp_of e (parts_of ps); reply = o.reply }) outcome_is
          ∙ ap (λ (q : Parts). record { stamp = stamp_of e q; reply = (outcome e.act (stamp_of e q) q).reply }) past.shows

  first_has : has ks (first_slot ks) ≡ true
  first_has = firsts ks (touched_some slots e.act asked.act)
    where
      firsts : (js : List ℕ) → 0 < length js → has js (first_slot js) ≡ true
      firsts [] more = absurd (omega arith)
      firsts (j ∷ js) more = let e : eqb j j ≡ true = grind (arith, nat_tests) in ap (λ b. b || has js j) e

  first_log : first_length at ≡ held (log_of e.act) history
  first_log =
      firsts ks (touched_some slots e.act asked.act) lt
      ∙ past.holds (first_slot ks) (in_range ks (length ps) (first_slot ks) lt first_has)
      ∙ ap (λ k. held k history) (first_rising (slots_of e.act))
    where
      first_of_pick : (j : ℕ) (js : List ℕ) → j < length ps → first_length (pick (j ∷ js) ps) ≡ entries_in (slice_get ps j)
      first_of_pick j js l = let p = found_at ps j l in rw p.1 (ap (λ (q : Option (PartView R)). entries_in q) (sym (get_found ps j p.0 p.1)))

      firsts : (js : List ℕ) → 0 < length js → Every (λ k. k < length ps) js → first_length (pick js ps) ≡ entries_in (slice_get ps (first_slot js))
      firsts [] more lt = absurd (omega arith)
      firsts (j ∷ js) more lt = first_of_pick j js lt.0

  stamp_there : st ≡ (entry_of slots e history).stamp
  unfolding entry_of
  stamp_there = stamp_is ∙ ap (λ q. stamp_of e q) past.shows

  -- the fault by the touched parts is the book's
  pub fault_is : fault_of st ks at ≡ fault_after slots e history
  fault_is =
      ap (λ s. fault_by s (first_slot ks) (first_length at)) stamp_there
      ∙ ap (λ k. fault_by (entry_of slots e history).stamp k (first_length at)) (first_rising (slots_of e.act))
      ∙ ap (λ m. fault_by (entry_of slots e history).stamp (log_of e.act) m) first_log

  is_step : fault_after slots e history ≡ None → IsStep slots (entry_of slots e history) history
  unfolding entry_of
  is_step fine =
      let ok = no_fault (entry_of slots e history).stamp (log_of e.act) (held (log_of e.act) history) fine in
      record { asked = asked; number = refl; stamp = refl; before_end = ok.0; room = ok.1; reply = refl }

  next_is : replay slots (entry_of slots e history ∷ history) ≡ told e.act (outcome e.act (stamp_of e (replay slots history)) (replay slots history)) (stamp_of e (replay slots history)) (replay slots history)
  unfolding entry_of replay
  next_is = refl

  event_is : (entry_of slots e history).event ≡ e
  unfolding entry_of
  event_is = refl

  pub past_next : fault_of st ks at ≡ None → IsPast slots (entry_of slots e history ∷ history) left
  past_next fine = record {
    legal = (past.legal, is_step (sym fault_is ∙ fine));
    size = length_put ks (after_at at e n) ps ∙ past.size;
    count = let t = total_next made st ks ps noted up lt (touched_some slots e.act asked.act) in let c = past.count in omega arith;
    shows = shows_next ∙ sym next_is;
    holds = λ k l. logs k (let c = length_put ks (after_at at e n) ps in omega arith);
    kinds = λ k l. kinds_left k (let c = length_put ks (after_at at e n) ps in omega arith);
  }
    where
      true_false : true ≡ false → ⊥
      true_false e = cc

      not_first : (k : ℕ) → has ks k ≡ false → eqb (first_slot ks) k ≡ false
      not_first k f = either_way (eqb (first_slot ks) k)
          (λ t. let same : first_slot ks ≡ k = is_eq (first_slot ks) k t in absurd (true_false (sym (subst (λ j. has ks j ≡ true) same first_has) ∙ f)))
          (λ g. g)

      logs : (k : ℕ) → k < length ps → entries_in (slice_get left k) ≡ held k (entry_of slots e history ∷ history)
      logs k l = either_way (has ks k)
          (λ t. log_there made st ks ps noted up lt k t ∙ ap (λ m. cond (eqb (first_slot ks) k) (1 + m) m) (past.holds k l)
          ∙ ap (λ j. cond (eqb j k) (1 + held k history) (held k history)) (first_rising (slots_of e.act))
          ∙ ap (λ (x : Event). cond (eqb (log_of x.act) k) (1 + held k history) (held k history)) (sym event_is))
          (λ f. ap entries_in (same_at k f) ∙ past.holds k l
          ∙ ap (λ b. cond b (1 + held k history) (held k history)) (sym (not_first k f))
          ∙ ap (λ j. cond (eqb j k) (1 + held k history) (held k history)) (first_rising (slots_of e.act))
          ∙ ap (λ (x : Event). cond (eqb (log_of x.act) k) (1 + held k history) (held k history)) (sym event_is))
