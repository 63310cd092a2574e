-- Each change of a row goes on to be before the master's clock, or behind that of its tablet.
use Rattle.std.proofs.Common.{ℕ, ◌≡◌, ◌≤◌, List, [], ◌∷◌, Bool, true, cond, ◌&&◌, ◌⊎◌, inl, inr, sym, subst, refl, not, eqb, le_refl, le_trans}
use Rattle.std.proofs.lemmas.Bool.{cond_both}
use Rattle.model.specs.Cluster.{RowOp, KeyedRow, Id, In, has, Catalog, Interval, Sent, Act, Master, Drawn, Parts, Outcome}
use Rattle.model.specs.Journal.{Change, RowChanged}
use Rattle.model.specs.Tablets as tell
use Rattle.model.specs.Tablets.{Tablet, TabletAct, Command, processed, act_for, effect}
use Rattle.model.specs.Entries.{slots_of}
use Rattle.model.specs.History.{told}
use Rattle.law_invariants.specs.Orders.{RowsPast}
use Rattle.law_invariants.proofs.Operating.{going}

-- Clocks

processed_clock : (inbox : List Command) (rows : List KeyedRow) (n : ℕ) (t : Tablet) → (processed inbox rows n t).clock ≡ n
processed_clock [] rows n t = refl
processed_clock (c ∷ cs) rows n t = refl

-- what a part is told sets its clock
pub effect_clock : (a : TabletAct) (n : ℕ) (t : Tablet) → (effect a n t).clock ≡ n
effect_clock (tell.Process rows) n t = processed_clock t.inbox rows n t
effect_clock tell.Clock n t = refl
effect_clock tell.Compact n t = refl
effect_clock tell.Clear n t = refl
effect_clock tell.Restart n t = refl
effect_clock _ n t = refl

-- no act sets a clock back, where the touched ones are at most its stamp
pub clocks_rise : (act : Act) (o : Outcome) (n : ℕ) (ps : Parts) → ((slot : ℕ) → (has (slots_of act) slot && not (eqb slot 0)) ≡ true → (ps.tablet slot).clock ≤ n) → (slot : ℕ) → (ps.tablet slot).clock ≤ ((told act o n ps).tablet slot).clock
clocks_rise act o n ps early slot =
    cond_both (has (slots_of act) slot && not (eqb slot 0)) (effect (act_for o.tablets slot) n (ps.tablet slot)) (ps.tablet slot) (λ t. (ps.tablet slot).clock ≤ t.clock)
    (λ e. subst (λ k. (ps.tablet slot).clock ≤ k) (sym (effect_clock (act_for o.tablets slot) n (ps.tablet slot))) (early slot e))
    (λ e. le_refl _)

-- Rows

-- where an interval stays, or its tablet's clock is at most the master's
pub rows_on : (m : Master) (n : ℕ) (c : Catalog) (a : List Interval) (d : Drawn) (s : List Sent) (changes new : List Change) (before after : ℕ → Tablet) → m.clock ≤ n → ((slot : ℕ) → (before slot).clock ≤ (after slot).clock)
    → ((i : Interval) → In i m.activity → In i a ⊎ ((before i.slot).clock ≤ n)) → ((b : Change) (table : Id) (key : List ℕ) (op : RowOp) → In b new → b.act ≡ RowChanged table key op → In b changes)
    → RowsPast m before changes → RowsPast (going m n c a d s) after new
rows_on m n c a d s changes new before after le rise stays old h = λ b table key op isin is. elim (h b table key op (old b table key op isin is) is) [
  | inl past ↦ inl (le_trans past le)
  | inr w ↦ (elim (stays w.interval w.kept) [
    | inl kept ↦ inr (record { interval = w.interval; kept = kept; opened = w.opened; table_is = w.table_is; behind = le_trans w.behind (rise w.interval.slot); unacked = w.unacked })
    | inr heard ↦ inl (le_trans w.behind heard)
  ])
]

pub rows_ticked : (m : Master) (n : ℕ) (changes : List Change) (before after : ℕ → Tablet) → m.clock ≤ n → ((slot : ℕ) → (before slot).clock ≤ (after slot).clock) → RowsPast m before changes → RowsPast (record m { clock = n }) after changes
rows_ticked m n changes before after le rise h = rows_on m n m.catalog m.activity m.drawn m.sent changes changes before after le rise (λ i isin. inl isin) (λ b table key op isin is. isin) h

pub rows_ticked_if : (b : Bool) (m : Master) (n : ℕ) (changes : List Change) (before after : ℕ → Tablet) → (b ≡ true → m.clock ≤ n) → ((slot : ℕ) → (before slot).clock ≤ (after slot).clock) → RowsPast m before changes
    → RowsPast (cond b (record m { clock = n }) m) after changes
rows_ticked_if b m n changes before after le rise h =
    cond_both b (record m { clock = n }) m (λ k. RowsPast k after changes) (λ e. rows_ticked m n changes before after (le e) rise h) (λ e. rows_ticked m m.clock changes before after (le_refl _) rise h)
