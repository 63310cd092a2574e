-- An advance of a clone: its record moves, all that it lists was acked, and it waits for no snapshot.
use Rattle.std.proofs.Common.{ℕ, ◌≡◌, ◌≤◌, List, [], ◌∷◌, None, true, false, refl, sym, ap, subst, ◌∙◌, arith, le_refl}
use Rattle.std.specs.Option.{option_map_or}
use Rattle.model.specs.Cluster.{RestorationKind as Restoration, CloneKind as Clone, Id, In, Interval, Listed, CloneRecord, CloneState, is_cloned, Advance, Master, Parts}
use Rattle.model.specs.Journal.{Change as Made}
use Rattle.model.specs.Coordination.{unfinished_restoration, unfinished_clone}
use Rattle.model.specs.Moves.{progress_of, clone_progress, awaited_by_clone, clone_moved, moved_of, advance}
use Rattle.model.specs.History.{with_either, with_clone}
use Rattle.law_invariants.specs.Invariant.{Inv, Later}
use Rattle.law_invariants.proofs.Hearing.{rows_ticked}
use Rattle.law_invariants.proofs.Undoing.{journal_ticked}
use Rattle.law_invariants.proofs.Remembering.{remembered_ticked}
use Rattle.law_invariants.proofs.Working.{operations_ticked_if, works_ticked_if, tables_drawn, all_listed}
use Rattle.law_invariants.proofs.Ticking.{KeepsAll, master_ticked, slot_ticked}
use Rattle.law_invariants.proofs.Pending.{unfinished_clone_is}
use Rattle.law_invariants.proofs.Advancing.{alone_keeps, moves, advance_by, mapped_some, no_restoration}

-- the master alone goes on to a later clock
pub ticked_keeps : (ps : Parts) (activity : List Interval) (changes : List Made) (n : ℕ) → ps.master.clock ≤ n → Inv ps activity changes → Inv (record { master = record ps.master { clock = n }; tablet = ps.tablet }) activity changes
ticked_keeps ps activity changes n le inv = let m = ps.master in record {
  master = master_ticked m n changes le inv.master;
  remembered = remembered_ticked m n activity le inv.remembered;
  cover = inv.cover;
  slots = λ slot. slot_ticked m n changes slot (ps.tablet slot) le (inv.slots slot);
  operations = operations_ticked_if true m n changes (λ e. le) (tables_drawn m activity inv.remembered) (all_listed m changes inv.master) inv.operations;
  journal = journal_ticked m n changes inv.journal;
  rows_past = rows_ticked m n changes ps.tablet ps.tablet le (λ slot. le_refl _) inv.rows_past;
  works = λ slot. works_ticked_if true m n changes slot (ps.tablet slot) (λ e. le) (tables_drawn m activity inv.remembered) inv.operations (inv.works slot);
}

-- what a move out of a state keeps
abbrev pub MovedKeeps : CloneState → Parts → List Interval → List Made → ℕ → CloneRecord → Type 0
MovedKeeps state ps activity changes n r =
    Inv (record { master = clone_moved state r n ps.master; tablet = ps.tablet }) (clone_moved state r n (record ps.master { activity = activity })).activity (with_clone state r n changes)

-- what a move may take for granted
pub record MayMove (m : Master) (r : CloneRecord) : Type 0 where
  pub kept : In r m.clones
  pub unfinished : is_cloned r.state ≡ false
  pub acked : (l : Listed) → In l r.listed → l.acked ≡ true
  pub unawaited : awaited_by_clone r.state m r ≡ None

pub advance_clone_by : (ps : Parts) (activity : List Interval) (changes : List Made) (n : ℕ) (operation : Id) → Later (0 ∷ []) ps n → operation.kind ≡ Clone → Inv ps activity changes
    → ((r : CloneRecord) → r.id ≡ operation → MayMove ps.master r → MovedKeeps r.state ps activity changes n r) → KeepsAll (Advance operation) n ps activity changes (advance operation n ps)
advance_clone_by ps activity changes n operation later kind inv go =
    let m = ps.master in
    advance_by operation n ps activity changes later inv (λ p is acked unawaited.
    let found = mapped_some (clone_progress m) (unfinished_clone m.clones operation) p (ap (λ k. progress_of k m operation) (sym kind) ∙ is) in
    let r = found.0 in
    let there = unfinished_clone_is m.clones operation r found.1.0 in
    let may : MayMove m r = record {
      kept = there.0;
      unfinished = there.1.1;
      acked = λ l isin. acked l (subst (λ q. In l q.listed) found.1.1 isin);
      unawaited = ap (λ q. q.awaited) found.1.1 ∙ unawaited;
    } in
    let moved_is : (k : Master) → k.clones ≡ m.clones → moved_of operation.kind operation n k ≡ clone_moved r.state r n k = λ k same_.
    ap (λ q. moved_of q operation n k) kind
    ∙ ap (λ cs. option_map_or {T = CloneRecord} (λ r. clone_moved r.state r n k) (unfinished_clone cs operation) (record k { clock = n })) same_
    ∙ ap (λ o. option_map_or {T = CloneRecord} (λ r. clone_moved r.state r n k) o (record k { clock = n })) found.1.0 in
    let made : with_either (unfinished_restoration m.restorations operation) (unfinished_clone m.clones operation) n changes ≡ with_clone r.state r n changes =
    ap (λ o. with_either o (unfinished_clone m.clones operation) n changes) (no_restoration m changes operation inv.operations (λ e. let q : Clone ≡ Restoration = sym kind ∙ e in grind arith))
    ∙ ap (λ o. with_either None o n changes) found.1.0 in
    alone_keeps (Advance operation) (moves operation p.next) n ps activity (clone_moved r.state r n (record m { activity = activity })).activity changes (with_clone r.state r n changes) (clone_moved r.state r n m) refl refl
    (moved_is m refl) (ap (λ k. k.activity) (moved_is (record m { activity = activity }) refl)) made
    (go r there.1.0 may))
