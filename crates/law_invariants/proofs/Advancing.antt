-- An advance: it is refused, or the record that it names moves, of which all that it lists was acked.
use Rattle.std.proofs.Common.{ℕ, ◌≡◌, List, [], ◌∷◌, Option, Some, None, true, cond, inl, inr, arith, refl, sym, ap, ◌∙◌, not, false, ◌&&◌, subst, eqb}
use Rattle.std.specs.Option.{option_map}
use Rattle.model.specs.Cluster.{RestorationKind as Restoration, CloneKind as Clone, Id, In, Interval, Advance, Advanced, NotPending, Waiting, Act, Master, Parts, Outcome, Moves, has, Tablet, act_for, effect}
use Rattle.model.specs.Journal.{Change as Made}
use Rattle.model.specs.Records.{Listed, State, first_unacked, unacked, first_listed}
use Rattle.model.specs.Coordination.{unfinished_restoration, unfinished_clone}
use Rattle.model.specs.Moves.{Progress, progress_of, waits_for, moving, advancing, advance}
use Rattle.law_store.proofs.Keys.{either_way}
use Rattle.law_invariants.specs.Operations.{OperationsGood}
use Rattle.law_invariants.specs.Invariant.{Inv, Later}
use Rattle.law_invariants.proofs.Finding.{none_or_some, first_fails, second_fails}
use Rattle.law_invariants.proofs.Ticking.{refused_keeps, KeepsAll}
use Rattle.law_invariants.proofs.Pending.{unfinished_restoration_is, unfinished_clone_is}
use Rattle.std.proofs.Math.Path.{fun_ext}
use Rattle.std.proofs.lemmas.Bool.Decides.{nat_tests}
use Rattle.model.specs.Entries.{slots_of}
use Rattle.model.specs.History.{told, master_effect, with_changes, is_removal}
use Rattle.law_invariants.specs.Remembered.{activity_after}

-- An act that touches the master alone.

abbrev parts_told : List ℕ → Outcome → ℕ → Parts → Parts
parts_told slots o n ps = record {
  master = cond (has slots 0) (master_effect o.master n ps.master) ps.master;
  tablet = λ i. cond (has slots i && not (eqb i 0)) (effect (act_for o.tablets i) n (ps.tablet i)) (ps.tablet i);
}

untouched : (i : ℕ) → (has (0 ∷ []) i && not (eqb i 0)) ≡ false
untouched i = either_way (eqb i 0)
    (λ e. second_fails (has (0 ∷ []) i) (not (eqb i 0)) (ap not e))
    (λ e. first_fails (has (0 ∷ []) i) (not (eqb i 0)) (let k : eqb 0 i ≡ false = grind (arith, nat_tests) in rw k refl))

told_alone : (act : Act) (o : Outcome) (n : ℕ) (ps : Parts) → slots_of act ≡ 0 ∷ [] → told act o n ps ≡ record { master = master_effect o.master n ps.master; tablet = ps.tablet }
told_alone act o n ps e =
    let with_tablets : (ℕ → Tablet) → Parts = λ f. record { master = master_effect o.master n ps.master; tablet = f } in
    ap (λ slots. parts_told slots o n ps) e
    ∙ ap with_tablets (fun_ext (λ i. ap (λ b. cond b (effect (act_for o.tablets i) n (ps.tablet i)) (ps.tablet i)) (untouched i)))

activity_alone : (act : Act) (o : Outcome) (n : ℕ) (ps : Parts) (activity : List Interval) → slots_of act ≡ 0 ∷ [] → is_removal o.master ≡ false → activity_after act o n ps activity ≡ (master_effect o.master n (record ps.master { activity = activity })).activity
activity_alone act o n ps activity e keeps =
    ap (λ slots. cond (has slots 0 && not (is_removal o.master)) (master_effect o.master n (record ps.master { activity = activity })).activity activity) e
    ∙ ap (λ b. cond (not b) (master_effect o.master n (record ps.master { activity = activity })).activity activity) keeps

-- it keeps what holds where the master that it leaves does, beside the tablets as they are
pub alone_keeps : (act : Act) (o : Outcome) (n : ℕ) (ps : Parts) (activity after : List Interval) (changes new : List Made) (k : Master) → slots_of act ≡ 0 ∷ [] → is_removal o.master ≡ false
    → master_effect o.master n ps.master ≡ k → (master_effect o.master n (record ps.master { activity = activity })).activity ≡ after → with_changes act o n ps changes ≡ new
    → Inv (record { master = k; tablet = ps.tablet }) after new → KeepsAll act n ps activity changes o
alone_keeps act o n ps activity after changes new k slots keeps is stays journal inv =
    let with_master : Master → Parts = λ m. record { master = m; tablet = ps.tablet } in
    let parts : told act o n ps ≡ with_master k = told_alone act o n ps slots ∙ ap with_master is in
    subst (λ q. Inv q (activity_after act o n ps activity) (with_changes act o n ps changes)) (sym parts)
    (subst (λ a. Inv (with_master k) a (with_changes act o n ps changes)) (sym (activity_alone act o n ps activity slots keeps ∙ stays))
    (subst (Inv (with_master k) after) (sym journal) inv))

pub all_acked : (ls : List Listed) → first_unacked ls ≡ None → (l : Listed) → In l ls → l.acked ≡ true
all_acked [] none l isin = absurd isin
all_acked (k ∷ ls) none l isin = either_way k.acked
    (λ b. elim isin [ inl e ↦ ap (λ q. q.acked) (sym e) ∙ b | inr rest ↦ all_acked ls (sym (ap (λ c. first_listed (cond (not c) (k ∷ unacked ls) (unacked ls))) b) ∙ none) l rest ])
    (λ b. absurd (let q : Some k ≡ None = sym (ap (λ c. first_listed (cond (not c) (k ∷ unacked ls) (unacked ls))) b) ∙ none in grind arith))

abbrev pub moves : Id → State → Outcome
moves operation next = record { master = Moves operation; tablets = []; reply = Advanced next }

-- what is to be shown where the record of a progress moves
abbrev pub MoveKeeps : Id → ℕ → Parts → List Interval → List Made → Progress → Type 0
MoveKeeps operation n ps activity changes p = ((l : Listed) → In l p.listed → l.acked ≡ true) → p.awaited ≡ None → KeepsAll (Advance operation) n ps activity changes (moves operation p.next)

waiting : (first : Option Listed) (awaited : Option Id) (operation : Id) (next : State) (n : ℕ) (ps : Parts) (activity : List Interval) (changes : List Made) → Later (0 ∷ []) ps n → Inv ps activity changes
    → (first ≡ None → awaited ≡ None → KeepsAll (Advance operation) n ps activity changes (moves operation next)) → KeepsAll (Advance operation) n ps activity changes (moving (waits_for first awaited) operation next)
waiting (Some l) awaited operation next n ps activity changes later inv go = refused_keeps (Advance operation) (Waiting l.tablet) n ps activity changes later inv refl
waiting None (Some on) operation next n ps activity changes later inv go = refused_keeps (Advance operation) (Waiting on) n ps activity changes later inv refl
waiting None None operation next n ps activity changes later inv go = go refl refl

by_progress : (p : Option Progress) (operation : Id) (n : ℕ) (ps : Parts) (activity : List Interval) (changes : List Made) → Later (0 ∷ []) ps n → Inv ps activity changes
    → ((q : Progress) → p ≡ Some q → MoveKeeps operation n ps activity changes q) → KeepsAll (Advance operation) n ps activity changes (advancing p operation)
by_progress None operation n ps activity changes later inv go = refused_keeps (Advance operation) (NotPending operation) n ps activity changes later inv refl
by_progress (Some q) operation n ps activity changes later inv go =
    waiting (first_unacked q.listed) q.awaited operation q.next n ps activity changes later inv (λ none unawaited. go q refl (all_acked q.listed none) unawaited)

pub advance_by : (operation : Id) (n : ℕ) (ps : Parts) (activity : List Interval) (changes : List Made) → Later (0 ∷ []) ps n → Inv ps activity changes
    → ((q : Progress) → progress_of operation.kind ps.master operation ≡ Some q → MoveKeeps operation n ps activity changes q) → KeepsAll (Advance operation) n ps activity changes (advance operation n ps)
unfolding advance
advance_by operation n ps activity changes later inv go = by_progress (progress_of operation.kind ps.master operation) operation n ps activity changes later inv go

pub mapped_some : {A B : Type 0} (f : A → B) (o : Option A) (b : B) → option_map f o ≡ Some b → (a : A) × ((o ≡ Some a) × (f a ≡ b))
mapped_some f None b e = absurd (let q = e in grind arith)
mapped_some f (Some a) b e = let is : f a ≡ b = cc in (a, (refl, is))

-- an operation of another kind is no restoration and no clone
pub no_restoration : (m : Master) (changes : List Made) (operation : Id) → OperationsGood m changes → (operation.kind ≡ Restoration → ⊥) → unfinished_restoration m.restorations operation ≡ None
no_restoration m changes operation ops other = none_or_some (unfinished_restoration m.restorations operation) (λ none. none)
    (λ r some. let h = unfinished_restoration_is m.restorations operation r some in absurd (other (ap (λ i. i.kind) (sym h.1.0) ∙ (ops.restorations r h.0).kind_is)))

pub no_clone : (m : Master) (changes : List Made) (operation : Id) → OperationsGood m changes → (operation.kind ≡ Clone → ⊥) → unfinished_clone m.clones operation ≡ None
no_clone m changes operation ops other = none_or_some (unfinished_clone m.clones operation) (λ none. none)
    (λ c some. let h = unfinished_clone_is m.clones operation c some in absurd (other (ap (λ i. i.kind) (sym h.1.0) ∙ (ops.clones c h.0).kind_is)))
