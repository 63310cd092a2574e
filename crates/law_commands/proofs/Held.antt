-- A tablet does a command of the operation that holds its namespace: no other operation has anything in its slot.
use Rattle.std.proofs.Common.{ℕ, ◌≡◌, ◌≢◌, ◌≤◌, ◌<◌, List, [], ◌∷◌, ◌++◌, Some, false, ◌⊎◌, inl, inr, refl, sym, ap, subst, ◌∙◌, le_of_lt}
use Rattle.std.proofs.lemmas.Bool.{true≢false}
use Rattle.model.specs.Cluster.{Id, same, In, owner_of, RestorationRecord, CloneRecord, is_restored, is_cloned, Master}
use Rattle.model.specs.Journal.{Change}
use Rattle.model.specs.Tablets.{Tablet, Command, Mark, Body, FenceKind, FreezeKind, kind_of, is_done, is_empty}
use Rattle.law_store.proofs.Keys.{either_way}
use Rattle.law_invariants.specs.Invariant.{MasterGood, SlotGood, SlotWorks}
use Rattle.law_invariants.specs.Operations.{OperationsGood}
use Rattle.law_invariants.specs.Orders.{IsAfter, IsHome, IsTarget, ObeyedGood, RestorationSlot, CloneSlot}
use Rattle.law_invariants.proofs.Operating.{visible_later}
use Rattle.law_invariants.proofs.Ordering.{after_later}
use Rattle.law_invariants.proofs.Finding.{same_equal, same_self}
use Rattle.law_invariants.proofs.DoneMarks.{done_still}
use Rattle.law_invariants.proofs.Commanded.{IsPending}
use Rattle.law_commands.proofs.Doing.{IsHere, table_here, apart_restoration, apart_clone}

-- a tablet's first command, which is pending, and what holds before it
pub record Does (m : Master) (changes : List Change) (slot n : ℕ) (t : Tablet) (operation tablet : Id) (body : Body) (cs : List Command) : Type 0 where
  pub master : MasterGood m changes
  pub operations : OperationsGood m changes
  pub good : SlotGood m changes slot t
  pub works : SlotWorks m changes slot t
  pub before : t.clock < n
  pub inbox : t.inbox ≡ record { operation = operation; tablet = tablet; body = body } ∷ cs
  pub pends : IsPending m operation slot (record { tablet = tablet; slot = slot; body = body; acked = false })
  pub after : IsAfter m t.clock operation (kind_of body)

-- and what holds of a slot after it
pub record HoldsOf (m : Master) (changes : List Change) (slot : ℕ) (u : Tablet) : Type 0 where
  pub good : SlotGood m changes slot u
  pub works : SlotWorks m changes slot u

-- the restoration holds the namespace of the slot's tablet

pub each_restoration : (m : Master) (changes : List Change) (slot : ℕ) (t u : Tablet) (r : RestorationRecord) → MasterGood m changes → OperationsGood m changes → SlotGood m changes slot t → SlotWorks m changes slot t
    → IsHere m slot r.namespace → In r m.restorations → is_restored r.state ≡ false → ((q : RestorationRecord) → (q.id ≢ r.id) → is_done u.done q.id FenceKind ≡ is_done t.done q.id FenceKind)
    → RestorationSlot r.state m changes r slot u → (q : RestorationRecord) → In q m.restorations → RestorationSlot q.state m changes q slot u
each_restoration m changes slot t u r master ops good works here isin unfinished marks mine q known = either_way (same q.id r.id)
    (λ b. let one : r ≡ q = ops.apart.restoration_ids r q isin known (sym (same_equal q.id r.id b)) in subst (λ k. RestorationSlot k.state m changes k slot u) one mine)
    (λ b. let apart : q.id ≢ r.id = λ e. true≢false (sym (ap (λ k. same k r.id) e ∙ same_self r.id) ∙ b) in
    apart_restoration m changes slot t u r.namespace q master ops good works.orders here known
    (λ still ns. apart (ap (λ k. k.id) (ops.apart.one_restoration q r known isin still unfinished ns)))
    (marks q apart) (works.obeyed.restorations q known))

pub clones_beside : (m : Master) (changes : List Change) (slot : ℕ) (t u : Tablet) (r : RestorationRecord) → OperationsGood m changes → SlotGood m changes slot t → IsHere m slot r.namespace → In r m.restorations → is_restored r.state ≡ false
    → u.table ≡ t.table → (c : CloneRecord) → In c m.clones → CloneSlot c.state m changes c slot u
clones_beside m changes slot t u r ops good here isin unfinished table_is c known = apart_clone m changes slot t u r.namespace c ops good here known
    (λ still ns. ops.apart.one_operation r c isin known unfinished still (inr ns))
    (λ unseen serving free owned.
    let q : Some c.source ≡ Some r.namespace = sym owned ∙ ap (owner_of m.catalog.owners) table_is ∙ table_here m changes slot t r.namespace good here in
    let e : c.source ≡ r.namespace = cc in
    absurd (ops.apart.one_operation r c isin known unfinished (visible_later c.state unseen) (inl e)))

-- the clone that makes the namespace of the slot's tablet holds it

pub restorations_beside : (m : Master) (changes : List Change) (slot : ℕ) (t u : Tablet) (c : CloneRecord) → MasterGood m changes → OperationsGood m changes → SlotGood m changes slot t → SlotWorks m changes slot t
    → IsHere m slot c.target_id → In c m.clones → is_cloned c.state ≡ false → ((q : RestorationRecord) → In q m.restorations → is_done u.done q.id FenceKind ≡ is_done t.done q.id FenceKind)
    → (q : RestorationRecord) → In q m.restorations → RestorationSlot q.state m changes q slot u
restorations_beside m changes slot t u c master ops good works here isin unfinished marks q known = apart_restoration m changes slot t u c.target_id q master ops good works.orders here known
    (λ still ns. ops.apart.one_operation q c known isin still unfinished (inr (sym ns)))
    (marks q known) (works.obeyed.restorations q known)

pub each_clone : (m : Master) (changes : List Change) (slot : ℕ) (t u : Tablet) (c : CloneRecord) → OperationsGood m changes → SlotGood m changes slot t → IsHere m slot c.target_id → In c m.clones → is_cloned c.state ≡ false
    → u.table ≡ t.table → CloneSlot c.state m changes c slot u → (q : CloneRecord) → In q m.clones → CloneSlot q.state m changes q slot u
each_clone m changes slot t u c ops good here isin unfinished table_is mine q known = either_way (same q.id c.id)
    (λ b. let one : c ≡ q = ops.apart.clone_ids c q isin known (sym (same_equal q.id c.id b)) in subst (λ k. CloneSlot k.state m changes k slot u) one mine)
    (λ b. let apart : q.id ≢ c.id = λ e. true≢false (sym (ap (λ k. same k c.id) e ∙ same_self c.id) ∙ b) in
    apart_clone m changes slot t u c.target_id q ops good here known
    (λ still ns. apart (ap (λ k. k.id) (ops.apart.one_clone q c c.target_id known isin still unfinished (inr ns) (inr refl))))
    (λ unseen serving free owned.
    let z : Some q.source ≡ Some c.target_id = sym owned ∙ ap (owner_of m.catalog.owners) table_is ∙ table_here m changes slot t c.target_id good here in
    let e : q.source ≡ c.target_id = cc in
    absurd (apart (ap (λ k. k.id) (ops.apart.one_clone q c c.target_id known isin (visible_later q.state unseen) unfinished (inl e) (inr refl))))))

-- The tablet stays

-- what it did of what lists it stays, with one more mark
pub obeyed_done : (m : Master) (changes : List Change) (slot : ℕ) (t u : Tablet) (k : Mark) → is_empty t.presence ≡ false → is_empty u.presence ≡ false → u.tablet ≡ t.tablet → u.table ≡ t.table → u.done ≡ t.done ++ k ∷ []
    → ((r : RestorationRecord) → In r m.restorations → RestorationSlot r.state m changes r slot u) → ((c : CloneRecord) → In c m.clones → CloneSlot c.state m changes c slot u) → ObeyedGood m changes slot t → ObeyedGood m changes slot u
obeyed_done m changes slot t u k present stays tablet_is table_is done_is restorations clones h = record {
  drawn_table = subst (λ id. id.number ≤ m.drawn.tables) (sym table_is) h.drawn_table;
  home = λ still. subst (λ id. IsHome m slot id ⊎ IsTarget m slot id) (sym tablet_is) (h.home present);
  snapshots = λ r l isin lists at acked same_ still.
      ap (λ d. is_done d r.id FreezeKind) done_is ∙ done_still t.done k r.id FreezeKind (h.snapshots r l isin lists at acked (sym tablet_is ∙ same_) present);
  restorations = restorations;
  clones = clones;
}

-- the stamp of the act is after the entry of the state that gave the command
pub marked_after : (m : Master) (changes : List Change) (slot n : ℕ) (t : Tablet) (operation tablet : Id) (body : Body) (cs : List Command) → Does m changes slot n t operation tablet body cs → IsAfter m n operation (kind_of body)
marked_after m changes slot n t operation tablet body cs d = after_later m t.clock n operation (kind_of body) (le_of_lt d.before) d.after
