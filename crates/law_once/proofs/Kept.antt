-- Records of restorations and clones are never removed: each goes on, and each was there or is one that a command made.
use Rattle.std.proofs.Common.{◌≡◌, ℕ, true, false, List, refl, sym, subst, arith, map}
use Rattle.std.specs.List.{filter}
use Rattle.model.specs.Cluster.{Id, In, Listed, RestorationRecord, RestorationState, Restored, CloneRecord, CloneState, Accepted, CloneComplete, Master, MasterAct, Sends, Acks, Unsends, Moves, Removes, Prunes, Restarts}
use Rattle.model.specs.Journal.{Change}
use Rattle.model.specs.Moves.{clone_moved, restoration_moved}
use Rattle.model.specs.History.{master_effect, with_master}
use Rattle.model.specs.Once.{is_whole}
use Rattle.law_invariants.proofs.Effects.{acked_each, begins_each, moved_each, removed_each}
use Rattle.law_invariants.proofs.Finding.{in_mapped, map_in}
use Rattle.law_once.specs.Made.{is_command, made_by}

-- a restoration goes on under its identifier, schedule, namespace and time
pub record RestorationGoes (r : RestorationRecord) (rs : List RestorationRecord) : Type 0 where
  pub restoration : RestorationRecord
  pub kept : In restoration rs
  pub id_is : restoration.id ≡ r.id
  pub schedule_is : restoration.schedule ≡ r.schedule
  pub namespace_is : restoration.namespace ≡ r.namespace
  pub to_is : restoration.to ≡ r.to

-- and a clone as what it was accepted
pub record CloneGoes (c : CloneRecord) (cs : List CloneRecord) : Type 0 where
  pub clone : CloneRecord
  pub kept : In clone cs
  pub id_is : clone.id ≡ c.id
  pub source_is : clone.source ≡ c.source
  pub target_is : clone.target ≡ c.target
  pub to_is : clone.to ≡ c.to
  pub tables_are : clone.tables ≡ c.tables

-- how records go on: each stays, and none comes
pub record GoOn (m after : Master) : Type 0 where
  pub restorations : (r : RestorationRecord) → In r m.restorations → RestorationGoes r after.restorations
  pub clones : (c : CloneRecord) → In c m.clones → CloneGoes c after.clones
  pub restorations_were : (r : RestorationRecord) → In r after.restorations → In r.id (map {A = RestorationRecord} (λ q. q.id) m.restorations)
  pub clones_were : (c : CloneRecord) → In c after.clones → In c.id (map {A = CloneRecord} (λ q. q.id) m.clones)

restoration_same : (r : RestorationRecord) (rs : List RestorationRecord) → In r rs → RestorationGoes r rs
restoration_same r rs isin = record { restoration = r; kept = isin; id_is = refl; schedule_is = refl; namespace_is = refl; to_is = refl }

clone_same : (c : CloneRecord) (cs : List CloneRecord) → In c cs → CloneGoes c cs
clone_same c cs isin = record { clone = c; kept = isin; id_is = refl; source_is = refl; target_is = refl; to_is = refl; tables_are = refl }

restoration_edited : (rs : List RestorationRecord) (listed : RestorationRecord → List Listed) (state : RestorationRecord → RestorationState) (r : RestorationRecord) → In r rs → RestorationGoes r (map {A = RestorationRecord} (λ x. record x { listed = listed x; state = state x }) rs)
restoration_edited rs listed state r isin = record { restoration = record r { listed = listed r; state = state r }; kept = map_in {A = RestorationRecord} {B = RestorationRecord} (λ x. record x { listed = listed x; state = state x }) rs r isin; id_is = refl; schedule_is = refl; namespace_is = refl; to_is = refl }

clone_edited : (cs : List CloneRecord) (listed : CloneRecord → List Listed) (state : CloneRecord → CloneState) (c : CloneRecord) → In c cs → CloneGoes c (map {A = CloneRecord} (λ x. record x { listed = listed x; state = state x }) cs)
clone_edited cs listed state c isin = record { clone = record c { listed = listed c; state = state c }; kept = map_in {A = CloneRecord} {B = CloneRecord} (λ x. record x { listed = listed x; state = state x }) cs c isin; id_is = refl; source_is = refl; target_is = refl; to_is = refl; tables_are = refl }

restorations_edited_were : (rs : List RestorationRecord) (listed : RestorationRecord → List Listed) (state : RestorationRecord → RestorationState) (r : RestorationRecord) → In r (map {A = RestorationRecord} (λ x. record x { listed = listed x; state = state x }) rs) → In r.id (map {A = RestorationRecord} (λ q. q.id) rs)
restorations_edited_were rs listed state = in_mapped {A = RestorationRecord} {B = RestorationRecord} _ (λ r. In r.id (map {A = RestorationRecord} (λ q. q.id) rs)) rs (λ x isin. map_in {A = RestorationRecord} (λ q. q.id) rs x isin)

clones_edited_were : (cs : List CloneRecord) (listed : CloneRecord → List Listed) (state : CloneRecord → CloneState) (c : CloneRecord) → In c (map {A = CloneRecord} (λ x. record x { listed = listed x; state = state x }) cs) → In c.id (map {A = CloneRecord} (λ q. q.id) cs)
clones_edited_were cs listed state = in_mapped {A = CloneRecord} {B = CloneRecord} _ (λ c. In c.id (map {A = CloneRecord} (λ q. q.id) cs)) cs (λ x isin. map_in {A = CloneRecord} (λ q. q.id) cs x isin)

-- nothing of them changes
pub stay : (m after : Master) → after.restorations ≡ m.restorations → after.clones ≡ m.clones → GoOn m after
stay m after restorations clones = record {
  restorations = λ r isin. restoration_same r after.restorations (subst (In r) (sym restorations) isin);
  clones = λ c isin. clone_same c after.clones (subst (In c) (sym clones) isin);
  restorations_were = λ r isin. map_in {A = RestorationRecord} (λ q. q.id) m.restorations r (subst (In r) restorations isin);
  clones_were = λ c isin. map_in {A = CloneRecord} (λ q. q.id) m.clones c (subst (In c) clones isin);
}

-- restorations are edited
edit_restorations : (m after : Master) (listed : RestorationRecord → List Listed) (state : RestorationRecord → RestorationState) → after.restorations ≡ map {A = RestorationRecord} (λ x. record x { listed = listed x; state = state x }) m.restorations → after.clones ≡ m.clones → GoOn m after
edit_restorations m after listed state restorations clones = record {
  restorations = λ r isin. subst (RestorationGoes r) (sym restorations) (restoration_edited m.restorations listed state r isin);
  clones = λ c isin. clone_same c after.clones (subst (In c) (sym clones) isin);
  restorations_were = λ r isin. restorations_edited_were m.restorations listed state r (subst (In r) restorations isin);
  clones_were = λ c isin. map_in {A = CloneRecord} (λ q. q.id) m.clones c (subst (In c) clones isin);
}

edit_clones : (m after : Master) (listed : CloneRecord → List Listed) (state : CloneRecord → CloneState) → after.restorations ≡ m.restorations → after.clones ≡ map {A = CloneRecord} (λ x. record x { listed = listed x; state = state x }) m.clones → GoOn m after
edit_clones m after listed state restorations clones = record {
  restorations = λ r isin. restoration_same r after.restorations (subst (In r) (sym restorations) isin);
  clones = λ c isin. subst (CloneGoes c) (sym clones) (clone_edited m.clones listed state c isin);
  restorations_were = λ r isin. map_in {A = RestorationRecord} (λ q. q.id) m.restorations r (subst (In r) restorations isin);
  clones_were = λ c isin. clones_edited_were m.clones listed state c (subst (In c) clones isin);
}

restoration_goes : (state : RestorationState) (r : RestorationRecord) (n : ℕ) (m : Master) → GoOn m (restoration_moved state r n m)
restoration_goes (Restored point serving) r n m = stay m _ refl refl
restoration_goes _ r n m = edit_restorations m _ _ _ refl refl

copies_go : (state : CloneState) (c : CloneRecord) (n : ℕ) (m : Master) → GoOn m (clone_moved state c n m)
copies_go Accepted c n m = begins_each (GoOn m) c n m (λ serving. edit_clones m _ _ _ refl refl) (λ s. edit_clones m _ _ _ refl refl) (edit_clones m _ _ _ refl refl)
copies_go (CloneComplete serving at) c n m = stay m _ refl refl
copies_go _ c n m = edit_clones m _ _ _ refl refl

-- what no command tells leaves no record out, and makes none
pub told_goes : (a : MasterAct) (n : ℕ) (m : Master) → is_command a ≡ false → GoOn m (master_effect a n m)
told_goes (Moves operation) n m e =
    moved_each (GoOn m) operation.kind operation n m (stay m _ refl refl) (λ r found. stay m _ refl refl) (λ r found. restoration_goes r.state r n m) (λ c found. copies_go c.state c n m)
told_goes (Acks operation slot) n m e =
    acked_each (GoOn m) operation.kind operation slot n m (stay m _ refl refl) (stay m _ refl refl) (edit_restorations m _ _ (λ r. r.state) refl refl) (edit_clones m _ _ (λ c. c.state) refl refl)
told_goes (Removes target) n m e = removed_each (GoOn m) target.kind target n m (stay m _ refl refl) (stay m _ refl refl) (stay m _ refl refl)
told_goes (Sends operation slot) n m e = stay m _ refl refl
told_goes (Unsends operation slot) n m e = stay m _ refl refl
told_goes Prunes n m e = stay m _ refl refl
told_goes Restarts n m e = stay m _ refl refl
told_goes _ n m e = absurd (let q = e in grind arith)

-- a command's change is of no whole namespace, and no operation's
pub command_whole : (a : MasterAct) (n : ℕ) (m : Master) (changes : List Change) → is_command a ≡ true → filter (λ c. is_whole c.act) (with_master a n m changes) ≡ filter (λ c. is_whole c.act) changes
command_whole (Moves operation) n m changes e = absurd (let q = e in grind arith)
command_whole _ n m changes e = refl

pub command_moves : (a : MasterAct) (n : ℕ) (m : Master) (id : Id) (made : List Change) → is_command a ≡ true → made_by a n m id made ≡ made
command_moves (Moves operation) n m id made e = absurd (let q = e in grind arith)
command_moves _ n m id made e = refl
