-- Each accepted command to restore or to clone made its one change of the journal, and the journal has no others.
use Rattle.std.proofs.Common.{◌≡◌, ℕ, ◌≤◌, Bool, true, false, List, [], ◌∷◌, ◌++◌, Option, Some, None, inl, inr, refl, sym, ap, subst, ◌∙◌, arith, map, if◌then◌else◌, le_of_lt}
use Rattle.std.specs.List.{filter, list_any}
use Rattle.std.proofs.lemmas.Bool.{cond_both}
use Rattle.std.proofs.lemmas.List.{map-append}
use Rattle.model.specs.Cluster.{Item, Id, same, In, has, Interval, RestorationRecord, RestorationState, Fencing, Snapshotting, Switching, Restoring, Releasing, Restored, CloneRecord, CloneState, Accepted, CloneSnapshot, Copying, CloneReleasing, CloneComplete, first_unacked, Told, Master, Parts, MasterAct, Ticks, Sends, Acks, Unsends, Moves, Removes, Restarts}
use Rattle.model.specs.Journal.{Change as Made}
use Rattle.model.specs.Acts.{Act, Change, Write, Advance, Prune}
use Rattle.model.specs.Cleanup.{prune}
use Rattle.model.specs.Coordination.{unfinished_restoration, unfinished_clone}
use Rattle.model.specs.Moves.{Progress, advance, advancing, moving, progress_of, waits_for}
use Rattle.model.specs.Drawn.{ids_made}
use Rattle.model.specs.Entries.{Entry, slots_of}
use Rattle.model.specs.Entering.{Entering, entered}
use Rattle.model.specs.History.{Legal, activity_of, journal_of, master_effect, outcome, replay, rows_made, told, with_changes, with_clone, with_either, with_master, with_restoration, with_rows}
use Rattle.model.specs.Once.{ClonedBy, CloneAsked, ClonesOnce, RestoreAsked, RestoresOnce, asked_by, changes_asked, changes_by, clones_asked, clones_in, is_move_of, is_whole, operations_asked, restored_by, restores_asked, restores_in}
use Rattle.law_store.proofs.Keys.{either_way}
use Rattle.law_invariants.specs.Invariant.{Inv}
use Rattle.law_invariants.proofs.Finding.{in_append, in_first, in_mapped, in_second, same_self}
use Rattle.law_invariants.proofs.Pending.{unfinished_restoration_is, unfinished_clone_is}
use Rattle.law_once.specs.Made.{AllMade, made_by}
use Rattle.law_once.proofs.Kept.{GoOn, command_moves, command_whole, stay, told_goes}
use Rattle.law_once.proofs.Made.{made_on}
use Rattle.law.proofs.Plain.{act_none, is_weighty, may_weigh}
use Rattle.law.proofs.Law.{legal_holds, stamps_later}
use Rattle.law.proofs.Chronicle.{entry_enters}
use Rattle.law.proofs.Asked.{IsKeptClone, IsKeptRestore, change_asks, clone_goes, restore_goes}

-- What an act tells the master that is no command

-- a move, or nothing
advanced_by : (P : MasterAct → Type 0) (p : Option Progress) (operation : Id) → P Ticks → P (Moves operation) → P (advancing p operation).master
advanced_by P None operation ticks moves = ticks
advanced_by P (Some p) operation ticks moves = by (waits_for (first_unacked p.listed) p.awaited)
  where
    by : (o : Option Id) → P (moving o operation p.next).master
    by (Some on) = ticks
    by None = moves

plain_moves : (a : MasterAct) (n : ℕ) (m : Master) (id : Id) (made : List Made) → is_weighty a ≡ false → made_by a n m id made ≡ made
plain_moves (Moves operation) n m id made e = absurd (let q = e in grind arith)
plain_moves _ n m id made e = refl

plain_goes : (a : MasterAct) (n : ℕ) (m : Master) → is_weighty a ≡ false → GoOn m (master_effect a n m)
plain_goes Ticks n m e = stay m _ refl refl
plain_goes (Sends operation slot) n m e = told_goes (Sends operation slot) n m refl
plain_goes (Acks operation slot) n m e = told_goes (Acks operation slot) n m refl
plain_goes (Unsends operation slot) n m e = told_goes (Unsends operation slot) n m refl
plain_goes (Removes target) n m e = told_goes (Removes target) n m refl
plain_goes Restarts n m e = told_goes Restarts n m refl
plain_goes _ n m e = absurd (let q = e in grind arith)

-- What an operation's moves made

-- an event makes of an operation's changes what the master is told
abbrev MakesBy : Act → ℕ → Parts → Id → List Made → Type 0
MakesBy act n ps id made =
    let o = outcome act n ps in
    (if is_move_of id act then with_changes act o n ps made else made) ≡ (if has (slots_of act) 0 then made_by o.master n ps.master id made else made)

plain_makes : (act : Act) (n : ℕ) (ps : Parts) (id : Id) (made : List Made) → may_weigh act ≡ false → is_move_of id act ≡ false → MakesBy act n ps id made
plain_makes act n ps id made e unmoved =
    let o = outcome act n ps in
    ap (λ b. if b then with_changes act o n ps made else made) unmoved
    ∙ sym (cond_both (has (slots_of act) 0) (made_by o.master n ps.master id made) made (λ cs. cs ≡ made) (λ _. plain_moves o.master n ps.master id made (act_none act n ps e).none) (λ _. refl))

act_makes : (act : Act) (n : ℕ) (ps : Parts) (activity : List Interval) (changes : List Made) (id : Id) (made : List Made) → (has (slots_of act) 0 ≡ true → ps.master.clock ≤ n) → Inv ps activity changes → MakesBy act n ps id made
unfolding advance prune
act_makes (Change command plan) n ps activity changes id made le inv =
    let o = outcome (Change command plan) n ps in sym (command_moves o.master n ps.master id made (change_asks command plan n ps activity changes (le refl) inv).is)
act_makes (Advance operation) n ps activity changes id made le inv =
    advanced_by (λ a. (if same operation id then with_master a n ps.master made else made) ≡ made_by a n ps.master id made) (progress_of operation.kind ps.master operation) operation (cond_both (same operation id) made made (λ cs. cs ≡ made) (λ _. refl) (λ _. refl)) refl
act_makes Prune n ps activity changes id made le inv = refl
act_makes act n ps activity changes id made le inv = plain_makes act n ps id made refl refl

made_alike : (m : Master) (es : List Entering) (f g : Id → List Made) → ((id : Id) → f id ≡ g id) → AllMade m es f → AllMade m es g
made_alike m es f g is h = record {
  fresh = λ id more. sym (is id) ∙ h.fresh id more;
  restorations = λ r isin. sym (is r.id) ∙ h.restorations r isin;
  clones = λ c isin. subst (ClonedBy c.state c es) (is c.id) (h.clones c isin);
}

pub all_made : (history : List Entry) (slots : ℕ) → Legal slots history → AllMade (replay slots history).master (entered slots history) (λ id. changes_by slots id history)
unfolding replay entered changes_by
all_made [] slots legal = record { fresh = λ id more. refl; restorations = λ r isin. absurd isin; clones = λ c isin. absurd isin }
all_made (e ∷ earlier) slots legal =
    let ps = replay slots earlier in
    let act = e.event.act in
    let o = outcome act e.stamp ps in
    let before = legal_holds earlier slots legal.0 in
    let h = all_made earlier slots legal.0 in
    let later = stamps_later e ps legal.1.stamp in
    subst (λ es. AllMade (told act o e.stamp ps).master es (λ id. changes_by slots id (e ∷ earlier))) (sym (entry_enters e earlier slots legal))
    (made_alike _ _ _ _ (λ id. sym (act_makes act e.stamp ps (activity_of slots earlier) (journal_of slots earlier) id (changes_by slots id earlier) (λ touched. le_of_lt (later 0 touched)) before.inv))
    (by (has (slots_of act) 0) _ _ (made_on o.master e.stamp ps.master (journal_of slots earlier) (entered slots earlier) (λ id. changes_by slots id earlier) before.inv.operations h) h))
  where
    by : (b : Bool) {m after : Master} (new : List Entering) {es : List Entering} {f : Id → List Made} (g : Id → List Made) → AllMade after (new ++ es) g → AllMade m es f
        → AllMade (if b then after else m) ((if b then new else []) ++ es) (λ id. if b then g id else f id)
    by true new g go h = go
    by false new g go h = h

-- What was asked

-- what an act asks for is kept, and so is what was asked before; and no record stands but of these
record AskedBy (act : Act) (n : ℕ) (ps : Parts) (changes : List Made) (restores : List RestoreAsked) (clones : List CloneAsked) (after : Master) : Type 0 where
  restored : (a : RestoreAsked) → In a (restores_in (asked_by act) (ids_made (outcome act n ps).reply) ps.master ++ restores) → IsKeptRestore a after.restorations
  cloned : (a : CloneAsked) → In a (clones_in (asked_by act) (ids_made (outcome act n ps).reply) n ps.master changes ++ clones) → IsKeptClone a after.clones
  restorations_were : (r : RestorationRecord) → In r after.restorations → In r.id (map {A = RestoreAsked} (λ a. a.operation) (restores_in (asked_by act) (ids_made (outcome act n ps).reply) ps.master ++ restores))
  clones_were : (c : CloneRecord) → In c after.clones → In c.id (map {A = CloneAsked} (λ a. a.operation) (clones_in (asked_by act) (ids_made (outcome act n ps).reply) n ps.master changes ++ clones))

record AskedBefore (m : Master) (restores : List RestoreAsked) (clones : List CloneAsked) : Type 0 where
  restored : (a : RestoreAsked) → In a restores → IsKeptRestore a m.restorations
  cloned : (a : CloneAsked) → In a clones → IsKeptClone a m.clones
  restorations_were : (r : RestorationRecord) → In r m.restorations → In r.id (map {A = RestoreAsked} (λ a. a.operation) restores)
  clones_were : (c : CloneRecord) → In c m.clones → In c.id (map {A = CloneAsked} (λ a. a.operation) clones)

goes_asked : (m after : Master) (restores : List RestoreAsked) (clones : List CloneAsked) → GoOn m after → AskedBefore m restores clones → AskedBefore after restores clones
goes_asked m after restores clones go h = record {
  restored = λ a isin. restore_goes a m.restorations after.restorations go.restorations (h.restored a isin);
  cloned = λ a isin. clone_goes a m.clones after.clones go.clones (h.cloned a isin);
  restorations_were = λ r isin. in_mapped {A = RestorationRecord} (λ q. q.id) (λ id. In id (map {A = RestoreAsked} (λ a. a.operation) restores)) m.restorations h.restorations_were r.id (go.restorations_were r isin);
  clones_were = λ c isin. in_mapped {A = CloneRecord} (λ q. q.id) (λ id. In id (map {A = CloneAsked} (λ a. a.operation) clones)) m.clones h.clones_were c.id (go.clones_were c isin);
}

nothing_asked : (act : Act) (n : ℕ) (ps : Parts) (changes : List Made) (restores : List RestoreAsked) (clones : List CloneAsked) (after : Master) → restores_in (asked_by act) (ids_made (outcome act n ps).reply) ps.master ≡ [] → clones_in (asked_by act) (ids_made (outcome act n ps).reply) n ps.master changes ≡ []
    → GoOn ps.master after → AskedBefore ps.master restores clones → AskedBy act n ps changes restores clones after
nothing_asked act n ps changes restores clones after none_restored none_cloned go h =
    let k = goes_asked ps.master after restores clones go h in record {
      restored = λ a isin. k.restored a (subst (λ as_. In a (as_ ++ restores)) none_restored isin);
      cloned = λ a isin. k.cloned a (subst (λ as_. In a (as_ ++ clones)) none_cloned isin);
      restorations_were = λ r isin. subst (λ as_. In r.id (map {A = RestoreAsked} (λ a. a.operation) (as_ ++ restores))) (sym none_restored) (k.restorations_were r isin);
      clones_were = λ c isin. subst (λ as_. In c.id (map {A = CloneAsked} (λ a. a.operation) (as_ ++ clones))) (sym none_cloned) (k.clones_were c isin);
    }

in_either : {A : Type 0} (f : A → Id) (xs ys : List A) (id : Id) → (In id (map f xs) → In id (map f (xs ++ ys))) × (In id (map f ys) → In id (map f (xs ++ ys)))
in_either f xs ys id = (λ isin. subst (In id) (sym (map-append f xs ys)) (in_first (map f xs) (map f ys) id isin), λ isin. subst (In id) (sym (map-append f xs ys)) (in_second (map f xs) (map f ys) id isin))

plain_asked : (act : Act) (n : ℕ) (ps : Parts) (changes : List Made) (restores : List RestoreAsked) (clones : List CloneAsked) → may_weigh act ≡ false → restores_in (asked_by act) (ids_made (outcome act n ps).reply) ps.master ≡ [] → clones_in (asked_by act) (ids_made (outcome act n ps).reply) n ps.master changes ≡ []
    → AskedBefore ps.master restores clones → AskedBy act n ps changes restores clones (told act (outcome act n ps) n ps).master
plain_asked act n ps changes restores clones e none_restored none_cloned h =
    nothing_asked act n ps changes restores clones _ none_restored none_cloned
    (cond_both (has (slots_of act) 0) (master_effect (outcome act n ps).master n ps.master) ps.master (GoOn ps.master) (λ _. plain_goes (outcome act n ps).master n ps.master (act_none act n ps e).none) (λ _. stay ps.master ps.master refl refl)) h

act_asked : (act : Act) (n : ℕ) (ps : Parts) (activity : List Interval) (changes : List Made) (restores : List RestoreAsked) (clones : List CloneAsked) → (has (slots_of act) 0 ≡ true → ps.master.clock ≤ n) → Inv ps activity changes → AskedBefore ps.master restores clones
    → AskedBy act n ps changes restores clones (told act (outcome act n ps) n ps).master
unfolding advance prune
act_asked (Change command plan) n ps activity changes restores clones le inv h =
    let m = ps.master in
    let o = outcome (Change command plan) n ps in
    let k = change_asks command plan n ps activity changes (le refl) inv in
    let new = restores_in (asked_by (Change command plan)) (ids_made o.reply) m in
    let new_clones = clones_in (asked_by (Change command plan)) (ids_made o.reply) n m changes in record {
      restored = λ a isin. elim (in_append new restores a isin) [ inl one ↦ k.asked a one | inr old ↦ restore_goes a m.restorations _ k.restorations (h.restored a old) ];
      cloned = λ a isin. elim (in_append new_clones clones a isin) [ inl one ↦ k.asked_clones a one | inr old ↦ clone_goes a m.clones _ k.clones (h.cloned a old) ];
      restorations_were = λ r isin. elim (k.restorations_were r isin) [
        | inl one ↦ (in_either {A = RestoreAsked} (λ a. a.operation) new restores r.id).0 one
        | inr old ↦ (in_either {A = RestoreAsked} (λ a. a.operation) new restores r.id).1 (in_mapped {A = RestorationRecord} (λ q. q.id) (λ id. In id (map {A = RestoreAsked} (λ a. a.operation) restores)) m.restorations h.restorations_were r.id old)
      ];
      clones_were = λ c isin. elim (k.clones_were c isin) [
        | inl one ↦ (in_either {A = CloneAsked} (λ a. a.operation) new_clones clones c.id).0 one
        | inr old ↦ (in_either {A = CloneAsked} (λ a. a.operation) new_clones clones c.id).1 (in_mapped {A = CloneRecord} (λ q. q.id) (λ id. In id (map {A = CloneAsked} (λ a. a.operation) clones)) m.clones h.clones_were c.id old)
      ];
    }
act_asked (Advance operation) n ps activity changes restores clones le inv h =
    nothing_asked (Advance operation) n ps changes restores clones _ refl refl (advanced_by (λ a. GoOn ps.master (master_effect a n ps.master)) (progress_of operation.kind ps.master operation) operation (stay ps.master _ refl refl) (told_goes (Moves operation) n ps.master refl)) h
act_asked Prune n ps activity changes restores clones le inv h = nothing_asked Prune n ps changes restores clones _ refl refl (stay ps.master _ refl refl) h
act_asked act n ps activity changes restores clones le inv h = plain_asked act n ps changes restores clones refl refl refl h

all_asked : (history : List Entry) (slots : ℕ) → Legal slots history → AskedBefore (replay slots history).master (restores_asked slots history) (clones_asked slots history)
unfolding replay restores_asked clones_asked
all_asked [] slots legal = record { restored = λ a isin. absurd isin; cloned = λ a isin. absurd isin; restorations_were = λ r isin. absurd isin; clones_were = λ c isin. absurd isin }
all_asked (e ∷ earlier) slots legal =
    let ps = replay slots earlier in
    let act = e.event.act in
    let o = outcome act e.stamp ps in
    let before = legal_holds earlier slots legal.0 in
    let later = stamps_later e ps legal.1.stamp in
    let k = act_asked act e.stamp ps (activity_of slots earlier) (journal_of slots earlier) (restores_asked slots earlier) (clones_asked slots earlier) (λ touched. le_of_lt (later 0 touched)) before.inv (all_asked earlier slots legal.0) in
    subst (λ reply. AskedBefore (told act o e.stamp ps).master (restores_in (asked_by act) (ids_made reply) ps.master ++ restores_asked slots earlier) (clones_in (asked_by act) (ids_made reply) e.stamp ps.master (journal_of slots earlier) ++ clones_asked slots earlier)) (sym legal.1.reply)
    (record { restored = k.restored; cloned = k.cloned; restorations_were = k.restorations_were; clones_were = k.clones_were })

-- Over a whole history

pub restores_once : (history : List Entry) (slots : ℕ) → Legal slots history → (a : RestoreAsked) → In a (restores_asked slots history) → RestoresOnce slots history a
restores_once history slots legal a isin =
    let h = (all_asked history slots legal).restored a isin in record {
      restoration = h.restoration;
      kept = h.kept;
      id_is = h.id_is;
      schedule_is = h.schedule_is;
      namespace_is = h.namespace_is;
      to_is = h.to_is;
      restored = ap (λ id. changes_by slots id history) (sym h.id_is) ∙ (all_made history slots legal).restorations h.restoration h.kept ∙ ap (λ to. restored_by h.restoration.state h.restoration.namespace to) h.to_is;
    }

pub clones_once : (history : List Entry) (slots : ℕ) → Legal slots history → (a : CloneAsked) → In a (clones_asked slots history) → ClonesOnce slots history a
clones_once history slots legal a isin =
    let h = (all_asked history slots legal).cloned a isin in record {
      clone = h.clone;
      kept = h.kept;
      id_is = h.id_is;
      source_is = h.source_is;
      target_is = h.target_is;
      to_is = h.to_is;
      tables = h.tables;
      cloned = subst (λ id. ClonedBy h.clone.state h.clone (entered slots history) (changes_by slots id history)) h.id_is ((all_made history slots legal).clones h.clone h.kept);
    }

-- The journal

rows_whole : (items : List Item) (n : ℕ) (table : Id) (changes : List Made) → filter (λ c. is_whole c.act) (rows_made n table items changes) ≡ filter (λ c. is_whole c.act) changes
rows_whole [] n table changes = refl
rows_whole (item ∷ items) n table changes = rows_whole items n table _

written_whole : (told : List Told) (n : ℕ) (table : Id) (items : List Item) (changes : List Made) → filter (λ c. is_whole c.act) (with_rows told n table items changes) ≡ filter (λ c. is_whole c.act) changes
written_whole [] n table items changes = refl
written_whole (one ∷ more) n table items changes = rows_whole items n table changes

either_whole : (r : Option RestorationRecord) (c : Option CloneRecord) (n : ℕ) (changes : List Made) → filter (λ c. is_whole c.act) (with_either r c n changes) ≡ with_either r c n (filter (λ c. is_whole c.act) changes)
either_whole (Some r) c n changes = by r.state
  where
    by : (state : RestorationState) → filter (λ c. is_whole c.act) (with_restoration state r changes) ≡ with_restoration state r (filter (λ c. is_whole c.act) changes)
    by Fencing = refl
    by (Snapshotting point own) = refl
    by (Switching point serving) = refl
    by (Restoring point serving) = refl
    by (Releasing point serving) = refl
    by (Restored point serving) = refl
either_whole None (Some c) n changes = by c.state
  where
    by : (state : CloneState) → filter (λ c. is_whole c.act) (with_clone state c n changes) ≡ with_clone state c n (filter (λ c. is_whole c.act) changes)
    by Accepted = refl
    by (CloneSnapshot own) = refl
    by (Copying serving at) = refl
    by (CloneReleasing serving at) = refl
    by (CloneComplete serving at) = refl
either_whole None None n changes = refl

is_any : (ids : List Id) (operation id : Id) → In id ids → id ≡ operation → list_any (λ k. same operation k) ids ≡ true
is_any [] operation id isin is = absurd isin
is_any (k ∷ ids) operation id (inl e) is = let b : same operation k ≡ true = ap (same operation) (e ∙ is) ∙ same_self operation in rw b refl
is_any (k ∷ ids) operation id (inr isin) is = let rest = is_any ids operation id isin is in either_way (same operation k) (λ b. rw b refl) (λ b. rw b rest)

none_any : (ids : List Id) (test : Id → Bool) → ((id : Id) → test id ≡ false) → list_any test ids ≡ false
none_any [] test none = refl
none_any (id ∷ ids) test none = let b = none id in rw b (none_any ids test none)

moves_whole : (r : Option RestorationRecord) (c : Option CloneRecord) (b : Bool) (n : ℕ) (made : List Made) → ((q : RestorationRecord) → r ≡ Some q → b ≡ true) → ((q : CloneRecord) → c ≡ Some q → b ≡ true) → with_either r c n made ≡ (if b then with_either r c n made else made)
moves_whole (Some r) c b n made first second = let e = first r refl in rw e refl
moves_whole None (Some c) b n made first second = let e = second c refl in rw e refl
moves_whole None None b n made first second = sym (cond_both b made made (λ cs. cs ≡ made) (λ _. refl) (λ _. refl))

-- an event makes just these restores and clones
abbrev WholeBy : Act → ℕ → Parts → List Made → List Id → List Made → Type 0
WholeBy act n ps changes ids made =
    let o = outcome act n ps in
    filter (λ c. is_whole c.act) (with_changes act o n ps changes) ≡ (if list_any (λ id. is_move_of id act) ids then with_changes act o n ps made else made)

plain_whole : (act : Act) (n : ℕ) (ps : Parts) (changes : List Made) (ids : List Id) (made : List Made) → ((id : Id) → is_move_of id act ≡ false) → filter (λ c. is_whole c.act) (with_changes act (outcome act n ps) n ps changes) ≡ made → WholeBy act n ps changes ids made
plain_whole act n ps changes ids made none h = let e = none_any ids (λ id. is_move_of id act) none in h ∙ sym (ap (λ b. if b then with_changes act (outcome act n ps) n ps made else made) e)

act_whole : (act : Act) (n : ℕ) (ps : Parts) (activity : List Interval) (changes : List Made) (ids : List Id) (made : List Made) → (has (slots_of act) 0 ≡ true → ps.master.clock ≤ n) → Inv ps activity changes → ((r : RestorationRecord) → In r ps.master.restorations → In r.id ids) → ((c : CloneRecord) → In c ps.master.clones → In c.id ids)
    → filter (λ c. is_whole c.act) changes ≡ made → WholeBy act n ps changes ids made
unfolding advance prune
act_whole (Change command plan) n ps activity changes ids made le inv restorations clones h =
    let o = outcome (Change command plan) n ps in plain_whole (Change command plan) n ps changes ids made (λ id. refl) (command_whole o.master n ps.master changes (change_asks command plan n ps activity changes (le refl) inv).is ∙ h)
act_whole (Advance operation) n ps activity changes ids made le inv restorations clones h =
    let m = ps.master in
    let r = unfinished_restoration m.restorations operation in
    let c = unfinished_clone m.clones operation in
    advanced_by (λ a. filter (λ c. is_whole c.act) (with_master a n m changes) ≡ (if list_any (λ id. same operation id) ids then with_master a n m made else made)) (progress_of operation.kind m operation) operation
    (h ∙ sym (cond_both (list_any (λ id. same operation id) ids) made made (λ cs. cs ≡ made) (λ _. refl) (λ _. refl)))
    (either_whole r c n changes ∙ ap (with_either r c n) h ∙ moves_whole r c (list_any (λ id. same operation id) ids) n made
    (λ q e. let is = unfinished_restoration_is m.restorations operation q e in is_any ids operation q.id (restorations q is.0) is.1.0)
    (λ q e. let is = unfinished_clone_is m.clones operation q e in is_any ids operation q.id (clones q is.0) is.1.0))
act_whole (Write place version batch) n ps activity changes ids made le inv restorations clones h = plain_whole (Write place version batch) n ps changes ids made (λ id. refl) (written_whole _ n _ batch changes ∙ h)
act_whole act n ps activity changes ids made le inv restorations clones h = plain_whole act n ps changes ids made (λ id. refl) h

pub journal_asked : (history : List Entry) (slots : ℕ) → Legal slots history → filter (λ c. is_whole c.act) (journal_of slots history) ≡ changes_asked slots history
unfolding replay journal_of changes_asked
journal_asked [] slots legal = refl
journal_asked (e ∷ earlier) slots legal =
    let ps = replay slots earlier in
    let before = legal_holds earlier slots legal.0 in
    let later = stamps_later e ps legal.1.stamp in
    let asked = all_asked earlier slots legal.0 in
    act_whole e.event.act e.stamp ps (activity_of slots earlier) (journal_of slots earlier) (operations_asked slots earlier) (changes_asked slots earlier) (λ touched. le_of_lt (later 0 touched)) before.inv
    (λ r isin. in_first _ _ r.id (asked.restorations_were r isin)) (λ c isin. in_second _ _ c.id (asked.clones_were c isin)) (journal_asked earlier slots legal.0)
