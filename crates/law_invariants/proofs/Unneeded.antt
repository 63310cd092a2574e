-- What retention doesn't need: a tablet that nothing lists, a snapshot that nothing names, and marks that a prune raises.
use Rattle.std.proofs.Common.{ℕ, ◌≡◌, ◌≤◌, List, [], ◌∷◌, Option, Some, None, Bool, true, false, cond, ◌&&◌, ◌||◌, inl, inr, refl, sym, ap, ◌∙◌, not, ◌<◌, subst, arith, le_refl, ◌-◌, map, leb, max, min, ltb-true, leb-true}
use Rattle.std.specs.Option.{is_some, option_or, option_map}
use Rattle.std.specs.List.{list_any, filter}
use Rattle.std.proofs.lemmas.Bool.{true≢false, cond_both}
use Rattle.model.specs.Cluster.{Id, same, In, Interval, last_of, Listed, SnapshotRecord, RestorationRecord, TabletPair, CloneRecord, is_restored, is_cloned, lists_tablet, named_by_restoration, named_by_clone, snapshot_with, Master, Parts, ended_by, holds_at, before_end, Tablet, Presence, HiddenPart, is_hidden, Refusal, IsListed, TableRecord, KeptFrom, kept_from}
use Rattle.model.specs.Journal.{Change, Change as Made}
use Rattle.model.specs.Cleanup.{listing_snapshot, listing_restoration, listing_clone, takes_from, lister_of_tablet, floor_of_table, hidden_at, is_hidden_as, is_this, naming_restoration, naming_clone, lister_of_snapshot, floor_of, prune_to, has_records, raised_mark}
use Rattle.law_store.proofs.Keys.{either_way}
use Rattle.law_invariants.specs.Operations.{OperationsGood, SnapshotsRise}
use Rattle.law_invariants.proofs.Finding.{in_filter, filter_in, passes_both, either_passes, same_self, not_same, both_pass, second_fails, none_or_some, same_equal}
use Rattle.law_invariants.proofs.Ticking.{not_true}
use Rattle.model.specs.Stands.{awaited_in}
use Rattle.law_invariants.specs.Invariant.{Inv, is_marked}
use Rattle.law_invariants.proofs.Lasting.{last_in}
use Rattle.law_invariants.proofs.Remembering.{ended_later}
use Rattle.law_invariants.proofs.Awaiting.{awaits_is}
use Rattle.model.specs.Schedules.{history_retention}

pub not_false : (b : Bool) → not b ≡ false → b ≡ true
not_false true e = refl
not_false false e = absurd (true≢false e)

-- a member that passes is found
pub any_in : {A : Type 0} (test : A → Bool) (xs : List A) (a : A) → In a xs → test a ≡ true → list_any test xs ≡ true
any_in test [] a isin e = absurd isin
any_in test (x ∷ xs) a (inl is) e = let k : test x ≡ true = ap test is ∙ e in rw k refl
any_in test (x ∷ xs) a (inr isin) e = let rest = any_in test xs a isin e in either_way (test x) (λ k. rw k refl) (λ k. rw k rest)

pub none_of : {A : Type 0} (a b : Option A) → is_some (option_or a b) ≡ false → (is_some a ≡ false) × (is_some b ≡ false)
none_of None b e = (refl, e)
none_of (Some x) b e = absurd (true≢false e)

pub some_first : {A : Type 0} (b : Bool) (x : A) (rest : Option A) → b ≡ true → is_some (cond b (Some x) rest) ≡ false → ⊥
some_first true x rest e h = true≢false h
some_first false x rest e h = true≢false (sym e)

pub none_rest : {A : Type 0} (b : Bool) (x : A) (rest : Option A) → is_some (cond b (Some x) rest) ≡ false → is_some rest ≡ false
none_rest true x rest h = absurd (true≢false h)
none_rest false x rest h = h

pub listed_passes : (tablet : Id) (ls : List Listed) (l : Listed) → In l ls → l.tablet ≡ tablet → lists_tablet tablet ls ≡ true
listed_passes tablet ls l isin is = any_in (λ k. same k.tablet tablet) ls l isin (ap (λ t. same t tablet) is ∙ same_self tablet)

pub snapshot_free : (rs : List SnapshotRecord) (tablet : Id) → is_some (listing_snapshot rs tablet) ≡ false → (r : SnapshotRecord) (l : Listed) → In r rs → r.complete ≡ false → In l r.listed → l.tablet ≡ tablet → ⊥
snapshot_free [] tablet h r l isin unfinished listed is = isin
snapshot_free (q ∷ rs) tablet h r l (inl e) unfinished listed is =
    let test : (not q.complete && lists_tablet tablet q.listed) ≡ true = ap (λ k. not k.complete && lists_tablet tablet k.listed) e ∙ passes_both (not r.complete) (lists_tablet tablet r.listed) (ap not unfinished) (listed_passes tablet r.listed l listed is) in
    some_first _ q.id (listing_snapshot rs tablet) test h
snapshot_free (q ∷ rs) tablet h r l (inr isin) unfinished listed is = snapshot_free rs tablet (none_rest (not q.complete && lists_tablet tablet q.listed) q.id (listing_snapshot rs tablet) h) r l isin unfinished listed is

pub restoration_free : (rs : List RestorationRecord) (tablet : Id) → is_some (listing_restoration rs tablet) ≡ false → (r : RestorationRecord) (l : Listed) → In r rs → is_restored r.state ≡ false → In l r.listed → l.tablet ≡ tablet → ⊥
restoration_free [] tablet h r l isin unfinished listed is = isin
restoration_free (q ∷ rs) tablet h r l (inl e) unfinished listed is =
    let test : (not (is_restored q.state) && lists_tablet tablet q.listed) ≡ true = ap (λ k. not (is_restored k.state) && lists_tablet tablet k.listed) e
    ∙ passes_both (not (is_restored r.state)) (lists_tablet tablet r.listed) (ap not unfinished) (listed_passes tablet r.listed l listed is) in
    some_first _ q.id (listing_restoration rs tablet) test h
restoration_free (q ∷ rs) tablet h r l (inr isin) unfinished listed is =
    restoration_free rs tablet (none_rest (not (is_restored q.state) && lists_tablet tablet q.listed) q.id (listing_restoration rs tablet) h) r l isin unfinished listed is

pub clone_free : (cs : List CloneRecord) (tablet : Id) → is_some (listing_clone cs tablet) ≡ false → (c : CloneRecord) → In c cs → is_cloned c.state ≡ false → (lists_tablet tablet c.listed || takes_from c tablet) ≡ true → ⊥
clone_free [] tablet h c isin unfinished takes = isin
clone_free (q ∷ cs) tablet h c (inl e) unfinished takes =
    let test : (not (is_cloned q.state) && (lists_tablet tablet q.listed || takes_from q tablet)) ≡ true = ap (λ k. not (is_cloned k.state) && (lists_tablet tablet k.listed || takes_from k tablet)) e
    ∙ passes_both (not (is_cloned c.state)) (lists_tablet tablet c.listed || takes_from c tablet) (ap not unfinished) takes in
    some_first _ q.id (listing_clone cs tablet) test h
clone_free (q ∷ cs) tablet h c (inr isin) unfinished takes =
    clone_free cs tablet (none_rest (not (is_cloned q.state) && (lists_tablet tablet q.listed || takes_from q tablet)) q.id (listing_clone cs tablet) h) c isin unfinished takes

pub first_of : (a b : Bool) → a ≡ true → (a || b) ≡ true
first_of true b e = refl
first_of false b e = absurd (true≢false (sym e))

-- what no unfinished record lists, and no unfinished clone takes from
pub record Unlisted (m : Master) (tablet : Id) : Type 0 where
  pub snapshot : (r : SnapshotRecord) (l : Listed) → In r m.snapshots → r.complete ≡ false → In l r.listed → l.tablet ≡ tablet → ⊥
  pub restoration : (r : RestorationRecord) (l : Listed) → In r m.restorations → is_restored r.state ≡ false → In l r.listed → l.tablet ≡ tablet → ⊥
  pub clone : (c : CloneRecord) (l : Listed) → In c m.clones → is_cloned c.state ≡ false → In l c.listed → l.tablet ≡ tablet → ⊥
  pub source : (c : CloneRecord) (p : TabletPair) → In c m.clones → is_cloned c.state ≡ false → In p c.tablets → p.source ≡ tablet → ⊥

pub unlisted : (m : Master) (tablet : Id) → is_some (lister_of_tablet m tablet) ≡ false → Unlisted m tablet
unlisted m tablet h =
    let outer = none_of (listing_snapshot m.snapshots tablet) (option_or (listing_restoration m.restorations tablet) (listing_clone m.clones tablet)) h in
    let inner = none_of (listing_restoration m.restorations tablet) (listing_clone m.clones tablet) outer.1 in
    record {
      snapshot = snapshot_free m.snapshots tablet outer.0;
      restoration = restoration_free m.restorations tablet inner.0;
      clone = λ c l isin unfinished listed is. clone_free m.clones tablet inner.1 c isin unfinished (first_of (lists_tablet tablet c.listed) (takes_from c tablet) (listed_passes tablet c.listed l listed is));
      source = λ c p isin unfinished paired is. clone_free m.clones tablet inner.1 c isin unfinished
          (either_passes (lists_tablet tablet c.listed) (takes_from c tablet) (any_in (λ q. same q.source tablet) c.tablets p paired (ap (λ t. same t tablet) is ∙ same_self tablet)));
    }

pub hidden_is : (p : Presence) → is_hidden p ≡ true → p ≡ HiddenPart (hidden_at p)
hidden_is (HiddenPart at) e = refl
hidden_is _ e = absurd (true≢false (sym e))

-- a tablet that no unfinished restoration lists awaits no rows
pub calm : (m : Master) (t : Tablet) (tablet : Id) → Unlisted m tablet → t.tablet ≡ tablet → awaited_in m.restorations t.tablet t.done ≡ None
calm m t tablet free is = none_or_some (awaited_in m.restorations t.tablet t.done)
    (λ none. none)
    (λ point some. absurd (let w = awaits_is m.restorations t.tablet t.done point some in free.restoration w.restoration w.line w.known (ap is_restored w.state_is) w.listed (w.tablet_is ∙ is)))

-- neither retention nor a record keeps what goes
pub nothing_keeps : (needed : Bool) (lister : Option Id) (why : Refusal) → cond needed (Some why) (option_map IsListed lister) ≡ None → (needed ≡ false) × (is_some lister ≡ false)
nothing_keeps true lister why e = absurd (let q = e in grind arith)
nothing_keeps false None why e = (refl, refl)
nothing_keeps false (Some by) why e = absurd (let q = e in grind arith)

pub named_passes : (target : Id) (named : Option Id) (id : Id) → named ≡ Some id → id ≡ target → is_this target named ≡ true
named_passes target named id e is = ap (is_this target) e ∙ ap (λ k. same k target) is ∙ same_self target

pub restoration_unnamed : (rs : List RestorationRecord) (target : Id) → is_some (naming_restoration rs target) ≡ false → (r : RestorationRecord) (id : Id) → In r rs → is_restored r.state ≡ false → named_by_restoration r.state ≡ Some id → id ≡ target → ⊥
restoration_unnamed [] target h r id isin unfinished named is = isin
restoration_unnamed (q ∷ rs) target h r id (inl e) unfinished named is =
    let test : (not (is_restored q.state) && is_this target (named_by_restoration q.state)) ≡ true = ap (λ k. not (is_restored k.state) && is_this target (named_by_restoration k.state)) e
    ∙ passes_both (not (is_restored r.state)) (is_this target (named_by_restoration r.state)) (ap not unfinished) (named_passes target (named_by_restoration r.state) id named is) in
    some_first _ q.id (naming_restoration rs target) test h
restoration_unnamed (q ∷ rs) target h r id (inr isin) unfinished named is =
    restoration_unnamed rs target (none_rest (not (is_restored q.state) && is_this target (named_by_restoration q.state)) q.id (naming_restoration rs target) h) r id isin unfinished named is

pub clone_unnamed : (cs : List CloneRecord) (target : Id) → is_some (naming_clone cs target) ≡ false → (c : CloneRecord) (id : Id) → In c cs → is_cloned c.state ≡ false → named_by_clone c.state ≡ Some id → id ≡ target → ⊥
clone_unnamed [] target h c id isin unfinished named is = isin
clone_unnamed (q ∷ cs) target h c id (inl e) unfinished named is =
    let test : (not (is_cloned q.state) && is_this target (named_by_clone q.state)) ≡ true = ap (λ k. not (is_cloned k.state) && is_this target (named_by_clone k.state)) e
    ∙ passes_both (not (is_cloned c.state)) (is_this target (named_by_clone c.state)) (ap not unfinished) (named_passes target (named_by_clone c.state) id named is) in
    some_first _ q.id (naming_clone cs target) test h
clone_unnamed (q ∷ cs) target h c id (inr isin) unfinished named is =
    clone_unnamed cs target (none_rest (not (is_cloned q.state) && is_this target (named_by_clone q.state)) q.id (naming_clone cs target) h) c id isin unfinished named is

-- a snapshot's identifier is that of one record alone
pub rise_alone : (rs : List SnapshotRecord) (q r : SnapshotRecord) → SnapshotsRise rs → In q rs → In r rs → q.id ≡ r.id → q ≡ r
rise_alone [] q r h inq inr_ e = absurd inq
rise_alone (s ∷ rs) q r h (inl a) (inl b) e = sym a ∙ b
rise_alone (s ∷ rs) q r h (inl a) (inr b) e = absurd (let l = (h.0 r b).0 in let k : s.id.number ≡ r.id.number = ap (λ x. x.id.number) a ∙ ap (λ i. i.number) e in omega arith)
rise_alone (s ∷ rs) q r h (inr a) (inl b) e = absurd (let l = (h.0 q a).0 in let k : s.id.number ≡ q.id.number = ap (λ x. x.id.number) b ∙ sym (ap (λ i. i.number) e) in omega arith)
rise_alone (s ∷ rs) q r h (inr a) (inr b) e = rise_alone rs q r h.1 a b e

pub found_snapshot : (rs : List SnapshotRecord) (target : Id) (r : SnapshotRecord) → snapshot_with rs target ≡ Some r → In r rs × (r.id ≡ target)
found_snapshot [] target r e = absurd (let q = e in grind arith)
found_snapshot (s ∷ rs) target r e = either_way (same s.id target)
    (λ b. let k : Some s ≡ Some r = rw b at e in let is : s ≡ r = cc in (inl is, subst (λ x. x.id ≡ target) is (same_equal s.id target b)))
    (λ b. let rest = found_snapshot rs target r (rw b at e) in (inr rest.0, rest.1))

-- what stands of a snapshot that is discarded
pub record IsDiscarded (m : Master) (n : ℕ) (target : Id) (r : SnapshotRecord) : Type 0 where
  pub before : m.clock < n
  pub listed : In r m.snapshots
  pub id_is : r.id ≡ target
  pub complete : r.complete ≡ true
  pub below : r.at < floor_of m r.namespace n
  pub alone : (q : SnapshotRecord) → In q m.snapshots → q.id ≡ target → q ≡ r
  pub restoration : (o : RestorationRecord) (id : Id) → In o m.restorations → is_restored o.state ≡ false → named_by_restoration o.state ≡ Some id → id ≡ target → ⊥
  pub clone : (c : CloneRecord) (id : Id) → In c m.clones → is_cloned c.state ≡ false → named_by_clone c.state ≡ Some id → id ≡ target → ⊥

pub is_complete : (complete : Bool) (id : Id) → is_some (cond complete None (Some id)) ≡ false → complete ≡ true
is_complete true id e = refl
is_complete false id e = absurd (true≢false e)

pub is_discarded : (m : Master) (n : ℕ) (changes : List Change) (target : Id) (r : SnapshotRecord) → m.clock < n → OperationsGood m changes → snapshot_with m.snapshots target ≡ Some r → r.at < floor_of m r.namespace n
    → is_some (lister_of_snapshot m r) ≡ false → IsDiscarded m n target r
is_discarded m n changes target r before ops found below lister =
    let f = found_snapshot m.snapshots target r found in
    let outer = none_of (cond r.complete None (Some r.id)) (option_or (naming_restoration m.restorations r.id) (naming_clone m.clones r.id)) lister in
    let inner = none_of (naming_restoration m.restorations r.id) (naming_clone m.clones r.id) outer.1 in
    record {
      before = before;
      listed = f.0;
      id_is = f.1;
      complete = is_complete r.complete r.id outer.0;
      below = below;
      alone = λ q isin e. rise_alone m.snapshots q r ops.apart.snapshots_rise isin f.0 (e ∙ sym f.1);
      restoration = λ o id isin unfinished named is. restoration_unnamed m.restorations r.id inner.0 o id isin unfinished named (is ∙ sym f.1);
      clone = λ c id isin unfinished named is. clone_unnamed m.clones r.id inner.1 c id isin unfinished named (is ∙ sym f.1);
    }

abbrev pub without : Id → List SnapshotRecord → List SnapshotRecord
without target rs = filter (λ r. not (same r.id target)) rs

abbrev pub discarding : Master → ℕ → Id → Master
discarding m n target = record m { clock = n; snapshots = without target m.snapshots }

pub kept_record : (target : Id) (rs : List SnapshotRecord) (q : SnapshotRecord) → In q rs → (q.id ≡ target → ⊥) → In q (without target rs)
kept_record target rs q isin apart = in_filter rs (λ r. not (same r.id target)) q isin (ap not (not_same q.id target apart))

pub was_record : (target : Id) (rs : List SnapshotRecord) (q : SnapshotRecord) → In q (without target rs) → In q rs × (q.id ≡ target → ⊥)
was_record target rs q isin =
    let f = filter_in rs (λ r. not (same r.id target)) q isin in
    (f.0, λ e. true≢false (sym (ap (λ t. same t target) e ∙ same_self target) ∙ not_true (same q.id target) f.1))

pub raised_rises : (ks : List KeptFrom) (m : Master) (n : ℕ) (ns : Id) → kept_from ks ns ≤ kept_from (map (raised_mark m n) ks) ns
raised_rises [] m n ns = le_refl 0
raised_rises (k ∷ ks) m n ns = either_way (same k.namespace ns)
    (λ e. rw e (cond_both (has_records m.catalog k.namespace) (max k.from (prune_to m k.namespace n)) k.from (λ x. k.from ≤ x) (λ b. omega arith) (λ b. le_refl k.from)))
    (λ e. rw e (raised_rises ks m n ns))

pub raised_within : (ks : List KeptFrom) (m : Master) (n : ℕ) (ns : Id) (bound : ℕ) → kept_from ks ns ≤ bound → prune_to m ns n ≤ bound → kept_from (map (raised_mark m n) ks) ns ≤ bound
raised_within [] m n ns bound old up = old
raised_within (k ∷ ks) m n ns bound old up = either_way (same k.namespace ns)
    (λ e. let here : k.from ≤ bound = rw e at old in
    let most : prune_to m k.namespace n ≤ bound = subst (λ i. prune_to m i n ≤ bound) (sym (same_equal k.namespace ns e)) up in
    rw e (cond_both (has_records m.catalog k.namespace) (max k.from (prune_to m k.namespace n)) k.from (λ x. x ≤ bound) (λ b. omega (arith, here, most)) (λ b. here)))
    (λ e. rw e (raised_within ks m n ns bound (rw e at old) up))

-- the mark of what has records rises as far as they are taken
pub raised_to : (ks : List KeptFrom) (m : Master) (n : ℕ) (ns : Id) → is_marked ks ns ≡ true → has_records m.catalog ns ≡ true → prune_to m ns n ≤ kept_from (map (raised_mark m n) ks) ns
raised_to [] m n ns marked has_ = absurd (true≢false (sym marked))
raised_to (k ∷ ks) m n ns marked has_ = either_way (same k.namespace ns)
    (λ e. let is = same_equal k.namespace ns e in
    let there : has_records m.catalog k.namespace ≡ true = ap (has_records m.catalog) is ∙ has_ in
    let top : prune_to m ns n ≤ max k.from (prune_to m k.namespace n) = subst (λ i. prune_to m i n ≤ max k.from (prune_to m k.namespace n)) is (omega arith) in
    rw e (subst (λ b. prune_to m ns n ≤ cond b (max k.from (prune_to m k.namespace n)) k.from) (sym there) top))
    (λ e. rw e (raised_to ks m n ns (let q : (same k.namespace ns || is_marked ks ns) ≡ true = marked in let r : is_marked ks ns ≡ true = rw e at q in r) has_))

pub prune_floor : (m : Master) (n : ℕ) (ns : Id) → prune_to m ns n ≤ floor_of m ns n
prune_floor m n ns = least (floor_of m ns n) (n - history_retention)
  where
    least : (a b : ℕ) → min a b ≤ a
    least a b = omega arith

pub not_holding : (x mark from : ℕ) (to : Option ℕ) → mark ≤ x → ended_by mark to ≡ true → holds_at x from to ≡ true → ⊥
not_holding x mark from None le over holds_ = true≢false (sym over)
not_holding x mark from (Some e) le over holds_ =
    let b = both_pass (leb from x) (before_end x (Some e)) holds_ in
    let l : x < e = ltb-true x e b.1 in
    let o : e ≤ mark = leb-true e mark over in omega (arith, l, o, le)

pub has_table : (m : Master) (r : TableRecord) → In r m.catalog.tables → has_records m.catalog r.namespace ≡ true
has_table m r isin = either_passes (list_any (λ q. same q.id r.namespace) m.catalog.namespaces) (list_any (λ q. same q.namespace r.namespace) m.catalog.tables)
    (any_in (λ q. same q.namespace r.namespace) m.catalog.tables r isin (same_self r.namespace))

-- a hidden tablet that nothing lists, and that retention doesn't need, had ended by the floor
pub removed_below : (ps : Parts) (activity : List Interval) (changes : List Made) (n : ℕ) (target : Id) (i : Interval) → Inv ps activity changes → last_of ps.master.activity target ≡ Some i → is_hidden_as target (ps.tablet i.slot) ≡ true
    → hidden_at (ps.tablet i.slot).presence ≤ floor_of_table ps.master i.table n → is_some (lister_of_tablet ps.master target) ≡ false
    → (j : Interval) → In j ps.master.activity → j.tablet ≡ target → ended_by (floor_of_table ps.master j.table n) j.to ≡ true
removed_below ps activity changes n target i inv last hidden late lister j isin e =
    let m = ps.master in
    let t = ps.tablet i.slot in
    let found = last_in m.activity target i last in
    let is : i.tablet ≡ target = same_equal i.tablet target found.1 in
    let h = inv.slots i.slot in
    let g = h.each i found.0 refl in
    let out = hidden_is t.presence (both_pass (is_hidden t.presence) (same t.tablet target) hidden).0 in
    let none = calm m t target (unlisted m target lister) (g.tablet_is ∙ is) in
    let there : j.slot ≡ i.slot = h.home g.present j isin (e ∙ sym is ∙ sym g.tablet_is) in
    let ends = (h.each j isin there).hidden (hidden_at t.presence) out (second_fails _ (is_some (awaited_in m.restorations t.tablet t.done)) (ap is_some none)) in
    let table_is : j.table ≡ i.table = sym (h.each j isin there).table_is ∙ g.table_is in
    ended_later j.to (hidden_at t.presence) (floor_of_table m j.table n) (subst (λ k. hidden_at t.presence ≤ floor_of_table m k n) (sym table_is) late) ends
