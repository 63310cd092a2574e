-- What a coordinator does next is asked: an unfinished record lists tablets in slots of the cluster.
use Rattle.std.proofs.Common.{ℕ, ◌≡◌, ◌≤◌, List, [], ◌∷◌, ◌++◌, Bool, true, false, Option, Some, None, inl, inr, refl, sym, ap, subst, ◌∙◌, arith, map, not}
use Rattle.std.specs.Option.{option_or, option_map}
use Rattle.std.specs.List.{filter}
use Rattle.std.proofs.lemmas.Bool.{cond_both}
use Rattle.model.specs.Cluster.{Id, In, AllOf, Listed, Sent, RestorationRecord, RestorationState, Fencing, Restoring, Releasing, CloneRecord, CloneState, CloneSnapshot, Copying, CloneReleasing, is_restored, is_cloned, is_sent, first_unacked, Interval, Act, WorkItem, SendWork, CollectWork, AdvanceWork, Master, Parts}
use Rattle.model.specs.Tablets.{Command, Body, Fence, Freeze, RestoreFrom, Hide, Release}
use Rattle.model.specs.Journal.{Change as Made}
use Rattle.model.specs.Coordination.{source_slot}
use Rattle.model.specs.Moves.{Progress, snapshot_progress, restoration_progress, clone_progress}
use Rattle.model.specs.Work.{unfinished_records, work_at, work_for, first_work, next_work, collecting, act_of_work, next_act}
use Rattle.model.specs.Entries.{IsSlot}
use Rattle.law_store.proofs.Keys.{either_way}
use Rattle.law_invariants.specs.Operations.{IsKnown, RestorationStateGood, IsAfterSwitch, CloneStateGood, CloneGood}
use Rattle.law_invariants.specs.Invariant.{Inv}
use Rattle.law_invariants.proofs.Finding.{filter_in}
use Rattle.law.proofs.Following.{IsFit, all_append, all_made}

-- a listed tablet is in a slot of the cluster, and so is the one whose rows its command takes
abbrev LineGood : ℕ → Listed → Type 0
LineGood slots l = IsSlot slots l.slot × IsSlot slots (source_slot l.slot l.body)

record ProgressGood (slots : ℕ) (p : Progress) : Type 0 where
  lines : (l : Listed) → In l p.listed → LineGood slots l

-- Records

known_slot : (slots : ℕ) (ps : Parts) (activity : List Interval) (changes : List Made) (l : Listed) → ps.master.slots ≡ slots → Inv ps activity changes → IsKnown ps.master l → IsSlot slots l.slot
known_slot slots ps activity changes l count inv known =
    let i = known.interval in
    let good = (inv.slots i.slot).each i known.kept refl in
    subst (IsSlot slots) known.slot_is (good.slot_from, subst (λ k. i.slot ≤ k) count good.slot_to)

-- a command that is no copy takes its own tablet's rows
own_line : (slots : ℕ) (l : Listed) (body : Body) → l.body ≡ body → source_slot l.slot body ≡ l.slot → IsSlot slots l.slot → LineGood slots l
own_line slots l body is own good = (good, subst (IsSlot slots) (sym (ap (source_slot l.slot) is ∙ own)) good)

after_line : (body : Body) (r : RestorationRecord) (point slots : ℕ) (serving : Id) (l : Listed) → l.body ≡ body → IsAfterSwitch r.to point serving body → IsSlot slots l.slot → LineGood slots l
after_line (RestoreFrom snapshot to at version) r point slots serving l is after good = own_line slots l (RestoreFrom snapshot to at version) is refl good
after_line (Hide ended) r point slots serving l is after good = own_line slots l (Hide ended) is refl good
after_line _ r point slots serving l is after good = absurd after

nothing_in : {A : Type 0} (xs : List A) (a : A) → xs ≡ [] → In a xs → ⊥
nothing_in xs a none isin = subst (In a) none isin

restoring_line : (state : RestorationState) (m : Master) (changes : List Made) (r : RestorationRecord) (slots : ℕ) (l : Listed) → RestorationStateGood state m changes r → is_restored state ≡ false → In l r.listed → IsSlot slots l.slot → LineGood slots l
restoring_line Fencing m changes r slots l good still isin is = own_line slots l Fence (good.bodies l isin) refl is
restoring_line (Restoring point serving) m changes r slots l good still isin is = after_line l.body r point slots serving l refl (good.bodies l isin) is
restoring_line (Releasing point serving) m changes r slots l good still isin is = own_line slots l (Release point) (good.bodies l isin) refl is
restoring_line _ m changes r slots l good still isin is = absurd (nothing_in r.listed l good.empty isin)

-- a target is in a slot of the cluster, and so is its source
cloning_line : (state : CloneState) (slots : ℕ) (ps : Parts) (activity : List Interval) (changes : List Made) (r : CloneRecord) (l : Listed) → ps.master.slots ≡ slots → Inv ps activity changes → CloneGood ps.master changes r → is_cloned r.state ≡ false
    → CloneStateGood state ps.master r → In l r.listed → LineGood slots l
cloning_line (CloneSnapshot own) slots ps activity changes r l count inv good still h isin = absurd (nothing_in r.listed l h.empty isin)
cloning_line (Copying serving at) slots ps activity changes r l count inv good still h isin =
    let k = h.bodies l isin in
    let p = good.pairs k.pair k.paired in
    let s = good.sources still k.pair k.paired in
    let g = (inv.slots s.interval.slot).each s.interval s.kept refl in
    let target : IsSlot slots l.slot = subst (IsSlot slots) (sym k.slot_is) (p.slot_from, subst (λ c. k.pair.slot ≤ c) count p.slot_to) in
    let source : IsSlot slots k.pair.source_slot = subst (IsSlot slots) s.slot_is (g.slot_from, subst (λ c. s.interval.slot ≤ c) count g.slot_to) in
    (target, subst (λ body. IsSlot slots (source_slot l.slot body)) (sym k.body_is) source)
cloning_line (CloneReleasing serving at) slots ps activity changes r l count inv good still h isin =
    let k = h.active l isin in
    own_line slots l (Release h.since) (h.bodies l isin) refl (known_slot slots ps activity changes l count inv (record { interval = k.interval; kept = k.kept; tablet_is = k.tablet_is; slot_is = k.slot_is }))
cloning_line _ slots ps activity changes r l count inv good still h isin = absurd (nothing_in r.listed l h isin)

not_true : (b : Bool) → not b ≡ true → b ≡ false
not_true false e = refl
not_true true e = sym e

records_good : (slots : ℕ) (ps : Parts) (activity : List Interval) (changes : List Made) → ps.master.slots ≡ slots → Inv ps activity changes → AllOf (ProgressGood slots) (unfinished_records ps.master)
records_good slots ps activity changes count inv =
    let m = ps.master in
    let P = ProgressGood slots in
    let snapshots = filter (λ r. not r.complete) m.snapshots in
    let restorations = filter (λ r. not (is_restored r.state)) m.restorations in
    all_append P (map snapshot_progress snapshots ++ map (restoration_progress m) restorations) _
    (all_append P (map snapshot_progress snapshots) (map (restoration_progress m) restorations)
    (all_made P snapshot_progress snapshots (λ r isin.
    let there = filter_in m.snapshots (λ r. not r.complete) r isin in
    let good = inv.operations.snapshots r there.0 in
    record {
      lines = λ l listed. own_line slots l (Freeze r.id r.at) (good.bodies l listed) refl (known_slot slots ps activity changes l count inv (good.known (not_true r.complete there.1) l listed));
    }))
    (all_made P (restoration_progress m) restorations (λ r isin.
    let there = filter_in m.restorations (λ r. not (is_restored r.state)) r isin in
    let good = inv.operations.restorations r there.0 in
    let still = not_true (is_restored r.state) there.1 in
    record {
      lines = λ l listed. restoring_line r.state m changes r slots l good.in_state still listed (known_slot slots ps activity changes l count inv (good.known still l listed));
    })))
    (all_made P (clone_progress m) (filter (λ r. not (is_cloned r.state)) m.clones) (λ r isin.
    let there = filter_in m.clones (λ r. not (is_cloned r.state)) r isin in
    let good = inv.operations.clones r there.0 in
    let still = not_true (is_cloned r.state) there.1 in
    record { lines = λ l listed. cloning_line r.state slots ps activity changes r l count inv good still good.in_state listed }))

-- The next act

abbrev WorkGood : ℕ → Option WorkItem → Type 0
WorkGood slots None = Unit {0}
WorkGood slots (Some (SendWork operation slot)) = IsSlot slots slot
WorkGood slots (Some (CollectWork operation slot other)) = IsSlot slots slot × IsSlot slots other
WorkGood slots (Some (AdvanceWork operation)) = Unit {0}

unacked_in : (ls : List Listed) (l : Listed) → first_unacked ls ≡ Some l → In l ls
unacked_in [] l is = absurd (let e = is in grind arith)
unacked_in (k ∷ ls) l is = either_way k.acked
    (λ e. inr (unacked_in ls l (let later : first_unacked ls ≡ Some l = rw e at is in later)))
    (λ e. inl (let found = is in let open_ = e in grind arith))

line_work : (slots : ℕ) (l : Listed) (operation : Id) (sent : List Sent) → LineGood slots l → WorkGood slots (Some (work_at l operation sent))
line_work slots l operation sent good = cond_both (is_sent sent operation l.slot) (CollectWork operation l.slot (source_slot l.slot l.body)) (SendWork operation l.slot) (λ w. WorkGood slots (Some w)) (λ _. good) (λ _. good.0)

record_work : (found : Option Listed) (awaited : Option Id) (slots : ℕ) (p : Progress) (sent : List Sent) → first_unacked p.listed ≡ found → ProgressGood slots p → WorkGood slots (work_for found awaited p.id sent)
record_work (Some l) awaited slots p sent is good = line_work slots l p.id sent (good.lines l (unacked_in p.listed l is))
record_work None None slots p sent is good = tt
record_work None (Some on) slots p sent is good = tt

either_work : (slots : ℕ) (a b : Option WorkItem) → WorkGood slots a → WorkGood slots b → WorkGood slots (option_or a b)
either_work slots None b first next = next
either_work slots (Some w) b first next = first

first_good : (slots : ℕ) (ps : List Progress) (sent : List Sent) → AllOf (ProgressGood slots) ps → WorkGood slots (first_work ps sent)
first_good slots [] sent all = tt
first_good slots (p ∷ ps) sent all =
    either_work slots (work_for (first_unacked p.listed) p.awaited p.id sent) (first_work ps sent) (record_work (first_unacked p.listed) p.awaited slots p sent refl all.0) (first_good slots ps sent all.1)

collecting_fits : (inbox : List Command) (slots : ℕ) (operation : Id) (slot other : ℕ) → IsSlot slots slot → IsSlot slots other → IsFit slots (collecting inbox operation slot other)
collecting_fits [] slots operation slot other is from = record { asked = is }
collecting_fits (c ∷ cs) slots operation slot other is from = record { asked = (is, from) }

-- the act that comes next, where one comes
abbrev pub NextFits : ℕ → Option Act → Type 0
NextFits slots None = Unit {0}
NextFits slots (Some act) = IsFit slots act

work_fits : (found : Option WorkItem) (slots : ℕ) (ps : Parts) → next_work ps.master ≡ found → WorkGood slots found → NextFits slots (next_act ps)
work_fits None slots ps is good = subst (λ w. NextFits slots (option_map (λ w. act_of_work w ps) w)) (sym is) tt
work_fits (Some (SendWork operation slot)) slots ps is good = subst (λ w. NextFits slots (option_map (λ w. act_of_work w ps) w)) (sym is) (record { asked = good })
work_fits (Some (CollectWork operation slot other)) slots ps is good =
    subst (λ w. NextFits slots (option_map (λ w. act_of_work w ps) w)) (sym is) (collecting_fits (ps.tablet slot).inbox slots operation slot other good.0 good.1)
work_fits (Some (AdvanceWork operation)) slots ps is good = subst (λ w. NextFits slots (option_map (λ w. act_of_work w ps) w)) (sym is) (record { asked = tt })

pub next_fits : (slots : ℕ) (ps : Parts) (activity : List Interval) (changes : List Made) → ps.master.slots ≡ slots → Inv ps activity changes → NextFits slots (next_act ps)
next_fits slots ps activity changes count inv =
    work_fits (next_work ps.master) slots ps refl (first_good slots (unfinished_records ps.master) ps.master.sent (records_good slots ps activity changes count inv))
